-- Those that hold an entry, and what each call makes of them.
use Rattle.std.proofs.Common.{◌≡◌, ℕ, suc, ◌+◌, List, [], ◌∷◌, ◌++◌, Option, Some, None, Bool, true, false, cond, not, ◌||◌, ◌&&◌, ◌==◌, is_none, refl, sym, ap, subst, ◌∙◌, true≢false, add-one, option_map, map}
use Rattle.std.specs.Prelude.{nat_eq, option_and_then, if◌then◌else◌}
use Rattle.std.specs.List.{list_any, list_all}
use Rattle.std.specs.Ordering.{nat_cmp, eq_by_cmp}
use Rattle.std.specs.Cmp.{unsigned_ties}
use Rattle.std.specs.FinMap as table
use Rattle.std.specs.FinSet as set
use Rattle.std.proofs.lemmas.Bool.{eqb-true}
use Rattle.std.proofs.lemmas.Cmp.{nat_cmp_total, nat_eq_equiv}
use Rattle.std.proofs.lemmas.List.Folds.{list_any-append}
use Rattle.std.proofs.lemmas.Map.Views.{any-filter_same}
use Rattle.wave_base.specs.declared.numbers.Ticket.{Ticket}
use Rattle.wave_base.specs.declared.value.Value.{Value}
use Rattle.wave_states.specs.States as theory
use Rattle.wave_states.specs.States.{set as with_at}
use Rattle.wave_states.specs.Steps.{only_if, may_join, others, let_in, in_line, with_holders}
use Rattle.context_queue.specs.Lines.{is_nobody}
use Rattle.context_queue.specs.declared.entry.Entry.{Entry}
use Rattle.context_queue.specs.declared.waiting.Claim.{Claim}
use Rattle.context_queue.specs.inner.Admits.{is_either, admits}
use Rattle.context_queue.specs.Entries.{StandsFor, holds_alone, holds_beside, is_holder, holder_claims, entry_of, claim_of, next_in, with_next}

abbrev Tickets : Type 0
Tickets = set.FinSet nat_cmp

-- a set without members has none, and one with a member has some
nobody : (s : Tickets) → ((t : ℕ) → set.contains s t ≡ false) → is_nobody s ≡ true
nobody s h =
    let e : s ≡ set.empty = set.same_set nat_cmp_total set.nat_cmp-IsAntisymmetric s set.empty (λ t. h t ∙ sym (set.contains-empty nat_cmp t)) in
    ap is_nobody e ∙ ap (λ n. nat_eq n 0) (set.len-empty nat_cmp)

somebody : (s : Tickets) (t : ℕ) → set.contains s t ≡ true → is_nobody s ≡ false
somebody s t h = by_test (is_nobody s) refl
  where
    by_test : (b : Bool) → is_nobody s ≡ b → is_nobody s ≡ false
    by_test false e = e
    by_test true e =
        let none : s ≡ set.empty = set.empty_of_len s (eqb-true (set.len s) 0 e) in
        absurd (true≢false (sym h ∙ ap (λ r. set.contains r t) none ∙ set.contains-empty nat_cmp t))

-- a set without members still has none once a ticket left
pub nobody_left : (s : Tickets) (t : ℕ) → is_nobody s ≡ true → is_nobody (set.remove s t) ≡ true
nobody_left s t e =
    let none : s ≡ set.empty = set.empty_of_len s (eqb-true (set.len s) 0 e) in
    nobody (set.remove s t) (λ q. set.contains-remove nat_cmp_total s t q ∙ ap (λ b. not (eq_by_cmp nat_cmp q t) && b) (ap (λ r. set.contains r q) none ∙ set.contains-empty nat_cmp q) ∙ and-false (not (eq_by_cmp nat_cmp q t)))
  where
    and-false : (b : Bool) → (b && false) ≡ false
    and-false true = refl
    and-false false = refl

first_false : (a b : Bool) → (a || b) ≡ false → a ≡ false
first_false true b e = e
first_false false b e = refl

second_false : (a b : Bool) → (a || b) ≡ false → b ≡ false
second_false true b e = absurd (true≢false e)
second_false false b e = e

second_true : (a b : Bool) → (a && b) ≡ true → b ≡ true
second_true true b e = e
second_true false b e = absurd (true≢false (sym e))

or-false : (a : Bool) → (a || false) ≡ a
or-false true = refl
or-false false = refl

itself : (t : ℕ) → (t == t) ≡ true
itself = nat_eq_equiv.refl

-- where nobody holds alone all only look
peek_of : (c : theory.Claim) → (not c.peek && (c.ticket == c.ticket)) ≡ false → c.peek ≡ true
peek_of c e = by_peek c.peek (ap (λ b. not c.peek && b) (sym (itself c.ticket)) ∙ e)
  where
    by_peek : (p : Bool) → (not p && true) ≡ false → p ≡ true
    by_peek true h = refl
    by_peek false h = absurd (true≢false h)

all_look : (hs : List theory.Claim) → ((t : ℕ) → holds_alone hs t ≡ false) → list_all (λ c. c.peek) hs ≡ true
all_look [] h = refl
all_look (c ∷ hs) h =
    (λ i. peek_of c (first_false (not c.peek && (c.ticket == c.ticket)) (holds_alone hs c.ticket) (h c.ticket)) i && all_look hs (λ t. second_false (not c.peek && (c.ticket == t)) (holds_alone hs t) (h t)) i)

one_works : (hs : List theory.Claim) (t : ℕ) → holds_alone hs t ≡ true → list_all (λ c. c.peek) hs ≡ false
one_works [] t h = absurd (true≢false (sym h))
one_works (c ∷ hs) t h = by_peek c.peek (one_works hs t) h
  where
    by_peek : (p : Bool) → (holds_alone hs t ≡ true → list_all (λ d. d.peek) hs ≡ false) → ((not p && (c.ticket == t)) || holds_alone hs t) ≡ true → (p && list_all (λ d. d.peek) hs) ≡ false
    by_peek true rest e = rest e
    by_peek false rest e = refl

module _ (holder : Option Ticket) (peeks : Tickets) where
  pub record Holds (hs : List theory.Claim) : Type 0 where
    pub alone : (t : ℕ) → holds_alone hs t ≡ is_holder holder t
    pub beside : (t : ℕ) → holds_beside hs t ≡ set.contains peeks t

no_holder : (holder : Option Ticket) → ((t : ℕ) → is_holder holder t ≡ false) → is_none holder ≡ true
no_holder None h = refl
no_holder (Some t) h = absurd (true≢false (sym (itself t.0) ∙ h t.0))

a_holder : (holder : Option Ticket) (t : ℕ) → is_holder holder t ≡ true → is_none holder ≡ false
a_holder None t h = absurd (true≢false (sym h))
a_holder (Some u) t h = refl

looks : (holder : Option Ticket) (peeks : Tickets) (hs : List theory.Claim) → Holds holder peeks hs → is_none holder ≡ list_all (λ c. c.peek) hs
looks None peeks hs h = sym (all_look hs h.alone)
looks (Some t) peeks hs h = sym (one_works hs t.0 (h.alone t.0 ∙ itself t.0))

and-false : (b : Bool) → (b && false) ≡ false
and-false true = refl
and-false false = refl

and-true : (b : Bool) → (b && true) ≡ b
and-true true = refl
and-true false = refl

held_by_first : (holder : Option Ticket) (peeks : Tickets) (c : theory.Claim) (hs : List theory.Claim) → Holds holder peeks (c ∷ hs) → (is_none holder && is_nobody peeks) ≡ false
held_by_first holder peeks c hs h = by_peek c.peek refl
  where
    by_peek : (p : Bool) → c.peek ≡ p → (is_none holder && is_nobody peeks) ≡ false
    by_peek true e =
        let beside : set.contains peeks c.ticket ≡ true =
        sym (h.beside c.ticket) ∙ (λ i. (e i && itself c.ticket i) || holds_beside hs c.ticket) in
        ap (λ b. is_none holder && b) (somebody peeks c.ticket beside) ∙ and-false (is_none holder)
    by_peek false e =
        let alone : is_holder holder c.ticket ≡ true =
        sym (h.alone c.ticket) ∙ (λ i. (not (e i) && itself c.ticket i) || holds_alone hs c.ticket) in
        ap (λ b. b && is_nobody peeks) (a_holder holder c.ticket alone)

-- what is read off the entry is what the theory asks
pub admits_is : (holder : Option Ticket) (peeks : Tickets) (hs : List theory.Claim) (peek : Bool) → Holds holder peeks hs → may_join peek hs ≡ admits holder peeks peek
admits_is holder peeks hs true h = sym (looks holder peeks hs h) ∙ sym (and-true (is_none holder))
admits_is holder peeks [] false h =
    sym ((λ i. no_holder holder (λ t. sym (h.alone t)) i && nobody peeks (λ t. sym (h.beside t)) i))
admits_is holder peeks (c ∷ hs) false h = sym (held_by_first holder peeks c hs h)

pub holds : (e : Entry) (en : theory.Entry (List Value)) → StandsFor e en → Holds e.holder e.peeks.tickets en.holders
holds e en h = record { alone = h.alone; beside = h.beside }

-- the claim that a Grant lets in, by what waits under the next number
pub next_is : (e : Entry) (en : theory.Entry (List Value)) (o : Option Claim) → StandsFor e en → table.get e.waiting.claims (e.served + 1) ≡ o
    → next_in en ≡ option_and_then (λ c. only_if (admits e.holder e.peeks.tickets c.peek) (claim_of c)) o
next_is e en o h w =
    let waits : en.waiting (suc en.served) ≡ option_map claim_of o =
    h.waiting (suc en.served) ∙ ap (λ n. option_map claim_of (table.get e.waiting.claims n)) (ap suc h.served ∙ sym (add-one e.served)) ∙ ap (option_map claim_of) w in
    ap (option_and_then (λ c. only_if (may_join c.peek en.holders) c)) waits ∙ by_claim o
  where
    by_claim : (o : Option Claim) → option_and_then (λ c. only_if (may_join c.peek en.holders) c) (option_map claim_of o) ≡ option_and_then (λ c. only_if (admits e.holder e.peeks.tickets c.peek) (claim_of c)) o
    by_claim None = refl
    by_claim (Some c) = ap (λ b. only_if b (claim_of c)) (admits_is e.holder e.peeks.tickets en.holders c.peek (holds e en h))

turned : (k q : ℕ) → nat_eq k q ≡ eq_by_cmp nat_cmp q k
turned k q = nat_eq_equiv.symm k q ∙ unsigned_ties q k

at_cond : (b : Bool) (o : Option Claim) (x : Option Claim) → cond b (option_map claim_of o) (option_map claim_of x) ≡ option_map claim_of (cond b o x)
at_cond true o x = refl
at_cond false o x = refl

-- a claim joins the line, or leaves it
pub waits : (f : ℕ → Option theory.Claim) (claims : table.FinMap nat_cmp Claim) → ((n : ℕ) → f n ≡ option_map claim_of (table.get claims n)) → (number : ℕ) (c : Claim) (n : ℕ)
    → with_at nat_eq f number (Some (claim_of c)) n ≡ option_map claim_of (table.get (table.insert claims number c) n)
waits f claims h number c n =
    (λ i. cond (turned number n i) (Some (claim_of c)) (h n i)) ∙ at_cond (eq_by_cmp nat_cmp n number) (Some c) (table.get claims n) ∙ ap (option_map claim_of) (sym (table.get-insert nat_cmp_total claims number c n))

pub waits_no_more : (f : ℕ → Option theory.Claim) (claims : table.FinMap nat_cmp Claim) → ((n : ℕ) → f n ≡ option_map claim_of (table.get claims n)) → (number : ℕ) (n : ℕ)
    → with_at nat_eq f number None n ≡ option_map claim_of (table.get (table.remove claims number) n)
waits_no_more f claims h number n =
    (λ i. cond (turned number n i) None (h n i)) ∙ at_cond (eq_by_cmp nat_cmp n number) None (table.get claims n) ∙ ap (option_map claim_of) (sym (table.get-remove nat_cmp_total claims number n))

-- what a Grant makes of those that hold
pub joins_beside : (holder : Option Ticket) (peeks : Tickets) (hs : List theory.Claim) (t : ℕ) → Holds holder peeks hs → Holds holder (set.insert peeks t) (hs ++ record { ticket = t; peek = true } ∷ [])
joins_beside holder peeks hs t h = record {
  alone = λ q. list_any-append (λ c. not c.peek && (c.ticket == q)) hs (record { ticket = t; peek = true } ∷ []) ∙ or-false (holds_alone hs q) ∙ h.alone q;
  beside = λ q. list_any-append (λ c. c.peek && (c.ticket == q)) hs (record { ticket = t; peek = true } ∷ [])
      ∙ or_swap (holds_beside hs q) (t == q) ∙ (λ i. turned t q i || h.beside q i) ∙ sym (set.contains-insert nat_cmp_total peeks t q);
}
  where
    or_swap : (a b : Bool) → (a || (b || false)) ≡ (b || a)
    or_swap true true = refl
    or_swap true false = refl
    or_swap false true = refl
    or_swap false false = refl

pub joins_alone : (peeks : Tickets) (hs : List theory.Claim) (t : Ticket) → Holds None peeks hs → Holds (Some t) peeks (hs ++ record { ticket = t.0; peek = false } ∷ [])
joins_alone peeks hs t h = record {
  alone = λ q. list_any-append (λ c. not c.peek && (c.ticket == q)) hs (record { ticket = t.0; peek = false } ∷ []) ∙ (λ i. h.alone q i || or-false (t.0 == q) i);
  beside = λ q. list_any-append (λ c. c.peek && (c.ticket == q)) hs (record { ticket = t.0; peek = false } ∷ []) ∙ or-false (holds_beside hs q) ∙ h.beside q;
}

-- the holder once a ticket no longer holds
pub without : Option Ticket → ℕ → Option Ticket
without None t = None
without (Some h) t = if h.0 == t then None else Some h

kept : (holder : Option Ticket) (t q : ℕ) → (not (q == t) && is_holder holder q) ≡ is_holder (without holder t) q
unfolding without
kept None t q = and-false (not (q == t))
kept (Some h) t q = by_test (h.0 == t) refl (h.0 == q) refl
  where
    by_test : (b : Bool) → (h.0 == t) ≡ b → (d : Bool) → (h.0 == q) ≡ d → (not (q == t) && (h.0 == q)) ≡ is_holder (if b then None else Some h) q
    by_test true e true d =
        let there : (q == t) ≡ true = ap (λ n. n == t) (sym (eqb-true h.0 q d)) ∙ e in
        ap (λ b. not b && (h.0 == q)) there
    by_test true e false d = ap (λ b. not (q == t) && b) d ∙ and-false (not (q == t))
    by_test false e true d =
        let apart : (q == t) ≡ false = ap (λ n. n == t) (sym (eqb-true h.0 q d)) ∙ e in
        ap (λ b. not b && (h.0 == q)) apart
    by_test false e false d = ap (λ b. not (q == t) && b) d ∙ and-false (not (q == t)) ∙ sym d

pub let_go : (holder : Option Ticket) (peeks : Tickets) (hs : List theory.Claim) (t : ℕ) → Holds holder peeks hs → Holds (without holder t) (set.remove peeks t) (others t hs)
let_go holder peeks hs t h = record {
  alone = λ q. any-filter_same (λ c. not c.peek && (c.ticket == q)) (λ c. not (c.ticket == t)) (not (q == t)) (λ c e. ap (λ n. not (n == t)) (eqb-true c.ticket q (second_true (not c.peek) (c.ticket == q) e))) hs
      ∙ ap (λ b. not (q == t) && b) (h.alone q) ∙ kept holder t q;
  beside = λ q. any-filter_same (λ c. c.peek && (c.ticket == q)) (λ c. not (c.ticket == t)) (not (q == t)) (λ c e. ap (λ n. not (n == t)) (eqb-true c.ticket q (second_true c.peek (c.ticket == q) e))) hs
      ∙ (λ i. not (unsigned_ties q t i) && h.beside q i) ∙ sym (set.contains-remove nat_cmp_total peeks t q);
}

module _ (e f : Entry) (en : theory.Entry (List Value)) (h : StandsFor e en) where
  -- a claim joins the line
  pub queued : (number : ℕ) (c : Claim) → f.body ≡ e.body → f.holder ≡ e.holder → f.peeks ≡ e.peeks → f.served ≡ e.served → f.waiting.claims ≡ table.insert e.waiting.claims number c → f.moves ≡ e.moves
      → StandsFor f (in_line en number (claim_of c))
  queued number c body holder peeks served waiting moves = record {
    body = h.body ∙ ap (option_map _) (sym body);
    alone = λ t. h.alone t ∙ ap (λ o. is_holder o t) (sym holder);
    beside = λ t. h.beside t ∙ ap (λ p. set.contains p.tickets t) (sym peeks);
    served = h.served ∙ sym served;
    waiting = λ n. waits en.waiting e.waiting.claims h.waiting number c n ∙ ap (λ m. option_map claim_of (table.get m n)) (sym waiting);
    moves = h.moves ∙ sym moves;
  }

  -- those that hold it are others
  pub held : (holders : List theory.Claim) → f.body ≡ e.body → f.served ≡ e.served → f.waiting ≡ e.waiting → f.moves ≡ e.moves → Holds f.holder f.peeks.tickets holders → StandsFor f (with_holders en holders)
  held holders body served waiting moves k = record {
    body = h.body ∙ ap (option_map _) (sym body);
    alone = k.alone;
    beside = k.beside;
    served = h.served ∙ sym served;
    waiting = λ n. h.waiting n ∙ ap (λ w. option_map claim_of (table.get w.claims n)) (sym waiting);
    moves = h.moves ∙ sym moves;
  }

  -- a claim gets in
  pub got_in : (c : Claim) → f.body ≡ e.body → f.served ≡ e.served + 1 → f.waiting.claims ≡ table.remove e.waiting.claims f.served → f.moves ≡ e.moves
      → Holds f.holder f.peeks.tickets (en.holders ++ claim_of c ∷ []) → StandsFor f (let_in en (claim_of c))
  got_in c body served waiting moves k = record {
    body = h.body ∙ ap (option_map _) (sym body);
    alone = k.alone;
    beside = k.beside;
    served = ap suc h.served ∙ sym (add-one e.served) ∙ sym served;
    waiting = λ n. (λ i. with_at nat_eq en.waiting ((ap suc h.served ∙ sym (add-one e.served) ∙ sym served) i) None n) ∙ waits_no_more en.waiting e.waiting.claims h.waiting f.served n ∙ ap (λ m. option_map claim_of (table.get m n)) (sym waiting);
    moves = h.moves ∙ sym moves;
  }

  -- once it is known who is next
  pub next_got_in : (c : Claim) → next_in en ≡ Some (claim_of c) → StandsFor f (let_in en (claim_of c)) → StandsFor f (with_next en (next_in en))
  next_got_in c e k = subst (λ o. StandsFor f (with_next en o)) (sym e) k

-- an entry stands for itself
any_map : (f : ℕ → theory.Claim) (p : theory.Claim → Bool) (ts : List ℕ) → list_any p (map f ts) ≡ list_any (λ t. p (f t)) ts
any_map f p [] = refl
any_map f p (t ∷ ts) = ap (λ b. p (f t) || b) (any_map f p ts)

any_same : (p q : ℕ → Bool) → ((t : ℕ) → p t ≡ q t) → (ts : List ℕ) → list_any p ts ≡ list_any q ts
any_same p q h [] = refl
any_same p q h (t ∷ ts) = λ i. h t i || any_same p q h ts i

no_one : (ts : List ℕ) → list_any (λ t. false) ts ≡ false
no_one [] = refl
no_one (t ∷ ts) = no_one ts

as_peek : ℕ → theory.Claim
as_peek t = record { ticket = t; peek = true }

pub stands : (e : Entry) → StandsFor e (entry_of e)
unfolding as_peek
stands e = record {
  body = refl;
  alone = λ t. list_any-append (λ c. not c.peek && (c.ticket == t)) (holder_claims e.holder) (map as_peek (set.items e.peeks.tickets))
      ∙ (λ i. by_holder_alone e.holder t i || (any_map as_peek (λ c. not c.peek && (c.ticket == t)) (set.items e.peeks.tickets) ∙ no_one (set.items e.peeks.tickets)) i) ∙ or-false (is_holder e.holder t);
  beside = λ t. list_any-append (λ c. c.peek && (c.ticket == t)) (holder_claims e.holder) (map as_peek (set.items e.peeks.tickets))
      ∙ (λ i. by_holder_beside e.holder t i || (any_map as_peek (λ c. c.peek && (c.ticket == t)) (set.items e.peeks.tickets) ∙ any_same (λ u. u == t) (eq_by_cmp nat_cmp t) (λ u. turned u t) (set.items e.peeks.tickets)) i)
      ∙ sym (set.contains-items e.peeks.tickets t);
  served = refl;
  waiting = λ n. refl;
  moves = refl;
}
  where
    by_holder_alone : (holder : Option Ticket) (t : ℕ) → holds_alone (holder_claims holder) t ≡ is_holder holder t
    by_holder_alone None t = refl
    by_holder_alone (Some h) t = or-false (h.0 == t)

    by_holder_beside : (holder : Option Ticket) (t : ℕ) → holds_beside (holder_claims holder) t ≡ false
    by_holder_beside None t = refl
    by_holder_beside (Some h) t = refl

pub got_in_beside : (holder : Option Ticket) (peeks : Tickets) (hs : List theory.Claim) (c : Claim) → c.peek ≡ true → Holds holder peeks hs → (holder' : Option Ticket) (peeks' : Tickets) → holder' ≡ holder → peeks' ≡ set.insert peeks c.ticket.0
    → Holds holder' peeks' (hs ++ claim_of c ∷ [])
got_in_beside holder peeks hs c peek h holder' peeks' e p =
    let one : Holds holder (set.insert peeks c.ticket.0) (hs ++ record { ticket = c.ticket.0; peek = true } ∷ []) = joins_beside holder peeks hs c.ticket.0 h in
    let two : Holds holder (set.insert peeks c.ticket.0) (hs ++ claim_of c ∷ []) = subst (λ b. Holds holder (set.insert peeks c.ticket.0) (hs ++ record { ticket = c.ticket.0; peek = b } ∷ [])) (sym peek) one in
    subst (λ r. Holds holder' r (hs ++ claim_of c ∷ [])) (sym p) (subst (λ r. Holds r (set.insert peeks c.ticket.0) (hs ++ claim_of c ∷ [])) (sym e) two)

free_for : (holder : Option Ticket) (peeks : Tickets) (peek : Bool) → admits holder peeks peek ≡ true → holder ≡ None
free_for None peeks peek e = refl
free_for (Some h) peeks peek e = absurd (true≢false (sym e))

pub got_in_alone : (holder : Option Ticket) (peeks : Tickets) (hs : List theory.Claim) (c : Claim) → c.peek ≡ false → admits holder peeks c.peek ≡ true → Holds holder peeks hs
    → (holder' : Option Ticket) (peeks' : Tickets) → holder' ≡ Some c.ticket → peeks' ≡ peeks → Holds holder' peeks' (hs ++ claim_of c ∷ [])
got_in_alone holder peeks hs c peek free h holder' peeks' e p =
    let none : Holds None peeks hs = subst (λ r. Holds r peeks hs) (free_for holder peeks c.peek free) h in
    let two : Holds (Some c.ticket) peeks (hs ++ claim_of c ∷ []) =
    subst (λ b. Holds (Some c.ticket) peeks (hs ++ record { ticket = c.ticket.0; peek = b } ∷ [])) (sym peek) (joins_alone peeks hs c.ticket none) in
    subst (λ r. Holds holder' r (hs ++ claim_of c ∷ [])) (sym p) (subst (λ r. Holds r peeks (hs ++ claim_of c ∷ [])) (sym e) two)

pub without_holder : (holder : Option Ticket) (t : ℕ) → is_holder holder t ≡ true → None ≡ without holder t
unfolding without
without_holder None t e = refl
without_holder (Some h) t e = ap (λ b. if b then None else Some h) (sym e)

pub without_other : (holder : Option Ticket) (t : ℕ) → is_holder holder t ≡ false → holder ≡ without holder t
unfolding without
without_other None t e = refl
without_other (Some h) t e = ap (λ b. if b then None else Some h) (sym e)

pub either_left : (holder : Option Ticket) (peeks : Tickets) (t : ℕ) → is_either holder peeks ≡ true → is_either holder (set.remove peeks t) ≡ true
either_left None peeks t e = refl
either_left (Some h) peeks t e = nobody_left peeks t e

pub let_go_to : (holder : Option Ticket) (peeks : Tickets) (hs : List theory.Claim) (t : ℕ) → Holds holder peeks hs → (holder' : Option Ticket) (peeks' : Tickets) → holder' ≡ without holder t → peeks' ≡ set.remove peeks t
    → Holds holder' peeks' (others t hs)
let_go_to holder peeks hs t h holder' peeks' e p =
    subst (λ r. Holds holder' r (others t hs)) (sym p) (subst (λ r. Holds r (set.remove peeks t) (others t hs)) (sym e) (let_go holder peeks hs t h))

pub nobody_holds : (peeks : Tickets) → peeks ≡ set.empty → Holds None peeks []
nobody_holds peeks e = record { alone = λ t. refl; beside = λ t. sym (ap (λ s. set.contains s t) e ∙ set.contains-empty nat_cmp t) }

-- What each call on a cell makes of the desk that it stands for.
use Rattle.std.proofs.Common.{◌≡◌, ◌∙◌, ℕ, zero, suc, ◌+◌, ◌<◌, ◌≤◌, [], ◌∷◌, ◌++◌, List, map, Option, option_map, Bool, true, false, not, cond, length, take, get_or, None, Some, refl, sym, ap, subst, arith, true≢false, add-one, length-append}
use Rattle.std.specs.Prelude.{nat_eq}
use Rattle.std.specs.BTreeMap.{is_at, insert_entry}
use Rattle.std.specs.Cmp.{unsigned_ties}
use Rattle.std.specs.List.{filter}
use Rattle.std.specs.Map.{lookup}
use Rattle.std.specs.Ordering.{nat_cmp, is_eq, match_ordering}
use Rattle.std.specs.declared.cmp.Ordering.{Ordering}
use Rattle.std.specs.declared.cmp.Ordering.TheVariants.{Less, Equal, Greater}
use Rattle.std.proofs.lemmas.Cmp.{nat_eq_equiv}
use Rattle.std.proofs.lemmas.Map.Lookups.{exact_unsigned}
use Rattle.wave_base.specs.declared.path.Path.{Path}
use Rattle.wave_base.specs.declared.value.Value.{Value}
use Rattle.wave_base.specs.Paths.{path_cmp}
use Rattle.context_queue.proofs.Holding.{stands}
use Rattle.migration_core.specs.declared.mail.Letter.{Letter}
use Rattle.migration_core.specs.declared.mail.Letter.TheVariants as letter
use Rattle.migration_core.specs.Letters.{Says}
use Rattle.wave_states.specs.States as theory
use Rattle.wave_states.specs.States.{set}
use Rattle.wave_states.specs.Desks.{Desk, send, release, give_up, kept_of, left_of}
use Rattle.event_cells.specs.declared.held.Hold.{Hold}
use Rattle.event_cells.specs.declared.outbox.Envelope.{Envelope}
use Rattle.event_cells.specs.Keeps.{mail_in, hold_in}
use Rattle.event_cells.specs.Cells.{Carries, hold_of, held_of, mail_of, letter_of}
use Rattle.event_cells.specs.inner.Releases.{release_of, releases, sent_on}

-- ---- mails

by_ordering : {P : Type 0} (r : Ordering) → (r ≡ Less → P) → (r ≡ Equal → P) → (r ≡ Greater → P) → P
by_ordering Less a b c = a refl
by_ordering Equal a b c = b refl
by_ordering Greater a b c = c refl

twice : {X : Type 0} (b : Bool) (x y z : X) → cond b x z ≡ cond b x (cond b y z)
twice true x y z = refl
twice false x y z = refl

swapped : {X : Type 0} (a b : Bool) (x y z : X) → (b ≡ true → a ≡ false) → cond a y (cond b x z) ≡ cond b x (cond a y z)
swapped true true x y z h = absurd (true≢false (h refl))
swapped true false x y z h = refl
swapped false true x y z h = refl
swapped false false x y z h = refl

is_equal : (r : Ordering) → is_eq r ≡ true → r ≡ Equal
is_equal Less e = cc
is_equal Equal e = refl
is_equal Greater e = cc

module _ {X : Type 0} (k : ℕ) (v : X) (q : ℕ) where
  -- what is found after a put
  pub found_put : (es : List (ℕ × X)) → lookup (is_at (nat_cmp q)) (insert_entry nat_cmp es k v) ≡ cond (is_eq (nat_cmp q k)) (Some v) (lookup (is_at (nat_cmp q)) es)
  found_put [] = refl
  found_put (e ∷ es) =
      let P : Ordering → Type 0 = λ r. lookup (is_at (nat_cmp q)) (match_ordering r ((k, v) ∷ e ∷ es) ((e.0, v) ∷ es) (e ∷ insert_entry nat_cmp es k v)) ≡ cond (is_eq (nat_cmp q k)) (Some v) (lookup (is_at (nat_cmp q)) (e ∷ es)) in
      by_ordering (nat_cmp k e.0)
      (λ h. subst P (sym h) refl)
      (λ h. subst P (sym h) (twice (is_eq (nat_cmp q e.0)) (Some v) (Some e.1) (lookup (is_at (nat_cmp q)) es) ∙ ap (λ n. cond (is_eq (nat_cmp q n)) (Some v) (lookup (is_at (nat_cmp q)) (e ∷ es))) (sym (exact_unsigned k e.0 h))))
      (λ h. subst P (sym h) (ap (cond (is_eq (nat_cmp q e.0)) (Some e.1)) (found_put es) ∙ swapped (is_eq (nat_cmp q e.0)) (is_eq (nat_cmp q k)) (Some v) (Some e.1) (lookup (is_at (nat_cmp q)) es)
      (λ y. ap is_eq (ap (λ n. nat_cmp n e.0) (exact_unsigned q k (is_equal (nat_cmp q k) y)) ∙ h))))

at_number : (k q : ℕ) → nat_eq k q ≡ is_eq (nat_cmp q k)
at_number k q = nat_eq_equiv.symm k q ∙ unsigned_ties q k

-- each mail that is kept stands for the one that the theory has under its number
abbrev pub AllCarried : List (ℕ × Envelope) → (ℕ → Option (theory.Mail (List Value))) → Type 0
AllCarried es f = (k : ℕ) → Carries (mail_in es k) (f k)

pub carried_in : (es fs : List (ℕ × Envelope)) (f : ℕ → Option (theory.Mail (List Value))) → es ≡ fs → AllCarried es f → AllCarried fs f
carried_in es fs f e h k = subst (λ l. Carries (mail_in l k) (f k)) e (h k)

carries_either : (b : Bool) (e g : Option Envelope) (m n : Option (theory.Mail (List Value))) → Carries e m → Carries g n → Carries (cond b e g) (cond b m n)
carries_either true e g m n x y = x
carries_either false e g m n x y = y

pub carried_put : (es : List (ℕ × Envelope)) (f : ℕ → Option (theory.Mail (List Value))) (n : ℕ) (e : Envelope) (m : theory.Mail (List Value)) → AllCarried es f → Carries (Some e) (Some m) → AllCarried (insert_entry nat_cmp es n e) (set nat_eq f n (Some m))
carried_put es f n e m h c k =
    subst (λ o. Carries o (set nat_eq f n (Some m) k)) (sym (found_put n e k es))
    (subst (λ b. Carries (cond (is_eq (nat_cmp k n)) (Some e) (mail_in es k)) (cond b (Some m) (f k))) (sym (at_number n k)) (carries_either (is_eq (nat_cmp k n)) (Some e) (mail_in es k) (Some m) (f k) c (h k)))

pub carried_without : (es fs : List (ℕ × Envelope)) (f : ℕ → Option (theory.Mail (List Value))) (n : ℕ) → AllCarried es f → ((k : ℕ) → mail_in fs k ≡ cond (nat_eq n k) None (mail_in es k)) → AllCarried fs (set nat_eq f n None)
carried_without es fs f n h others k = subst (λ o. Carries o (set nat_eq f n None k)) (sym (others k)) (carries_either (nat_eq n k) None (mail_in es k) None (f k) tt (h k))

-- ---- what is held

pub held_put : (es : List (Path × Hold)) (p : Path) (h : Hold) → map held_of (insert_entry path_cmp es p h) ≡ insert_entry path_cmp (map held_of es) p (hold_of h)
held_put [] p h = refl
held_put (e ∷ es) p h = at_order (path_cmp p e.0) (held_put es p h)
  where
    at_order : (r : Ordering) → map held_of (insert_entry path_cmp es p h) ≡ insert_entry path_cmp (map held_of es) p (hold_of h)
        → map held_of (match_ordering r ((p, h) ∷ e ∷ es) ((e.0, h) ∷ es) (e ∷ insert_entry path_cmp es p h))
        ≡ match_ordering r ((p, hold_of h) ∷ held_of e ∷ map held_of es) ((e.0, hold_of h) ∷ map held_of es) (held_of e ∷ insert_entry path_cmp (map held_of es) p (hold_of h))
    at_order Less rest = refl
    at_order Equal rest = refl
    at_order Greater rest = ap (λ l. held_of e ∷ l) rest

pub held_found : (p : Path) (es : List (Path × Hold)) → lookup (is_at (path_cmp p)) (map held_of es) ≡ option_map hold_of (hold_in es p)
held_found p [] = refl
held_found p (e ∷ es) = at_key (is_eq (path_cmp p e.0)) (held_found p es)
  where
    at_key : (b : Bool) → lookup (is_at (path_cmp p)) (map held_of es) ≡ option_map hold_of (hold_in es p)
        → cond b (Some (hold_of e.1)) (lookup (is_at (path_cmp p)) (map held_of es)) ≡ option_map hold_of (cond b (Some e.1) (hold_in es p))
    at_key true rest = refl
    at_key false rest = rest

pub held_filter : (test : Path → Bool) (es : List (Path × Hold)) → filter (λ x. test x.0) (map held_of es) ≡ map held_of (filter (λ x. test x.0) es)
held_filter test [] = refl
held_filter test (e ∷ es) = at_key (test e.0) (held_filter test es)
  where
    at_key : (b : Bool) → filter (λ x. test x.0) (map held_of es) ≡ map held_of (filter (λ x. test x.0) es)
        → cond b (held_of e ∷ filter (λ x. test x.0) (map held_of es)) (filter (λ x. test x.0) (map held_of es)) ≡ map held_of (cond b (e ∷ filter (λ x. test x.0) es) (filter (λ x. test x.0) es))
    at_key true rest = ap (λ l. held_of e ∷ l) rest
    at_key false rest = rest

-- not more than before
pub length-filter_le : {X : Type 0} (test : X → Bool) (es : List X) → length (filter test es) ≤ length es
length-filter_le test [] = omega arith
length-filter_le {X = X} test (e ∷ es) = at_test (test e) (filter test es) (length-filter_le test es)
  where
    at_test : (b : Bool) (l : List X) → length l ≤ length es → length (cond b (e ∷ l) l) ≤ suc (length es)
    at_test true l h = omega arith
    at_test false l h = omega arith

-- ---- Releases

sent_push : (mails : List (ℕ × Envelope)) (n : ℕ) (es : List Envelope) (e : Envelope) → sent_on mails n (es ++ e ∷ []) ≡ insert_entry nat_cmp (sent_on mails n es) (suc (n + length es)) e
sent_push mails n [] e = ap (λ j. insert_entry nat_cmp mails (suc j) e) (omega arith)
sent_push mails n (x ∷ es) e =
    let count : suc (suc n + length es) ≡ suc (n + length (x ∷ es)) = omega arith in
    sent_push (insert_entry nat_cmp mails (suc n) x) (suc n) es e ∙ ap (λ j. insert_entry nat_cmp (sent_on mails n (x ∷ es)) j e) count

-- those of the first i, and of one more
releases_more : (keep : Path → Bool) (xs : List (Path × Hold)) (i : ℕ) (x : Path × Hold) → i < length xs → x ≡ get_or xs i x → releases keep (take (suc i) xs) ≡ releases keep (take i xs) ++ cond (keep x.0) [] (release_of x ∷ [])
releases_more keep [] i x l e = absurd (omega arith)
releases_more keep (y ∷ xs) zero x l e = subst (λ z. releases keep (y ∷ []) ≡ cond (keep z.0) [] (release_of z ∷ [])) (sym e) (at_test (keep y.0))
  where
    at_test : (b : Bool) → map release_of (cond (not b) (y ∷ []) []) ≡ cond b [] (release_of y ∷ [])
    at_test true = refl
    at_test false = refl
releases_more keep (y ∷ xs) (suc i) x l e = at_test (keep y.0) (releases_more keep xs i x (omega arith) e)
  where
    at_test : (b : Bool) → releases keep (take (suc i) xs) ≡ releases keep (take i xs) ++ cond (keep x.0) [] (release_of x ∷ [])
        → map release_of (cond (not b) (y ∷ filter (λ z. not (keep z.0)) (take (suc i) xs)) (filter (λ z. not (keep z.0)) (take (suc i) xs)))
        ≡ map release_of (cond (not b) (y ∷ filter (λ z. not (keep z.0)) (take i xs)) (filter (λ z. not (keep z.0)) (take i xs))) ++ cond (keep x.0) [] (release_of x ∷ [])
    at_test true rest = rest
    at_test false rest = ap (λ l. release_of y ∷ l) rest

-- what a loop over what is held has sent, after i of them
pub record Sends (keep : Path → Bool) (xs : List (Path × Hold)) (before : List (ℕ × Envelope)) (n i : ℕ) (after : List (ℕ × Envelope)) (n' : ℕ) : Type 0 where
  pub sent : n' ≡ n + length (releases keep (take i xs))
  pub mails : after ≡ sent_on before n (releases keep (take i xs))

pub sends_kept : (keep : Path → Bool) (xs : List (Path × Hold)) (mails : List (ℕ × Envelope)) (n i : ℕ) (mails' : List (ℕ × Envelope)) (n' : ℕ) (x : Path × Hold) → i < length xs → x ≡ get_or xs i x → keep x.0 ≡ true
    → Sends keep xs mails n i mails' n' → Sends keep xs mails n (i + 1) mails' n'
sends_kept keep xs mails n i mails' n' x l e k h =
    let same : releases keep (take (i + 1) xs) ≡ releases keep (take i xs) =
    ap (λ j. releases keep (take j xs)) (add-one i) ∙ releases_more keep xs i x l e ∙ ap (λ b. releases keep (take i xs) ++ cond b [] (release_of x ∷ [])) k ∙ append_nil (releases keep (take i xs)) in
    record { sent = h.sent ∙ ap (λ r. n + length r) (sym same); mails = h.mails ∙ ap (sent_on mails n) (sym same) }
  where
    append_nil : (es : List Envelope) → es ++ [] ≡ es
    append_nil [] = refl
    append_nil (y ∷ es) = ap (λ l. y ∷ l) (append_nil es)

pub sends_more : (keep : Path → Bool) (xs : List (Path × Hold)) (mails : List (ℕ × Envelope)) (n i : ℕ) (mails' : List (ℕ × Envelope)) (n' : ℕ) (mails'' : List (ℕ × Envelope)) (n'' : ℕ) (x : Path × Hold)
    → i < length xs → x ≡ get_or xs i x → keep x.0 ≡ false → n'' ≡ n' + 1 → mails'' ≡ insert_entry nat_cmp mails' (n' + 1) (release_of x)
    → Sends keep xs mails n i mails' n' → Sends keep xs mails n (i + 1) mails'' n''
sends_more keep xs mails n i mails' n' mails'' n'' x l e k s m h =
    let more : releases keep (take (i + 1) xs) ≡ releases keep (take i xs) ++ release_of x ∷ [] =
    ap (λ j. releases keep (take j xs)) (add-one i) ∙ releases_more keep xs i x l e ∙ ap (λ b. releases keep (take i xs) ++ cond b [] (release_of x ∷ [])) k in
    let number : n' + 1 ≡ suc (n + length (releases keep (take i xs))) = add-one n' ∙ ap suc h.sent in
    record {
      sent = s ∙ number ∙ one_longer n (releases keep (take i xs)) ∙ ap (λ r. n + length r) (sym more);
      mails = m ∙ (λ j. insert_entry nat_cmp (h.mails j) (number j) (release_of x)) ∙ sym (sent_push mails n (releases keep (take i xs)) (release_of x)) ∙ ap (sent_on mails n) (sym more);
    }
  where
    one_longer : (n : ℕ) (es : List Envelope) → suc (n + length es) ≡ n + length (es ++ release_of x ∷ [])
    one_longer n es = omega (arith, length-append es (release_of x ∷ []))

module _ {A : Type 0} where
  -- what an event has after it released these
  record Released (xs : List (Path × Hold)) (before : List (ℕ × Envelope)) (n : ℕ) (d y : Desk A (List Value)) : Type 0 where
    actor : y.event.actor ≡ d.event.actor
    held : y.event.held ≡ d.event.held
    sent : y.event.sent ≡ n + length xs
    status : y.event.status ≡ d.event.status
    mails : AllCarried (sent_on before n (map release_of xs)) y.mails

  released : (xs : List (Path × Hold)) (mails : List (ℕ × Envelope)) (n : ℕ) (d : Desk A (List Value)) → d.event.sent ≡ n → AllCarried mails d.mails → Released xs mails n d (release (map held_of xs) d)
  released [] mails n d s h = record { actor = refl; held = refl; sent = s ∙ sym (zero_more n); status = refl; mails = h }
    where
      zero_more : (n : ℕ) → n + 0 ≡ n
      zero_more n = omega arith
  released (x ∷ xs) mails n d s h =
      let m : theory.Mail (List Value) = record { host = x.1.host.0; path = x.0; letter = theory.Release } in
      let one : AllCarried (insert_entry nat_cmp mails (suc n) (release_of x)) (set nat_eq d.mails (suc d.event.sent) (Some m)) =
      subst (λ j. AllCarried (insert_entry nat_cmp mails (suc n) (release_of x)) (set nat_eq d.mails (suc j) (Some m))) (sym s) (carried_put mails d.mails (suc n) (release_of x) m h (record { host = refl; path = refl; letter = refl })) in
      let r = released xs (insert_entry nat_cmp mails (suc n) (release_of x)) (suc n) (send d m) (ap suc s) one in
      record { actor = r.actor; held = r.held; sent = r.sent ∙ longer n (length xs); status = r.status; mails = r.mails }
    where
      longer : (n k : ℕ) → suc n + k ≡ n + suc k
      longer n k = omega arith

  -- what an event has after it gave up what it doesn't keep
  pub record GaveUp (keep : Path → Bool) (holds : List (Path × Hold)) (before : List (ℕ × Envelope)) (n : ℕ) (d y : Desk A (List Value)) : Type 0 where
    pub actor : y.event.actor ≡ d.event.actor
    pub held : y.event.held ≡ map held_of (filter (λ x. keep x.0) holds)
    pub sent : y.event.sent ≡ n + length (releases keep holds)
    pub status : y.event.status ≡ d.event.status
    pub mails : AllCarried (sent_on before n (releases keep holds)) y.mails

  pub gave_up : (keep : Path → Bool) (holds : List (Path × Hold)) (mails : List (ℕ × Envelope)) (n : ℕ) (d : Desk A (List Value)) → d.event.held ≡ map held_of holds → d.event.sent ≡ n → AllCarried mails d.mails → GaveUp keep holds mails n d (give_up keep d)
  gave_up keep holds mails n d held s h =
      let left : List (Path × Hold) = filter (λ x. not (keep x.0)) holds in
      let d1 : Desk A (List Value) = record { event = record { actor = d.event.actor; held = kept_of keep d.event.held; sent = d.event.sent; status = d.event.status }; mails = d.mails } in
      let left_is : left_of keep d.event.held ≡ map held_of left = ap (left_of keep) held ∙ held_filter (λ p. not (keep p)) holds in
      let kept_is : kept_of keep d.event.held ≡ map held_of (filter (λ x. keep x.0) holds) = ap (kept_of keep) held ∙ held_filter keep holds in
      let r : Released left mails n d1 (give_up keep d) = subst (λ l. Released left mails n d1 (release l d1)) (sym left_is) (released left mails n d1 s h) in
      record { actor = r.actor; held = r.held ∙ kept_is; sent = r.sent ∙ ap (λ j. n + j) (sym (as_many left)); status = r.status; mails = r.mails }
    where
      as_many : (xs : List (Path × Hold)) → length (map release_of xs) ≡ length xs
      as_many [] = refl
      as_many (x ∷ xs) = ap suc (as_many xs)

-- ---- each cell stands for one

pub letter_stands : (l : Letter) → Says l (letter_of l)
letter_stands (letter.Enter number followed peek) = refl
letter_stands letter.Visit = refl
letter_stands letter.Back = refl
letter_stands letter.Release = refl
letter_stands (letter.Transfer e) = stands e

pub carried_as : (o : Option Envelope) → Carries o (option_map mail_of o)
carried_as None = tt
carried_as (Some e) = record { host = refl; path = refl; letter = letter_stands e.letter }

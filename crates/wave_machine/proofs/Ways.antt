-- The statuses and mails that ask for the same before and after a label: where its context stays or stays away, where it was nowhere, and where it
-- came or went.
use Rattle.std.proofs.Common.{◌≡◌, ◌≢◌, ◌∙◌, ◌⊎◌, inl, inr, ℕ, suc, ◌+◌, ◌==◌, ◌&&◌, Bool, true, false, cond, not, List, [], ◌∷◌, length, Option, Some, None, is_some, refl, sym, ap, arith, position, true≢false}
use Rattle.std.specs.Prelude.{if◌then◌else◌, nat_lt, option_map, slice_get}
use Rattle.std.specs.List.{prefix_len}
use Rattle.std.specs.FinMap as table
use Rattle.std.proofs.lemmas.Option.{slice_get_within}
use Rattle.wave_base.specs.declared.path.Path.{Path}
use Rattle.wave_base.specs.Paths.{path_eq}
use Rattle.context_queue.specs.declared.entry.Entry.{Entry}
use Rattle.context_queue.specs.Entries.{entry_of, next_in}
use Rattle.event_cells.specs.declared.cell.Cell.{Cell}
use Rattle.event_cells.specs.declared.outbox.Envelope.{Envelope}
use Rattle.event_cells.specs.declared.status.Status.{Status}
use Rattle.event_cells.specs.declared.status.Status.TheVariants as status
use Rattle.event_cells.specs.Keeps.{mail_in}
use Rattle.host_map.specs.Stores.{Stores, has, mark_of}
use Rattle.migration_core.specs.declared.mail.Letter.{Letter}
use Rattle.migration_core.specs.declared.mail.Letter.TheVariants as letter
use Rattle.code_actor.specs.CodeActors.{Fields}
use Rattle.wave_states.specs.Labels.{Label, Grant, path_of, ticket_of}
use Rattle.wave_states.specs.States as theory
use Rattle.wave_states.specs.States.{Claim}
use Rattle.wave_states.specs.Steps.{Born, Deliver, route_by}
use Rattle.wave_theory.proofs.Basics.{differ, not_same, number_cases, number_self, path_cases, path_self}
use Rattle.wave_effects.specs.declared.actor.Actor.{Actor}
use Rattle.wave_effects.specs.Machines.{Kept}
use Rattle.wave_effects.specs.Apart.{AnswersAs, Moves}
use Rattle.wave_machine.specs.inner.Asking.{enter_act, grant_labels, is_claim, is_next, is_next_in, label_at, mail_act, mail_labels, route_at, start_labels, status_labels}
use Rattle.wave_effects.specs.Keeping.{place_in}
use Rattle.wave_machine.specs.inner.Index.{is_enter, is_enter_letter}
use Rattle.wave_machine.specs.inner.Updating.{IsAlone, IsNowhere, has_at, next_at, next_of}
use Rattle.wave_machine.proofs.ListingKinds.{slice_none}

some_map : {X Y : Type 0} (f : X → Y) (o : Option X) → is_some (option_map f o) ≡ is_some o
some_map f None = refl
some_map f (Some x) = refl

-- the first place where a test passes is the same where the tests are the same at each place
module _ {X : Type 0} (p : X → Bool) where
  prefix_same : (xs ys : List X) → length ys ≡ length xs → ((i : ℕ) (x y : X) → slice_get xs i ≡ Some x → slice_get ys i ≡ Some y → p y ≡ p x) → prefix_len (λ x. not (p x)) ys ≡ prefix_len (λ x. not (p x)) xs
  prefix_same [] [] e h = refl
  prefix_same [] (y ∷ ys) e h = absurd (omega (arith, e))
  prefix_same (x ∷ xs) [] e h = absurd (omega (arith, e))
  prefix_same (x ∷ xs) (y ∷ ys) e h =
      let rest = prefix_same xs ys (omega (arith, e)) (λ i a b u v. h (suc i) a b u v) in
      λ j. cond (not (h 0 x y refl refl j)) (1 + rest j) 0

  pub position_same : (xs ys : List X) → length ys ≡ length xs → ((i : ℕ) (x y : X) → slice_get xs i ≡ Some x → slice_get ys i ≡ Some y → p y ≡ p x) → position p ys ≡ position p xs
  position_same xs ys e h = λ j. cond (nat_lt (prefix_same xs ys e h j) (e j)) (Some (prefix_same xs ys e h j)) None

-- what two stores say of a context
abbrev Answer : Option Stores → Option Stores → Path → Type 0
Answer None None q = Unit {0}
Answer (Some st) (Some st') q = AnswersAs st st' q
Answer None (Some st') q = ⊥
Answer (Some st) None q = ⊥

has_by : (q : Path) (o o' : Option Stores) → Answer o o' q → has_at q o' ≡ has_at q o
has_by q None None a = refl
has_by q (Some st) (Some st') a = sym (some_map entry_of (table.get st'.store q)) ∙ ap is_some a.entry ∙ some_map entry_of (table.get st.store q)
has_by q None (Some st') a = absurd a
has_by q (Some st) None a = absurd a

abbrev next_map : ℕ → Option (theory.Entry Fields) → Bool
next_map u None = false
next_map u (Some en) = is_claim u (next_in en)

is_next_map : (u : ℕ) (o : Option Entry) → is_next_in u o ≡ next_map u (option_map entry_of o)
is_next_map u None = refl
is_next_map u (Some e) = refl

next_by : (u : ℕ) (q : Path) (o o' : Option Stores) → Answer o o' q → is_next u q o' ≡ is_next u q o
next_by u q None None a = refl
next_by u q (Some st) (Some st') a = is_next_map u (table.get st'.store q) ∙ ap (next_map u) a.entry ∙ sym (is_next_map u (table.get st.store q))
next_by u q None (Some st') a = absurd a
next_by u q (Some st) None a = absurd a

route_with : (q : Path) (f : ℕ) (o o' : Option Stores) → Answer o o' q → route_at o' q f ≡ route_at o q f
route_with q f None None a = refl
route_with q f (Some st) (Some st') a = λ i. if is_some (a.entry i) then Deliver else route_by (option_map mark_of (a.mark i)) f
route_with q f None (Some st') a = absurd a
route_with q f (Some st) None a = absurd a

-- who is not next in a line has no Grant there
next_false : (u : ℕ) (q : Path) (o : Option Stores) → (next_at q o ≡ Some u → ⊥) → is_next u q o ≡ false
next_false u q None apart = refl
next_false u q (Some st) apart = by_entry (table.get st.store q) apart
  where
    by_claim : (c : Option Claim) → (option_map (λ (x : Claim). x.ticket) c ≡ Some u → ⊥) → is_claim u c ≡ false
    by_claim None h = refl
    by_claim (Some c) h = differ c.ticket u (λ e. h (ap Some e))

    by_entry : (e : Option Entry) → (next_of e ≡ Some u → ⊥) → is_next_in u e ≡ false
    by_entry None h = refl
    by_entry (Some e) h = by_claim (next_in (entry_of e)) h

-- nor has anybody where the context is away
next_away : (u : ℕ) (q : Path) (o : Option Stores) → has_at q o ≡ false → is_next u q o ≡ false
next_away u q None away = refl
next_away u q (Some st) away = by_entry (table.get st.store q) away
  where
    by_entry : (e : Option Entry) → is_some e ≡ false → is_next_in u e ≡ false
    by_entry None h = refl
    by_entry (Some e) h = absurd (true≢false h)

grants_none : (stores : List Stores) (u : ℕ) (q : Path) → ((h : ℕ) → is_next u q (slice_get stores h) ≡ false) → (o : Option ℕ) → grant_labels stores 0 u q o ≡ []
grants_none stores u q none None = refl
grants_none stores u q none (Some h) = ap (λ b. if b then record { worker = 0; host = h; act = Grant u q } ∷ [] else []) (none h)

-- how an Enter goes where the store has the context, and where it has not
route_has : (q : Path) (st : Stores) (f : ℕ) → has q st ≡ true → route_at (Some st) q f ≡ Deliver
route_has q st f e = ap (λ b. if b then Deliver else route_by (option_map mark_of (table.get st.gone q)) f) (some_map entry_of (table.get st.store q) ∙ e)

route_away : (q : Path) (st : Stores) (f : ℕ) → has q st ≡ false → route_at (Some st) q f ≡ route_by (option_map mark_of (table.get st.gone q)) f
route_away q st f e = ap (λ b. if b then Deliver else route_by (option_map mark_of (table.get st.gone q)) f) (some_map entry_of (table.get st.store q) ∙ e)

-- What a cell's mails ask for stays, but for the Enters to the label's context where that moved; and what its status asks for, where it is another
-- ticket that neither was nor is next in the line of that context.
pub record SameWays (m m' : Kept) (l : Label) (moved : Bool) : Type 0 where
  pub mails : (i u k : ℕ) (c : Cell Actor) → slice_get m.cells i ≡ Some c → (moved && is_enter l.host (path_of l.act) (mail_in c.outbox.mails k)) ≡ false → mail_labels m'.stores 0 u k (mail_in c.outbox.mails k) ≡ mail_labels m.stores 0 u k (mail_in c.outbox.mails k)
  pub status : (i u : ℕ) (c : Cell Actor) → slice_get m.cells i ≡ Some c → m.first + i ≢ ticket_of l.act → (next_at (path_of l.act) (slice_get m.stores l.host) ≡ Some u → ⊥) → (next_at (path_of l.act) (slice_get m'.stores l.host) ≡ Some u → ⊥)
      → status_labels m'.stores 0 u c.status ≡ status_labels m.stores 0 u c.status

module _ (m m' : Kept) (l : Label) (more : ℕ) (moves : Moves m m' l more) where
  abbrev p : Path
  p = path_of l.act

  pair : (P : Option Stores → Option Stores → Type 0) (h : ℕ) → P None None → ((st st' : Stores) → slice_get m.stores h ≡ Some st → slice_get m'.stores h ≡ Some st' → P (Some st) (Some st')) → P (slice_get m.stores h) (slice_get m'.stores h)
  pair P h none both = by_two (slice_get m.stores h) (slice_get m'.stores h) refl refl
    where
      many : length m'.stores ≡ length m.stores
      many = moves.others.as_many_stores

      by_two : (o o' : Option Stores) → slice_get m.stores h ≡ o → slice_get m'.stores h ≡ o' → P o o'
      by_two None None e e' = none
      by_two (Some st) (Some st') e e' = both st st' e e'
      by_two None (Some st') e e' =
          let out = slice_none m.stores h e in
          let within = slice_get_within m'.stores h st' e' in
          let same = many in
          absurd (omega (arith, out, within, same))
      by_two (Some st) None e e' =
          let out = slice_none m'.stores h e' in
          let within = slice_get_within m.stores h st e in
          let same = many in
          absurd (omega (arith, out, within, same))

  answers : (h : ℕ) (q : Path) → ((h ≡ l.host) × (q ≡ p) → ⊥) → Answer (slice_get m.stores h) (slice_get m'.stores h) q
  answers h q apart = pair (λ o o'. Answer o o' q) h tt (λ st st' e e'. moves.others.stores h q st st' apart e e')

  -- it is the label's own context at its host, or not
  own_or : (h : ℕ) (q : Path) → ((h ≡ l.host) × (q ≡ p)) ⊎ ((h ≡ l.host) × (q ≡ p) → ⊥)
  own_or h q = by_host (number_cases h l.host)
    where
      by_path : h ≡ l.host → (q ≡ p) ⊎ (path_eq q p ≡ false) → ((h ≡ l.host) × (q ≡ p)) ⊎ ((h ≡ l.host) × (q ≡ p) → ⊥)
      by_path e (inl f) = inl (e, f)
      by_path e (inr f) = inr (λ both. true≢false (sym (path_self q) ∙ ap (path_eq q) both.1 ∙ f))

      by_host : (h ≡ l.host) ⊎ ((h == l.host) ≡ false) → ((h ≡ l.host) × (q ≡ p)) ⊎ ((h ≡ l.host) × (q ≡ p) → ⊥)
      by_host (inl e) = by_path e (path_cases q p)
      by_host (inr d) = inr (λ both. not_same h l.host d both.0)

  pub has_elsewhere : (h : ℕ) (q : Path) → ((h ≡ l.host) × (q ≡ p) → ⊥) → has_at q (slice_get m'.stores h) ≡ has_at q (slice_get m.stores h)
  has_elsewhere h q apart = has_by q (slice_get m.stores h) (slice_get m'.stores h) (answers h q apart)

  -- a mail asks for the same where its Enter goes the same way
  act_same : (u k h : ℕ) (q : Path) (x : Letter) → ((f : ℕ) → route_at (slice_get m'.stores h) q f ≡ route_at (slice_get m.stores h) q f) → mail_act m'.stores u k h q x ≡ mail_act m.stores u k h q x
  act_same u k h q (letter.Enter number followed peek) same = ap (enter_act u k q) (same followed)
  act_same u k h q letter.Visit same = refl
  act_same u k h q letter.Back same = refl
  act_same u k h q letter.Release same = refl
  act_same u k h q (letter.Transfer e) same = refl

  module _ (u : ℕ) where
    next_same : (next_at p (slice_get m.stores l.host) ≡ Some u → ⊥) → (next_at p (slice_get m'.stores l.host) ≡ Some u → ⊥) → (h : ℕ) (q : Path) → is_next u q (slice_get m'.stores h) ≡ is_next u q (slice_get m.stores h)
    next_same before after h q = elim (own_or h q) [
      | inl own ↦
          (λ i. is_next u (own.1 i) (slice_get m'.stores (own.0 i)))
          ∙ next_false u p (slice_get m'.stores l.host) after
          ∙ sym (next_false u p (slice_get m.stores l.host) before)
          ∙ (λ i. is_next u (sym own.1 i) (slice_get m.stores (sym own.0 i)))
      | inr apart ↦ next_by u q (slice_get m.stores h) (slice_get m'.stores h) (answers h q apart)
    ]

    -- a status asks for the same where its context stays at its place
    grants_same : ((h : ℕ) (q : Path) → is_next u q (slice_get m'.stores h) ≡ is_next u q (slice_get m.stores h)) → (q : Path) → place_in m'.stores q ≡ place_in m.stores q → grant_labels m'.stores 0 u q (place_in m'.stores q) ≡ grant_labels m.stores 0 u q (place_in m.stores q)
    grants_same same q still = ap (grant_labels m'.stores 0 u q) still ∙ by_place (place_in m.stores q)
      where
        by_place : (o : Option ℕ) → grant_labels m'.stores 0 u q o ≡ grant_labels m.stores 0 u q o
        by_place None = refl
        by_place (Some h) = ap (λ b. if b then record { worker = 0; host = h; act = Grant u q } ∷ [] else []) (same h q)

    starts_same : (q : Path) → place_in m'.stores q ≡ place_in m.stores q → start_labels m'.stores 0 u q (place_in m'.stores q) ≡ start_labels m.stores 0 u q (place_in m.stores q)
    starts_same q still = ap (start_labels m'.stores 0 u q) still ∙ by_place (place_in m.stores q)
      where
        by_place : (o : Option ℕ) → start_labels m'.stores 0 u q o ≡ start_labels m.stores 0 u q o
        by_place None = refl
        by_place (Some h) = refl

  -- where the context stays, or stays away
  module _ (here : has_at p (slice_get m'.stores l.host) ≡ has_at p (slice_get m.stores l.host)) where
    has_same : (h : ℕ) (q : Path) → has_at q (slice_get m'.stores h) ≡ has_at q (slice_get m.stores h)
    has_same h q = elim (own_or h q) [
      | inl own ↦ (λ i. has_at (own.1 i) (slice_get m'.stores (own.0 i))) ∙ here ∙ (λ i. has_at (sym own.1 i) (slice_get m.stores (sym own.0 i)))
      | inr apart ↦ has_by q (slice_get m.stores h) (slice_get m'.stores h) (answers h q apart)
    ]

    place_still : (q : Path) → place_in m'.stores q ≡ place_in m.stores q
    place_still q = position_same (has q) m.stores m'.stores moves.others.as_many_stores (λ i x y e e'. ap (has_at q) (sym e') ∙ has_same i q ∙ ap (has_at q) e)

    route_own : (f : ℕ) → route_at (slice_get m'.stores l.host) p f ≡ route_at (slice_get m.stores l.host) p f
    route_own f = pair (λ o o'. has_at p o' ≡ has_at p o → route_at o' p f ≡ route_at o p f) l.host (λ e. refl) both here
      where
        both : (st st' : Stores) → slice_get m.stores l.host ≡ Some st → slice_get m'.stores l.host ≡ Some st' → has p st' ≡ has p st → route_at (Some st') p f ≡ route_at (Some st) p f
        both st st' e e' same = by_has (has p st) refl
          where
            by_has : (b : Bool) → has p st ≡ b → route_at (Some st') p f ≡ route_at (Some st) p f
            by_has true y = route_has p st' f (same ∙ y) ∙ sym (route_has p st f y)
            by_has false n = route_away p st' f (same ∙ n) ∙ ap (λ g. route_by (option_map mark_of g) f) (moves.mark st st' e e' n (same ∙ n)) ∙ sym (route_away p st f n)

    route_same : (h : ℕ) (q : Path) (f : ℕ) → route_at (slice_get m'.stores h) q f ≡ route_at (slice_get m.stores h) q f
    route_same h q f = elim (own_or h q) [
      | inl own ↦ (λ i. route_at (slice_get m'.stores (own.0 i)) (own.1 i) f) ∙ route_own f ∙ (λ i. route_at (slice_get m.stores (sym own.0 i)) (sym own.1 i) f)
      | inr apart ↦ route_with q f (slice_get m.stores h) (slice_get m'.stores h) (answers h q apart)
    ]

    pub ways_here : SameWays m m' l false
    ways_here = record { mails = λ i u k c there not. mail_same u k (mail_in c.outbox.mails k); status = λ i u c there other before after. status_same u (next_same u before after) c.status }
      where
        mail_same : (u k : ℕ) (o : Option Envelope) → mail_labels m'.stores 0 u k o ≡ mail_labels m.stores 0 u k o
        mail_same u k None = refl
        mail_same u k (Some e) = ap (label_at 0 e.to.0) (act_same u k e.to.0 e.path e.letter (route_same e.to.0 e.path))

        status_same : (u : ℕ) → ((h : ℕ) (q : Path) → is_next u q (slice_get m'.stores h) ≡ is_next u q (slice_get m.stores h)) → (st : Status) → status_labels m'.stores 0 u st ≡ status_labels m.stores 0 u st
        status_same u same status.Travelling = refl
        status_same u same (status.Running q) = refl
        status_same u same status.Ended = refl
        status_same u same (status.Waiting q) = grants_same u same q (place_still q)
        status_same u same (status.Ready q) = starts_same u q (place_still q)

  place_but : (q : Path) → path_eq q p ≡ false → place_in m'.stores q ≡ place_in m.stores q
  place_but q d = position_same (has q) m.stores m'.stores moves.others.as_many_stores (λ i x y e e'. ap (has_at q) (sym e') ∙ has_by q (slice_get m.stores i) (slice_get m'.stores i) (answers i q (not_own i)) ∙ ap (has_at q) e)
    where
      not_own : (h : ℕ) → (h ≡ l.host) × (q ≡ p) → ⊥
      not_own h both = true≢false (sym (path_self q) ∙ ap (path_eq q) both.1 ∙ d)

  -- where nobody has a Grant or a Start at the context, before as after
  module _ (u : ℕ) (none : (h : ℕ) → is_next u p (slice_get m.stores h) ≡ false) (same : (h : ℕ) (q : Path) → is_next u q (slice_get m'.stores h) ≡ is_next u q (slice_get m.stores h)) where
    no_grants : grant_labels m'.stores 0 u p (place_in m'.stores p) ≡ grant_labels m.stores 0 u p (place_in m.stores p)
    no_grants = grants_none m'.stores u p (λ h. same h p ∙ none h) (place_in m'.stores p) ∙ sym (grants_none m.stores u p none (place_in m.stores p))

    status_but : (st : Status) → (st ≡ status.Ready p → ⊥) → status_labels m'.stores 0 u st ≡ status_labels m.stores 0 u st
    status_but status.Travelling ready = refl
    status_but (status.Running q) ready = refl
    status_but status.Ended ready = refl
    status_but (status.Waiting q) ready = elim (path_cases q p) [
      | inl own ↦ (λ i. grant_labels m'.stores 0 u (own i) (place_in m'.stores (own i))) ∙ no_grants ∙ (λ i. grant_labels m.stores 0 u (sym own i) (place_in m.stores (sym own i)))
      | inr d ↦ grants_same u same q (place_but q d)
    ]
    status_but (status.Ready q) ready = elim (path_cases q p) [ inl own ↦ absurd (ready (ap status.Ready own)) | inr d ↦ starts_same u q (place_but q d) ]

  -- and where it was nowhere: each Enter to it is to be queued, before as after
  module _ (nowhere : IsNowhere m p) where
    queued : (u k f : ℕ) → f ≡ 0 → enter_act u k p (route_at (slice_get m'.stores l.host) p f) ≡ enter_act u k p (route_at (slice_get m.stores l.host) p f)
    queued u k f zero_is = pair (λ o o'. enter_act u k p (route_at o' p f) ≡ enter_act u k p (route_at o p f)) l.host refl both
      where
        both : (st st' : Stores) → slice_get m.stores l.host ≡ Some st → slice_get m'.stores l.host ≡ Some st' → enter_act u k p (route_at (Some st') p f) ≡ enter_act u k p (route_at (Some st) p f)
        both st st' e e' = by_has (has p st') refl
          where
            away : has p st ≡ false
            away = ap (has_at p) (sym e) ∙ nowhere.away l.host

            born : route_at (Some st) p f ≡ Born
            born = route_away p st f away ∙ ap (λ g. route_by (option_map mark_of g) f) (nowhere.unmarked l.host st e) ∙ ap (route_by None) zero_is

            by_has : (b : Bool) → has p st' ≡ b → enter_act u k p (route_at (Some st') p f) ≡ enter_act u k p (route_at (Some st) p f)
            by_has true y = ap (enter_act u k p) (route_has p st' f y) ∙ sym (ap (enter_act u k p) born)
            by_has false n = ap (enter_act u k p) (route_away p st' f n ∙ ap (λ g. route_by (option_map mark_of g) f) (moves.mark st st' e e' away n) ∙ sym (route_away p st f away))

    pub ways_born : SameWays m m' l false
    ways_born = record { mails = λ i u k c there not. mails_same i u k c there; status = λ i u c there other before after. status_but u (λ h. next_away u p (slice_get m.stores h) (nowhere.away h)) (next_same u before after) c.status (nowhere.none_ready i c there) }
      where
        enter_same : (u k f h : ℕ) (q : Path) → (q ≡ p → f ≡ 0) → enter_act u k q (route_at (slice_get m'.stores h) q f) ≡ enter_act u k q (route_at (slice_get m.stores h) q f)
        enter_same u k f h q zero_is = elim (own_or h q) [
          | inl own ↦
              (λ i. enter_act u k (own.1 i) (route_at (slice_get m'.stores (own.0 i)) (own.1 i) f))
              ∙ queued u k f (zero_is own.1)
              ∙ (λ i. enter_act u k (sym own.1 i) (route_at (slice_get m.stores (sym own.0 i)) (sym own.1 i) f))
          | inr apart ↦ ap (enter_act u k q) (route_with q f (slice_get m.stores h) (slice_get m'.stores h) (answers h q apart))
        ]

        letter_same : (u k h : ℕ) (q : Path) (x : Letter) → ((number followed : ℕ) (peek : Bool) → q ≡ p → x ≡ letter.Enter number followed peek → followed ≡ 0) → mail_act m'.stores u k h q x ≡ mail_act m.stores u k h q x
        letter_same u k h q (letter.Enter number followed peek) none = enter_same u k followed h q (λ own. none number followed peek own refl)
        letter_same u k h q letter.Visit none = refl
        letter_same u k h q letter.Back none = refl
        letter_same u k h q letter.Release none = refl
        letter_same u k h q (letter.Transfer e) none = refl

        mails_same : (i u k : ℕ) (c : Cell Actor) → slice_get m.cells i ≡ Some c → mail_labels m'.stores 0 u k (mail_in c.outbox.mails k) ≡ mail_labels m.stores 0 u k (mail_in c.outbox.mails k)
        mails_same i u k c there = by_mail (mail_in c.outbox.mails k) refl
          where
            by_mail : (o : Option Envelope) → mail_in c.outbox.mails k ≡ o → mail_labels m'.stores 0 u k o ≡ mail_labels m.stores 0 u k o
            by_mail None z = refl
            by_mail (Some e) z = ap (label_at 0 e.to.0) (letter_same u k e.to.0 e.path e.letter (λ number followed peek own is. nowhere.enters i k c e number followed peek there z own is))

  -- and where it came or went: each Enter but those to it goes the same way
  module _ (alone : IsAlone m l) where
    none_next : (u : ℕ) → (next_at p (slice_get m.stores l.host) ≡ Some u → ⊥) → (h : ℕ) → is_next u p (slice_get m.stores h) ≡ false
    none_next u before h = elim (number_cases h l.host) [
      | inl here ↦ ap (λ n. is_next u p (slice_get m.stores n)) here ∙ next_false u p (slice_get m.stores l.host) before
      | inr d ↦ next_away u p (slice_get m.stores h) (alone.elsewhere h (not_same h l.host d))
    ]

    pub ways_alone : SameWays m m' l true
    ways_alone = record {
      mails = λ i u k c there not. mail_same u k (mail_in c.outbox.mails k) not;
      status = λ i u c there other before after. status_but u (none_next u before) (next_same u before after) c.status (alone.none_ready i c other there);
    }
      where
        letter_same : (u k h : ℕ) (q : Path) (x : Letter) → ((h == l.host) && (path_eq q p && is_enter_letter x)) ≡ false → mail_act m'.stores u k h q x ≡ mail_act m.stores u k h q x
        letter_same u k h q (letter.Enter number followed peek) not = elim (own_or h q) [
          | inl own ↦ (let enters : ((h == l.host) && (path_eq q p && true)) ≡ true = λ i. number_is_here h own.0 i && (path_is_here q own.1 i && true) in absurd (true≢false (sym enters ∙ not)))
          | inr apart ↦ ap (enter_act u k q) (route_with q followed (slice_get m.stores h) (slice_get m'.stores h) (answers h q apart))
        ]
          where
            number_is_here : (h : ℕ) → h ≡ l.host → (h == l.host) ≡ true
            number_is_here h e = ap (λ n. h == n) (sym e) ∙ number_self h

            path_is_here : (q : Path) → q ≡ p → path_eq q p ≡ true
            path_is_here q e = ap (path_eq q) (sym e) ∙ path_self q
        letter_same u k h q letter.Visit not = refl
        letter_same u k h q letter.Back not = refl
        letter_same u k h q letter.Release not = refl
        letter_same u k h q (letter.Transfer e) not = refl

        mail_same : (u k : ℕ) (o : Option Envelope) → is_enter l.host p o ≡ false → mail_labels m'.stores 0 u k o ≡ mail_labels m.stores 0 u k o
        mail_same u k None not = refl
        mail_same u k (Some e) not = ap (label_at 0 e.to.0) (letter_same u k e.to.0 e.path e.letter not)

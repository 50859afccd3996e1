-- What a replay comes to is one thing.
use Rattle.std.proofs.Common.{◌≡◌, ◌∙◌, ◌⊎◌, inl, inr, ℕ, suc, ◌+◌, Bool, true, false, List, [], ◌∷◌, ◌++◌, length, map, take, Option, Some, None, is_some, refl, sym, ap, ap₂, subst, true≢false, arith}
use Rattle.std.specs.Prelude.{◌↔◌, IsTrue, All, min, option_and_then, Result, Ok, Err}
use Rattle.std.specs.List.{AllByRecursion, list_any}
use Rattle.std.proofs.lemmas.List.Elements.{recursion_from_All}
use Rattle.wave_base.specs.declared.finished.Place.{Place}
use Rattle.wave_base.specs.declared.path.Path.{Path}
use Rattle.wave_base.specs.Paths.{path_eq}
use Rattle.wave_base.specs.Starts.{first_start}
use Rattle.wave_labels.specs.declared.label.Label.{Label}
use Rattle.wave_labels.specs.Labels.{label_of}
use Rattle.wave_states.specs.Begins.{start_state}
use Rattle.wave_states.specs.Labels as theory
use Rattle.wave_states.specs.Owners.{IsOwner}
use Rattle.wave_states.specs.Canonical.{enabled_labels}
use Rattle.wave_states.specs.Runs.{Finished, run}
use Rattle.wave_states.specs.Steps.{step}
use Rattle.wave_theory.proofs.Basics.{none_not, options, path_is, some_same}
use Rattle.wave_theory.proofs.Paths.{or_is}
use Rattle.plan_actors.specs.Finishing.{path_of}
use Rattle.plan_actors.specs.PlanActors.{plan_actors}
use Rattle.plan_actors.specs.Plans.{Plan, begin_in}
use Rattle.plan_actors.proofs.Order.{sorted_same}
use Rattle.wave_effects.specs.declared.glance.Glance.{Glance}
use Rattle.wave_effects.specs.Glances.{IsGlance}
use Rattle.wave_effects.specs.Machines.{TheState}
use Rattle.journal_replay.specs.declared.error.ReplayError.{ReplayError}
use Rattle.journal_replay.specs.declared.error.ReplayError.TheVariants.{Refused, OutOfMemory}
use Rattle.journal_replay.specs.declared.replaying.Replayed.{Replayed}
use Rattle.journal_replay.specs.Replays.{IsOnlyOutcome, IsOutcome, IsRefusal, IsReplay, LeadsTo}
use Rattle.journal_replay.specs.inner.Walks.{StopsIn}

-- ---- a glance

module _ (s : TheState) (one : (p : Path) (h h' : ℕ) → IsOwner s p h → IsOwner s p h' → h ≡ h') where
  abbrev Owned : Place → Type 0
  Owned x = IsOwner s x.path x.host.0

  -- a path that is listed has an owner
  owner_of : (xs : List Place) (q : Path) → AllByRecursion Owned xs → list_any (path_eq q) (map path_of xs) ≡ true → (h : ℕ) × IsOwner s q h
  owner_of [] q h e = absurd (true≢false (sym e))
  owner_of (x ∷ xs) q h e = elim (or_is (path_eq q x.path) (list_any (path_eq q) (map path_of xs)) e) [
    | inl same ↦ (x.host.0, subst (λ p. IsOwner s p x.host.0) (sym (path_is q x.path same)) h.0)
    | inr rest ↦ owner_of xs q h.1 rest
  ]

  -- the same paths, each on the one host that owns it
  places_same : (xs ys : List Place) → map path_of xs ≡ map path_of ys → AllByRecursion Owned xs → AllByRecursion Owned ys → xs ≡ ys
  places_same [] [] e h k = refl
  places_same [] (y ∷ ys) e h k = cc
  places_same (x ∷ xs) [] e h k = cc
  places_same (x ∷ xs) (y ∷ ys) e h k =
      let path : x.path ≡ y.path = cc in
      let rest : map path_of xs ≡ map path_of ys = cc in
      let host : x.host.0 ≡ y.host.0 = one y.path x.host.0 y.host.0 (subst (λ p. IsOwner s p x.host.0) path h.0) k.0 in
      ap₂ (λ z zs. z ∷ zs) (λ i. record { path = path i; host = record { 0 = host i } }) (places_same xs ys rest h.1 k.1)

  pub glance_same : (g g' : Glance) → IsGlance s g → IsGlance s g' → g' ≡ g
  glance_same g g' h k =
      let owned = recursion_from_All Owned g.owners h.owned in
      let owned' = recursion_from_All Owned g'.owners k.owned in
      let paths : map path_of g'.owners ≡ map path_of g.owners = sorted_same (map path_of g'.owners) (map path_of g.owners) k.ordered h.ordered
      (λ q e. let o = owner_of g'.owners q owned' e in h.all_there q o.0 o.1) (λ q e. let o = owner_of g.owners q owned e in k.all_there q o.0 o.1) in
      let owners = places_same g'.owners g.owners paths owned' owned in
      λ i. record { admitted = (k.admitted ∙ sym h.admitted) i; committed = (k.committed ∙ sym h.committed) i; owners = owners i }

-- ---- where labels lead to

module _ (plan : Plan) where
  abbrev first : TheState
  first = start_state (begin_in plan (first_start plan.program.shape)) plan.script.batches

  pub leads_to_one : (ls : List Label) (s s' : TheState) → LeadsTo plan ls s → LeadsTo plan ls s' → s' ≡ s
  leads_to_one ls s s' e f = some_same s' s (sym f ∙ e)

  abbrev Runs : TheState → List Label → TheState → Type 0
  Runs u ls s = run (plan_actors plan.program) plan.workers u (map label_of ls) ≡ Some s

  -- the first label of a run leads somewhere
  record Begun (u : TheState) (l : Label) (ls : List Label) (s : TheState) : Type 0 where
    next : TheState
    leads : step (plan_actors plan.program) plan.workers u (label_of l) ≡ Some next
    rest : Runs next ls s

  begun : (u : TheState) (l : Label) (ls : List Label) (s : TheState) → Runs u (l ∷ ls) s → Begun u l ls s
  unfolding run
  begun u l ls s e = by_step (step (plan_actors plan.program) plan.workers u (label_of l)) refl e
    where
      by_step : (o : Option TheState) → step (plan_actors plan.program) plan.workers u (label_of l) ≡ o → option_and_then (λ v. run (plan_actors plan.program) plan.workers v (map label_of ls)) o ≡ Some s → Begun u l ls s
      by_step None at k = absurd (none_not k)
      by_step (Some v) at k = record { next = v; leads = at; rest = k }

  stays : (u s : TheState) → Runs u [] s → u ≡ s
  unfolding run
  stays u s e = some_same u s e

  abbrev IsNot : TheState → Label → Type 0
  IsNot s l = step (plan_actors plan.program) plan.workers s (label_of l) ≡ None

  -- two lists have one first label that can't be taken
  record Same (b b' : List Label) (l l' : Label) : Type 0 where
    pub before : b' ≡ b
    pub label : l' ≡ l

  same_stop : (u s s' : TheState) (b b' : List Label) (l l' : Label) (a a' : List Label) → b ++ l ∷ a ≡ b' ++ l' ∷ a' → Runs u b s → IsNot s l → Runs u b' s' → IsNot s' l' → Same b b' l l'
  same_stop u s s' [] [] l l' a a' e r n r' n' = record { before = refl; label = (let same : l' ≡ l = cc in same) }
  same_stop u s s' [] (y ∷ b') l l' a a' e r n r' n' =
      let same : y ≡ l = cc in
      let on = begun u y b' s' r' in
      absurd (none_not (sym (subst (λ z. IsNot z l) (sym (stays u s r)) n) ∙ ap (λ z. step (plan_actors plan.program) plan.workers u (label_of z)) (sym same) ∙ on.leads))
  same_stop u s s' (x ∷ b) [] l l' a a' e r n r' n' =
      let same : x ≡ l' = cc in
      let on = begun u x b s r in
      absurd (none_not (sym (subst (λ z. IsNot z l') (sym (stays u s' r')) n') ∙ ap (λ z. step (plan_actors plan.program) plan.workers u (label_of z)) (sym same) ∙ on.leads))
  same_stop u s s' (x ∷ b) (y ∷ b') l l' a a' e r n r' n' =
      let head : y ≡ x = cc in
      let tail : b ++ l ∷ a ≡ b' ++ l' ∷ a' = cc in
      let on = begun u x b s r in
      let on' = begun u y b' s' r' in
      let next : on'.next ≡ on.next = some_same on'.next on.next (sym on'.leads ∙ ap (λ z. step (plan_actors plan.program) plan.workers u (label_of z)) head ∙ on.leads) in
      let more = same_stop on.next s s' b b' l l' a a' tail on.rest n (subst (λ v. Runs v b' s') next on'.rest) n' in
      record { before = ap₂ (λ z zs. z ∷ zs) head more.before; label = more.label }

  -- and a whole run has none
  whole_has_none : (u s v : TheState) (b : List Label) (l : Label) (a : List Label) → Runs u b s → IsNot s l → Runs u (b ++ l ∷ a) v → ⊥
  whole_has_none u s v [] l a r n w = let on = begun u l a v w in none_not (sym (subst (λ z. IsNot z l) (sym (stays u s r)) n) ∙ on.leads)
  whole_has_none u s v (x ∷ b) l a r n w =
      let on = begun u x b s r in
      let on' = begun u x (b ++ l ∷ a) v w in
      whole_has_none on.next s v b l a on.rest n (subst (λ z. Runs z (b ++ l ∷ a) v) (some_same on'.next on.next (sym on'.leads ∙ on.leads)) on'.rest)

  -- ---- both ways

  bool_same : (a b : Bool) → (IsTrue a ↔ IsTrue b) → a ≡ b
  bool_same true true h = refl
  bool_same true false h = absurd (true≢false (sym (h.0 refl)))
  bool_same false true h = absurd (true≢false (sym (h.1 refl)))
  bool_same false false h = refl

  labels_same : ((a b : Label) → label_of a ≡ label_of b → a ≡ b) → (xs ys : List Label) → map label_of xs ≡ map label_of ys → xs ≡ ys
  labels_same tell [] [] e = refl
  labels_same tell [] (y ∷ ys) e = cc
  labels_same tell (x ∷ xs) [] e = cc
  labels_same tell (x ∷ xs) (y ∷ ys) e =
      let head : label_of x ≡ label_of y = cc in
      let tail : map label_of xs ≡ map label_of ys = cc in
      ap₂ (λ z zs. z ∷ zs) (tell x y head) (labels_same tell xs ys tail)

  module _ (journal : List Label) (show : ℕ) where
    not_both : (r : Replayed) → IsReplay plan journal show r → (i : ℕ) (l : Label) (ls : List Label) → IsRefusal plan journal i l ls → ⊥
    not_both r h i l ls k = whole_has_none first k.state h.last k.before l k.after k.run k.refused (subst (λ js. Runs first js h.last) k.parts h.run)

    pub replay_is_one : (r : Replayed) (h : IsReplay plan journal show r) → ((p : Path) (a b : ℕ) → IsOwner h.state p a → IsOwner h.state p b → a ≡ b) → (other : Result Replayed ReplayError) → IsOutcome plan journal show other → other ≡ Ok r
    replay_is_one r h one (Ok r') k =
        let shown : r'.shown ≡ r.shown = k.shown ∙ sym h.shown in
        let last = leads_to_one journal h.last k.last h.run k.run in
        let state = leads_to_one (take r.shown journal) h.state k.state h.seen (subst (λ n. LeadsTo plan (take n journal) k.state) shown k.seen) in
        let ends = subst (λ s. IsTrue r'.finished ↔ Finished (plan_actors plan.program) plan.workers s) last k.finished in
        let finished : r'.finished ≡ r.finished = bool_same r'.finished r.finished (λ e. h.finished.1 (ends.0 e), λ e. ends.1 (h.finished.0 e)) in
        let glance : r'.glance ≡ r.glance = glance_same h.state one r.glance r'.glance h.glance (subst (λ s. IsGlance s r'.glance) state k.glance) in
        λ i. Ok (record { steps = (k.steps ∙ sym h.steps) i; finished = finished i; shown = shown i; glance = glance i })
    replay_is_one r h one (Err (Refused step label enabled_labels)) k = absurd (not_both r h step label enabled_labels k)
    replay_is_one r h one (Err (OutOfMemory e)) k = absurd k

    pub refusal_is_one : ((a b : Label) → label_of a ≡ label_of b → a ≡ b) → (i : ℕ) (l : Label) (ls : List Label) → IsRefusal plan journal i l ls → (other : Result Replayed ReplayError) → IsOutcome plan journal show other → other ≡ Err (Refused i l ls)
    refusal_is_one tell i l ls h (Ok r) k = absurd (not_both r k i l ls h)
    refusal_is_one tell i l ls h (Err (Refused i' l' ls')) k =
        let same = same_stop first h.state k.state h.before k.before l l' h.after k.after (sym h.parts ∙ k.parts) h.run h.refused k.run k.refused in
        let place : i' ≡ i = k.place ∙ ap (λ (bs : List Label). length bs + 1) same.before ∙ sym h.place in
        let state : k.state ≡ h.state = leads_to_one h.before h.state k.state h.run (subst (λ bs. LeadsTo plan bs k.state) same.before k.run) in
        let listed : ls' ≡ ls = labels_same tell ls' ls (k.listed ∙ ap (enabled_labels (plan_actors plan.program) plan.workers plan.script.hosts) state ∙ sym h.listed) in
        λ j. Err (Refused (place j) (same.label j) (listed j))
    refusal_is_one tell i l ls h (Err (OutOfMemory e)) k = absurd k

-- where it stops, that is all that is to be said
pub only_stop : (plan : Plan) (tell : (a b : Label) → label_of a ≡ label_of b → a ≡ b) (journal : List Label) (show : ℕ) (e : ReplayError) → StopsIn plan journal e → IsOnlyOutcome plan journal show (Err e)
only_stop plan tell journal show (Refused i l ls) h = (h, refusal_is_one plan journal show tell i l ls h)
only_stop plan tell journal show (OutOfMemory e) h = tt

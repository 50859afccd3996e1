-- The next child of a walker, the last step of its path, and what it copied.
use Rattle.std.proofs.Common.{◌≡◌, ◌<◌, ◌≤◌, ℕ, suc, ◌-◌, Bool, true, false, List, [], ◌∷◌, ◌++◌, Option, Some, None, cond, map, length, get_or, refl, sym, ap, ◌∙◌, arith}
use Rattle.std.specs.List.{filter}
use Rattle.std.specs.Ordering.{is_lt}
use Rattle.wave_base.specs.declared.children.Child.{Child}
use Rattle.wave_base.specs.declared.path.Step.{Step}
use Rattle.wave_base.specs.declared.path.Path.{Path}
use Rattle.wave_base.specs.declared.shot.Shot.{Shot}
use Rattle.wave_base.specs.declared.call.Call.{Call}
use Rattle.wave_base.specs.declared.call.Message.{Message}
use Rattle.wave_base.specs.declared.outcome.Outcome.TheVariants.{Shots}
use Rattle.wave_base.specs.declared.pause.Pause.TheVariants as pause
use Rattle.wave_base.specs.Kids.{first_step, steps_above, step_after}
use Rattle.wave_base.specs.Paths.{step_cmp, parent_of}
use Rattle.wave_states.specs.States.{steps_of}
use Rattle.wave_states.specs.Actors.{Down}
use Rattle.wave_states.specs.Walkers.{Walker, walk, walk_on, leave, copied_now, steps_left, first_of, last_step}
use Rattle.wave_states.specs.Results.{as_shot}
use Rattle.snapshot_events.specs.Walks.{as_pair, pause_of}
use Rattle.wave_base.specs.declared.value.Value.{Value}
use Rattle.std.specs.Prelude.{nat_lt}
use Rattle.std.proofs.lemmas.Bool.Decides.{nat_tests}

first_kept : (s : Step) (children : List (Step × Child)) → first_step (steps_above children s) ≡ first_of (filter (λ c. is_lt (step_cmp s c)) (steps_of children))
first_kept s [] = refl
first_kept s (c ∷ children) = by_test (is_lt (step_cmp s c.0)) (first_kept s children)
  where
    by_test : (b : Bool) → first_step (steps_above children s) ≡ first_of (filter (λ d. is_lt (step_cmp s d)) (steps_of children))
        → first_step (cond b (c ∷ steps_above children s) (steps_above children s)) ≡ first_of (cond b (c.0 ∷ filter (λ d. is_lt (step_cmp s d)) (steps_of children)) (filter (λ d. is_lt (step_cmp s d)) (steps_of children)))
    by_test true h = refl
    by_test false h = h

-- the child that comes next
pub next_step : (children : List (Step × Child)) (from : Option Step) → step_after children from ≡ first_of (steps_left (steps_of children) from)
next_step [] None = refl
next_step (c ∷ children) None = refl
next_step children (Some s) = first_kept s children

pub last_of : (p : List Step) (d : Step) → 0 < length p → Some (get_or p (length p - 1) d) ≡ last_step p
last_of [] d h = absurd (omega arith)
last_of (s ∷ []) d h = refl
last_of (s ∷ t ∷ p) d h =
    let i : length (s ∷ t ∷ p) - 1 ≡ suc (length (t ∷ p) - 1) = omega arith in
    ap (λ n. Some (get_or (s ∷ t ∷ p) n d)) i ∙ last_of (t ∷ p) d (omega arith)

last_pushed : (q : List Step) (s : Step) → last_step (q ++ s ∷ []) ≡ Some s
last_pushed [] s = refl
last_pushed (t ∷ []) s = refl
last_pushed (t ∷ u ∷ q) s = last_pushed (u ∷ q) s

parent_pushed : (q : List Step) (s : Step) → parent_of (q ++ s ∷ []) ≡ q
parent_pushed [] s = refl
parent_pushed (t ∷ []) s = refl
parent_pushed (t ∷ u ∷ q) s = ap (λ r. t ∷ r) (parent_pushed (u ∷ q) s)

pub last_is : (p q : List Step) (s : Step) → p ≡ q ++ s ∷ [] → last_step p ≡ Some s
last_is p q s e = ap last_step e ∙ last_pushed q s

pub parent_is : (p q : List Step) (s : Step) → p ≡ q ++ s ∷ [] → parent_of p ≡ q
parent_is p q s e = ap parent_of e ∙ parent_pushed q s

-- what was copied, as shots
pub shots_again : (shots : List Shot) → map as_shot (map as_pair shots) ≡ shots
shots_again [] = refl
shots_again (s ∷ shots) = ap (λ r. s ∷ r) (shots_again shots)

-- no child comes next where there is none
pub some_child : (children : List (Step × Child)) (from : Option Step) (s : Step) → step_after children from ≡ Some s → children ≡ [] → Some s ≡ None
some_child children from s e h = sym e ∙ ap (λ l. step_after l from) h ∙ none_after from
  where
    none_after : (from : Option Step) → step_after [] from ≡ None
    none_after None = refl
    none_after (Some t) = refl

pub shallow : (n : ℕ) (children : List (Step × Child)) (from : Option Step) (s : Step) → step_after children from ≡ Some s → (8 ≤ n → children ≡ []) → n < 8
shallow n children from s e h = by_test (nat_lt n 8) refl
  where
    by_test : (b : Bool) → nat_lt n 8 ≡ b → n < 8
    by_test true t = grind (arith, nat_tests)
    by_test false t =
        let deep : 8 ≤ n = grind (arith, nat_tests) in
        let none : Some s ≡ None = some_child children from s e (h deep) in
        cc

any_fields : (p : Path) (from : Option Step) (f g : List Value) (copied : List (Path × List Value)) (o : Option Step) → (leave p from f copied o).actor ≡ (leave p from g copied o).actor
any_fields p from f g copied None = refl
any_fields p from f g copied (Some s) = refl

any_pause : (p : Path) (from : Option Step) (f g : List Value) (copied : List (Path × List Value)) (o : Option Step) → (leave p from f copied o).pause ≡ (leave p from g copied o).pause
any_pause p from f g copied None = refl
any_pause p from f g copied (Some s) = refl

-- once the context is copied
module _ (old now : Walker (List Value)) (f : List Value) (children : List (Step × Child)) (at : now.at ≡ old.at) (from : now.from ≡ old.from) (copied : now.copied ≡ copied_now old f) where
  next : (o : Option Step) → step_after children now.from ≡ o → first_of (steps_left (steps_of children) old.from) ≡ o
  next o e = sym (next_step children old.from) ∙ ap (step_after children) (sym from) ∙ e

  pub down_actor : (s : Step) → step_after children now.from ≡ Some s → record { at = now.at ++ s ∷ []; from = None; copied = now.copied } ≡ (walk old f (steps_of children)).actor
  down_actor s e = (λ i. record { at = at i ++ s ∷ []; from = None; copied = copied i }) ∙ sym (ap (λ o. (walk_on old.at old.from f (copied_now old f) o).actor) (next (Some s) e))

  pub down_pause : (s : Step) → step_after children now.from ≡ Some s → pause_of (Down s) ≡ pause_of (walk old f (steps_of children)).pause
  down_pause s e = sym (ap (λ o. pause_of (walk_on old.at old.from f (copied_now old f) o).pause) (next (Some s) e))

  pub left_actor : step_after children now.from ≡ None → (leave now.at now.from [] now.copied (last_step now.at)).actor ≡ (walk old f (steps_of children)).actor
  left_actor e =
      (λ i. (leave (at i) (from i) [] (copied i) (last_step (at i))).actor) ∙ any_fields old.at old.from [] f (copied_now old f) (last_step old.at)
      ∙ sym (ap (λ o. (walk_on old.at old.from f (copied_now old f) o).actor) (next None e))

  pub left_pause : step_after children now.from ≡ None → pause_of (leave now.at now.from [] now.copied (last_step now.at)).pause ≡ pause_of (walk old f (steps_of children)).pause
  left_pause e =
      (λ i. pause_of (leave (at i) (from i) [] (copied i) (last_step (at i))).pause) ∙ ap pause_of (any_pause old.at old.from [] f (copied_now old f) (last_step old.at))
      ∙ sym (ap (λ o. pause_of (walk_on old.at old.from f (copied_now old f) o).pause) (next None e))

-- back to the parent
module _ (at : Path) (from : Option Step) (copied : List (Path × List Value)) (parent : Path) (s : Step) (e : at ≡ parent ++ s ∷ []) where
  pub back_actor : (last : Option Step) → last ≡ last_step at → record { at = parent; from = last; copied = copied } ≡ (leave at from [] copied (last_step at)).actor
  back_actor last l =
      (λ i. record { at = sym (parent_is at parent s e) i; from = (l ∙ last_is at parent s e) i; copied = copied }) ∙ sym (ap (λ o. (leave at from [] copied o).actor) (last_is at parent s e))

  pub back_pause : pause.Back ≡ pause_of (leave at from [] copied (last_step at)).pause
  back_pause = sym (ap (λ o. pause_of (leave at from [] copied o).pause) (last_is at parent s e))

-- over, at the root
pub over_pause : (at : Path) (from : Option Step) (shots given : List Shot) (messages : List Message) (created : List Call) → at ≡ [] → given ≡ shots → messages ≡ [] → created ≡ []
    → pause.Over (record { outcome = Shots given; messages = messages; created = created }) ≡ pause_of (leave at from [] (map as_pair shots) (last_step at)).pause
over_pause at from shots given messages created e g m k =
    (λ i. pause.Over (record { outcome = Shots ((g ∙ sym (shots_again shots)) i); messages = m i; created = k i })) ∙ sym (ap (λ o. pause_of (leave at from [] (map as_pair shots) o).pause) (ap last_step e))

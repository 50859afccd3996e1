-- What is held after a context is entered: in the order of paths, as an event keeps it, and in the order of entry.
use Rattle.std.proofs.Common.{◌≡◌, List, [], ◌∷◌, ◌++◌, ◌||◌, ◌&&◌, if◌then◌else◌, Bool, true, false, refl, ap, sym, subst, ◌∙◌}
use Rattle.std.specs.BTreeSet.{insert_key}
use Rattle.std.specs.List.{filter}
use Rattle.std.proofs.lemmas.List.Folds.{list_any-append}
use Rattle.std.proofs.lemmas.Map.Views.{any-filter_same}
use Rattle.wave_base.specs.declared.path.Path.{Path}
use Rattle.wave_base.specs.Paths.{path_eq, path_cmp, is_above}
use Rattle.wave_base.specs.PathLaws.{path_eq_decides, is_above_append}
use Rattle.wave_base.specs.Tree.{Tree}
use Rattle.wave_base.proofs.Trees.{there-enter}
use Rattle.std.proofs.lemmas.List.{append-nil}
use Rattle.service_verify.specs.Steps.{is_held}
use Rattle.wave_states.specs.Alone.{has}
use Rattle.code_actor.proofs.Holding.{with_held}

or_known : (a b : Bool) → (a ≡ true → b ≡ true) → b ≡ (a || b)
or_known true b h = h refl
or_known false b h = refl

or_last : (a b : Bool) → (b || (a || false)) ≡ (a || b)
or_last true true = refl
or_last true false = refl
or_last false true = refl
or_last false false = refl

and_last : (c a b : Bool) → (a ≡ true → c ≡ true) → ((c && b) || (a || false)) ≡ (c && (a || b))
and_last true true true h = refl
and_last true true false h = refl
and_last true false true h = refl
and_last true false false h = refl
and_last false true b h = absurd (true_false (sym (h refl)))
  where
    true_false : true ≡ false → ⊥
    true_false e = cc
and_last false false b h = refl

-- a path that is held is found by its equals
found_too : (held : List Path) (q r : Path) → is_held held q ≡ true → path_eq r q ≡ true → is_held held r ≡ true
found_too held q r h e = subst (λ s. is_held held s ≡ true) (sym ((path_eq_decides r q).0 e)) h

pub held_too : (held : List Path) (q r : Path) → is_held (with_held held q) r ≡ (path_eq r q || is_held held r)
held_too held q r = go (is_held held q) refl
  where
    as_tree : Tree (Unit {0})
    as_tree = record { paths = held; fields = λ p. tt }

    go : (c : Bool) → is_held held q ≡ c → is_held (if c then held else insert_key path_cmp held q) r ≡ (path_eq r q || is_held held r)
    go true e = or_known (path_eq r q) (is_held held r) (found_too held q r e)
    go false e = there-enter as_tree q r

above_self : (q r : Path) → path_eq r q ≡ true → is_above q r ≡ true
above_self q r e = subst (λ s. is_above q s ≡ true) (append-nil q ∙ sym ((path_eq_decides r q).0 e)) (is_above_append q [])

pub held_above : (held : List Path) (q r : Path) → is_held (filter (is_above q) held) r ≡ (is_above q r && is_held held r)
held_above held q r = any-filter_same (path_eq r) (is_above q) (is_above q r) (λ k e. ap (is_above q) (sym ((path_eq_decides r k).0 e))) held

-- both hold the same before
module _ (ours theirs : List Path) (same : (r : Path) → has ours r ≡ is_held theirs r) (q r : Path) where
  -- a call into a context that is held, and into one that is not
  pub down_held : is_held theirs q ≡ true → has ours r ≡ is_held (with_held theirs q) r
  down_held e = same r ∙ or_known (path_eq r q) (is_held theirs r) (found_too theirs q r e) ∙ sym (held_too theirs q r)

  pub down_new : has (ours ++ q ∷ []) r ≡ is_held (with_held theirs q) r
  down_new = list_any-append (path_eq r) ours (q ∷ []) ∙ ap (λ b. b || (path_eq r q || false)) (same r) ∙ or_last (path_eq r q) (is_held theirs r) ∙ sym (held_too theirs q r)

  -- for good, so that all but what lies below is given up
  pub go_held : is_held theirs q ≡ true → has (filter (is_above q) ours) r ≡ is_held (filter (is_above q) (with_held theirs q)) r
  go_held e = held_above ours q r ∙ ap (λ b. is_above q r && b) (down_held e) ∙ sym (held_above (with_held theirs q) q r)

  pub go_new : has (filter (is_above q) ours ++ q ∷ []) r ≡ is_held (filter (is_above q) (with_held theirs q)) r
  go_new =
      list_any-append (path_eq r) (filter (is_above q) ours) (q ∷ [])
      ∙ ap (λ b. b || (path_eq r q || false)) (held_above ours q r ∙ ap (λ b. is_above q r && b) (same r))
      ∙ and_last (is_above q r) (path_eq r q) (is_held theirs r) (above_self q r)
      ∙ ap (λ b. is_above q r && b) (sym (held_too theirs q r))
      ∙ sym (held_above (with_held theirs q) q r)

-- What is there after segments was there before, or was entered.
use Rattle.std.proofs.Common.{◌≡◌, ℕ, zero, suc, ◌||◌, Bool, true, false, List, [], ◌∷◌, ◌++◌, Option, Some, None, refl, sym, ◌∙◌, ap}
use Rattle.wave_base.specs.declared.path.Path.{Path}
use Rattle.wave_base.specs.Paths.{path_eq, is_above}
use Rattle.wave_base.specs.Tree.{Tree, there}
use Rattle.wave_base.proofs.Trees.{there-enter}
use Rattle.std.specs.List.{filter}
use Rattle.wave_states.specs.Actors.{Actors, Pause, Go, Down, Back, Over}
use Rattle.wave_states.specs.Alone.{Alone, has, into, tree_with, goes_on, segment_alone, segment_if, next_alone, first_alone, after_segments}
use Rattle.wave_theory.proofs.Paths.{has_append}

or_turn : (a b c : Bool) → (a || (b || c)) ≡ (b || (c || a))
or_turn true true c = refl
or_turn true false true = refl
or_turn true false false = refl
or_turn false true c = refl
or_turn false false true = refl
or_turn false false false = refl

module _ {A F R J : Type 0} (sys : Actors A F R J) (tree : Tree F) where
  abbrev Joined : Alone A F R → Type 0
  Joined x = (p : Path) → there x.tree p ≡ (there tree p || has x.entered p)

  into_joined : (x : Alone A F R) (a : A) (f : F) (q : Path) (peek : Bool) (kept : List Path) (was : Bool) → Joined x → Joined (into x a f q peek kept was)
  into_joined x a f q peek kept true h p = h p
  into_joined x a f q peek kept false h p =
      there-enter (tree_with x f) q p
      ∙ ap (λ b. path_eq p q || b) (h p)
      ∙ or_turn (path_eq p q) (there tree p) (has x.entered p)
      ∙ ap (λ b. there tree p || b) (sym (has_append x.entered q p))

  goes_joined : (x : Alone A F R) (a : A) (f : F) (why : Pause R) → Joined x → Joined (goes_on sys x a f why)
  goes_joined x a f (Go s) h = into_joined x a f (x.at ++ s ∷ []) (sys.peeks a) (filter (is_above (x.at ++ s ∷ [])) x.held) (has x.held (x.at ++ s ∷ [])) h
  goes_joined x a f (Down s) h = into_joined x a f (x.at ++ s ∷ []) false x.held (has x.held (x.at ++ s ∷ [])) h
  goes_joined x a f Back h = h
  goes_joined x a f (Over r) h = h

  next_joined : (x : Alone A F R) → Joined x → Joined (next_alone sys x)
  next_joined x h = by x.result
    where
      by : (o : Option R) → Joined (segment_if sys x o)
      by None = goes_joined x (segment_alone sys x).actor (segment_alone sys x).fields (segment_alone sys x).pause h
      by (Some r) = h

  pub after_joined : (j : J) (t : ℕ) (k : ℕ) (p : Path) → there (after_segments sys k (first_alone sys j t tree)).tree p ≡ (there tree p || has (after_segments sys k (first_alone sys j t tree)).entered p)
  unfolding after_segments
  after_joined j t zero p = there-enter tree [] p ∙ by (path_eq p []) (there tree p)
    where
      by : (a b : Bool) → (a || b) ≡ (b || (a || false))
      by true true = refl
      by true false = refl
      by false true = refl
      by false false = refl
  after_joined j t (suc k) p = next_joined (after_segments sys k (first_alone sys j t tree)) (after_joined j t k) p

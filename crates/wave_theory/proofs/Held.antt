-- Lists of held paths in which each path stands once, and the numbers of their releases.
use Rattle.std.proofs.Common.{◌≡◌, ℕ, suc, inl, inr, if◌then◌else◌, Bool, true, false, List, [], ◌∷◌, Option, Some, None, refl, sym, ◌∙◌, ap}
use Rattle.std.specs.Prelude.{cond}
use Rattle.std.specs.List.{filter}
use Rattle.std.specs.BTreeMap.{insert_entry}
use Rattle.std.specs.Ordering.{match_ordering}
use Rattle.std.specs.declared.cmp.Ordering.TheVariants.{Less, Equal, Greater}
use Rattle.wave_base.specs.declared.path.Path.{Path}
use Rattle.wave_base.specs.Paths.{path_eq, path_cmp}
use Rattle.wave_base.specs.PathLaws.{path_eq_ties}
use Rattle.wave_states.specs.States.{Hold, hold_at}
use Rattle.wave_theory.proofs.Basics.{bool_cases, some_not}
use Rattle.wave_theory.proofs.Maps.{hold_put, hold_filter}
use Rattle.wave_theory.proofs.Paths.{path_swap}
use Rattle.wave_theory.proofs.Shows.{Once}

-- the first of a list
pub hold_cons : (x : Path × Hold) (xs : List (Path × Hold)) (q : Path) → hold_at (x ∷ xs) q ≡ cond (path_eq q x.0) (Some x.1) (hold_at xs q)
hold_cons x xs q = ap (λ b. cond b (Some x.1) (hold_at xs q)) (sym (path_eq_ties q x.0))

pub none_some : {X : Type 0} (b : Bool) (v : X) (o : Option X) → cond b (Some v) o ≡ None → (b ≡ false) × (o ≡ None)
none_some true v o e = absurd (some_not e)
none_some false v o e = (refl, e)

pub once_insert : (held : List (Path × Hold)) (p : Path) (v : Hold) → hold_at held p ≡ None → Once held → Once (insert_entry path_cmp held p v)
once_insert [] p v n o = (refl, tt)
once_insert (x ∷ xs) p v n o =
    elim (path_cmp p x.0) as (λ r. path_cmp p x.0 ≡ r → Once (match_ordering r ((p, v) ∷ x ∷ xs) ((x.0, v) ∷ xs) (x ∷ insert_entry path_cmp xs p v))) [
      | Less ↦ λ e. (n, o)
      | Equal ↦ λ e. o
      | Greater ↦ λ e. (let z = none_some (path_eq p x.0) x.1 (hold_at xs p) (sym (hold_cons x xs p) ∙ n) in
          (hold_put xs p x.0 v ∙ ap (λ b. cond b (Some v) (hold_at xs x.0)) (path_swap x.0 p ∙ z.0) ∙ o.0, once_insert xs p v z.1 o.1))
    ] refl

pub once_filter : (f : Path → Bool) (xs : List (Path × Hold)) → Once xs → Once (filter (λ x. f x.0) xs)
once_filter f [] o = tt
once_filter f (x ∷ xs) o = elim (bool_cases (f x.0)) [
  | inr e ↦ rw e (once_filter f xs o.1)
  | inl e ↦ rw e (hold_filter f xs x.0 ∙ ap (cond (f x.0) (hold_at xs x.0)) refl ∙ ap (λ b. cond b (hold_at xs x.0) None) e ∙ o.0, once_filter f xs o.1)
]

-- the number of the release of a path, where it is among these
abbrev pub number_in : List (Path × Hold) → ℕ → ℕ → Path → ℕ
number_in [] n old q = old
number_in (x ∷ xs) n old q = if path_eq q x.0 then suc n else number_in xs (suc n) old q

pub number_out : (xs : List (Path × Hold)) (n old : ℕ) (q : Path) → hold_at xs q ≡ None → number_in xs n old q ≡ old
number_out [] n old q e = refl
number_out (x ∷ xs) n old q e = let z = none_some (path_eq q x.0) x.1 (hold_at xs q) (sym (hold_cons x xs q) ∙ e) in rw z.0 (number_out xs (suc n) old q z.1)

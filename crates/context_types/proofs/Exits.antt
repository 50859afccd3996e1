-- An error that is handed on.
use Rattle.std.proofs.Common.{◌≡◌, List, ◌++◌, None, Result, Err, sym, subst}
use Rattle.type_rules.specs.declared.error.TypeError.{TypeError}
use Rattle.type_rules.specs.Demands.{Demand, first_wrong, Fails, Judges}
use Rattle.type_rules.proofs.First.{fails_front, fails_behind}

module _ {A : Type 0} (P : A → Type 0) (r : Result A TypeError) (e : TypeError) (same : (y : TypeError) × (r ≡ Err y) × (y ≡ e)) where
  pub exit : (asked : List Demand) → Fails asked e → Judges asked P r
  exit asked f = subst (λ r. Judges asked P r) (sym same.1) (subst (Fails asked) (sym same.2) f)

  pub exit_front : (a b : List Demand) → Fails a e → Judges (a ++ b) P r
  exit_front a b f = exit (a ++ b) (fails_front a b e f)

  pub exit_behind : (a b : List Demand) → first_wrong a ≡ None → Fails b e → Judges (a ++ b) P r
  exit_behind a b h f = exit (a ++ b) (fails_behind a b e h f)

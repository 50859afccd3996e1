-- What an event takes, once it is found.
use Rattle.std.proofs.Common.{◌≡◌, ◌==◌, ℕ, List, ◌∷◌, [], length, Some, is_some, sym, ap, ◌∙◌}
use Rattle.std.specs.Option.{option_map_or}
use Rattle.wave_base.specs.declared.span.Span.{Span}
use Rattle.wave_base.specs.declared.value.Kind.{Kind}
use Rattle.mace_ast.specs.Exprs.{ExprTree, exprs_of}
use Rattle.type_rules.specs.declared.error.TypeError.TheVariants.{UnknownName, ArgCount}
use Rattle.type_rules.specs.Demands.{ask, first_wrong}
use Rattle.type_rules.specs.Known.{event_named, event_params}
use Rattle.type_rules.specs.Here.{Here}
use Rattle.type_rules.specs.Exprs.{args_demands}
use Rattle.type_rules.specs.Stmts.{spawn_takes, spawn_demands}
use Rattle.type_rules.proofs.First.{told_past}
use Rattle.type_laws.proofs.Trees.{count_exprs}
use Rattle.context_types.proofs.CallArms.{args_asks}

pub spawn_same : (h : Here) (at : Span) (event : List ℕ) (args : List ExprTree) (n : ℕ) (kinds : List Kind) → event_named h.known event ≡ Some n → kinds ≡ event_params h.known n
    → first_wrong (spawn_demands h at event args) ≡ first_wrong (args_asks h at kinds (exprs_of args))
spawn_same h at event args n kinds found is =
    let takes : spawn_takes h event ≡ kinds = ap (λ o. option_map_or (event_params h.known) o []) found ∙ sym is in
    told_past (is_some (event_named h.known event)) (UnknownName at) (ask (length (spawn_takes h event) == length args) (ArgCount at) ∷ args_demands h (spawn_takes h event) (exprs_of args)) (ap is_some found)
    ∙ (λ i. first_wrong (ask (length (takes i) == sym (count_exprs args) i) (ArgCount at) ∷ args_demands h (takes i) (exprs_of args)))

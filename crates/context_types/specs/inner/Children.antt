-- A call of a child's method, by the method that the name is found for.
use Rattle.std.specs.Prelude.{ℕ, ◌==◌, List, [], ◌∷◌, length, Option, is_some, option_and_then}
use Rattle.std.specs.Option.{option_map_or}
use Rattle.wave_base.specs.declared.span.Span.{Span}
use Rattle.wave_base.specs.declared.value.Kind.{Kind}
use Rattle.mace_ast.specs.Exprs.{ExprTrees}
use Rattle.resolved_service.specs.View as r
use Rattle.resolved_service.specs.View.{Tree}
use Rattle.type_rules.specs.declared.error.TypeError.TheVariants.{UnknownName, ArgCount}
use Rattle.type_rules.specs.Demands.{Demand, ask}
use Rattle.type_rules.specs.Known.{signature_at}
use Rattle.type_rules.specs.Here.{Here}
use Rattle.type_rules.specs.Exprs.{count, or_zero, args_demands, resolve_all}

abbrev pub params_of_child : Here → Option ℕ → List Kind
params_of_child h method = option_map_or (λ m. (signature_at h.known m).params) method []

abbrev pub asks_of_child : Here → Span → Option ℕ → ExprTrees → List Demand
asks_of_child h at method args =
    ask (is_some method) (UnknownName at) ∷ ask (length (params_of_child h method) == count args) (ArgCount at) ∷ args_demands h (params_of_child h method) args

abbrev pub gives_of_child : Here → Option ℕ → Option Kind
gives_of_child h method = option_and_then (λ m. (signature_at h.known m).result) method

abbrev pub child_tree_of : Here → Span → ℕ → Option ℕ → Tree → ExprTrees → Tree
child_tree_of h at class method key args = r.Child at class (or_zero method) key (resolve_all h args)

use Rattle.code_actor.specs.CodeActors.{IsJob}
use Rattle.plan_actors.specs.Calls.{code_ran}
use Rattle.fold_laws.proofs.Cutting.{comes, cut, more_comes, more_few}
use Rattle.fold_laws.proofs.Shaping.{HasShape, shape_owes, shape_keeps}
use Rattle.fold_laws.proofs.Touring.{code_grows}
use Rattle.fold_laws.proofs.laws.code_runs_are_cut.Goals as goal

pub returns-clause-first : goal.returns-clause-first
returns-clause-first c =
    λ program start a fit verified s b few.
    comes program.shape (code_ran program) (HasShape program.shape) (IsJob program) (shape_owes program fit verified) (shape_keeps program fit verified) start a s b few

pub returns-clause-cut : goal.returns-clause-cut
returns-clause-cut c =
    λ program start a b fit verified known s hosts.
    cut program.shape (code_ran program) (HasShape program.shape) (IsJob program) (shape_owes program fit verified) (shape_keeps program fit verified) start a b known s hosts

pub returns-clause-more : goal.returns-clause-more
returns-clause-more c =
    λ program start a b fit verified known s hosts few.
    more_comes program.shape (code_ran program) (HasShape program.shape) (IsJob program) (shape_owes program fit verified) (shape_keeps program fit verified) start a b known s hosts few

pub returns-clause-few : goal.returns-clause-few
returns-clause-few c =
    λ program start a b fit verified known s hosts few.
    more_few program.shape (code_ran program) (HasShape program.shape) (IsJob program) (shape_owes program fit verified) (shape_keeps program fit verified) start a b known s hosts (λ t call is job. code_grows program call t) few

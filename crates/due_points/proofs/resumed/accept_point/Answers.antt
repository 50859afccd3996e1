use Rattle.std.proofs.Common.{Err, subst, sym}
use Rattle.due_parts.specs.Answers.{Only}
use Rattle.due_parts.proofs.DueLemmas.{only_same}
use Rattle.due_points.specs.Resumed.{IsDueChecked, IsDueFrom}
use Rattle.due_points.proofs.AcceptLemmas.{only_fault, point_accepted}
use Rattle.due_points.proofs.resumed.accept_point.Goals as goal

pub returns-in-Ok : goal.returns-in-Ok
returns-in-Ok c = λ tree t coded.
    point_accepted c.args.typed.shape c.args.point.now (λ telling. IsDueFrom telling tree c.args.script.now) c.in-Ok.point c.accept_from.result c.in-Ok.ensures.verdict (c.accept_from.ensures tree t coded)

pub returns-in_ok-refused_point-in-Err : goal.returns-in_ok-refused_point-in-Err
returns-in_ok-refused_point-in-Err c = λ tree t coded telling.
    let P = IsDueFrom telling tree c.args.script.now in
    let error = c.in-Err.error in
    only_fault c.args.typed.shape c.args.point.now P error _ c.in_ok-refused_point-in-Err.ensures.told c.in-Err.ensures.verdict
    (subst (Only (IsDueChecked P (Err error))) (sym c.in_ok-refused_point-in-Err.ensures.refused) (only_same _))

use Rattle.service_eval.proofs.rows.apply_any.Goals as goal

pub returns-then-takes : goal.returns-then-takes
returns-then-takes c = c.with_place.ensures _ c.apply.ensures.answer

use Rattle.service_verify.proofs.Surveying.{first_surveyed}
use Rattle.service_verify.proofs.survey.Survey.new.Goals as goal

pub returns : goal.returns
returns c = first_surveyed c.args.program.now c.in_ok-unmarked_fields.field-0.items c.new.result.items c.new-2.result.items c.in_ok-unmarked_fields.ensures c.new.ensures.items c.new-2.ensures.items

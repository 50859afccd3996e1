use Rattle.std.proofs.Common.{◌∙◌, ap, subst}
use Rattle.service_verify.specs.Reads.{code_reads}
use Rattle.service_verify.specs.inner.Surveys.{IsMarked, looks_after, looks_by}
use Rattle.service_verify.proofs.Surveying.{then_surveyed}
use Rattle.service_verify.proofs.survey.Survey.add.Goals as goal

pub returns : goal.returns
returns c =
    then_surveyed c.args.program.now c.args.number c.args.function.now c.args.points.now c.requires.there c.requires.before c.requires.points
    _ _ c.args.self.now.quiet.items _ c.args.self.now.looks.items _ c.only_looks-quiet.result c.looks_from-looks.result c.requires.surveyed
    (subst (λ code. IsMarked c.args.self.now.kept.items (λ class f. code_reads c.args.program.now.shape class f code c.args.points.now) c.mark_reads.new.marks.items) c.as_slice-code.ensures c.mark_reads.ensures)
    c.in_ok-push-2.ensures.items c.in_ok-push.ensures.items
    (c.only_looks-quiet.ensures ∙ (λ j. looks_after (c.as_slice-2.ensures.value j) 0 (c.as_slice-code.ensures j)))
    (c.looks_from-looks.ensures ∙ ap (λ q. looks_by q c.args.function.now) c.as_slice.ensures.value)

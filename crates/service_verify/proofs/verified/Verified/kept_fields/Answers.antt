use Rattle.std.proofs.Common.{◌<◌, ◌∙◌, ap, sym, subst, length}
use Rattle.std.proofs.lemmas.Option.{get_or_from_slice_get}
use Rattle.service_code.specs.declared.program.Program.{Program}
use Rattle.service_verify.specs.Points.{IsVerified}
use Rattle.service_verify.specs.Reads.{read_marks}
use Rattle.service_verify.proofs.Surveying.{kept_exact}
use Rattle.service_verify.proofs.verified.Verified.kept_fields.Goals as goal

pub returns-clause-exact : goal.returns-clause-exact
returns-clause-exact c =
    kept_exact c.args.self.now (subst IsVerified c.self.view_is c.self.invariant.0) c.args.class.0 c.index.result.now
    (c.index.ensures
    ∙ get_or_from_slice_get c.self.inside.kept.items c.args.class.0 (read_marks c.self.inside.program c.args.class.0) c.index.result.now (c.self.invariant.1.kept c.args.class.0 (subst (λ (p : Program). c.args.class.0 < length p.shape.classes) (sym c.self.view_is) c.requires))
    ∙ ap (λ p. read_marks p c.args.class.0) c.self.view_is)

use Rattle.std.proofs.Common.{sym, subst, ◌∙◌}
use Rattle.service_verify.specs.Fit.{IsFit}
use Rattle.service_compiler.proofs.Listed.{can_list}
use Rattle.service_compiler.proofs.TypedSlots.{typed_slots}
use Rattle.service_compiler.proofs.verified.compile_verified.Goals as goal

pub compile-requires-clause-events : goal.compile-requires-clause-events
compile-requires-clause-events c = c.requires.typed.count

pub compile-requires-clause-slots : goal.compile-requires-clause-slots
compile-requires-clause-slots c = typed_slots c.args.shape c.args.service.now c.requires.typed c.requires.fits

pub returns-in-Ok-clause-listed : goal.returns-in-Ok-clause-listed
returns-in-Ok-clause-listed c =
    let same = c.in-Ok.ensures.same ∙ c.in_ok-program.ensures.program in
    can_list c.in-Ok.verified (subst IsFit (sym same) (c.code_is_accepted.ensures.fit c.args.shape c.args.service.now c.requires.typed)) c.in-Ok.ensures.verified

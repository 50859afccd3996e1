use Rattle.std.proofs.Common.{◌≡◌, refl, sym, ◌∙◌, subst, ap}
use Rattle.wave_base.specs.declared.shape.Shape.{Shape}
use Rattle.resolved_service.specs.declared.service.Resolved.{Resolved}
use Rattle.resolved_service.specs.Fits.{FitsService}
use Rattle.service_code.specs.declared.program.Program.{Program}
use Rattle.code_scheme.specs.Programs.{scheme_program}
use Rattle.code_scheme.specs.Typed.{IsTyped}
use Rattle.code_runner.specs.Coded.{IsCode}
use Rattle.tests_code.proofs.coded.code_of.Goals as goal

-- the scheme's program of a typed service is its code
is_code : (shape : Shape) (service : Resolved) (p : Program) → IsTyped shape service → FitsService shape service → p ≡ scheme_program shape service → IsCode service p
unfolding scheme_program
is_code shape service p typed fits e = subst (IsCode service) (sym e) (record { typed = typed; fits = fits; is = refl })

pub returns-clause-code : goal.returns-clause-code
returns-clause-code c =
    let typed = c.args.typed.now in
    let e = c.in-Ok-compile_verified.ensures.program ∙ ap (λ s. scheme_program s typed.resolved) c.in-Ok.ensures in
    is_code typed.shape typed.resolved c.in-Ok-compile_verified.program c.requires.typed c.requires.fits e

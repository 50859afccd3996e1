use Rattle.std.proofs.Common.{◌≡◌, ◌∙◌, [], ap, refl, subst}
use Rattle.std.specs.Prelude.{◌==◌}
use Rattle.std.specs.Io.KnownBytes.{Appends}
use Rattle.wave_base.specs.declared.finished.Finished.{Finished}
use Rattle.script_fold.specs.declared.told.Told.{Told}
use Rattle.wave_io.specs.Streams.{AppendsFront}
use Rattle.listing_out.proofs.SinkLemmas.{on_err}
use Rattle.due_parts.specs.Told.{any_trap}
use Rattle.eventwave.proofs.StageLemmas.{told_lines, trap_test}
use Rattle.eventwave.proofs.pieces.write_piece.Goals as goal

-- what is written of it
abbrev written : Told → Finished
written told = record { results = told.results; made = told.made; names = told.names; places = []; shots = []; loads = [] }

pub returns-in_err-write_results-clause-front : goal.returns-in_err-write_results-clause-front
returns-in_err-write_results-clause-front g c =
    λ done is. on_err c.from_residual.result (subst (AppendsFront _ _) (told_lines c.args.shape.now c.args.first.0 c.args.told (written c.args.told) done refl refl refl is) c.in_err-write_results.ensures.err)

pub returns-clause-lines : goal.returns-clause-lines
returns-clause-lines g c = λ done is. subst (Appends _ _) (told_lines c.args.shape.now c.args.first.0 c.args.told (written c.args.told) done refl refl refl is) c.in_ok-write_results.ensures.ok

pub returns-clause-trapped : goal.returns-clause-trapped
returns-clause-trapped g c = ap (λ n. n == 1) c.status_of.ensures ∙ trap_test _ ∙ ap any_trap c.as_slice.ensures

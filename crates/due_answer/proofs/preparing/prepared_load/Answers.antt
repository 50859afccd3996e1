use Rattle.std.proofs.Common.{◌≡◌, ◌∙◌, ◌≤◌, ◌<◌, arith, length, refl, ap, sym, subst}
use Rattle.wave_base.specs.declared.limits.TheConstants.{INPUT_BYTES}
use Rattle.command_words.specs.declared.command.Command.TheVariants.{Load}
use Rattle.wave_gen.specs.Load.{load_text}
use Rattle.due_parts.specs.declared.report.Report.TheVariants.{Summary}
use Rattle.due_parts.specs.declared.telling.Telling.TheVariants.{Reports}
use Rattle.due_parts.specs.Answers.{Only}
use Rattle.due_parts.specs.Scripts.{IsDueScripted, IsDueSized}
use Rattle.due_parts.proofs.DueLemmas.{sized_fine, sized_long}
use Rattle.due_answer.specs.declared.task.Engine.TheVariants.{Workers}
use Rattle.due_answer.specs.Due.{IsDue}
use Rattle.due_answer.specs.inner.Ready.{AreReady}
use Rattle.due_answer.proofs.FoundLemmas.{reported_found}
use Rattle.due_answer.proofs.preparing.prepared_load.Goals as goal

pub returns-then-len-gt-INPUT_BYTES : goal.returns-then-len-gt-INPUT_BYTES
unfolding IsDue
returns-then-len-gt-INPUT_BYTES c bytes =
    let load = load_text c.args.n in
    let long : INPUT_BYTES < length load = (let e = ap length c.in_ok-load.ensures in omega (arith, e, c.len.ensures, c.if-len-gt-INPUT_BYTES)) in
    subst (Only (IsDueSized INPUT_BYTES (IsDueScripted (Reports Summary)) load)) (sym c.in_ok-too_large.ensures) (sized_long INPUT_BYTES (IsDueScripted (Reports Summary)) load long)

pub returns : goal.returns
unfolding IsDue
returns c bytes =
    let load = load_text c.args.n in
    let small : length load ≤ INPUT_BYTES = (let e = ap length c.in_ok-load.ensures in omega (arith, e, c.len.ensures, c.if-len-gt-INPUT_BYTES)) in
    reported_found (Load c.args.n c.args.crew) bytes load Summary (Workers c.args.crew.workers) c.ready.result refl
    (λ due o. sized_fine INPUT_BYTES (IsDueScripted (Reports Summary)) load due small o)
    (subst (λ text. AreReady (Reports Summary) (Workers c.args.crew.workers) text c.ready.result) (c.as_slice.ensures ∙ c.in_ok-load.ensures) c.ready.ensures)

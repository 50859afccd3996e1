-- Calls run by the code of a service do what the service says; and so do scripts.
use Rattle.std.proofs.Common.{◌≡◌, ◌≤◌, ◌-◌, ◌^◌, ◌∙◌, [], length, sym, ap, subst, arith}
use Rattle.std.specs.Prelude.{is_none, unwrap_or}
use Rattle.wave_base.specs.declared.call.Call.{Call}
use Rattle.wave_base.specs.declared.outcome.EventResult.{EventResult}
use Rattle.wave_base.specs.declared.script.Script.{Script}
use Rattle.wave_base.specs.declared.start.Start.{Start}
use Rattle.wave_base.specs.Fold.{Progress, next_job}
use Rattle.wave_base.specs.Scripts.{IsScript}
use Rattle.wave_base.specs.Starts.{IsStart}
use Rattle.wave_base.specs.Tree.{Tree}
use Rattle.resolved_service.specs.declared.service.Resolved.{Resolved}
use Rattle.resolved_service.specs.Jobs.{call_meaning}
use Rattle.wave_base.specs.declared.script.Line.{Line}
use Rattle.script_fold.specs.Lines.{most_jobs}
use Rattle.script_fold.specs.Runs.{after_jobs, finished_of, whole_run}
use Rattle.script_fold.proofs.FoldLemmas.{IsGood, good_after, room_after}
use Rattle.service_code.specs.declared.program.Program.{Program}
use Rattle.service_verify.specs.Tours.{code_tour}
use Rattle.code_scheme.specs.Correct.{Means}
use Rattle.wave_meaning.specs.Meaning.{call_ran, results_at, IsWholeAt}
use Rattle.code_actor.specs.CodeActors.{Fields, no_result}
use Rattle.code_runner.specs.Coded.{IsCode, IsTree, IsJob}
use Rattle.code_runner.proofs.Meant.{code_means}
use Rattle.code_meaning.specs.inner.Owing.{code_owes}
use Rattle.plan_actors.specs.Calls.{code_ran}
use Rattle.plan_actors.proofs.Folding.{most_over, scripts_alike, whole_at}

module _ (service : Resolved) (program : Program) (code : IsCode service program) where
  pub means : (tree : Tree Fields) (call : Call) → IsTree program.shape tree → IsJob program call → Means (code_tour program call tree) (call_meaning service tree call)
  means tree call is job = code_means service program code tree call is job

  pub calls_same : (tree : Tree Fields) (call : Call) → IsTree program.shape tree → IsJob program call → code_ran program tree call ≡ call_ran service tree call
  calls_same tree call is job =
      let m : Means (code_tour program call tree) (call_meaning service tree call) = means tree call is job in
      let result : unwrap_or (code_tour program call tree).result no_result ≡ (call_meaning service tree call).ran.result = ap (λ o. unwrap_or o no_result) m.result in
      λ i. record { tree = m.tree i; result = result i; entered = m.entered i }

  pub plan_means : (start : Start) (script : Script) → IsStart program.shape script.hosts start → IsScript program.shape script → finished_of (code_ran program) program.shape start script ≡ results_at program.shape service start script
  plan_means start script begins fits = scripts_alike program.shape (code_ran program) (call_ran service) (IsTree program.shape) (IsJob program) (code_owes service program code) calls_same start script fits begins

  module _ (start : Start) (script : Script) (begins : IsStart program.shape script.hosts start) (fits : IsScript program.shape script) where
    abbrev most : Progress Fields EventResult Line
    most = after_jobs (call_ran service) program.shape start script (most_jobs script.batches)

    whole : whole_run (call_ran service) program.shape start script ≡ most
    whole = whole_at program.shape (call_ran service) (IsTree program.shape) (IsJob program) (code_owes service program code) start script fits begins

    -- the fold is over
    pub plan_ends : IsWholeAt program.shape service start script
    plan_ends = ap (λ (w : Progress Fields EventResult Line). is_none (next_job w.head)) whole
        ∙ ap is_none (most_over program.shape (call_ran service) (IsTree program.shape) (IsJob program) (code_owes service program code) start script fits begins)

    -- there is a ticket for each result
    pub plan_few : length (results_at program.shape service start script).results ≤ 2 ^ 32 - 1
    plan_few =
        let good : IsGood program.shape (call_ran service) (IsTree program.shape) (IsJob program) (code_owes service program code) start script most =
        good_after program.shape (call_ran service) (IsTree program.shape) (IsJob program) (code_owes service program code) start script fits begins (most_jobs script.batches) in
        let room = room_after program.shape (call_ran service) (IsTree program.shape) (IsJob program) (code_owes service program code) start script fits begins most good [] (omega arith) in
        let within = good.within in
        let results = good.results in
        let some = begins.first_next in
        subst (λ (w : Progress Fields EventResult Line). length w.results ≤ 2 ^ 32 - 1) (sym whole) (omega (arith, room, within, results, some))

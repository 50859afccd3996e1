-- What is known of the scripts of a service with its code, one run behind the other from its first Start.
use Rattle.std.proofs.Common.{◌≡◌, ◌≤◌, ℕ, length, sym, ◌∙◌}
use Rattle.wave_base.specs.declared.script.Script.{Script}
use Rattle.wave_base.specs.declared.start.Start.{Start}
use Rattle.wave_base.specs.Scripts.{IsScript}
use Rattle.wave_base.specs.Starts.{IsStart, first_start, start_tree}
use Rattle.context_tree.proofs.FitLemmas as trees
use Rattle.resolved_service.specs.declared.service.Resolved.{Resolved}
use Rattle.script_fold.specs.Lines.{most_jobs}
use Rattle.script_fold.specs.Runs.{whole_run, IsFew}
use Rattle.script_fold.proofs.StartLemmas.{first_fits}
use Rattle.service_code.specs.declared.program.Program.{Program}
use Rattle.wave_meaning.specs.Meaning.{call_ran, results_at}
use Rattle.code_runner.specs.Coded.{IsCode, IsTree, IsJob}
use Rattle.code_meaning.specs.inner.Owing.{code_owes}
use Rattle.fold_laws.specs.Cuts.{both, start_behind, Comes, IsCut}
use Rattle.fold_laws.specs.Growth.{StaysFew}
use Rattle.fold_laws.proofs.Cutting.{comes, cut, more_comes, more_few}
use Rattle.fold_laws.proofs.Growing.{stays_few}
use Rattle.fold_laws.proofs.Walk.{sane_after}
use Rattle.code_meaning.proofs.Cutting.{grows, keeps}

module _ (service : Resolved) (program : Program) (code : IsCode service program) where
  abbrev first : Start
  first = first_start program.shape

  pub begins : (hosts : ℕ) → 1 ≤ hosts → IsStart program.shape hosts first
  begins hosts some = first_fits program.shape hosts (trees.first_fits program.shape code.typed.shape_is) some

  pub first_comes : (a : Script) → IsScript program.shape a → IsFew (start_behind (call_ran service) program.shape first a) → Comes (call_ran service) program.shape first a
  first_comes a s few = comes program.shape (call_ran service) (IsTree program.shape) (IsJob program) (code_owes service program code) (keeps service program code) first a s (begins a.hosts s.some_host) few

  pub first_few : (a : Script) → IsScript program.shape a → StaysFew first a.batches (results_at program.shape service first a)
  first_few a s = stays_few program.shape (call_ran service) (IsTree program.shape) (IsJob program) (code_owes service program code) (grows service program code) first a s (begins a.hosts s.some_host)

  module _ (a b : Script) (known : Comes (call_ran service) program.shape first a) (s : IsScript program.shape b) (hosts : a.hosts ≡ b.hosts) where
    pub is_cut : IsCut (call_ran service) program.shape first a b
    is_cut = cut program.shape (call_ran service) (IsTree program.shape) (IsJob program) (code_owes service program code) (keeps service program code) first a b known s hosts

    pub both_come : IsFew (start_behind (call_ran service) program.shape first (both a b)) → Comes (call_ran service) program.shape first (both a b)
    both_come few = more_comes program.shape (call_ran service) (IsTree program.shape) (IsJob program) (code_owes service program code) (keeps service program code) first a b known s hosts few

    pub both_few : StaysFew first a.batches (results_at program.shape service first a) → StaysFew first (both a b).batches (results_at program.shape service first (both a b))
    both_few few = more_few program.shape (call_ran service) (IsTree program.shape) (IsJob program) (code_owes service program code) (keeps service program code) first a b known s hosts (grows service program code) few

  -- each job has a result, and enters some contexts
  pub entered_each : (start : Start) (b : Script) → IsScript program.shape b → length (whole_run (call_ran service) program.shape start b).entered ≡ length (whole_run (call_ran service) program.shape start b).results
  unfolding whole_run
  entered_each start b s =
      let sane = sane_after (call_ran service) start.next.0 b.batches (start_tree program.shape start) s.full (most_jobs b.batches) in
      sane.entered ∙ sym sane.results

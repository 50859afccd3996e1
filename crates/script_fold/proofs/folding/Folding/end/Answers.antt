use Rattle.std.proofs.Common.{◌≡◌, List, map, ap, sym, subst, ◌∙◌}
use Rattle.std.specs.List.Sorted.{IsStrictlySortedBy}
use Rattle.wave_base.specs.declared.finished.Finished.{Finished}
use Rattle.wave_base.specs.declared.path.Path.{Path}
use Rattle.wave_base.specs.declared.value.Value.{Value}
use Rattle.wave_base.specs.Paths.{path_cmp}
use Rattle.wave_base.specs.Tree.{Tree, shots}
use Rattle.context_tree.proofs.OrderLemmas.{shown_in_order}
use Rattle.resolved_service.specs.Jobs.{shot_of}
use Rattle.script_fold.specs.Runs.{after_jobs, hosts_after, finished_by, finished_of, ticket_of}
use Rattle.script_fold.proofs.FoldLemmas.{whole_is}
use Rattle.script_fold.proofs.PlaceLemmas.{in_order, places_shown, loads_shown}
use Rattle.script_fold.proofs.StepLemmas.{tickets_again, shots_again}
use Rattle.script_fold.proofs.folding.Folding.end.Goals as goal

pub returns : goal.returns
returns c =
    λ meaning shape start script e.
    let w = after_jobs meaning shape start script e.count in
    let whole : finished_by start script w ≡ finished_of meaning shape start script = ap (finished_by start script) (sym (whole_is meaning shape start script e.count e.few e.over)) in
    let ordered : IsStrictlySortedBy path_cmp (map (λ s. s.path) c.args.self.contexts.shots) = subst (IsStrictlySortedBy path_cmp) (sym (ap (λ (t : Tree (List Value)). t.paths) e.kept.tree)) e.ordered in
    record {
      shots = sym (shots_again c.args.self.contexts.shots) ∙ ap (map shot_of) (shown_in_order shape c.args.self.contexts.shots ordered ∙ ap shots e.kept.tree) ∙ ap (λ (f : Finished). f.shots) whole;
      places = places_shown (hosts_after start w) w.entered c.args.self.visits e.kept.visits ∙ ap (λ (f : Finished). f.places) whole;
      loads = loads_shown (hosts_after start w) w.entered c.args.self.visits e.kept.visits ∙ ap (λ (f : Finished). f.loads) whole;
      gave = record {
        results = c.from_vec.ensures ∙ e.kept.results ∙ ap (λ (f : Finished). f.results) whole;
        made = c.from_vec-2.ensures ∙ sym (tickets_again c.args.self.made.items) ∙ ap (map (map ticket_of)) e.kept.made_is ∙ ap (λ (f : Finished). f.made) whole;
        names = c.from_vec-3.ensures ∙ e.kept.names ∙ ap (λ (f : Finished). f.names) whole;
      };
      ordered = in_order (hosts_after start w) w.entered c.args.self.visits e.kept.visits;
    }

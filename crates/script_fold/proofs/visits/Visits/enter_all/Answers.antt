use Rattle.std.proofs.Common.{◌≡◌, ◌+◌, ℕ, List, [], ◌∷◌, ◌++◌, take, ap, sym, subst, ◌∙◌}
use Rattle.std.proofs.lemmas.List.{take_more}
use Rattle.wave_base.specs.declared.path.Path.{Path}
use Rattle.wave_base.specs.Places.{with_contexts}
use Rattle.wave_base.specs.Tree.{Tree}
use Rattle.script_fold.specs.inner.Visiting.{IsVisited}
use Rattle.script_fold.proofs.VisitLemmas.{contexts_push}
use Rattle.script_fold.proofs.visits.Visits.enter_all.Goals as goal

pub enter-requires : goal.enter-requires
enter-requires c = (
  with_contexts c.requires.0 (take c.loop-path.path-index c.args.paths.now),
  c.requires.1,
  take c.loop-path.path-index c.args.paths.now,
  c.requires.2,
  c.loop-path.invariant c.requires.0 c.requires.1 c.requires.2 c.requires.3,
)

pub loop-path-preserved : goal.loop-path-preserved
loop-path-preserved c =
    λ hosts earlier at h.
    let front = take c.loop-path.path-index c.args.paths.now in
    let more : take (c.loop-path.path-index + 1) c.args.paths.now ≡ front ++ c.path-item.result ∷ [] = take_more c.args.paths.now c.loop-path.path-index c.path-item.result c.loop-path-test.true ∙ ap (λ p. front ++ p ∷ []) (sym c.path-item.is) in
    subst (λ (ps : List Path). IsVisited (with_contexts hosts ps) earlier ps c.enter.new.self) (sym more)
    (subst (λ (t : Tree ℕ). IsVisited t earlier (front ++ c.path-item.result ∷ []) c.enter.new.self) (sym (contexts_push hosts front c.path-item.result))
    (c.in_ok-enter.ensures (with_contexts hosts front) earlier front at (c.loop-path.invariant hosts earlier at h)))

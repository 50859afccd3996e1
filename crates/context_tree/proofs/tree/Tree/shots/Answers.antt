use Rattle.std.proofs.Common.{◌≡◌, ◌∙◌, [], List, map, ap, sym, subst, true}
use Rattle.std.specs.List.{list_any}
use Rattle.wave_base.specs.declared.path.Path.{Path}
use Rattle.wave_base.specs.declared.shape.Shape.{Shape}
use Rattle.wave_base.specs.Paths.{path_eq}
use Rattle.wave_base.specs.Starts.{shown_fields}
use Rattle.context_tree.specs.Contexts.{as_pair, paths_of}
use Rattle.context_tree.proofs.OrderLemmas.{any_at, paired, pairs_tell, shown_all, shown_in_order, shown_more}
use Rattle.context_tree.proofs.tree.Tree.shots.Goals as goal

pub loop-path-init : goal.loop-path-init
loop-path-init c = λ shape. ap (map as_pair) c.new-shots.ensures.items

pub loop-path-preserved : goal.loop-path-preserved
loop-path-preserved c =
    λ shape. ap (map as_pair) c.in_ok-push.ensures.items
    ∙ shown_more (shown_fields shape c.args.self.now.shots) c.deref-path-items.result.now (paths_of c.args.self.now) (c.deref-path-items.ensures.value ∙ c.in_ok-paths.ensures.paths) c.loop-path.path-index c.path-item.result c.loop-path.shots.items c.in_ok-shot.field-0 c.loop-path-test.true c.path-item.is (c.loop-path.invariant shape) c.in_ok-shot.ensures.path (c.in_ok-shot.ensures.fields shape)

pub shot-requires : goal.shot-requires
shot-requires c =
    subst (λ (ps : List Path). list_any (path_eq c.path-item.result) ps ≡ true) (c.deref-path-items.ensures.value ∙ c.in_ok-paths.ensures.paths)
    (any_at c.deref-path-items.result.now c.loop-path.path-index c.path-item.result c.loop-path-test.true c.path-item.is)

whole : (c : goal.After-drop-paths-2) (shape : Shape) → map as_pair c.from_vec.result ≡ map (paired (shown_fields shape c.args.self.now.shots)) (paths_of c.args.self.now)
whole c shape =
    ap (map as_pair) c.from_vec.ensures
    ∙ shown_all (shown_fields shape c.args.self.now.shots) c.deref-path-items.result.now (paths_of c.args.self.now) (c.deref-path-items.ensures.value ∙ c.in_ok-paths.ensures.paths) c.loop-path.path-index c.loop-path.shots.items c.loop-path-test.false (c.loop-path.invariant shape)

abbrev no_classes : Shape
no_classes = record { classes = []; events = [] }

pub returns-clause-shots : goal.returns-clause-shots
returns-clause-shots c = pairs_tell c.from_vec.result c.args.self.now.shots (whole c no_classes ∙ sym (shown_in_order no_classes c.args.self.now.shots c.in_ok-paths.ensures.ordered))

pub returns-clause-tree : goal.returns-clause-tree
returns-clause-tree c = whole c

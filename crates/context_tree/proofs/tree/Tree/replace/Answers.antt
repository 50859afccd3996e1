use Rattle.std.proofs.Common.{◌≡◌, subst, sym, ap, ◌∙◌, Some, slice_get, slice_set, IsSome, is_some}
use Rattle.std.specs.Map.{lookup}
use Rattle.wave_base.specs.declared.record.Record.{Record}
use Rattle.wave_base.specs.Paths.{path_eq}
use Rattle.wave_base.specs.Starts.{shown_fields}
use Rattle.wave_base.specs.Tree.{put}
use Rattle.context_tree.specs.Contexts.{Contexts, HasField, contexts_of, tree_of, with_field}
use Rattle.context_tree.proofs.KeptLemmas.{shown_record, has_field, no_field, tree_changed}
use Rattle.context_tree.proofs.tree.Tree.replace.Goals as goal

pub set-requires : goal.set-requires
set-requires c =
    has_field c.self.inside.contexts.entries c.args.path.now c.in-Some.record.now (sym c.in-Some.ensures.value) c.args.field (subst (λ (t : Contexts). HasField t c.args.path.now c.args.field) (sym c.self.view_is) c.requires)

pub unreachable-requires : goal.unreachable-requires
unreachable-requires c =
    no_field c.self.inside.contexts.entries c.args.path.now c.args.field (sym c.in-None.ensures.value) (subst (λ (t : Contexts). HasField t c.args.path.now c.args.field) (sym c.self.view_is) c.requires)

pub returns-clause-before : goal.returns-clause-before
returns-clause-before c =
    λ shape. subst (λ (t : Contexts). slice_get (shown_fields shape t.shots c.args.path.now) c.args.field ≡ Some c.set.result) c.self.view_is
    (ap (λ fs. slice_get fs c.args.field) (shown_record c.self.inside.contexts.entries c.args.path.now c.in-Some.record.now (sym c.in-Some.ensures.value) shape) ∙ c.set.ensures.before)

pub returns-clause-set : goal.returns-clause-set
returns-clause-set c =
    λ shape.
    let es = c.self.inside.contexts.entries in
    let w : Record = record { fields = c.set.new.self; children = c.in-Some.record.now.children } in
    let written = c.get_mut.follows.holds w in
    let here : IsSome (lookup (path_eq c.args.path.now) es) = ap is_some (sym c.in-Some.ensures.value) in
    let set : c.set.new.self ≡ slice_set (shown_fields shape (contexts_of es).shots c.args.path.now) c.args.field c.args.value =
    c.set.ensures.put ∙ ap (λ fs. slice_set fs c.args.field c.args.value) (sym (shown_record es c.args.path.now c.in-Some.record.now (sym c.in-Some.ensures.value) shape)) in
    tree_changed shape es (c.get_mut.follows.lender w).entries c.args.path.now w (written.3 here).0 here
    ∙ ap (put (tree_of shape (contexts_of es)) c.args.path.now) set
    ∙ ap (λ t. with_field (tree_of shape t) c.args.path.now c.args.field c.args.value) c.self.view_is

pub returns-clause-joined : goal.returns-clause-joined
returns-clause-joined c =
    let w : Record = record { fields = c.set.new.self; children = c.in-Some.record.now.children } in
    (c.get_mut.follows.holds w).1 ∙ ap (λ (t : Contexts). t.joined) c.self.view_is

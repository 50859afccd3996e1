use Rattle.std.proofs.Common.{◌≡◌, subst, sym, ap, ◌∙◌, true, IsSome, is_some}
use Rattle.std.specs.Map.{lookup}
use Rattle.wave_base.specs.declared.record.Record.{Record}
use Rattle.wave_base.specs.Paths.{path_eq}
use Rattle.wave_base.specs.Starts.{shown_fields}
use Rattle.wave_base.specs.Tree.{put}
use Rattle.context_tree.specs.Contexts.{Contexts, contexts_of, tree_of, is_there}
use Rattle.context_tree.proofs.KeptLemmas.{not_there, shown_record, tree_changed}
use Rattle.context_tree.proofs.tree.Tree.exchange.Goals as goal

pub unreachable-requires : goal.unreachable-requires
unreachable-requires c =
    not_there c.self.inside.contexts.entries c.args.path.now (sym c.in-None.ensures.value) (subst (λ (t : Contexts). is_there t c.args.path.now ≡ true) (sym c.self.view_is) c.requires)

pub returns-clause-before : goal.returns-clause-before
returns-clause-before c =
    λ shape. subst (λ (t : Contexts). shown_fields shape t.shots c.args.path.now ≡ c.replace.result) c.self.view_is
    (shown_record c.self.inside.contexts.entries c.args.path.now c.in-Some.record.now (sym c.in-Some.ensures.value) shape ∙ sym c.replace.ensures.value)

pub returns-clause-put : goal.returns-clause-put
returns-clause-put c =
    λ shape.
    let es = c.self.inside.contexts.entries in
    let w : Record = record { fields = c.replace.new.dest; children = c.in-Some.record.now.children } in
    let written = c.get_mut.follows.holds w in
    let here : IsSome (lookup (path_eq c.args.path.now) es) = ap is_some (sym c.in-Some.ensures.value) in
    tree_changed shape es (c.get_mut.follows.lender w).entries c.args.path.now w (written.3 here).0 here
    ∙ ap (put (tree_of shape (contexts_of es)) c.args.path.now) c.replace.ensures.after
    ∙ ap (λ t. put (tree_of shape t) c.args.path.now c.args.fields) c.self.view_is

pub returns-clause-joined : goal.returns-clause-joined
returns-clause-joined c =
    let w : Record = record { fields = c.replace.new.dest; children = c.in-Some.record.now.children } in
    (c.get_mut.follows.holds w).1 ∙ ap (λ (t : Contexts). t.joined) c.self.view_is

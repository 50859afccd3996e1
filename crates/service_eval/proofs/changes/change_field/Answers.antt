use Rattle.std.proofs.Common.{◌≡◌, List, get_or, slice_set, refl, sym, ap, subst, ◌∙◌}
use mathlib.Core.Bool.{true≢false}
use Rattle.context_tree.specs.Contexts.{tree_of as shown, with_field, with_fields}
use Rattle.wave_base.specs.declared.value.Value.{Value}
use Rattle.wave_base.specs.Tree.{put}
use Rattle.resolved_service.specs.World.{nothing, read_field}
use Rattle.service_eval.specs.declared.work.Variable.TheVariants as variable
use Rattle.service_eval.specs.inner.Changes.{changing, edited_value}
use Rattle.service_eval.specs.inner.Machines.{Mach, in_state}
use Rattle.service_eval.specs.inner.Turns.{mach, Alters}
use Rattle.service_eval.proofs.OnceLemmas.{field_does}
use Rattle.service_eval.proofs.changes.change_field.Goals as goal

pub unreachable-requires : goal.unreachable-requires
unreachable-requires c = absurd (true≢false (sym c.requires.here ∙ c.in-None.ensures.none.0 refl))

pub returns-clause-does : goal.returns-clause-does
unfolding read_field
returns-clause-does c =
    let shape = c.args.code.shape.now in
    let M : Mach = mach c.args.code c.args.contexts.now c.args.m.now in
    let T = M.state.world.tree in
    let f = c.args.f in
    let edit = c.args.edit.now in
    let changed = c.apply_at-done.ensures.revises in
    let taken = c.into_vec-fields.ensures ∙ c.replace-taken.ensures.value ∙ c.in-Some.ensures.some shape in
    let before : Value = read_field f M.path M.state.world in
    let alters : Alters (edited_value edit before) c.args.at before c.apply_at-done.result changed.value =
    subst (λ (vs : List Value). Alters (edited_value edit (get_or vs f nothing)) c.args.at (get_or vs f nothing) c.apply_at-done.result changed.value) taken changed.alters in
    let after = with_fields c.args.contexts.now M.path c.from_vec.result in
    let tree : shown shape after ≡ with_field T M.path f changed.value =
    c.record_mut_near.ensures.put shape c.from_vec.result c.requires.here
    ∙ ap (put T M.path) (c.from_vec.ensures ∙ changed.list ∙ ap (λ (vs : List Value). slice_set vs f changed.value) taken) in
    field_does c.args.code c.args.contexts.now c.args.m.now c.args.m.now (changing M.path c.args.at (variable.Field f) edit) c.requires c.args.at (edited_value edit before) after f refl changed.value c.apply_at-done.result alters
    (ap (λ t. in_state (record { locals = M.state.locals; world = record M.state.world { tree = t } }) M) tree)

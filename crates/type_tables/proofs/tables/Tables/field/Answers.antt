use Rattle.std.proofs.Common.{◌≡◌, ℕ, List, get_or, map, Some, sym, ap, ◌∙◌}
use Rattle.std.specs.Option.{option_map}
use Rattle.wave_base.specs.declared.shape.FieldInfo.{FieldInfo}
use Rattle.wave_base.specs.declared.value.Kind.{Kind}
use Rattle.wave_base.specs.declared.value.Kind.TheVariants.{Int}
use Rattle.wave_base.specs.Names.{same_bytes}
use Rattle.wave_base.specs.Shapes.{declared_fields}
use Rattle.type_rules.specs.Known.{field_kind}
use Rattle.type_tables.proofs.Walks.{found_at, on_at, not_found_at, value_at}
use Rattle.type_tables.proofs.tables.Tables.field.Goals as goal

pub returns-then-eq-clause-found : goal.returns-then-eq-clause-found
returns-then-eq-clause-found c =
    let fields = c.fields-field-items.ensures in
    let at = found_at (λ f. same_bytes f.name c.args.name.now) _ (declared_fields c.args.self.now.shape c.args.class) c.loop-i.i c.field-item.result fields c.loop-i.invariant c.loop-i-test.true c.field-item.is (sym c.eq.ensures ∙ c.if-eq.true) in
    let kind : field_kind c.args.self.now c.args.class c.loop-i.i ≡ c.field-item.result.kind = ap (λ fs. field_at fs c.loop-i.i) (sym fields) ∙ value_at (λ f. f.kind) _ c.loop-i.i c.field-item.result Int c.loop-i-test.true c.field-item.is in
    ap (λ k. Some (c.loop-i.i, k)) (sym kind) ∙ ap (option_map (λ f. (f, field_kind c.args.self.now c.args.class f))) at
  where
    field_at : List FieldInfo → ℕ → Kind
    field_at fs i = get_or (map (λ f. f.kind) fs) i Int

pub loop-i-preserved : goal.loop-i-preserved
loop-i-preserved c = on_at (λ f. same_bytes f.name c.args.name.now) _ c.loop-i.i c.field-item.result c.loop-i.invariant c.loop-i-test.true c.field-item.is (sym c.eq.ensures ∙ c.if-eq.false)

pub returns-clause-found : goal.returns-clause-found
returns-clause-found c =
    ap (option_map (λ f. (f, field_kind c.args.self.now c.args.class f)))
    (not_found_at (λ f. same_bytes f.name c.args.name.now) _ _ c.loop-i.i c.fields-field-items.ensures c.loop-i.invariant c.loop-i-test.false)

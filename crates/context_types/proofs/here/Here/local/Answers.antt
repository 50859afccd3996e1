use Rattle.std.proofs.Common.{sym, ◌∙◌}
use Rattle.wave_base.specs.Names.{same_bytes}
use Rattle.type_tables.proofs.Walks.{found, on, not_found}
use Rattle.context_types.proofs.here.Here.local.Goals as goal

pub returns-then-eq : goal.returns-then-eq
returns-then-eq c =
    found (λ x. same_bytes x.name c.args.name.now) _ _ c.loop-local.local-index c.local-item.result c.deref-local-items.ensures.value c.loop-local.invariant c.loop-local-test.true c.local-item.is (sym c.eq.ensures ∙ c.if-eq.true)

pub loop-local-preserved : goal.loop-local-preserved
loop-local-preserved c =
    on (λ x. same_bytes x.name c.args.name.now) _ c.loop-local.local-index c.local-item.result c.loop-local.invariant c.loop-local-test.true c.local-item.is (sym c.eq.ensures ∙ c.if-eq.false)

pub returns : goal.returns
returns c =
    not_found (λ x. same_bytes x.name c.args.name.now) _ _ c.loop-local.local-index c.deref-local-items.ensures.value c.loop-local.invariant c.loop-local-test.false

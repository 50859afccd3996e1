use Rattle.std.proofs.Common.{inl, inr, refl, sym, ◌∙◌}
use Rattle.std.proofs.lemmas.Bool.{false≢true}
use Rattle.checkpoint_store.proofs.step.fault_of.Goals as goal

pub returns-in_default : goal.returns-in_default
returns-in_default c = inl (c.in_default.ensures.none, refl)

pub returns-then-looks : goal.returns-then-looks
returns-then-looks c = inr (c.in-Some.line.now, _, c.in-Some.ensures.some, inr (c.in_ok-looks.ensures.0 c.if-looks.true, c.other.ensures))

pub returns-else-looks : goal.returns-else-looks
returns-else-looks c = inr (c.in-Some.line.now, _, c.in-Some.ensures.some, inl (λ m. false≢true (sym c.if-looks.false ∙ c.in_ok-looks.ensures.1 m), refl))

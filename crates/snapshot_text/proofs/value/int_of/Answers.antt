use Rattle.std.proofs.Common.{w64, sym, subst}
use Rattle.std.proofs.lemmas.Int.{to_z-of_z}
use Rattle.wave_base.specs.declared.value.Kind.TheVariants as k
use Rattle.wave_base.specs.declared.value.Value.TheVariants as value
use Rattle.snapshot_text.specs.inner.Guesses.{IsSeen}
use Rattle.snapshot_text.proofs.ValueLemmas.{int_seen, int_unseen}
use Rattle.snapshot_text.proofs.value.int_of.Goals as goal

pub returns-in-Some-clause-some : goal.returns-in-Some-clause-some
returns-in-Some-clause-some c =
    subst (λ z. IsSeen k.Int c.args.text.now (value.Int z) c.parts_at.result.1.now) (sym (to_z-of_z w64 c.in-Some.number c.in-Some.ensures.fits))
    (int_seen c.args.text.now c.parts_at.result.0.now c.parts_at.result.1.now c.parts_at.ensures.parts c.in-Some.number c.in-Some.ensures.only c.in-Some.ensures.fits)

pub returns-in-None-clause-none : goal.returns-in-None-clause-none
returns-in-None-clause-none c = int_unseen c.args.text.now c.parts_at.result.0.now c.parts_at.result.1.now c.parts_at.ensures.parts c.in-None.ensures.only

use Rattle.std.proofs.Common.{◌≡◌, ◌+◌, ◌-◌, ◌<◌, ◌≤◌, ℕ, Some, length, take, refl, sym, subst, arith}
use Rattle.event_cells.specs.declared.outbox.Envelope.{Envelope}
use Rattle.std.specs.Prelude.{slice_get}
use Rattle.std.specs.List.{AllByRecursion}
use Rattle.std.proofs.lemmas.Option.{slice_get_read}
use Rattle.wave_machine.proofs.Renewed.{up_to_it}
use Rattle.wave_machine.proofs.renewing.first_above.Goals as goal

pub returns-then-mails-first-clause-below : goal.returns-then-mails-first-clause-below
returns-then-mails-first-clause-below c = λ sorted.
    let ms = c.args.mails.now in
    let i = c.loop-first.first - 1 in
    let item = c.index-mails-first.result in
    let within : i < length ms = omega (arith, c.loop-first-test.true, c.loop-first.invariant.within) in
    let at : slice_get ms i ≡ Some item = slice_get_read ms _ i item refl within c.index-mails-first.is in
    let here : i + 1 ≡ c.loop-first.first = omega (arith, c.loop-first-test.true) in
    subst (λ n. AllByRecursion (λ m. m.0 ≤ c.args.number) (take n ms)) here (up_to_it c.args.number ms i item at sorted (subst (λ (m : ℕ × Envelope). m.0 ≤ c.args.number) (sym c.index-mails-first.is) c.if-mails-first.true))

use Rattle.std.proofs.Common.{◌≡◌, ◌∙◌, ◌-◌, ◌+◌, ◌<◌, ◌||◌, ◌&&◌, ◌==◌, ℕ, true, length, map, sym, ap, arith}
use Rattle.std.specs.Prelude.{nat_lt}
use Rattle.std.proofs.lemmas.Bool.Decides.{nat_tests}
use Rattle.std.proofs.lemmas.List.{length-append, length-map}
use Rattle.wave_labels.specs.Labels.{act_of}
use Rattle.wave_states.specs.Labels.{Act, ticket_of}
use Rattle.wave_theory.specs.Listed.{kind_rank}
use Rattle.wave_machine.specs.inner.Index.{act_number, by_none, is_before, under}
use Rattle.wave_machine.proofs.Parting.{is_lower}
use Rattle.wave_machine.proofs.index.first_commit.Goals as goal

less : (a b : ℕ) → a < b → nat_lt a b ≡ true
less a b l = grind (arith, nat_tests)

comes_before : (a : Act) → nat_lt (kind_rank a) 9 ≡ true → under 9 0 0 a ≡ true
comes_before a e = ap (λ t. t || ((kind_rank a == 9) && is_before (ticket_of a) (act_number a) 0 0)) e

all_low : (n low high : ℕ) → n ≡ low + high → n - 1 < low → n ≡ low
all_low n low high e l = omega (arith, e, l)

-- where the last one is no Commit, all come before the Commits
pub returns-in-Some-clause-place : goal.returns-in-Some-clause-place
returns-in-Some-clause-place c = λ low high p.
    let index = c.args.index.now in
    let x = c.in-Some.last.now in
    let early : nat_lt (kind_rank (act_of x.act)) 9 ≡ true = ap (λ k. nat_lt k 9) (sym c.kind_rank.ensures) ∙ less c.kind_rank.result 9 c.if-kind_rank-lt-COMMIT.true in
    all_low (length index) (length low) (length high) (sym (length-map index by_none) ∙ ap length p.all ∙ length-append low high)
    (is_lower index 9 0 0 low high p (length index - 1) x (sym c.in-Some.ensures.value) (comes_before (act_of x.act) early))

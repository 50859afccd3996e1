use Rattle.std.proofs.Common.{◌+◌, ◌≤◌, length, sym, ap, subst, All, arith}
use Rattle.std.proofs.lemmas.Result.{err_from_is_err_and}
use Rattle.snapshot_text.specs.Shots.{IsShot}
use Rattle.checkpoint_store.proofs.ReadLemmas.{front_said, shots_said, tail_said, point_fits, point_said, part_low, moved_tail, moved_places}
use Rattle.checkpoint_store.proofs.read.read_checkpoint.Goals as goal

pub returns-in_err-numbers-clause-verdict : goal.returns-in_err-numbers-clause-verdict
returns-in_err-numbers-clause-verdict c =
    let p = err_from_is_err_and c.from_residual.result c.from_residual.ensures.1 in
    rw (p.1, p.2) (front_said c.args.shape.now c.requires.shape c.requires.names c.args.text.now c.in_err-numbers.field-0.0 c.in_err-numbers.ensures.err)

pub overflow_cast-before : goal.overflow_cast-before
overflow_cast-before c = omega (arith, c.len.ensures, c.requires.shape.few_classes)

pub overflow_add-before : goal.overflow_add-before
overflow_add-before c = omega (arith, c.len.ensures, c.requires.shape.few_classes)

pub read_shots-requires-clause-short : goal.read_shots-requires-clause-short
read_shots-requires-clause-short c =
    omega (arith, c.requires.short, part_low c.args.shape.now c.in_ok-numbers.numbers c.args.text.now c.in_ok-numbers.rest.now c.snapshot_parts.result.0.now c.in_ok-numbers.ensures.ok c.snapshot_parts.ensures.part)

pub read_shots-requires-clause-few : goal.read_shots-requires-clause-few
read_shots-requires-clause-few c = omega (arith, c.len.ensures, c.requires.shape.few_classes)

pub returns-in_err-shots-clause-verdict : goal.returns-in_err-shots-clause-verdict
returns-in_err-shots-clause-verdict c =
    let p = err_from_is_err_and c.from_residual-in_err-shots.result c.from_residual-in_err-shots.ensures.1 in
    rw (p.1, p.2)
    (shots_said c.args.shape.now c.requires.shape c.requires.names c.args.text.now c.in_ok-numbers.numbers c.in_ok-numbers.rest.now c.in_ok-numbers.ensures.ok c.snapshot_parts.result.0.now c.snapshot_parts.ensures.part (3 + c.len.result) (ap (λ n. 3 + n) c.len.ensures) c.in_err-shots.field-0.0 c.in_err-shots.ensures.err)

pub overflow_add-behind : goal.overflow_add-behind
overflow_add-behind c = omega (arith, c.len.ensures, c.requires.shape.few_classes)

pub overflow_cast-behind : goal.overflow_cast-behind
overflow_cast-behind c =
    omega (arith, c.requires.short, c.len-2.ensures, c.in_ok-shots.ensures.shorter, part_low c.args.shape.now c.in_ok-numbers.numbers c.args.text.now c.in_ok-numbers.rest.now c.snapshot_parts.result.0.now c.in_ok-numbers.ensures.ok c.snapshot_parts.ensures.part)

pub overflow_add-behind-2 : goal.overflow_add-behind-2
overflow_add-behind-2 c =
    omega (arith, c.len.ensures, c.requires.shape.few_classes, c.requires.short, c.len-2.ensures, c.in_ok-shots.ensures.shorter, part_low c.args.shape.now c.in_ok-numbers.numbers c.args.text.now c.in_ok-numbers.rest.now c.snapshot_parts.result.0.now c.in_ok-numbers.ensures.ok c.snapshot_parts.ensures.part)

pub read_tail-requires-clause-shots : goal.read_tail-requires-clause-shots
read_tail-requires-clause-shots c = subst (All (IsShot c.args.shape.now)) (sym c.as_slice.ensures) c.in_ok-shots.ensures.ok.0.shots_are.each

pub read_tail-requires-clause-few : goal.read_tail-requires-clause-few
read_tail-requires-clause-few c =
    omega (arith, ap length c.as_slice.ensures, c.len.ensures, c.requires.shape.few_classes, c.requires.short, c.len-2.ensures, c.in_ok-shots.ensures.shorter, part_low c.args.shape.now c.in_ok-numbers.numbers c.args.text.now c.in_ok-numbers.rest.now c.snapshot_parts.result.0.now c.in_ok-numbers.ensures.ok c.snapshot_parts.ensures.part)

pub returns-in_err-places-clause-verdict : goal.returns-in_err-places-clause-verdict
returns-in_err-places-clause-verdict c =
    let p = err_from_is_err_and c.from_residual-in_err-places.result c.from_residual-in_err-places.ensures.1 in
    rw (p.1, p.2)
    (tail_said c.args.shape.now c.requires.shape c.requires.names c.args.text.now c.in_ok-numbers.numbers c.in_ok-numbers.rest.now c.in_ok-numbers.ensures.ok c.snapshot_parts.result.0.now c.snapshot_parts.ensures.part c.in_ok-shots.shots c.in_ok-shots.ensures.ok c.snapshot_parts.result.1.now c.snapshot_parts.ensures.behind
    (3 + c.len.result + 1 + c.len-2.result) (λ i. 3 + c.len.ensures i + 1 + c.len-2.ensures i) c.in_err-places.field-0.0
    (moved_tail c.args.shape.now c.in_ok-numbers.numbers.hosts c.in_ok-shots.shots c.as_slice.result.now c.snapshot_parts.result.1.now (3 + c.len.result + 1 + c.len-2.result) c.in_err-places.field-0.0 c.as_slice.ensures c.in_err-places.ensures.err))

pub returns-clause-verdict : goal.returns-clause-verdict
returns-clause-verdict c =
    let few : length c.in_ok-shots.shots ≤ 1000000000 =
    omega (arith, c.requires.short, c.in_ok-shots.ensures.shorter, part_low c.args.shape.now c.in_ok-numbers.numbers c.args.text.now c.in_ok-numbers.rest.now c.snapshot_parts.result.0.now c.in_ok-numbers.ensures.ok c.snapshot_parts.ensures.part) in
    point_said c.args.shape.now c.requires.shape c.requires.names c.args.text.now c.in_ok-numbers.numbers c.in_ok-numbers.rest.now c.in_ok-numbers.ensures.ok c.snapshot_parts.result.0.now c.snapshot_parts.ensures.part c.in_ok-shots.shots c.in_ok-shots.ensures.ok c.snapshot_parts.result.1.now c.snapshot_parts.ensures.behind c.in_ok-places.places
    (moved_places c.args.shape.now c.in_ok-numbers.numbers.hosts c.in_ok-shots.shots c.as_slice.result.now c.in_ok-places.places c.snapshot_parts.result.1.now c.as_slice.ensures c.in_ok-places.ensures.ok) few

pub returns-clause-fits : goal.returns-clause-fits
returns-clause-fits c =
    let few : length c.in_ok-shots.shots ≤ 1000000000 =
    omega (arith, c.requires.short, c.in_ok-shots.ensures.shorter, part_low c.args.shape.now c.in_ok-numbers.numbers c.args.text.now c.in_ok-numbers.rest.now c.snapshot_parts.result.0.now c.in_ok-numbers.ensures.ok c.snapshot_parts.ensures.part) in
    point_fits c.args.shape.now c.requires.shape c.requires.names c.args.text.now c.in_ok-numbers.numbers c.in_ok-numbers.rest.now c.in_ok-numbers.ensures.ok c.snapshot_parts.result.0.now c.snapshot_parts.ensures.part c.in_ok-shots.shots c.in_ok-shots.ensures.ok c.snapshot_parts.result.1.now c.snapshot_parts.ensures.behind c.in_ok-places.places
    (moved_places c.args.shape.now c.in_ok-numbers.numbers.hosts c.in_ok-shots.shots c.as_slice.result.now c.in_ok-places.places c.snapshot_parts.result.1.now c.as_slice.ensures c.in_ok-places.ensures.ok) few

use Rattle.std.proofs.Common.{◌≡◌, ◌+◌, ◌<◌, ◌++◌, ◌∷◌, [], List, inr, length, length-append, sym, ap, subst, arith}
use Rattle.std.proofs.lemmas.Bool.Decides.{nat_tests}
use Rattle.wave_base.specs.declared.shot.Shot.{Shot}
use Rattle.path_text.proofs.StepLemmas.{is_nil}
use Rattle.snapshot_text.specs.declared.error.Fault.TheVariants as fault
use Rattle.snapshot_text.specs.declared.error.ShotError.TheVariants as error
use Rattle.snapshot_text.specs.inner.Tails.{IsNextLine, IsRefusal}
use Rattle.snapshot_text.proofs.TailLemmas.{AreReadTo, line_read, line_refused, open_stops, all_read}
use Rattle.snapshot_text.proofs.read.read_shots.Goals as goal

pub returns-in_default : goal.returns-in_default
returns-in_default c =
    let some : 0 < length c.loop-rest.rest.now = grind (arith, nat_tests) in
    let line : c.loop-rest.number + 1 ≡ length c.loop-rest.shots + 2 = omega (arith, c.loop-rest.invariant.number) in
    inr (
      c.loop-rest.shots,
      fault.Syntax,
      open_stops c.args.classes.now c.args.tail.now c.loop-rest.shots c.loop-rest.rest.now c.loop-rest.invariant.read (λ e. absurd (omega (arith, some, ap length e))) c.in_default.ensures.none,
      ap (λ n. error.Syntax n) line,
    )

pub returns-in-Err : goal.returns-in-Err
returns-in-Err c =
    let line : c.loop-rest.number + 1 ≡ length c.loop-rest.shots + 2 = omega (arith, c.loop-rest.invariant.number) in
    line_refused c.args.classes.now c.requires.names c.args.tail.now c.loop-rest.shots c.loop-rest.rest.now c.in-Some.line.now c.in-Some.after.now (c.loop-rest.number + 1) c.in-Err.error c.loop-rest.invariant.read c.in-Some.ensures.some line
    (subst (λ (ss : List Shot). IsRefusal c.args.classes.now ss c.in-Some.line.now (c.loop-rest.number + 1) c.in-Err.error) c.as_slice.ensures c.in-Err.ensures.err)

pub loop-rest-preserved : goal.loop-rest-preserved
loop-rest-preserved c =
    let next = subst (λ (ss : List Shot). IsNextLine c.args.classes.now ss c.in-Some.line.now c.in-Ok.shot) c.as_slice.ensures c.in-Ok.ensures.ok in
    let read = line_read c.args.classes.now c.requires.names c.args.tail.now c.loop-rest.shots c.loop-rest.rest.now c.in-Some.line.now c.in-Some.after.now c.in-Ok.shot c.loop-rest.invariant.read c.in-Some.ensures.some next in
    let added : c.add.new.self ≡ c.loop-rest.shots ++ c.in-Ok.shot ∷ [] = c.in_ok-add-in-Ok.ensures.ok in
    record {
      read = subst (λ (ss : List Shot). AreReadTo c.args.classes.now c.args.tail.now ss c.in-Some.after.now) (sym added) read;
      number = omega (arith, c.loop-rest.invariant.number, ap length added, length-append c.loop-rest.shots (c.in-Ok.shot ∷ []));
      short = omega (arith, c.loop-rest.invariant.short, ap length c.in-Some.ensures.some.spelled, length-append c.in-Some.line.now (10 ∷ c.in-Some.after.now));
    }

pub returns : goal.returns
returns c =
    let end : c.loop-rest.rest.now ≡ [] = is_nil c.loop-rest.rest.now c.loop-rest-test.ensures in
    all_read c.args.classes.now c.args.tail.now c.loop-rest.shots (subst (AreReadTo c.args.classes.now c.args.tail.now c.loop-rest.shots) end c.loop-rest.invariant.read)

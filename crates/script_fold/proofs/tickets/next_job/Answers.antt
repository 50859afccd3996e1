use Rattle.std.proofs.Common.{◌≡◌, ◌+◌, ◌<◌, length, List, All, sym, subst, ◌∙◌, arith}
use Rattle.wave_base.specs.declared.script.Line.{Line}
use Rattle.script_fold.proofs.HeadLemmas.{some_waits}
use Rattle.script_fold.proofs.tickets.next_job.Goals as goal

pub returns-then-not-is_left-clause-none : goal.returns-then-not-is_left-clause-none
returns-then-not-is_left-clause-none c = λ _ first done w s. c.is_left.ensures.over first done w s c.if-not-is_left.true

pub admit-job-requires : goal.admit-job-requires
admit-job-requires c =
    let ready = c.is_left.ensures.left c.requires.0 c.requires.1 c.requires.2 c.requires.3 c.if-not-is_left.false in
    some_waits (λ _. record { 0 = c.is_left.new.head.first + c.is_left.new.head.admitted }) c.is_left.new.head.waiting ready.waiting

pub returns-clause-some : goal.returns-clause-some
returns-clause-some c =
    λ first done w s.
    let ready = c.is_left.ensures.left first done w s c.if-not-is_left.false in
    record {
      first_is = c.admit-job.ensures.first ∙ ready.first_is;
      admitted = (let one : c.admit-job.new.self.admitted ≡ c.is_left.new.head.admitted + 1 = c.admit-job.ensures.counts.0 in omega (arith, one, ready.admitted));
      done_is = c.admit-job.ensures.counts.1 ∙ ready.done_is;
      head = c.admit-job.ensures.fold done ∙ ready.head;
      full = subst (All (λ (b : List Line). 0 < length b)) (sym c.admit-job.ensures.known.1) ready.full;
    }

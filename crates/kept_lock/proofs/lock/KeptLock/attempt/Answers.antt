use Rattle.std.proofs.Common.{◌≡◌, ◌∙◌, ap, sym, subst, refl, rules}
use Rattle.std.specs.Fn.{FnOnceReturnsAtMut}
use Rattle.kept_lock.specs.declared.view.Known.{Known}
use Rattle.kept_lock.specs.History.{Adds}
use Rattle.kept_lock.specs.Knowing.{Agrees, Accounts, pass_inside, left_at}
use Rattle.kept_lock.specs.Locks.{name_of, knowledge}
use Rattle.kept_lock.specs.Guards.{pass_in}
use Rattle.kept_lock.specs.Visits.{Meets}
use Rattle.kept_lock.proofs.Unchanged.{at_value}
use denote.MutBor.{at_last}
use Rattle.kept_lock.proofs.lock.KeptLock.attempt.Given as given
use Rattle.kept_lock.proofs.lock.KeptLock.attempt.Goals as goal

meets : (g : given.Over) (c : goal.After-guard-2-1 g) → Meets g.V.Kept.history g.V.Kept.owner g.V.Kept.stands (name_of c.args.self.now) (knowledge c.args.pass.now) c.get_mut.result.now
meets g c = let e = c.enter-guard.ensures in let is = c.get_mut.ensures.value in let y = c.get_mut.result.now in record {
  stands_for_name = at_value (λ z. g.V.Kept.stands z (name_of c.args.self.now)) _ y is e.stands;
  agrees = at_value (λ z. Agrees g.V.Kept.owner (knowledge c.args.pass.now) (g.V.Kept.history z)) _ y is e.agrees;
  accounts = at_value (λ z. Accounts g.V.Kept.owner (knowledge c.args.pass.now) (g.V.Kept.history z)) _ y is e.accounts;
}

entered_there : (g : given.Over) (c : goal.After-guard-2-1 g) → knowledge (pass_in c.enter-guard.result) ≡ pass_inside (knowledge c.args.pass.now) (g.V.Kept.history c.get_mut.result.now)
entered_there g c = at_value (λ z. knowledge (pass_in c.enter-guard.result) ≡ pass_inside (knowledge c.args.pass.now) (g.V.Kept.history z)) _ c.get_mut.result.now c.get_mut.ensures.value c.enter-guard.ensures.entered

did : (g : given.Over) (c : goal.After-guard-2-1 g) → FnOnceReturnsAtMut g.F.FnOnce c.args.work c.get_mut.result.now c.work-result.result c.work-result.new.arg2
did g c = record { shown = c.get_mut.result; shows = refl; left = at_last c.get_mut.result c.work-result.new.arg2; met = c.work-result.ensures; leaves = refl }

pub leave_as-requires-clause-stands : goal.leave_as-requires-clause-stands
leave_as-requires-clause-stands g c =
    subst (λ b. g.V.Kept.stands c.work-result.new.arg2 (name_of b.now)) (sym c.enter-guard.ensures.same_lock)
    (c.requires.keeps c.get_mut.result.now c.work-result.result c.work-result.new.arg2 (meets g c) (did g c)).0

pub leave_as-requires-clause-adds : goal.leave_as-requires-clause-adds
leave_as-requires-clause-adds g c = subst (λ (k : Known g.row.V-Entry.Denot). Adds g.V.Kept.owner k.number k.seen (g.V.Kept.history c.work-result.new.arg2)) (sym (entered_there g c))
    (c.requires.keeps c.get_mut.result.now c.work-result.result c.work-result.new.arg2 (meets g c) (did g c)).1

pub returns-clause-done : goal.returns-clause-done
returns-clause-done g c =
    let e = c.enter-guard.ensures in let is = c.get_mut.ensures.value in let y = c.get_mut.result.now in let k = knowledge c.args.pass.now in let z = c.work-result.new.arg2 in
    let inside = at_value (λ t. knowledge (pass_in c.enter-guard.result) ≡ pass_inside k (g.V.Kept.history t)) _ y is e.entered in (
      y,
      z,
      record {
        stands_for_name = at_value (λ t. g.V.Kept.stands t (name_of c.args.self.now)) _ y is e.stands;
        agrees = at_value (λ t. Agrees g.V.Kept.owner k (g.V.Kept.history t)) _ y is e.agrees;
        accounts = at_value (λ t. Accounts g.V.Kept.owner k (g.V.Kept.history t)) _ y is e.accounts;
      },
      record { shown = c.get_mut.result; shows = refl; left = at_last c.get_mut.result z; met = c.work-result.ensures; leaves = refl },
      (let left = c.leave_as.ensures.left ∙ ap (λ (t : Known g.row.V-Entry.Denot). left_at t (g.V.Kept.history z)) inside in search rules),
    )

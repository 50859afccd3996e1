use Rattle.std.proofs.Common.{◌≡◌, ◌∙◌, ap, refl, rules}
use Rattle.kept_lock.specs.declared.view.Known.{Known}
use Rattle.kept_lock.specs.Knowing.{Agrees, Accounts, pass_inside, left_at}
use Rattle.kept_lock.specs.Locks.{name_of, knowledge}
use Rattle.kept_lock.specs.Guards.{pass_in}
use Rattle.kept_lock.proofs.Unchanged.{at_value, left_as_entered}
use Rattle.kept_lock.proofs.lock.KeptLock.look.Goals as goal

pub returns-clause-seen : goal.returns-clause-seen
returns-clause-seen g c =
    let e = c.enter-guard.ensures in let is = c.get.ensures in let y = c.get.result.now in let k = knowledge c.args.pass.now in let h = g.V.Kept.history y in
    let inside = at_value (λ t. knowledge (pass_in c.enter-guard.result) ≡ pass_inside k (g.V.Kept.history t)) _ y is e.entered in
    let left = at_value (λ t. knowledge c.leave_unchanged.new.self.1.0 ≡ left_at (knowledge (pass_in c.enter-guard.result)) (g.V.Kept.history t)) _ y is c.leave_unchanged.ensures.left in (
      y,
      record {
        stands_for_name = at_value (λ t. g.V.Kept.stands t (name_of c.args.self.now)) _ y is e.stands;
        agrees = at_value (λ t. Agrees g.V.Kept.owner k (g.V.Kept.history t)) _ y is e.agrees;
        accounts = at_value (λ t. Accounts g.V.Kept.owner k (g.V.Kept.history t)) _ y is e.accounts;
      },
      (c.get.result, c.view-result.ensures, refl),
      (let same = left ∙ ap (λ (t : Known g.row.V-Entry.Denot). left_at t h) inside ∙ left_as_entered k h in search rules),
    )

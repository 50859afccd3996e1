use Rattle.std.proofs.Common.{◌≡◌, ◌≤◌, ap, sym, subst, ◌∙◌, [], Some, IfSome, arith}
use Rattle.std.specs.FinMap as table
use Rattle.wave_states.specs.Steps.{with_holders}
use Rattle.migration_core.proofs.Leaving.{come_here, removed_at, removed_apart, inserted_at, inserted_apart}
use Rattle.migration_core.proofs.moves.land.Goals as goal

-- the entry that is there then
there : (c : goal.After-forget) → table.get c.forget.new.self.store c.args.path ≡ Some c.free_all.new.self
there c = ap (λ m. table.get m c.args.path) (c.forget.ensures.store ∙ c.birth.ensures.store) ∙ inserted_at c.args.store.now.store c.args.path c.free_all.new.self

pub returns-clause-here : goal.returns-clause-here
returns-clause-here c = λ column host en h k.
    come_here c.forget.new.self c.args.path column host c.free_all.new.self (with_holders en []) (c.free_all.ensures.entry en k) (there c)
    (ap (λ m. table.get m c.args.path) c.forget.ensures.gone ∙ removed_at c.birth.new.self.gone c.args.path)

pub returns-clause-store : goal.returns-clause-store
returns-clause-store c = λ q h. ap (λ m. table.get m q) (c.forget.ensures.store ∙ c.birth.ensures.store) ∙ inserted_apart c.args.store.now.store c.args.path c.free_all.new.self q h

pub returns-clause-gone : goal.returns-clause-gone
returns-clause-gone c = λ q h. ap (λ m. table.get m q) c.forget.ensures.gone ∙ removed_apart c.birth.new.self.gone c.args.path q h ∙ ap (λ m. table.get m q) c.birth.ensures.gone

pub returns-clause-waiting_room : goal.returns-clause-waiting_room
returns-clause-waiting_room c =
    let room : c.args.entry.waiting.room ≤ c.free_all.new.self.waiting.room = omega (arith, c.free_all.ensures.waiting_room) in
    subst (λ o. IfSome o (λ e. c.args.entry.waiting.room ≤ e.waiting.room)) (sym (there c)) room

pub returns-clause-peeks_room : goal.returns-clause-peeks_room
returns-clause-peeks_room c = subst (λ o. IfSome o (λ e. c.args.entry.peeks.room ≤ e.peeks.room)) (sym (there c)) c.free_all.ensures.peeks_room

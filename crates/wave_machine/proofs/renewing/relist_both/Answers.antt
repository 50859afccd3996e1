use Rattle.std.proofs.Common.{◌≡◌, ◌==◌, ℕ, Bool, true, false, not, Some, None, refl, ap}
use Rattle.std.specs.Prelude.{Option, option_map}
use Rattle.std.specs.Option.{option_eq}
use Rattle.wave_base.specs.contracts.numbers.TicketPartialEq.TheImpl.{eq-value}
use Rattle.wave_base.specs.declared.numbers.Ticket.{Ticket}
use Rattle.wave_theory.proofs.Basics.{number_is}
use Rattle.wave_effects.specs.Keeping.{kept_of}
use Rattle.wave_machine.proofs.Near.{both_one, both_two}
use Rattle.wave_machine.proofs.renewing.relist_both.Goals as goal

abbrev number : Option Ticket → Option ℕ
number o = option_map (λ (t : Ticket). t.0) o

same_number : (a b : Option Ticket) → false ≡ not (option_eq eq-value.it a b) → number a ≡ number b
same_number None None e = refl
same_number None (Some u) e = cc
same_number (Some t) None e = cc
same_number (Some t) (Some u) e = by_test (t.0 == u.0) refl e
  where
    by_test : (b : Bool) → (t.0 == u.0) ≡ b → false ≡ not b → Some t.0 ≡ Some u.0
    by_test true z e = ap Some (number_is t.0 u.0 z)
    by_test false z e = cc

pub returns-then-ne-clause-relists : goal.returns-then-ne-clause-relists
returns-then-ne-clause-relists c =
    both_two (kept_of c.args.engine.now) (number c.args.before) (number c.args.after) c.args.index.now.items c.relist_next.new.index.items c.relist_next-then-ne.new.index.items c.relist_next.ensures.relists c.relist_next-then-ne.ensures.relists

pub returns-else-ne-clause-relists : goal.returns-else-ne-clause-relists
returns-else-ne-clause-relists c =
    both_one (kept_of c.args.engine.now) (number c.args.before) (number c.args.after) c.args.index.now.items c.relist_next.new.index.items (same_number c.args.after c.args.before c.if-ne.ensures) c.relist_next.ensures.relists

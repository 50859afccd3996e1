use Rattle.std.proofs.Common.{rules, ◌≡◌, ◌∙◌, ◌<◌, ◌-◌, length, true, refl, sym, ap, arith}
use Rattle.std.specs.Prelude.{option_copied}
use Rattle.std.specs.FinMap as table
use Rattle.std.proofs.lemmas.Option.{slice_get_read}
use Rattle.std.proofs.lemmas.Result.{IfOk-weaker}
use Rattle.context_queue.specs.declared.entry.Entry.{Entry}
use Rattle.host_map.specs.Stores.{Stores}
use Rattle.wave_theory.proofs.Basics.{none_not, some_same}
use Rattle.wave_effects.specs.Keeping.{kept_of}
use Rattle.wave_effects.specs.Running.{IsCopy, copy_of, only_looks}
use Rattle.wave_effects.proofs.Starting.{start_placed}
use Rattle.wave_effects.proofs.engine.Engine.prepare_start.Goals as goal

pub overflow_sub-ticket : goal.overflow_sub-ticket
overflow_sub-ticket c = (start_placed c.states_are_known.ensures (kept_of c.args.self.now) c.args.ticket.0 c.args.path.now c.requires.0 c.args.host.0 c.requires.1).low

pub index-cell-requires : goal.index-cell-requires
index-cell-requires c =
    let at = start_placed c.states_are_known.ensures (kept_of c.args.self.now) c.args.ticket.0 c.args.path.now c.requires.0 c.args.host.0 c.requires.1 in
    let within : c.args.ticket.0 - c.args.self.now.first < length c.args.self.now.cells.items = omega (arith, at.low, at.within) in
    search (rules, within)

pub index-requires : goal.index-requires
index-requires c =
    let at = start_placed c.states_are_known.ensures (kept_of c.args.self.now) c.args.ticket.0 c.args.path.now c.requires.0 c.args.host.0 c.requires.1 in
    let within : c.args.host.0 < length c.args.self.now.stores.items = at.host_in in
    search (rules, within)

pub returns-then-not-only_looks : goal.returns-then-not-only_looks
returns-then-not-only_looks c = λ k st e there here found.
    let m = kept_of c.args.self.now in
    let at = start_placed c.states_are_known.ensures m c.args.ticket.0 c.args.path.now c.requires.0 c.args.host.0 c.requires.1 in
    let i = c.args.ticket.0 - m.first in
    let within : i < length m.cells = omega (arith, at.low, at.within) in
    let is = slice_get_read m.cells _ i c.index-cell.result.now refl within c.index-cell.ensures in
    sym (ap (λ b. copy_of b e.body) (ap (λ x. only_looks x c.args.path.now) (some_same k c.index-cell.result.now (sym there ∙ is)) ∙ sym (c.if-not-only_looks.ensures)))

pub returns-in-Some : goal.returns-in-Some
returns-in-Some c =
    IfOk-weaker c.copied.result (λ copy. copy ≡ copy_of true c.in-Some.entry.now.body) (λ copy. IsCopy (kept_of c.args.self.now) c.args.host.0 c.args.ticket.0 c.args.path.now copy)
    (λ copy h k st e there here found.
    let m = kept_of c.args.self.now in
    let at = start_placed c.states_are_known.ensures m c.args.ticket.0 c.args.path.now c.requires.0 c.args.host.0 c.requires.1 in
    let i = c.args.ticket.0 - m.first in
    let within : i < length m.cells = omega (arith, at.low, at.within) in
    let is = slice_get_read m.cells _ i c.index-cell.result.now refl within c.index-cell.ensures in
    let is_store = slice_get_read m.stores _ c.args.host.0 c.index.result.now refl at.host_in c.index.ensures in
    let store : st ≡ c.index.result.now = some_same st c.index.result.now (sym here ∙ is_store) in
    let entry : c.in-Some.entry.now ≡ e = some_same c.in-Some.entry.now e (sym (ap option_copied c.in-Some.is) ∙ c.entry.ensures ∙ sym (ap (λ (x : Stores). table.get x.store c.args.path.now) store) ∙ found) in
    h ∙ ap (λ (x : Entry). copy_of true x.body) entry ∙ ap (λ b. copy_of b e.body) (c.if-not-only_looks.ensures ∙ sym (ap (λ x. only_looks x c.args.path.now) (some_same k c.index-cell.result.now (sym there ∙ is)))))
    c.copied.ensures

pub returns-in-None : goal.returns-in-None
returns-in-None c = λ k st e there here found.
    let m = kept_of c.args.self.now in
    let at = start_placed c.states_are_known.ensures m c.args.ticket.0 c.args.path.now c.requires.0 c.args.host.0 c.requires.1 in
    let is_store = slice_get_read m.stores _ c.args.host.0 c.index.result.now refl at.host_in c.index.ensures in
    let store : st ≡ c.index.result.now = some_same st c.index.result.now (sym here ∙ is_store) in
    absurd (none_not (sym (ap option_copied c.in-None.is) ∙ c.entry.ensures ∙ sym (ap (λ (x : Stores). table.get x.store c.args.path.now) store) ∙ found))

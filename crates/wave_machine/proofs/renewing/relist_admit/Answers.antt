use Rattle.std.proofs.Common.{◌≡◌, ◌∙◌, ◌++◌, [], map, ap, sym, subst}
use Rattle.std.specs.Prelude.{option_map, slice_get}
use Rattle.head_tickets.specs.Heads.{next_ticket}
use Rattle.wave_states.specs.Labels.{Admit}
use Rattle.wave_machine.specs.inner.Asking.{in_order, label_at}
use Rattle.wave_machine.specs.inner.Index.{Goes, by_none, is_admit}
use Rattle.wave_machine.proofs.Heads.{admit_goes, admit_stands, admits_are}
use Rattle.wave_machine.proofs.renewing.relist_admit.Goals as goal

pub returns-then-has_admit-clause-parts : goal.returns-then-has_admit-clause-parts
returns-then-has_admit-clause-parts c = λ o b inner was.
    let old = c.args.index.now.items in
    let next = next_ticket c.args.engine.now.head in
    was ∙ ap (λ a. in_order (a ++ b)) (admit_stands old next o b inner was
    (ap (λ xs. is_admit next (slice_get xs 0)) (sym c.deref.ensures.value) ∙ sym c.has_admit.ensures ∙ c.if-has_admit.true))

pub returns-clause-parts : goal.returns-clause-parts
returns-clause-parts c = λ o b inner was.
    let gone : map by_none c.cut_admit.new.index.items ≡ in_order b = c.cut_admit.ensures.parts (label_at 0 0 (option_map (λ t. Admit t) o)) b (admits_are o) inner was in
    c.put_some.ensures.parts [] b (subst (λ ls. Goes ls [] b) (sym c.admit_label.ensures) (admit_goes c.args.engine.now.head b inner)) gone
    ∙ ap (λ ls. in_order (ls ++ b)) c.admit_label.ensures

use Rattle.std.proofs.Common.{◌≡◌, ◌∙◌, ◌++◌, ◌∷◌, [], List, ap, sym, refl, subst}
use Rattle.wave_labels.specs.Labels.{act_of}
use Rattle.wave_states.specs.Labels.{Label}
use Rattle.wave_machine.specs.inner.Asking.{in_order, labels_in}
use Rattle.wave_machine.specs.inner.Index.{Goes}
use Rattle.wave_machine.proofs.Relisted.{none_put, one_put}
use Rattle.wave_machine.proofs.index.put_some.Goals as goal

pub returns-in-Some-clause-parts : goal.returns-in-Some-clause-parts
returns-in-Some-clause-parts c = λ u v goes was.
    let l : Label = record { worker = 0; host = c.in-Some.field-0.host.0; act = act_of c.in-Some.field-0.act } in
    let worker = (subst (λ o. Goes (labels_in o) u v) c.in-Some.is goes).0 in
    let same : labels_in c.args.label ≡ l ∷ [] = ap labels_in c.in-Some.is ∙ (λ i. record { worker = worker i; host = c.in-Some.field-0.host.0; act = act_of c.in-Some.field-0.act } ∷ []) in
    let here : Goes (l ∷ []) u v = subst (λ ls. Goes ls u v) same goes in
    one_put c.args.index.now.items c.put.new.index.items (record { host = c.in-Some.field-0.host; act = c.in-Some.field-0.act }) l u v refl here.1.0 here.1.1 was c.put.ensures.parts
    ∙ ap (λ (ls : List Label). in_order ((u ++ ls) ++ v)) (sym same)

pub returns-in-None-clause-parts : goal.returns-in-None-clause-parts
returns-in-None-clause-parts c = λ u v goes was. none_put c.args.index.now.items u v was ∙ ap (λ o. in_order ((u ++ labels_in o) ++ v)) (sym c.in-None.is)

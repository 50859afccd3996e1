use Rattle.std.proofs.Common.{◌≡◌, ◌+◌, ◌++◌, length, [], sym, ap, subst, ◌∙◌, IsNone}
use Rattle.wave_base.specs.Fold.{next_batch}
use Rattle.head_tickets.specs.Heads.{head_of, next_ticket}
use Rattle.head_tickets.proofs.TicketLists.{begins, none_waits}
use Rattle.head_tickets.proofs.head.Head.batch_done.Goals as goal

none_left : (c : goal.After-drop-self-inside) → c.self.inside.waiting.items ≡ []
none_left c = none_waits (λ _. record { 0 = c.self.inside.first + c.self.inside.admitted }) c.self.inside.waiting.items (subst (λ v. IsNone (next_ticket v)) (sym c.self.view_is) c.requires.known)

pub returns-in-Some-clause-fold : goal.returns-in-Some-clause-fold
returns-in-Some-clause-fold c =
    λ js n.
    let all : c.self.inside.done ≡ length js = ap (λ v. v.done) c.self.view_is ∙ c.requires.done ∙ sym n in
    let lines : c.from_vec.result.items ≡ c.in-Some.batch = c.from_vec.ensures.items ∙ c.into_vec.ensures in
    ap (λ b. record { known = js ++ b; later = c.pop_front.new.self.items; done = c.self.inside.done }) lines
    ∙ begins js c.in-Some.batch c.self.inside.waiting.items c.pop_front.new.self.items c.self.inside.later.items c.self.inside.done (none_left c) c.in-Some.ensures.items all
    ∙ ap (λ v. next_batch (head_of js v)) c.self.view_is

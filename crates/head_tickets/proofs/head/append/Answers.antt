use Rattle.std.proofs.Common.{◌++◌, [], ◌∷◌, length, ap, sym, ◌∙◌, arith, length-append, append_assoc}
use Rattle.std.specs.Vec.Iter.{into_iter_items}
use Rattle.head_tickets.proofs.TicketLists.{one_ticket_more, one_request_more}
use Rattle.head_tickets.proofs.head.append.Goals as goal

pub loop-call-preserved : goal.loop-call-preserved
loop-call-preserved c = record {
  calls = append_assoc c.loop-call.yielded (c.in-Some.call ∷ []) (into_iter_items c.next.new.self) ∙ ap (λ r. c.loop-call.yielded ++ r) (sym c.in-Some.ensures.steps.0) ∙ c.loop-call.invariant.calls;
  ticket = omega (arith, length-append c.loop-call.yielded (c.in-Some.call ∷ []));
  waiting = one_request_more c.args.waiting.now.items _ c.loop-call.waiting.items c.loop-call.yielded c.in-Some.call c.push_back_reserved.ensures.items c.loop-call.invariant.waiting;
  tickets = one_ticket_more _ c.loop-call.tickets.items c.push_reserved.new.self.items c.args.next c.loop-call.ticket c.loop-call.yielded c.in-Some.call c.push_reserved.ensures.items c.loop-call.invariant.ticket c.loop-call.invariant.tickets;
  room = omega (arith, ap length c.in-Some.ensures.steps.0);
  answer = omega (arith, ap length c.in-Some.ensures.steps.0);
  capacity = c.push_back_reserved.ensures.capacity ∙ c.loop-call.invariant.capacity;
}

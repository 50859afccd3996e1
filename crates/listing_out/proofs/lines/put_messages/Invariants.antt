use Rattle.std.proofs.Common.{◌≡◌, ◌++◌, drop, map}
use Rattle.std.specs.List.{concat}
use Rattle.listing_out.specs.LineTexts.{message_text, ticket_line}
use Rattle.listing_out.proofs.lines.put_messages.Given as goal

abbrev pub invariant-loop-message : goal.invariant-loop-message
invariant-loop-message l = l.out.items ++ concat (map (λ m. ticket_line l.n (message_text m)) (drop l.message-index l.messages)) ≡ l.fn.out.items ++ concat (map (λ m. ticket_line l.n (message_text m)) l.messages)

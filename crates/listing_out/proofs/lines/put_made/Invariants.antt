use Rattle.std.proofs.Common.{◌≡◌, ◌++◌, drop, map}
use Rattle.std.specs.List.{concat}
use Rattle.listing_out.specs.LineTexts.{made_text, ticket_line}
use Rattle.listing_out.proofs.lines.put_made.Given as goal

abbrev pub invariant-loop-ticket : goal.invariant-loop-ticket
invariant-loop-ticket l = l.out.items ++ concat (map (λ t. ticket_line l.n (made_text t)) (drop l.ticket-index l.made)) ≡ l.fn.out.items ++ concat (map (λ t. ticket_line l.n (made_text t)) l.made)

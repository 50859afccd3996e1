use Rattle.std.proofs.Common.{List, ℕ, ◌++◌, map, ap, ◌∙◌}
use Rattle.std.proofs.lemmas.Result.{on_ok_weaker}
use Rattle.std.specs.List.{concat}
use Rattle.wave_base.specs.declared.call.Message.{Message}
use Rattle.wave_base.specs.declared.numbers.Ticket.{Ticket}
use Rattle.wave_base.specs.declared.shot.Shot.{Shot}
use Rattle.path_text.specs.ShotTexts.{shot_text}
use Rattle.listing_out.specs.LineTexts.{message_text, made_text, outcome_text, ticket_line}
use Rattle.listing_out.specs.Listing.{shots_in}
use Rattle.listing_out.proofs.ListingLemmas.{parts_put}
use Rattle.listing_out.proofs.lines.put_result.Goals as goal

pub returns : goal.returns
returns c =
    let n = c.args.n in
    let shape = c.args.shape.now in
    let r = c.args.result_.now in
    let shots : List Shot → List (List ℕ) = map (λ s. ticket_line n (shot_text shape s)) in
    let messages : List Message → List (List ℕ) = map (λ m. ticket_line n (message_text m)) in
    let made : List Ticket → List (List ℕ) = map (λ t. ticket_line n (made_text t)) in
    let o1 = c.put_outcome_line.new.out.items in
    let o2 = c.put_shots.new.out.items in
    on_ok_weaker c.put_made.result
    (λ h. parts_put c.args.out.now.items o1 o2 c.put_messages.new.out.items c.put_made.new.out.items (ticket_line n (outcome_text shape c.args.name r.outcome)) (shots (shots_in r.outcome)) (messages r.messages) (made c.args.made.now)
    c.in_ok-put_outcome_line.ensures
    (c.in_ok-put_shots.ensures ∙ ap (λ xs. o1 ++ concat (shots xs)) c.shots_in.ensures)
    (c.in_ok-put_messages.ensures ∙ ap (λ xs. o2 ++ concat (messages xs)) c.as_slice.ensures) h)
    c.put_made.ensures

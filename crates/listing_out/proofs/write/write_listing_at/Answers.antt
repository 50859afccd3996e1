use Rattle.std.proofs.Common.{◌≡◌, [], refl, sym, ◌∙◌, append-nil}
use Rattle.std.specs.Prelude.{option_copied}
use Rattle.std.specs.List.{concat}
use Rattle.listing_out.specs.Listing.{end_lines, places_of, last_ticket}
use Rattle.listing_out.proofs.ListingLemmas.{whole_listing}
use Rattle.wave_io.proofs.HeldLemmas.{ok_by, err_by}
use Rattle.listing_out.proofs.SinkLemmas.{nothing_written, more_written, front_written, all_written}
use Rattle.listing_out.proofs.write.write_listing_at.Goals as goal

pub returns-in-Err-clause-err : goal.returns-in-Err-clause-err
returns-in-Err-clause-err g c =
    front_written _ _ _ _ _ _ _ (nothing_written _ _) c.in-Err.ensures.err (sym (whole_listing c.args.shape.now c.args.first.0 c.args.done.now c.args.map))

pub returns-in-Ok-clause-ok : goal.returns-in-Ok-clause-ok
returns-in-Ok-clause-ok g c =
    let left = more_written _ _ _ _ _ _ _ (nothing_written _ _) c.in-Ok.ensures.ok (sym (whole_listing c.args.shape.now c.args.first.0 c.args.done.now c.args.map)) in
    let last : concat (end_lines c.args.shape.now (places_of c.args.done.now c.args.map) (last_ticket c.args.first.0 c.args.done.now)) ≡ concat (end_lines c.args.shape.now (option_copied c.places_of.result) c.last_ticket-last.result) =
    cc (c.last_ticket-last.ensures, c.places_of.ensures) in
    ok_by c.write_last.result (λ a. all_written _ _ [] _ (more_written _ _ _ _ _ [] _ left a (last ∙ sym (append-nil _))) refl) c.write_last.ensures.ok

pub returns-in-Ok-clause-err : goal.returns-in-Ok-clause-err
returns-in-Ok-clause-err g c =
    let left = more_written _ _ _ _ _ _ _ (nothing_written _ _) c.in-Ok.ensures.ok (sym (whole_listing c.args.shape.now c.args.first.0 c.args.done.now c.args.map)) in
    let last : concat (end_lines c.args.shape.now (places_of c.args.done.now c.args.map) (last_ticket c.args.first.0 c.args.done.now)) ≡ concat (end_lines c.args.shape.now (option_copied c.places_of.result) c.last_ticket-last.result) =
    cc (c.last_ticket-last.ensures, c.places_of.ensures) in
    err_by c.write_last.result (λ a. front_written _ _ _ _ _ [] _ left a (last ∙ sym (append-nil _))) c.write_last.ensures.err

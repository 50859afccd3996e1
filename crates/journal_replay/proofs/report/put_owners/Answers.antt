use Rattle.std.proofs.Common.{◌≡◌, ◌++◌, Some, refl}
use Rattle.std.specs.Prelude.{slice_get}
use Rattle.std.proofs.lemmas.Option.{slice_get_read}
use Rattle.journal_replay.specs.Reports.{lines_of, owner_text}
use Rattle.journal_replay.proofs.Written.{all_put, line_put}
use Rattle.journal_replay.proofs.report.put_owners.Goals as goal

pub loop-owner-preserved : goal.loop-owner-preserved
loop-owner-preserved c =
    let owners = c.args.owners.now in
    let i = c.loop-owner.owner-index in
    let x = c.owner-item.result in
    let line = owner_text c.args.shape.now in
    let at : slice_get owners i ≡ Some x = slice_get_read owners _ i x refl c.loop-owner-test.true c.owner-item.is in
    line_put line owners i x c.loop-owner.out.items c.put_owner.new.out.items c.put_bytes.new.out.items (c.args.out.now.items ++ lines_of line owners) at c.loop-owner.invariant c.in_ok-put_owner.ensures c.in_ok-put_bytes.ensures

pub returns : goal.returns
returns c =
    let owners = c.args.owners.now in
    let line = owner_text c.args.shape.now in
    all_put line owners c.loop-owner.owner-index c.loop-owner.out.items (c.args.out.now.items ++ lines_of line owners) c.loop-owner-test.false c.loop-owner.invariant

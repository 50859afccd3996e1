use Rattle.checkpoint_store.proofs.NumberLemmas.{host_read}
use Rattle.checkpoint_store.proofs.place.host_in.Goals as goal

pub returns : goal.returns
returns c shape x none wide e =
    c.byte_of.ensures x.host.0 wide
    (host_read shape x c.args.line.now c.parts_at.result.0.now c.parts_at.result.1.now c.parts_at-2.result.0.now c.parts_at-2.result.1.now none c.parts_at.ensures.parts c.parts_at-2.ensures.parts e)

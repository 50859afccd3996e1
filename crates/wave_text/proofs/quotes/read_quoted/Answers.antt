use Rattle.std.proofs.Common.{sym}
use Rattle.wave_text.proofs.QuoteLemmas.{byte_read, all_read, none_read}
use Rattle.wave_text.proofs.quotes.read_quoted.Goals as goal

pub loop-b-preserved : goal.loop-b-preserved
loop-b-preserved c =
    byte_read c.args.bytes.now c.loop-b.text.items c.loop-b.rest.now c.push.new.self.items c.in-Byte.after.now c.in-Byte.b c.loop-b.invariant (sym c.in-Byte.ensures) c.in_ok-push-in-Byte.ensures.items

pub returns-in-Close-clause-some : goal.returns-in-Close-clause-some
returns-in-Close-clause-some c = (all_read c.args.bytes.now c.loop-b.text.items c.loop-b.rest.now c.in-Close.after.now c.loop-b.invariant (sym c.in-Close.ensures)).0

pub returns-in-Close-clause-only : goal.returns-in-Close-clause-only
returns-in-Close-clause-only c = (all_read c.args.bytes.now c.loop-b.text.items c.loop-b.rest.now c.in-Close.after.now c.loop-b.invariant (sym c.in-Close.ensures)).1

pub returns-in-Wrong-clause-none : goal.returns-in-Wrong-clause-none
returns-in-Wrong-clause-none c = none_read c.args.bytes.now c.loop-b.text.items c.loop-b.rest.now c.loop-b.invariant (sym c.in-Wrong.ensures)

use Rattle.wave_gen.proofs.PutLemmas.{pair_put, buy_put}
use Rattle.wave_gen.proofs.line.Line.put.Goals as goal

pub returns-in_ok-put_counted-in-Pair : goal.returns-in_ok-put_counted-in-Pair
returns-in_ok-put_counted-in-Pair c =
    rw c.in-Pair.is (pair_put c.put_bytes-in-Pair.result c.args.out.now.items c.put_counted-in-Pair.new.out.items c.put_bytes-in-Pair.new.out.items c.in-Pair.hall c.in_ok-put_counted-in-Pair.ensures c.put_bytes-in-Pair.ensures)

pub returns-in_ok-put_counted-in-Buy-3 : goal.returns-in_ok-put_counted-in-Buy-3
returns-in_ok-put_counted-in-Buy-3 c =
    rw c.in-Buy.is (buy_put c.put_bytes-in-Buy.result c.args.out.now.items c.put_counted-in-Buy.new.out.items c.put_counted-in-Buy-2.new.out.items c.put_counted-in-Buy-3.new.out.items c.put_bytes-in-Buy.new.out.items
    c.in-Buy.hall c.in-Buy.stall c.in-Buy.count c.in_ok-put_counted-in-Buy.ensures c.in_ok-put_counted-in-Buy-2.ensures c.in_ok-put_counted-in-Buy-3.ensures c.put_bytes-in-Buy.ensures)

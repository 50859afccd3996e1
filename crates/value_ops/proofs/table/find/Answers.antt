use Rattle.std.proofs.Common.{◌≡◌, ◌∙◌, length, true, sym, subst, arith}
use Rattle.value_ops.specs.Rows.{is_builtin, row_of}
use Rattle.value_ops.proofs.FindLemmas.{NoneBelow, first_at, none_at}
use Rattle.value_ops.proofs.table.find.Goals as goal

pub returns-then-eq : goal.returns-then-eq
returns-then-eq g c =
    let named : is_builtin c.args.name.now (row_of c.row-row.result) ≡ true = rw (c.if-row.true) (sym c.eq.ensures ∙ c.if-eq.true) in
    sym (first_at (is_builtin c.args.name.now) c.args.table.now c.loop-i.i _ (omega (arith, c.len-i-end.ensures.len)) c.loop-i.invariant c.row-row.ensures named)

pub returns : goal.returns
returns g c =
    let end : c.loop-i.i ≡ length c.args.table.now = omega (arith, c.len-i-end.ensures.len) in
    sym (none_at (is_builtin c.args.name.now) c.args.table.now (subst (NoneBelow (is_builtin c.args.name.now) c.args.table.now) end c.loop-i.invariant))

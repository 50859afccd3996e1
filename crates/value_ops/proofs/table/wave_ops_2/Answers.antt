use Rattle.std.proofs.Common.{refl}
use Rattle.value_ops.specs.Operators.{takes_of, operators}
use Rattle.value_ops.specs.Rows.{wave_rows_2}
use Rattle.value_ops.proofs.table.wave_ops_2.Goals as goal

pub returns : goal.returns
unfolding wave_rows_2 operators takes_of
returns c = rw (c.kept_row.ensures, c.kept_row-2.ensures, c.kept_row-3.ensures, c.kept_row-4.ensures, c.kept_row-5.ensures, c.kept_row-6.ensures, c.kept_row-7.ensures, c.kept_row-8.ensures, c.kept_row-9.ensures, c.kept_row-10.ensures, c.kept_row-11.ensures, c.kept_row-12.ensures, c.kept_row-13.ensures, c.kept_row-14.ensures, c.kept_row-15.ensures, c.kept_row-16.ensures, c.kept_row-17.ensures, c.kept_row-18.ensures, c.kept_row-19.ensures, c.kept_row-20.ensures, c.kept_row-21.ensures, c.kept_row-22.ensures, c.kept_row-23.ensures, c.kept_row-24.ensures, c.kept_row-25.ensures, c.kept_row-26.ensures, c.kept_row-27.ensures, c.kept_row-28.ensures, c.kept_row-29.ensures, c.kept_row-30.ensures, c.kept_row-31.ensures, c.kept_row-32.ensures, c.kept_row-33.ensures, c.kept_row-34.ensures) refl

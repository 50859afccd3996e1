use Rattle.std.proofs.Common.{◌≡◌, length, take}
use Rattle.name_table.specs.Numbers.{TellFirst}
use Rattle.path_text.specs.Paths.{is_child}
use Rattle.path_text.proofs.classes.children_of.Given as goal

abbrev pub invariant-loop-i : goal.invariant-loop-i
invariant-loop-i l = record {
  tell : TellFirst is_child (take l.i l.classes) l.children.items;
  count : length l.children.items ≡ l.i;
}

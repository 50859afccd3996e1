use Rattle.std.proofs.Common.{◌≡◌, ◌++◌, true, drop}
use Rattle.std.specs.Prelude.{is_some, option_map}
use Rattle.std.specs.List.{list_all}
use Rattle.script_reader.specs.Forms.{is_literal}
use Rattle.script_reader.specs.Judged.{values_of}
use Rattle.script_reader.proofs.judge.values_of.Given as goal

abbrev pub invariant-loop-literal : goal.invariant-loop-literal
invariant-loop-literal l = record {
  form : list_all is_literal (drop l.literal-index l.args) ≡ true;
  fit : is_some (values_of l.kinds (drop l.literal-index l.args)) ≡ true;
  values : option_map (λ vs. l.values ++ vs) (values_of l.kinds (drop l.literal-index l.args)) ≡ values_of l.params l.args;
}

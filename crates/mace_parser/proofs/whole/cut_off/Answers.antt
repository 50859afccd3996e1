use Rattle.std.proofs.Common.{◌+◌, ◌∙◌, Err, refl, sym, subst, take, arith}
use Rattle.std.proofs.lemmas.List.{length-take}
use Rattle.mace_ast.specs.Decls.{service_tree}
use Rattle.mace_parser.specs.inner.Gives.{TakesAll}
use Rattle.mace_parser.specs.Parsed.{TellsFault}
use Rattle.mace_grammar.proofs.Judge.{judge, judge_shorter}
use Rattle.mace_parser.proofs.Judged.{stopped_tells, read_tells}
use Rattle.mace_parser.proofs.whole.cut_off.Goals as goal
use Rattle.mace_parser.proofs.whole.cut_off.Goals.{in-Ok, in-Err-Stuck, in-Err-Memory}

pub stop_error-requires-clause-left : goal.stop_error-requires-clause-left
stop_error-requires-clause-left c =
    let front = take (c.args.deep + 1) c.args.tokens.now in
    let k = subst (λ f. TakesAll service_tree (Err f) (judge front front)) c.in-Err-Stuck.field-0-is c.in-Err-Stuck.ensures in
    let h = judge_shorter front c.in-Err-Stuck.rest.now k.0 in
    omega (arith, h, length-take (c.args.deep + 1) c.args.tokens.now)

pub returns : goal.returns
returns c =
    let front = take (c.args.deep + 1) c.args.tokens.now in
    elim c.match-all.branch [
      | in-Ok w ↦ read_tells c.args.text.now c.args.tokens.now front c.args.deep (service_tree w.in-Ok.field-0) c.match-all.result refl c.requires.nest w.in-Ok.ensures (w.result-is ∙ w.too_deep.ensures)
      | in-Err-Stuck w ↦
          let k = subst (λ f. TakesAll service_tree (Err f) (judge front front)) w.in-Err-Stuck.field-0-is w.in-Err-Stuck.ensures in
          stopped_tells c.args.text.now c.args.tokens.now w.in-Err-Stuck.rest.now front c.args.deep c.match-all.result refl c.requires.nest k.0 (λ l. w.result-is ∙ w.stop_error.ensures.all l) (λ l. w.result-is ∙ w.stop_error.ensures.some l)
      | in-Err-Memory w ↦ subst (λ e. TellsFault c.args.text.now c.args.tokens.now e) (sym w.result-is) tt
    ]

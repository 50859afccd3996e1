use Rattle.std.proofs.Common.{◌∙◌}
use Rattle.context_tree.specs.Contexts.{tree_of}
use Rattle.code_runner.proofs.Meant.{code_fit, code_means, meant_result}
use Rattle.code_meaning.proofs.runner.CodeRunnerRunner.run.Goals as goal

pub run_call-requires-clause-fit : goal.run_call-requires-clause-fit
run_call-requires-clause-fit c = code_fit c.args.self.now.service.now c.args.self.now.program.now c.requires.sound

pub returns-clause-tree : goal.returns-clause-tree
returns-clause-tree c =
    let r = c.args.self.now in
    c.in_ok-ran.ensures.tree ∙ (code_means r.service.now r.program.now c.requires.sound (tree_of r.program.now.shape c.args.contexts.now) c.args.call.now c.requires.tree c.requires.call).tree

pub returns-clause-outcome : goal.returns-clause-outcome
returns-clause-outcome c =
    let r = c.args.self.now in
    meant_result r.service.now r.program.now c.requires.sound (tree_of r.program.now.shape c.args.contexts.now) c.args.call.now c.requires.tree c.requires.call c.in_ok-ran.ran.result c.in_ok-ran.ensures.result

pub returns-clause-entered : goal.returns-clause-entered
returns-clause-entered c =
    let r = c.args.self.now in
    c.into_vec.ensures ∙ c.in_ok-ran.ensures.entered ∙ (code_means r.service.now r.program.now c.requires.sound (tree_of r.program.now.shape c.args.contexts.now) c.args.call.now c.requires.tree c.requires.call).entered

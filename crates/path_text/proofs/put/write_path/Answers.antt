use Rattle.std.proofs.Common.{◌++◌, ◌∙◌, ap}
use Rattle.path_text.specs.PathTexts.{path_text}
use Rattle.path_text.proofs.Again.{path_again}
use Rattle.path_text.proofs.put.write_path.Goals as goal

pub returns-clause-again : goal.returns-clause-again
returns-clause-again c =
    path_again c.args.shape.now c.requires.names c.args.path.now c.from_vec.result c.requires.path c.in_ok-put_path.ensures.short c.in_ok-put_path.ensures.keys
    (c.from_vec.ensures ∙ c.in_ok-put_path.ensures.text ∙ ap (λ z. z ++ path_text c.args.shape.now c.args.path.now) c.new-out.ensures.items)

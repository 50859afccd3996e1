use Rattle.path_text.proofs.FoundLemmas.{path_fits, path_found, path_missed}
use Rattle.path_text.proofs.found.path_for.Goals as goal

pub returns-in-Ok-clause-only : goal.returns-in-Ok-clause-only
returns-in-Ok-clause-only g c = path_found (g.C.ChildClasses.shape c.args.classes.now) c.requires.names c.args.text.now c.in-Ok.path c.in-Ok.ensures

pub returns-in-Ok-clause-path : goal.returns-in-Ok-clause-path
returns-in-Ok-clause-path g c = path_fits (g.C.ChildClasses.shape c.args.classes.now) c.in-Ok.ensures.0.steps c.in-Ok.path c.in-Ok.ensures.0.path

pub returns-in-Err-Syntax-clause-only : goal.returns-in-Err-Syntax-clause-only
returns-in-Err-Syntax-clause-only g c =
    path_missed (g.C.ChildClasses.shape c.args.classes.now) c.requires.names c.args.text.now c.in-Err-Syntax.field-0 (λ e. cc (e, c.in-Err-Syntax.field-0-is)) c.in-Err-Syntax.ensures

pub returns-in-Err-UnknownClass-clause-only : goal.returns-in-Err-UnknownClass-clause-only
returns-in-Err-UnknownClass-clause-only g c =
    path_missed (g.C.ChildClasses.shape c.args.classes.now) c.requires.names c.args.text.now c.in-Err-UnknownClass.field-0 (λ e. cc (e, c.in-Err-UnknownClass.field-0-is)) c.in-Err-UnknownClass.ensures

use Rattle.std.proofs.Common.{◌≢◌, ◌∙◌, map}
use Rattle.clap.specs.Words.{app_of, found_of, kind_of, rows_of}
use Rattle.clap.specs.declared.error.kind.ErrorKind.TheVariants.{OutOfMemory}
use Rattle.command_words.proofs.ReadingLemmas.{read_ok, read_err}
use Rattle.command_words.proofs.reading.command_in.Goals as goal

pub returns-in-Ok : goal.returns-in-Ok
returns-in-Ok c =
    c.asked_by.ensures ∙ read_ok (app_of c.in_ok-command_line.field-0) (map (λ w. w.now) c.args.words.now) (rows_of (found_of c.in-Ok.matches)) c.in_ok-command_line.ensures
    c.in-Ok.ensures.kinds (λ s. (c.in-Ok.ensures.matches s).0)

pub returns : goal.returns
returns c =
    let other : kind_of c.in-Err.error ≢ OutOfMemory = λ e. cc (c.in-None.ensures.1 (c.kind.ensures ∙ e)) in
    read_err (app_of c.in_ok-command_line.field-0) (map (λ w. w.now) c.args.words.now) (kind_of c.in-Err.error) c.in_ok-command_line.ensures other c.in-Err.ensures.kinds

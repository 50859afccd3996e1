use Rattle.std.proofs.Common.{◌≡◌, true, sym, ◌∙◌}
use Rattle.std.proofs.lemmas.Result.{err_from_is_err_and}
use Rattle.mace_lexer.specs.declared.sign.Sign.TheVariants as sign
use Rattle.mace_grammar.specs.Words.{edition_of}
use Rattle.mace_grammar.specs.inner.Classes.{kind}
use Rattle.mace_grammar.specs.inner.Run.{sees}
use Rattle.mace_grammar.specs.inner.Readers as reader
use Rattle.mace_parser.proofs.Progress.{takes_next_param}
use Rattle.mace_parser.proofs.Turns.{list_goes_on, list_ends, list_done}
use Rattle.mace_parser.proofs.reader.Reader.param_list.Goals as goal

pub returns-in_err-next : goal.returns-in_err-next
returns-in_err-next c =
    let p = err_from_is_err_and c.from_residual-in_err-next.result c.from_residual-in_err-next.ensures.1 in
    let s : sees (kind (edition_of c.args.self.version)) (reader.if_sign sign.Comma) c.turns.rest.now ≡ true = sym c.sees_sign.ensures ∙ c.turns-test.true in
    rw (p.1, p.2) (list_ends (edition_of c.args.self.version) (reader.if_sign sign.Comma) (reader.next_at (edition_of c.args.self.version) (reader.param_at (edition_of c.args.self.version))) c.in_err-next.field-0.0 c.turns.found.items c.turns.rest.now (reader.list_at (edition_of c.args.self.version) (reader.param_at (edition_of c.args.self.version)) c.args.tokens.now) s c.in_err-next.ensures c.turns.invariant)

pub turns-preserved : goal.turns-preserved
turns-preserved c =
    let s : sees (kind (edition_of c.args.self.version)) (reader.if_sign sign.Comma) c.turns.rest.now ≡ true = sym c.sees_sign.ensures ∙ c.turns-test.true in
    list_goes_on (edition_of c.args.self.version) (reader.if_sign sign.Comma) (reader.next_at (edition_of c.args.self.version) (reader.param_at (edition_of c.args.self.version))) (takes_next_param c.args.self.version) c.turns.found.items c.push-in-turns.new.items.items c.turns.rest.now c.in_ok-next.after.now c.in_ok-next.next (reader.list_at (edition_of c.args.self.version) (reader.param_at (edition_of c.args.self.version)) c.args.tokens.now) s c.in_ok-next.ensures c.in_ok-push-2.ensures.items c.turns.invariant

pub turns-smaller : goal.turns-smaller
turns-smaller c = (takes_next_param c.args.self.version).fewer c.turns.rest.now c.in_ok-next.after.now c.in_ok-next.next c.in_ok-next.ensures

pub returns : goal.returns
returns c = list_done (edition_of c.args.self.version) (reader.if_sign sign.Comma) (reader.next_at (edition_of c.args.self.version) (reader.param_at (edition_of c.args.self.version))) c.turns.found.items c.turns.rest.now (reader.list_at (edition_of c.args.self.version) (reader.param_at (edition_of c.args.self.version)) c.args.tokens.now) (sym c.sees_sign.ensures ∙ c.turns-test.false) c.turns.invariant

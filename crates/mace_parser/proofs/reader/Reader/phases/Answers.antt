use Rattle.std.proofs.Common.{◌≡◌, true, Ok, sym, ◌∙◌, ap, map}
use Rattle.std.proofs.lemmas.Result.{err_from_is_err_and}
use Rattle.std.proofs.lemmas.List.{map_push}
use Rattle.mace_lexer.specs.declared.keyword.Keyword.TheVariants as k
use Rattle.mace_ast.specs.Decls.{phase_tree}
use Rattle.mace_grammar.specs.Words.{edition_of}
use Rattle.mace_grammar.specs.inner.Classes.{kind}
use Rattle.mace_grammar.specs.inner.Run.{sees}
use Rattle.mace_grammar.specs.inner.Readers as reader
use Rattle.mace_parser.proofs.Progress.{takes_phase}
use Rattle.mace_parser.proofs.Turns.{list_goes_on, list_ends, list_done}
use Rattle.mace_parser.proofs.reader.Reader.phases.Goals as goal

pub returns-in_err-next : goal.returns-in_err-next
returns-in_err-next c =
    let p = err_from_is_err_and c.from_residual.result c.from_residual.ensures.1 in
    let s : sees (kind (edition_of c.args.self.version)) (reader.if_key k.Down) c.turns.rest.now ≡ true = sym c.sees_key.ensures ∙ c.turns-test.true in
    rw (p.1, p.2) (list_ends (edition_of c.args.self.version) (reader.if_key k.Down) (reader.down_at (edition_of c.args.self.version) c.args.self.depth) c.in_err-next.field-0.0 (map phase_tree c.turns.found.items) c.turns.rest.now (reader.phases_at (edition_of c.args.self.version) c.args.self.depth c.args.tokens.now) s c.in_err-next.ensures c.turns.invariant)

pub turns-preserved : goal.turns-preserved
turns-preserved c =
    let s : sees (kind (edition_of c.args.self.version)) (reader.if_key k.Down) c.turns.rest.now ≡ true = sym c.sees_key.ensures ∙ c.turns-test.true in
    list_goes_on (edition_of c.args.self.version) (reader.if_key k.Down) (reader.down_at (edition_of c.args.self.version) c.args.self.depth) (takes_phase c.args.self.version c.args.self.depth) (map phase_tree c.turns.found.items) (map phase_tree c.push.new.items.items) c.turns.rest.now c.in_ok-next.after.now (phase_tree c.in_ok-next.next) (reader.phases_at (edition_of c.args.self.version) c.args.self.depth c.args.tokens.now) s c.in_ok-next.ensures (rw c.in_ok-push.ensures.items (map_push phase_tree c.turns.found.items c.in_ok-next.next)) c.turns.invariant

pub turns-smaller : goal.turns-smaller
turns-smaller c = (takes_phase c.args.self.version c.args.self.depth).fewer c.turns.rest.now c.in_ok-next.after.now (phase_tree c.in_ok-next.next) c.in_ok-next.ensures

pub returns : goal.returns
returns c = list_done (edition_of c.args.self.version) (reader.if_key k.Down) (reader.down_at (edition_of c.args.self.version) c.args.self.depth) (map phase_tree c.turns.found.items) c.turns.rest.now (reader.phases_at (edition_of c.args.self.version) c.args.self.depth c.args.tokens.now) (sym c.sees_key.ensures ∙ c.turns-test.false) c.turns.invariant ∙ ap (λ l. Ok (l, c.turns.rest.now)) (sym (ap (map phase_tree) c.from_vec.ensures))

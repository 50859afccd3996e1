use Rattle.std.proofs.Common.{◌≡◌, ◌-◌, true, Ok, sym, ◌∙◌, ap, map}
use Rattle.std.proofs.lemmas.Result.{err_from_is_err_and}
use Rattle.std.proofs.lemmas.List.{map_push}
use Rattle.mace_lexer.specs.declared.keyword.Keyword.TheVariants as k
use Rattle.mace_ast.specs.Decls.{context_tree}
use Rattle.mace_grammar.specs.Words.{edition_of}
use Rattle.mace_grammar.specs.inner.Classes.{kind}
use Rattle.mace_grammar.specs.inner.Run.{sees}
use Rattle.mace_grammar.specs.inner.Readers as reader
use Rattle.mace_parser.proofs.Progress.{takes_context}
use Rattle.mace_parser.proofs.Turns.{list_goes_on, list_ends, list_done}
use Rattle.mace_parser.proofs.Steps.{deeper_pred, fails_same, inner_fails, methods_fail, brace_fails, context_gives}
use Rattle.mace_parser.proofs.reader.Reader.+context.Goals as goal

pub contexts-returns-in_err-next : goal.contexts-returns-in_err-next
contexts-returns-in_err-next t c =
    let p = err_from_is_err_and c.from_residual.result c.from_residual.ensures.1 in
    let s : sees (kind (edition_of c.args.self.version)) (reader.if_key k.Context) c.turns.rest.now ≡ true = sym c.sees_key.ensures ∙ c.turns-test.true in
    rw (p.1, p.2) (list_ends (edition_of c.args.self.version) (reader.if_key k.Context) (reader.context_at (edition_of c.args.self.version) c.args.self.depth) c.in_err-next.field-0.0 (map context_tree c.turns.found.items) c.turns.rest.now (reader.contexts_in (edition_of c.args.self.version) (reader.context_at (edition_of c.args.self.version) c.args.self.depth) c.args.tokens.now) s c.in_err-next.ensures c.turns.invariant)

pub contexts-turns-preserved : goal.contexts-turns-preserved
contexts-turns-preserved t c =
    let s : sees (kind (edition_of c.args.self.version)) (reader.if_key k.Context) c.turns.rest.now ≡ true = sym c.sees_key.ensures ∙ c.turns-test.true in
    list_goes_on (edition_of c.args.self.version) (reader.if_key k.Context) (reader.context_at (edition_of c.args.self.version) c.args.self.depth) (takes_context c.args.self.version c.args.self.depth) (map context_tree c.turns.found.items) (map context_tree c.push.new.items.items) c.turns.rest.now c.in_ok-next.after.now (context_tree c.in_ok-next.next) (reader.contexts_in (edition_of c.args.self.version) (reader.context_at (edition_of c.args.self.version) c.args.self.depth) c.args.tokens.now) s c.in_ok-next.ensures (rw c.in_ok-push.ensures.items (map_push context_tree c.turns.found.items c.in_ok-next.next)) c.turns.invariant

pub contexts-turns-smaller : goal.contexts-turns-smaller
contexts-turns-smaller t c = (takes_context c.args.self.version c.args.self.depth).fewer c.turns.rest.now c.in_ok-next.after.now (context_tree c.in_ok-next.next) c.in_ok-next.ensures

pub contexts-returns : goal.contexts-returns
contexts-returns t c = list_done (edition_of c.args.self.version) (reader.if_key k.Context) (reader.context_at (edition_of c.args.self.version) c.args.self.depth) (map context_tree c.turns.found.items) c.turns.rest.now (reader.contexts_in (edition_of c.args.self.version) (reader.context_at (edition_of c.args.self.version) c.args.self.depth) c.args.tokens.now) (sym c.sees_key.ensures ∙ c.turns-test.false) c.turns.invariant

pub context-returns-in_err-inner : goal.context-returns-in_err-inner
context-returns-in_err-inner t c =
    let p = err_from_is_err_and c.from_residual-in_err-inner.result c.from_residual-in_err-inner.ensures.1 in
    rw (p.1, p.2) (fails_same c.in_err-inner.field-0.0 (deeper_pred (reader.one_context_at (edition_of c.args.self.version)) c.args.self.depth c.args.tokens.now c.if-self-eq0.false) (inner_fails (edition_of c.args.self.version) (c.args.self.depth - 1) (reader.context_at (edition_of c.args.self.version) (c.args.self.depth - 1)) c.args.tokens.now c.in_ok-at.ensures c.in_ok-name.ensures c.in_ok-rest.ensures c.in_ok-rest-2.ensures c.in_ok-rest-3.ensures c.in_ok-rest-4.ensures c.in_ok-vars.ensures c.in_err-inner.field-0.0 c.in_err-inner.ensures))

pub context-returns-in_err-methods : goal.context-returns-in_err-methods
context-returns-in_err-methods t c =
    let p = err_from_is_err_and c.from_residual-in_err-methods.result c.from_residual-in_err-methods.ensures.1 in
    rw (p.1, p.2) (fails_same c.in_err-methods.field-0.0 (deeper_pred (reader.one_context_at (edition_of c.args.self.version)) c.args.self.depth c.args.tokens.now c.if-self-eq0.false) (methods_fail (edition_of c.args.self.version) (c.args.self.depth - 1) (reader.context_at (edition_of c.args.self.version) (c.args.self.depth - 1)) c.args.tokens.now c.in_ok-at.ensures c.in_ok-name.ensures c.in_ok-rest.ensures c.in_ok-rest-2.ensures c.in_ok-rest-3.ensures c.in_ok-rest-4.ensures c.in_ok-vars.ensures c.in_ok-inner.ensures c.in_err-methods.field-0.0 c.in_err-methods.ensures))

pub context-returns-in_err-rest-5 : goal.context-returns-in_err-rest-5
context-returns-in_err-rest-5 t c =
    let p = err_from_is_err_and c.from_residual-in_err-rest-5.result c.from_residual-in_err-rest-5.ensures.1 in
    rw (p.1, p.2) (fails_same c.in_err-rest-5.field-0.0 (deeper_pred (reader.one_context_at (edition_of c.args.self.version)) c.args.self.depth c.args.tokens.now c.if-self-eq0.false) (brace_fails (edition_of c.args.self.version) (c.args.self.depth - 1) (reader.context_at (edition_of c.args.self.version) (c.args.self.depth - 1)) c.args.tokens.now c.in_ok-at.ensures c.in_ok-name.ensures c.in_ok-rest.ensures c.in_ok-rest-2.ensures c.in_ok-rest-3.ensures c.in_ok-rest-4.ensures c.in_ok-vars.ensures c.in_ok-inner.ensures c.in_ok-methods.ensures c.in_err-rest-5.field-0.0 c.in_err-rest-5.ensures))

pub context-returns : goal.context-returns
context-returns t c =
    (deeper_pred (reader.one_context_at (edition_of c.args.self.version)) c.args.self.depth c.args.tokens.now c.if-self-eq0.false)
    ∙ context_gives (edition_of c.args.self.version) (c.args.self.depth - 1) (reader.context_at (edition_of c.args.self.version) (c.args.self.depth - 1)) c.args.tokens.now c.in_ok-at.ensures c.in_ok-name.ensures c.in_ok-rest.ensures c.in_ok-rest-2.ensures c.in_ok-rest-3.ensures c.in_ok-rest-4.ensures c.in_ok-vars.ensures c.in_ok-inner.ensures c.in_ok-methods.ensures c.in_ok-rest-5.ensures
    ∙ ap (λ x. Ok (x, c.in_ok-rest-5.rest.now)) (sym c.new.ensures)

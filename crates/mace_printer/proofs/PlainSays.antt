-- The canonical words of statements that assign nothing and have no block spell them.
use Rattle.std.proofs.Common.{◌≡◌, ℕ, List, [], ◌∷◌, ◌++◌, map, Option, Some, None, refl, sym, ap, ◌∙◌, append_assoc}
use Rattle.std.proofs.lemmas.List.{map-append}
use Rattle.wave_base.specs.declared.span.Span.{Span}
use Rattle.mace_lexer.specs.declared.token.Word.{Word}
use Rattle.mace_lexer.specs.declared.token.Word.TheVariants as word
use Rattle.mace_lexer.specs.declared.keyword.Keyword.TheVariants as k
use Rattle.mace_lexer.specs.declared.sign.Sign.TheVariants as s
use Rattle.mace_ast.specs.declared.name.Name.{Name}
use Rattle.mace_ast.specs.Exprs.{ExprTree, bare_expr, nowhere}
use Rattle.mace_ast.specs.Stmts as st
use Rattle.mace_ast.specs.Stmts.{bare_stmt}
use Rattle.mace_grammar.specs.Part.{maybe}
use Rattle.mace_grammar.specs.Words as w
use Rattle.mace_grammar.specs.Words.{Edition}
use Rattle.mace_grammar.specs.Fits.{IsName, Each, IfThere, ExprFits, EndFits}
use Rattle.std.specs.Prelude.{codes}
use Rattle.std.specs.Option.{option_map}
use Rattle.mace_grammar.specs.Grammar as g
use Rattle.mace_grammar.specs.Spelled.{plain_token}
use Rattle.mace_printer.specs.Canon.{whole_words, index_words, listed_words, call_words, maybe_words, stmt_words}
use Rattle.mace_printer.proofs.Says.{Says, key_says, sign_says, named, name_says, text_says, field_says, leave_says, finish_says}
use Rattle.mace_printer.proofs.ExprSays.{expr_says, any_key_says, any_arguments_say}

-- words in brackets, and then more words
pub bracket_split : (a b : Word) (inner rest : List Word) → map plain_token (a ∷ (inner ++ (b ∷ rest))) ≡ map plain_token (a ∷ (inner ++ (b ∷ []))) ++ map plain_token rest
bracket_split a b inner rest =
    ap (λ l. plain_token a ∷ l)
    (map-append plain_token inner (b ∷ rest)
    ∙ sym (append_assoc (map plain_token inner) (plain_token b ∷ []) (map plain_token rest))
    ∙ ap (λ l. l ++ map plain_token rest) (sym (map-append plain_token inner (b ∷ []))))

abbrev pub semicolon : List Word
semicolon = word.Sign s.Semicolon ∷ []

pub semicolon_says : Says (w.sign s.Semicolon) nowhere semicolon
semicolon_says = sign_says s.Semicolon

abbrev paren_words : List ExprTree → List Word
paren_words args = word.Sign s.LeftParen ∷ (listed_words whole_words args ++ (word.Sign s.RightParen ∷ []))

module _ (edition : Edition) where
  -- ---- statements without a block

  pub let_says : (at : Span) (x : Name) (value : ExprTree) → IsName edition x.text → ExprFits edition value → Says (g.let_stmt edition) (bare_stmt (st.Let at x value)) (stmt_words (st.Let at x value))
  let_says at x value i f = (
    nowhere,
    plain_token (word.Key k.Let) ∷ [],
    _,
    refl,
    key_says k.Let,
    (
      named x.text,
      plain_token (word.Name x.text) ∷ [],
      _,
      refl,
      name_says edition x.text i,
      (
        nowhere,
        plain_token (word.Sign s.Equals) ∷ [],
        _,
        refl,
        sign_says s.Equals,
        (
          bare_expr value,
          map plain_token (whole_words value),
          _,
          map-append plain_token (whole_words value) semicolon,
          expr_says edition value f,
          (nowhere, map plain_token semicolon, [], refl, semicolon_says, (refl, refl)),
        ),
      ),
    ),
  )

  pub require_says : (at : Span) (test : ExprTree) → ExprFits edition test → Says (g.require_stmt edition) (bare_stmt (st.Require at test)) (stmt_words (st.Require at test))
  require_says at test f = (
    nowhere,
    plain_token (word.Key k.Require) ∷ [],
    _,
    refl,
    key_says k.Require,
    (
      bare_expr test,
      map plain_token (whole_words test),
      _,
      map-append plain_token (whole_words test) semicolon,
      expr_says edition test f,
      (nowhere, map plain_token semicolon, [], refl, semicolon_says, (refl, refl)),
    ),
  )

  pub send_says : (at : Span) (label : List ℕ) (value : ExprTree) → ExprFits edition value → Says (g.send_stmt edition) (bare_stmt (st.Send at label value)) (stmt_words (st.Send at label value))
  send_says at label value f = (
    nowhere,
    plain_token (word.Key k.Send) ∷ [],
    _,
    refl,
    key_says k.Send,
    (
      label,
      plain_token (word.Text label) ∷ [],
      _,
      refl,
      text_says label,
      (
        nowhere,
        plain_token (word.Sign s.Comma) ∷ [],
        _,
        refl,
        sign_says s.Comma,
        (
          bare_expr value,
          map plain_token (whole_words value),
          _,
          map-append plain_token (whole_words value) semicolon,
          expr_says edition value f,
          (nowhere, map plain_token semicolon, [], refl, semicolon_says, (refl, refl)),
        ),
      ),
    ),
  )

  pub spawn_says : (at : Span) (event : List ℕ) (args : List ExprTree) → IsName edition event → Each (ExprFits edition) args → Says (g.spawn_stmt edition) (bare_stmt (st.Spawn at event args)) (stmt_words (st.Spawn at event args))
  spawn_says at event args i f = (
    nowhere,
    plain_token (word.Key k.Spawn) ∷ [],
    _,
    refl,
    key_says k.Spawn,
    (
      named event,
      plain_token (word.Name event) ∷ [],
      _,
      refl,
      name_says edition event i,
      (
        map bare_expr args,
        map plain_token (paren_words args),
        _,
        map-append plain_token (paren_words args) semicolon,
        any_arguments_say edition args f,
        (nowhere, map plain_token semicolon, [], refl, semicolon_says, (refl, refl)),
      ),
    ),
  )

  pub call_says : (at : Span) (f : List ℕ) (args : List ExprTree) → IsName edition f → Each (ExprFits edition) args → Says (g.call_stmt edition) (bare_stmt (st.Call at f args)) (stmt_words (st.Call at f args))
  call_says at f args i k = (
    named f,
    plain_token (word.Name f) ∷ [],
    _,
    refl,
    name_says edition f i,
    (
      map bare_expr args,
      map plain_token (paren_words args),
      _,
      map-append plain_token (paren_words args) semicolon,
      any_arguments_say edition args k,
      (nowhere, map plain_token semicolon, [], refl, semicolon_says, (refl, refl)),
    ),
  )

  pub child_says : (at : Span) (c : List ℕ) (place : ExprTree) (f : List ℕ) (args : List ExprTree) → IsName edition c → ExprFits edition place → IsName edition f → Each (ExprFits edition) args → Says (g.child_call_stmt edition) (bare_stmt (st.ChildCall at c place f args)) (stmt_words (st.ChildCall at c place f args))
  child_says at c place f args i p j k = (
    named c,
    plain_token (word.Name c) ∷ [],
    _,
    refl,
    name_says edition c i,
    (
      bare_expr place,
      map plain_token (index_words place),
      _,
      map-append plain_token (index_words place) (word.Sign s.Dot ∷ (call_words f args ++ semicolon)),
      any_key_says edition place p,
      (
        named f,
        map plain_token (word.Sign s.Dot ∷ word.Name f ∷ []),
        _,
        refl,
        field_says edition f j,
        (
          map bare_expr args,
          map plain_token (paren_words args),
          _,
          map-append plain_token (paren_words args) semicolon,
          any_arguments_say edition args k,
          (nowhere, map plain_token semicolon, [], refl, semicolon_says, (refl, refl)),
        ),
      ),
    ),
  )

  -- ---- statements that end a method or an event early

  maybe_says : (value : Option ExprTree) → IfThere (ExprFits edition) value → Says (maybe (g.any_expr edition)) (option_map bare_expr value) (maybe_words value)
  maybe_says None f = refl
  maybe_says (Some value) f = expr_says edition value f

  pub return_says : (at : Span) (value : Option ExprTree) → EndFits edition value → Says (g.return_stmt edition) (bare_stmt (st.Return at value)) (stmt_words (st.Return at value))
  return_says at value f = (
    nowhere,
    plain_token (word.Key k.Return) ∷ [],
    _,
    refl,
    leave_says edition f.0,
    (
      option_map bare_expr value,
      map plain_token (maybe_words value),
      _,
      map-append plain_token (maybe_words value) semicolon,
      maybe_says value f.1,
      (nowhere, map plain_token semicolon, [], refl, semicolon_says, (refl, refl)),
    ),
  )

  pub finish_stmt_says : (at : Span) (value : Option ExprTree) → EndFits edition value → Says (g.finish_stmt edition) (bare_stmt (st.Finish at value)) (stmt_words (st.Finish at value))
  finish_stmt_says at value f = (
    nowhere,
    plain_token (word.Name (codes "finish")) ∷ [],
    _,
    refl,
    finish_says edition f.0,
    (
      option_map bare_expr value,
      map plain_token (maybe_words value),
      _,
      map-append plain_token (maybe_words value) semicolon,
      maybe_says value f.1,
      (nowhere, map plain_token semicolon, [], refl, semicolon_says, (refl, refl)),
    ),
  )

-- The canonical words of assignments, and of what is dropped, spell them.
use Rattle.std.proofs.Common.{ℕ, List, [], ◌∷◌, ◌++◌, map, Option, Some, None, refl}
use Rattle.std.proofs.lemmas.List.{map-append}
use Rattle.wave_base.specs.declared.span.Span.{Span}
use Rattle.mace_lexer.specs.declared.token.Word.{Word}
use Rattle.mace_lexer.specs.declared.token.Word.TheVariants as word
use Rattle.mace_lexer.specs.declared.keyword.Keyword.TheVariants as k
use Rattle.mace_lexer.specs.declared.sign.Sign.TheVariants as s
use Rattle.mace_ast.specs.declared.name.Name.{Name}
use Rattle.mace_ast.specs.declared.stmt.Target.{Target}
use Rattle.mace_ast.specs.Exprs.{ExprTree, bare_expr, nowhere}
use Rattle.mace_ast.specs.Stmts as st
use Rattle.mace_ast.specs.Stmts.{bare_stmt}
use Rattle.mace_grammar.specs.Words.{Edition}
use Rattle.mace_grammar.specs.Fits.{IsName, IfThere, ExprFits}
use Rattle.mace_grammar.specs.Grammar as g
use Rattle.mace_grammar.specs.Spelled.{plain_token}
use Rattle.mace_printer.specs.Canon.{whole_words, index_words, stmt_words}
use Rattle.mace_printer.proofs.Says.{Says, key_says, sign_says, named, name_says, field_says}
use Rattle.mace_printer.proofs.ExprSays.{expr_says, any_key_says}
use Rattle.mace_printer.proofs.PlainSays.{semicolon, semicolon_says}

module _ (edition : Edition) where
  abbrev pub target_of : Option (List ℕ) → List ℕ → Target
  target_of above x = record { above = above; name = x }

  pub drop_says : (at : Span) (above : Option (List ℕ)) (x : List ℕ) (place : ExprTree) → IfThere (IsName edition) above → IsName edition x → ExprFits edition place → Says (g.drop_stmt edition) (bare_stmt (st.Cut at (target_of above x) place)) (stmt_words (st.Cut at (target_of above x) place))
  drop_says at None x place i j f = (
    nowhere,
    plain_token (word.Key k.Drop) ∷ [],
    _,
    refl,
    key_says k.Drop,
    (
      named x,
      plain_token (word.Name x) ∷ [],
      _,
      refl,
      name_says edition x j,
      (
        None,
        [],
        _,
        refl,
        refl,
        (
          bare_expr place,
          map plain_token (index_words place),
          _,
          map-append plain_token (index_words place) semicolon,
          any_key_says edition place f,
          (nowhere, map plain_token semicolon, [], refl, semicolon_says, (refl, refl)),
        ),
      ),
    ),
  )
  drop_says at (Some c) x place i j f = (
    nowhere,
    plain_token (word.Key k.Drop) ∷ [],
    _,
    refl,
    key_says k.Drop,
    (
      named c,
      plain_token (word.Name c) ∷ [],
      _,
      refl,
      name_says edition c i,
      (
        Some (named x),
        map plain_token (word.Sign s.Dot ∷ word.Name x ∷ []),
        _,
        refl,
        field_says edition x j,
        (
          bare_expr place,
          map plain_token (index_words place),
          _,
          map-append plain_token (index_words place) semicolon,
          any_key_says edition place f,
          (nowhere, map plain_token semicolon, [], refl, semicolon_says, (refl, refl)),
        ),
      ),
    ),
  )

  -- ---- what is set

  abbrev assigned : ExprTree → List Word
  assigned value = word.Sign s.Equals ∷ (whole_words value ++ semicolon)

  pub set_says : (at : Span) (above : Option (List ℕ)) (x : List ℕ) (place : Option ExprTree) (value : ExprTree) → IfThere (IsName edition) above → IsName edition x → IfThere (ExprFits edition) place → ExprFits edition value → Says (g.set_stmt edition) (bare_stmt (st.Set at (target_of above x) place value)) (stmt_words (st.Set at (target_of above x) place value))
  set_says at None x None value i j p f = (
    named x,
    plain_token (word.Name x) ∷ [],
    _,
    refl,
    name_says edition x j,
    (
      None,
      [],
      _,
      refl,
      refl,
      (
        None,
        [],
        _,
        refl,
        refl,
        (
          nowhere,
          plain_token (word.Sign s.Equals) ∷ [],
          _,
          refl,
          sign_says s.Equals,
          (
            bare_expr value,
            map plain_token (whole_words value),
            _,
            map-append plain_token (whole_words value) semicolon,
            expr_says edition value f,
            (nowhere, map plain_token semicolon, [], refl, semicolon_says, (refl, refl)),
          ),
        ),
      ),
    ),
  )
  set_says at None x (Some place) value i j p f = (
    named x,
    plain_token (word.Name x) ∷ [],
    _,
    refl,
    name_says edition x j,
    (
      None,
      [],
      _,
      refl,
      refl,
      (
        Some (bare_expr place),
        map plain_token (index_words place),
        _,
        map-append plain_token (index_words place) (assigned value),
        any_key_says edition place p,
        (
          nowhere,
          plain_token (word.Sign s.Equals) ∷ [],
          _,
          refl,
          sign_says s.Equals,
          (
            bare_expr value,
            map plain_token (whole_words value),
            _,
            map-append plain_token (whole_words value) semicolon,
            expr_says edition value f,
            (nowhere, map plain_token semicolon, [], refl, semicolon_says, (refl, refl)),
          ),
        ),
      ),
    ),
  )
  set_says at (Some c) x None value i j p f = (
    named c,
    plain_token (word.Name c) ∷ [],
    _,
    refl,
    name_says edition c i,
    (
      Some (named x),
      map plain_token (word.Sign s.Dot ∷ word.Name x ∷ []),
      _,
      refl,
      field_says edition x j,
      (
        None,
        [],
        _,
        refl,
        refl,
        (
          nowhere,
          plain_token (word.Sign s.Equals) ∷ [],
          _,
          refl,
          sign_says s.Equals,
          (
            bare_expr value,
            map plain_token (whole_words value),
            _,
            map-append plain_token (whole_words value) semicolon,
            expr_says edition value f,
            (nowhere, map plain_token semicolon, [], refl, semicolon_says, (refl, refl)),
          ),
        ),
      ),
    ),
  )
  set_says at (Some c) x (Some place) value i j p f = (
    named c,
    plain_token (word.Name c) ∷ [],
    _,
    refl,
    name_says edition c i,
    (
      Some (named x),
      map plain_token (word.Sign s.Dot ∷ word.Name x ∷ []),
      _,
      refl,
      field_says edition x j,
      (
        Some (bare_expr place),
        map plain_token (index_words place),
        _,
        map-append plain_token (index_words place) (assigned value),
        any_key_says edition place p,
        (
          nowhere,
          plain_token (word.Sign s.Equals) ∷ [],
          _,
          refl,
          sign_says s.Equals,
          (
            bare_expr value,
            map plain_token (whole_words value),
            _,
            map-append plain_token (whole_words value) semicolon,
            expr_says edition value f,
            (nowhere, map plain_token semicolon, [], refl, semicolon_says, (refl, refl)),
          ),
        ),
      ),
    ),
  )

-- The canonical words of variables, parameters and results spell them.
use Rattle.std.proofs.Common.{◌≡◌, inl, inr, List, [], ◌∷◌, map, Option, Some, None, Bool, true, false, refl}
use Rattle.std.proofs.lemmas.List.{map-append}
use Rattle.wave_base.specs.declared.value.Kind.{Kind}
use Rattle.mace_lexer.specs.declared.token.Word.{Word}
use Rattle.mace_lexer.specs.declared.token.Word.TheVariants as word
use Rattle.mace_lexer.specs.declared.keyword.Keyword.TheVariants as k
use Rattle.mace_lexer.specs.declared.sign.Sign.TheVariants as s
use Rattle.mace_ast.specs.declared.name.Name.{Name}
use Rattle.mace_ast.specs.declared.field.VarDecl.{VarDecl}
use Rattle.mace_ast.specs.declared.field.Literal.{Literal}
use Rattle.mace_ast.specs.declared.field.Literal.TheVariants as lit
use Rattle.mace_ast.specs.declared.method.Param.{Param}
use Rattle.mace_ast.specs.Exprs.{nowhere}
use Rattle.mace_ast.specs.Decls.{bare_var, bare_param}
use Rattle.mace_grammar.specs.Part.{many}
use Rattle.mace_grammar.specs.Words as w
use Rattle.mace_grammar.specs.Words.{Edition}
use Rattle.mace_grammar.specs.Fits.{Each, VarFits, ParamFits}
use Rattle.mace_grammar.specs.Grammar as g
use Rattle.mace_grammar.specs.Spelled.{plain_token}
use Rattle.mace_printer.specs.Canon.{all_of, literal_words, var_words, boolean_key, kind_key, param_words, params_words, result_words}
use Rattle.mace_printer.proofs.Says.{Says, key_says, sign_says, named, name_says, number_says, type_says, all_say, parens_say}

abbrev pub semicolon : List Word
semicolon = word.Sign s.Semicolon ∷ []

abbrev pub brace : List Word
brace = word.Sign s.RightBrace ∷ []

-- ---- fields

boolean_initial : (b : Bool) → w.initial_of_key nowhere (boolean_key b) ≡ Some (record { at = nowhere; value = lit.Bool b })
boolean_initial true = refl
boolean_initial false = refl

initial_says : (l : Literal) → Says g.initial (record { at = nowhere; value = l }) (literal_words l)
initial_says (lit.Number n) = inl (plain_token (word.Number n), refl, refl)
initial_says (lit.Minus n) = inr (nowhere, plain_token (word.Sign s.Minus) ∷ [], _, refl, sign_says s.Minus, (n, plain_token (word.Number n) ∷ [], [], refl, number_says n, (refl, refl)))
initial_says (lit.Text bytes) = inl (plain_token (word.Text bytes), refl, refl)
initial_says (lit.Bool b) = inl (plain_token (word.Key (boolean_key b)), refl, boolean_initial b)
initial_says lit.Empty = inl (plain_token (word.Key k.Empty), refl, refl)

module _ (edition : Edition) where
  var_says : (v : VarDecl) → VarFits edition v → Says (g.var edition) (bare_var v) (var_words v)
  var_says v f = (
    nowhere,
    plain_token (word.Key k.Var) ∷ [],
    _,
    refl,
    key_says k.Var,
    (
      named v.name.text,
      plain_token (word.Name v.name.text) ∷ [],
      _,
      refl,
      name_says edition v.name.text f,
      (
        nowhere,
        plain_token (word.Sign s.Colon) ∷ [],
        _,
        refl,
        sign_says s.Colon,
        (
          v.kind,
          plain_token (word.Key (kind_key v.kind)) ∷ [],
          _,
          refl,
          type_says v.kind,
          (
            nowhere,
            plain_token (word.Sign s.Equals) ∷ [],
            _,
            refl,
            sign_says s.Equals,
            (
              record { at = nowhere; value = v.initial.value },
              map plain_token (literal_words v.initial.value),
              _,
              map-append plain_token (literal_words v.initial.value) semicolon,
              initial_says v.initial.value,
              (nowhere, map plain_token semicolon, [], refl, sign_says s.Semicolon, (refl, refl)),
            ),
          ),
        ),
      ),
    ),
  )

  pub vars_say : (vs : List VarDecl) → Each (VarFits edition) vs → Says (many (g.var edition)) (map bare_var vs) (all_of var_words vs)
  vars_say vs f = all_say (g.var edition) bare_var var_words (VarFits edition) var_says vs f

  -- ---- methods and events

  param_says : (p : Param) → ParamFits edition p → Says (g.param edition) (bare_param p) (param_words p)
  param_says p f = (
    named p.name.text,
    plain_token (word.Name p.name.text) ∷ [],
    _,
    refl,
    name_says edition p.name.text f,
    (
      nowhere,
      plain_token (word.Sign s.Colon) ∷ [],
      _,
      refl,
      sign_says s.Colon,
      (p.kind, plain_token (word.Key (kind_key p.kind)) ∷ [], [], refl, type_says p.kind, (refl, refl)),
    ),
  )

  pub params_say : (ps : List Param) → Each (ParamFits edition) ps → Says (g.params edition) (map bare_param ps) (params_words ps)
  params_say ps f = parens_say (g.param edition) bare_param param_words (ParamFits edition) param_says ps f

  pub result_says : (o : Option Kind) → Says g.result o (result_words o)
  result_says None = refl
  result_says (Some j) = (nowhere, plain_token (word.Sign s.Colon) ∷ [], _, refl, sign_says s.Colon, type_says j)

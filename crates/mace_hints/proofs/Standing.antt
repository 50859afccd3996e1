-- What the parser's answer says of going on.
use Rattle.std.proofs.Common.{◌≡◌, ℕ, ◌+◌, ◌<◌, ⊎_elim, List, [], length, take, refl, sym, ◌∙◌, subst, arith, eqb-true, eq-eqb, append-nil}
use Rattle.std.specs.Prelude.{◌==◌, ◌↔◌, IsTrue, IfOk, IfErr, OnOk, Result, Ok, Err}
use Rattle.std.proofs.lemmas.Bool.{cases_lt}
use Rattle.std.proofs.lemmas.List.{take_all, length-map}
use Rattle.mace_lexer.specs.declared.token.Token.{Token}
use Rattle.mace_lexer.specs.declared.token.Word.{Word}
use Rattle.mace_ast.specs.Decls.{ServiceTree}
use Rattle.mace_grammar.specs.Nest.{IsShallow}
use Rattle.mace_grammar.specs.Spelled.{words, Spelled, Begun, IsExpected, IsTooDeep}
use Rattle.mace_grammar.proofs.Judge.{begun_all}
use Rattle.mace_ast.specs.declared.service.Service.{Service}
use Rattle.mace_ast.specs.Decls.{service_tree}
use Rattle.mace_parser.specs.declared.fault.ParseError.{ParseError}
use Rattle.mace_parser.specs.declared.fault.ParseError.TheVariants.{Expected, TooDeep, OutOfMemory}
use Rattle.mace_parser.specs.Parsed.{TellsFault}
use Rattle.mace_hints.specs.inner.Verdicts.{of_parser}
use Rattle.mace_hints.specs.Hints.{GoesOn}
use Rattle.mace_hints.proofs.Going.{alike_self, begun_goes_on, goes_on_begun}

abbrev pub Stands : List Word → Type 0
Stands ws = GoesOn ws × IsShallow ws

pub tree_stands : (ws : List Word) (s : ServiceTree) → Spelled s ws → IsShallow ws → Stands ws
tree_stands ws s h n = (([], s, subst (λ l. Spelled s l) (sym (append-nil ws)) h), n)

all_expected : (ws : List Word) (k : ℕ) → IsExpected ws k → k ≡ length ws → Stands ws
all_expected ws k e same =
    let all : take k ws ≡ ws = take_all k ws (omega arith) in
    (begun_goes_on ws ws (alike_self ws) (subst (λ l. Begun l) all e.begun), subst (λ l. IsShallow l) all e.shallow)

not_before : (ws : List Word) (k : ℕ) → IsExpected ws k → k < length ws → Stands ws → ⊥
not_before ws k e l s = e.ends l (begun_all ws (k + 1) (goes_on_begun ws s.0))

-- a fault behind all words, and nowhere before it
pub expected_stands : (ts : List Token) (k : ℕ) → IsExpected (words ts) k → IsTrue (k == length ts) ↔ Stands (words ts)
expected_stands ts k e =
    let ws = words ts in
    let size : length ws ≡ length ts = length-map ts (λ t. t.word) in (
      (λ y. all_expected ws k e (eqb-true k (length ts) y ∙ sym size)),
      (λ s. ⊎_elim
          (λ l. absurd (not_before ws k e l s))
          (λ le. let within = e.within in let same : k ≡ length ts = omega arith in eq-eqb k (length ts) same)
          (cases_lt k (length ws))),
    )

pub deep_stands : (ws : List Word) (k : ℕ) → IsTooDeep ws k → Stands ws → ⊥
deep_stands ws k d s =
    let within = d.within in
    let deep = d.deep in
    let shallow = s.1 (k + 1) (omega arith) in
    omega arith

-- what the parser's answer says
pub parser_stands : (text : List ℕ) (ts : List Token) (r : Result Service ParseError) → IfOk r (λ s. Spelled (service_tree s) (words ts)) → OnOk r (IsShallow (words ts)) → IfErr r (TellsFault text ts) → IfOk (of_parser r (length ts)) (λ yes. IsTrue yes ↔ Stands (words ts))
parser_stands text ts (Ok s) spelled nest fault = ((λ y. tree_stands (words ts) (service_tree s) spelled nest), (λ x. refl))
parser_stands text ts (Err (Expected k at)) spelled nest fault = expected_stands ts k fault.0
parser_stands text ts (Err (TooDeep k at)) spelled nest fault = ((λ y. cc), (λ x. absurd (deep_stands (words ts) k fault.0 x)))
parser_stands text ts (Err (OutOfMemory refused)) spelled nest fault = tt

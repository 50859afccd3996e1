-- A text is read in one way.
use Rattle.std.proofs.Common.{◌≡◌, ◌≢◌, ℕ, suc, ◌+◌, ◌≤◌, inl, inr, List, [], length, Result, Ok, Err, false, refl, sym, ◌∙◌, subst, ap, arith}
use Rattle.wave_base.specs.declared.span.Span.{Span}
use Rattle.wave_base.specs.declared.limits.TheConstants.{SERVICE_BYTES}
use Rattle.mace_lexer.specs.declared.fault.LexError.{LexError}
use Rattle.mace_lexer.specs.declared.fault.LexError.TheVariants as lex
use Rattle.mace_lexer.specs.declared.token.Token.{Token}
use Rattle.mace_lexer.specs.declared.keyword.Keyword.TheVariants as key
use Rattle.mace_lexer.specs.Lexed as lexed
use Rattle.mace_lexer.proofs.CutLemmas.{one_cutting, no_fault}
use Rattle.mace_ast.specs.declared.service.Service.{Service}
use Rattle.mace_ast.specs.Decls.{ServiceTree, service_tree}
use Rattle.mace_grammar.specs.inner.Classes as classes
use Rattle.mace_grammar.specs.Words.{first}
use Rattle.mace_grammar.specs.Grammar as g
use Rattle.mace_grammar.specs.inner.Readers as r
use Rattle.mace_grammar.specs.inner.Run.{Outcome}
use Rattle.mace_grammar.specs.Nest.{IsShallow}
use Rattle.mace_grammar.specs.Spelled.{words, Spelled, IsExpected, IsTooDeep, place_in}
use Rattle.mace_grammar.proofs.Reading.{Reads, whole_only}
use Rattle.mace_grammar.proofs.DeclReads.{service}
use Rattle.mace_grammar.proofs.Judge.{judge, judge_spelled}
use Rattle.mace_parser.specs.declared.fault.ParseError.{ParseError}
use Rattle.mace_parser.specs.declared.fault.ParseError.TheVariants as parse
use Rattle.mace_parser.specs.Parsed as parsed
use Rattle.service_reader.specs.declared.fault.TextFault.{TextFault}
use Rattle.service_reader.specs.declared.fault.TextFault.TheVariants as fault
use Rattle.service_reader.specs.Faults.{of_parser}
use Rattle.service_reader.specs.Parsing.{IsService, IsLexFault, IsParseFault, Parses, IsOnlyParse, Answers}
use Rattle.wave_base.specs.Memory.{the_refusal}

-- ---- trees

reads : (ts : List Token) → Reads (classes.kind first) (suc (length ts)) g.service g.service (judge ts) (r.if_key key.Service) false []
reads ts =
    let n : length ts + 1 ≡ suc (length ts) = omega arith in
    subst (λ m. Reads (classes.kind first) m g.service g.service (judge ts) (r.if_key key.Service) false []) n (service (length ts + 1))

judged : (ts : List Token) (s : ServiceTree) → g.service.Spells s ts → judge ts ts ≡ Ok (s, [])
judged ts s h = whole_only (classes.kind first) g.service (judge ts) (r.if_key key.Service) [] false ts (reads ts) s h

tree_in : ServiceTree → Outcome ServiceTree → ServiceTree
tree_in d (Ok x) = x.0
tree_in d (Err e) = d

-- tokens spell one tree at most, places and all
pub one_tree : (ts : List Token) (s t : ServiceTree) → g.service.Spells s ts → g.service.Spells t ts → s ≡ t
unfolding tree_in
one_tree ts s t h k = ap (tree_in s) (sym (judged ts s h) ∙ judged ts t k)

pub words_spelled : (ts : List Token) (s : ServiceTree) → g.service.Spells s ts → Spelled s (words ts)
words_spelled ts s h = judge_spelled ts s (judged ts s h)

pub one_service : (text : List ℕ) (s t : ServiceTree) → IsService text s → IsService text t → s ≡ t
one_service text s t a b = one_tree a.tokens s t a.spelled (subst (λ ts. g.service.Spells t ts) (one_cutting b.cut a.cut) b.spelled)

-- ---- faults of tokens

told_fault : (text : List ℕ) (e : LexError) → e ≢ lex.OutOfMemory the_refusal → lexed.TellsFault text e → (f : _) × (at : Span) × (lexed.IsFirstFault text f at) × (e ≡ lexed.error_of f at)
told_fault text (lex.BadByte at) n h = (_, at, h, refl)
told_fault text (lex.NumberRange at) n h = (_, at, h, refl)
told_fault text (lex.OpenText at) n h = (_, at, h, refl)
told_fault text (lex.NameLong at) n h = (_, at, h, refl)
told_fault text (lex.TextLong at) n h = (_, at, h, refl)
told_fault text (lex.OutOfMemory _) n h = absurd (n refl)

cut_or_fault : (text : List ℕ) (ts : List Token) (e : LexError) → lexed.AreTokens text ts → IsLexFault text e → ⊥
cut_or_fault text ts e cut f = let told = told_fault text e f.known f.told in no_fault cut told.2

-- ---- what the parser answers

-- a result of the parser: what is spelled is read, and what is at fault is refused for it
pub record Parsed (text : List ℕ) (tokens : List Token) (result : Result Service ParseError) : Type 0 where
  pub only : (s : ServiceTree) → Spelled s (words tokens) → IsShallow (words tokens) → parsed.AnswersTree result s
  pub expected : (k : ℕ) → IsExpected (words tokens) k → parsed.AnswersFault result (parse.Expected k (place_in text tokens k))
  pub deep : (k : ℕ) → IsTooDeep (words tokens) k → parsed.AnswersFault result (parse.TooDeep k (place_in text tokens k))

-- a fault of the grammar is what the parser answers
answered : (text : List ℕ) (tokens : List Token) (result : Result Service ParseError) → Parsed text tokens result → (e : ParseError) → e ≢ parse.OutOfMemory the_refusal → parsed.TellsFault text tokens e →
    parsed.AnswersFault result e
answered text tokens result p (parse.Expected k at) n h = subst (λ x. parsed.AnswersFault result (parse.Expected k x)) (sym h.1) (p.expected k h.0)
answered text tokens result p (parse.TooDeep k at) n h = subst (λ x. parsed.AnswersFault result (parse.TooDeep k x)) (sym h.1) (p.deep k h.0)
answered text tokens result p (parse.OutOfMemory _) n h = absurd (n refl)

ok_no_fault : (s : Service) (e : ParseError) → parsed.AnswersFault (Ok s) e → ⊥
ok_no_fault s e (inl h) = cc
ok_no_fault s e (inr h) = cc

err_same : (e k : ParseError) → e ≢ parse.OutOfMemory the_refusal → parsed.AnswersFault (Err e) k → e ≡ k
err_same e k n (inl h) = absurd (n (cc))
err_same e k n (inr h) = cc

of_tokens : (text : List ℕ) (tokens : List Token) (e : ParseError) → lexed.AreTokens text tokens → (f : IsParseFault text e) → parsed.TellsFault text tokens e
of_tokens text tokens e cut f = subst (λ ts. parsed.TellsFault text ts e) (one_cutting f.cut cut) f.told

pub read_so : (text : List ℕ) (tokens : List Token) (s : Service) → length text ≤ SERVICE_BYTES → lexed.AreTokens text tokens → Parsed text tokens (Ok s) →
    g.service.Spells (service_tree s) tokens → IsShallow (words tokens) → IsOnlyParse text (Ok (service_tree s))
read_so text tokens s short cut p spelled shallow = record { is_so = so; only = others }
  where
    so : IsService text (service_tree s)
    so = record { short = short; tokens = tokens; cut = cut; spelled = spelled; shallow = shallow }

    others : (other : Result ServiceTree TextFault) → Parses text other → other ≡ Ok (service_tree s)
    others (Ok t) h = ap Ok (one_service text t (service_tree s) h so)
    others (Err fault.TooLarge) h = absurd (omega arith)
    others (Err (fault.Lex e)) h = absurd (cut_or_fault text tokens e cut h)
    others (Err (fault.Parse e)) h = absurd (ok_no_fault s e (answered text tokens (Ok s) p e h.known (of_tokens text tokens e cut h)))
    others (Err (fault.OutOfMemory _)) h = absurd h

pub refused_so : (text : List ℕ) (tokens : List Token) (e : ParseError) → length text ≤ SERVICE_BYTES → lexed.AreTokens text tokens → Parsed text tokens (Err e) →
    e ≢ parse.OutOfMemory the_refusal → parsed.TellsFault text tokens e → IsOnlyParse text (Err (fault.Parse e))
refused_so text tokens e short cut p known told = record { is_so = so; only = others }
  where
    so : IsParseFault text e
    so = record { short = short; tokens = tokens; cut = cut; known = known; told = told }

    others : (other : Result ServiceTree TextFault) → Parses text other → other ≡ Err (fault.Parse e)
    others (Ok t) h =
        let spelled : g.service.Spells t tokens = subst (λ ts. g.service.Spells t ts) (one_cutting h.cut cut) h.spelled in
        let shallow : IsShallow (words tokens) = subst (λ ts. IsShallow (words ts)) (one_cutting h.cut cut) h.shallow in
        absurd (known (p.only t (words_spelled tokens t spelled) shallow))
    others (Err fault.TooLarge) h = absurd (omega arith)
    others (Err (fault.Lex k)) h = absurd (cut_or_fault text tokens k cut h)
    others (Err (fault.Parse k)) h = ap (λ x. Err (fault.Parse x)) (sym (err_same e k known (answered text tokens (Err e) p k h.known (of_tokens text tokens k cut h))))
    others (Err (fault.OutOfMemory _)) h = absurd h

-- what is told of a fault of the parser
pub refused : (text : List ℕ) (tokens : List Token) (e : ParseError) → length text ≤ SERVICE_BYTES → lexed.AreTokens text tokens → Parsed text tokens (Err e) →
    parsed.TellsFault text tokens e → Answers text (Err (of_parser e))
refused text tokens (parse.Expected k at) short cut p told = inr (refused_so text tokens (parse.Expected k at) short cut p (λ h. cc) told)
refused text tokens (parse.TooDeep k at) short cut p told = inr (refused_so text tokens (parse.TooDeep k at) short cut p (λ h. cc) told)
refused text tokens (parse.OutOfMemory _) short cut p told = inl refl

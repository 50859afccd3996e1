-- A word of a hint is tried: the text is cut into the words and it, and the parser's answer is told of them.
use Rattle.std.proofs.Common.{◌≡◌, ℕ, ⊎_elim, Bool, List, [], ◌∷◌, ◌++◌, Result, Ok, Err, IfOk, sym, subst, ap}
use Rattle.std.specs.Prelude.{◌↔◌, ◌≢◌, IsTrue}
use Rattle.wave_base.specs.declared.memory.OutOfMemory.{OutOfMemory}
use Rattle.wave_base.specs.Memory.{the_refusal}
use Rattle.mace_lexer.specs.declared.token.Token.{Token}
use Rattle.mace_lexer.specs.declared.token.Word.{Word}
use Rattle.mace_lexer.specs.declared.fault.LexError.{LexError}
use Rattle.mace_lexer.specs.declared.fault.LexError.TheVariants as lex
use Rattle.mace_lexer.specs.Lexed.{AreTokens, Answers}
use Rattle.mace_grammar.specs.Spelled.{words}
use Rattle.mace_printer.specs.Layout.{layout}
use Rattle.mace_printer.specs.Written.{IsCutInto}
use Rattle.mace_hints.specs.declared.hint.Hint.{Hint}
use Rattle.mace_hints.specs.Hints.{word_of, CanFollow}
use Rattle.mace_hints.specs.inner.Fronts.{IsFront}
use Rattle.mace_hints.specs.inner.Verdicts.{of_lexer}
use Rattle.mace_hints.proofs.Standing.{Stands}
use Rattle.mace_hints.proofs.Following.{front_cut, follows_by_word}

-- these tokens, or this fault, are all that the text has
abbrev pub IsOnly : List ℕ → Result (List Token) LexError → Type 0
IsOnly text r = (tokens : List Token) → AreTokens text tokens → Answers r (Ok tokens)

one_answer : (ts us : List Token) → Answers (Ok ts) (Ok us) → ts ≡ us
one_answer ts us a = ⊎_elim (λ e. cc) (λ e. cc) a

pub cut_goes_on : (text : List ℕ) (ts : List Token) (r : Result Bool OutOfMemory) → IsOnly text (Ok ts) → IfOk r (λ yes. IsTrue yes ↔ Stands (words ts)) → IfOk r (λ yes. (ws : List Word) → IsCutInto text ws → IsTrue yes ↔ Stands ws)
cut_goes_on text ts (Err e) only h = h
cut_goes_on text ts (Ok b) only h = λ ws c.
    let (us, cut, same) = c in
    let e : words ts ≡ ws = subst (λ l. words l ≡ ws) (sym (one_answer ts us (only us cut))) same in
    subst (λ l. IsTrue b ↔ Stands l) e h

abbrev fault_in : LexError → Result (List Token) LexError → LexError
fault_in d (Ok ts) = d
fault_in d (Err e) = e

fault_cuts_none : (text : List ℕ) (e : LexError) → e ≢ lex.OutOfMemory the_refusal → IsOnly text (Err e) → (ws : List Word) → IsCutInto text ws → ⊥
fault_cuts_none text e n only ws c = let (us, cut, same) = c in ⊎_elim (λ x. n (ap (fault_in e) x)) (λ x. cc) (only us cut)

pub lexer_cuts_none : (text : List ℕ) (e : LexError) → IsOnly text (Err e) → IfOk (of_lexer e) (λ yes. (ws : List Word) → IsCutInto text ws → IsTrue yes ↔ Stands ws)
lexer_cuts_none text (lex.OutOfMemory refused) only = tt
lexer_cuts_none text (lex.BadByte at) only = λ ws c. absurd (fault_cuts_none text (lex.BadByte at) (λ x. cc) only ws c)
lexer_cuts_none text (lex.NumberRange at) only = λ ws c. absurd (fault_cuts_none text (lex.NumberRange at) (λ x. cc) only ws c)
lexer_cuts_none text (lex.OpenText at) only = λ ws c. absurd (fault_cuts_none text (lex.OpenText at) (λ x. cc) only ws c)
lexer_cuts_none text (lex.NameLong at) only = λ ws c. absurd (fault_cuts_none text (lex.NameLong at) (λ x. cc) only ws c)
lexer_cuts_none text (lex.TextLong at) only = λ ws c. absurd (fault_cuts_none text (lex.TextLong at) (λ x. cc) only ws c)

pub can_follow_by : (front text : List ℕ) (x : Hint) (r : Result Bool OutOfMemory) → text ≡ front ++ layout (word_of x ∷ []) → IfOk r (λ yes. (ws : List Word) → IsCutInto text ws → IsTrue yes ↔ Stands ws) → IfOk r (λ yes. (ws : List Word) → IsFront front ws → IsTrue yes ↔ CanFollow ws x)
can_follow_by front text x (Err e) same h = h
can_follow_by front text x (Ok b) same h = λ ws f.
    let a = h (ws ++ word_of x ∷ []) (front_cut front text ws x f same) in
    let w = follows_by_word ws x in
    ((λ y. w.0 (a.0 y)), (λ g. a.1 (w.1 g)))

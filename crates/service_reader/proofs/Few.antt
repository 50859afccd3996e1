-- A text declares few classes, methods and events: each takes some of its words, and each word some of its bytes.
use Rattle.std.proofs.Common.{◌≡◌, ℕ, ◌+◌, ◌*◌, ◌≤◌, inl, inr, List, [], ◌∷◌, length, All, Result, Ok, Err, IfOk, arith}
use Rattle.std.proofs.lemmas.List.{length-map}
use Rattle.std.proofs.lemmas.List.Elements.{All-head, All-tail}
use Rattle.mace_lexer.specs.declared.token.Token.{Token}
use Rattle.mace_lexer.specs.declared.token.Word.{Word}
use Rattle.mace_lexer.specs.Lexed.{AreTokens, LiesIn, AreInOrder}
use Rattle.mace_lexer.proofs.Places.{tokens_lie, tokens_in_order}
use Rattle.mace_ast.specs.declared.service.Service.{Service}
use Rattle.mace_ast.specs.Counts.{classes_count, methods_count, IsFew}
use Rattle.mace_ast.specs.Decls.{ServiceTree, service_tree, contexts_of}
use Rattle.mace_grammar.specs.Spelled.{words, Spelled}
use Rattle.service_reader.specs.declared.fault.TextFault.{TextFault}
use Rattle.service_reader.specs.Parsing.{IsService, tree_read, Answers}
use Rattle.service_reader.proofs.ReadLemmas.{words_spelled}

-- tokens from this byte on
in_bytes : (text : List ℕ) (from : ℕ) (ts : List Token) → from ≤ length text → AreInOrder from ts → All (LiesIn text) ts → from + length ts ≤ length text
in_bytes text from [] h order lie = omega arith
in_bytes text from (t ∷ ts) h order lie =
    let here : LiesIn text t = All-head (LiesIn text) t ts lie in
    let behind : t.to + length ts ≤ length text = in_bytes text t.to ts here.within order.1 (All-tail (LiesIn text) t ts lie) in
    omega (arith, behind, here.some, order.0)

no_more_tokens : (text : List ℕ) (ts : List Token) → AreTokens text ts → length ts ≤ length text
no_more_tokens text ts h = omega (arith, in_bytes text 0 ts (omega arith) (tokens_in_order text ts h) (tokens_lie text ts h))

-- words that spell a service are so many at least
abbrev pub TakeWords : Type 0
TakeWords = (t : ServiceTree) (ws : List Word) → Spelled t ws → 7 * classes_count (contexts_of t.contexts) + 6 * (methods_count (contexts_of t.contexts) + length t.methods + length t.events) + 4 ≤ length ws

service_few : TakeWords → (text : List ℕ) (s : ServiceTree) → IsService text s → IsFew s
service_few take text s h =
    let least = take s (words h.tokens) (words_spelled h.tokens s h.spelled) in
    let most : length h.tokens ≤ length text = no_more_tokens text h.tokens h.cut in
    let same : length (words h.tokens) ≡ length h.tokens = length-map h.tokens _ in
    record { classes = omega (arith, least, most, same, h.short); functions = omega (arith, least, most, same, h.short) }

pub few : TakeWords → (text : List ℕ) (result : Result Service TextFault) → Answers text (tree_read result) → IfOk result (λ s. IsFew (service_tree s))
few take text (Ok s) (inl h) = absurd (cc)
few take text (Ok s) (inr h) = service_few take text (service_tree s) h.is_so
few take text (Err e) h = tt

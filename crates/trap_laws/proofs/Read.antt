-- A service that was read from a text: its traps stand at tokens, and tokens stand on lines from 1.
use Rattle.std.proofs.Common.{◌≡◌, ◌≢◌, ◌≤◌, ◌+◌, ◌==◌, ℕ, Bool, true, false, List, [], ◌∷◌, take, ap, refl, arith}
use Rattle.std.specs.List.{Contains}
use Rattle.std.specs.Prelude.{if◌then◌else◌}
use Rattle.std.proofs.lemmas.List.Elements.{All-contains, All-contains_itself, All-from_recursion, recursion_from_All}
use Rattle.wave_base.specs.declared.span.Span.{Span}
use Rattle.wave_base.specs.declared.trap.Trap.{Trap}
use Rattle.mace_lexer.specs.declared.token.Token.{Token}
use Rattle.mace_lexer.specs.Cuts.{Cuts, at_end, gap, spelled, past, past_byte}
use Rattle.resolved_service.specs.declared.service.Resolved.{Resolved}
use Rattle.resolved_service.specs.Meaning.{nowhere}
use Rattle.type_rules.specs.Services.{resolve_service}
use Rattle.trap_laws.specs.Traps.{ComesOf}
use Rattle.trap_laws.specs.Places.{BeginsToken, IsReadFrom}
use Rattle.trap_laws.proofs.Decls.{service, service_placed}
use Rattle.mace_grammar.proofs.Parts.{Each}
use Rattle.trap_laws.proofs.Views.{comes_of}

weaker : {A : Type 0} (S T : A → Type 0) → ((a : A) → S a → T a) → (xs : List A) → Each S xs → Each T xs
weaker S T f [] ss = tt
weaker S T f (x ∷ xs) ss = (f x ss.0, weaker S T f xs ss.1)

-- whatever can trap of the service stands at a token
pub at_tokens : (text : List ℕ) (service : Resolved) → IsReadFrom text service → (number : ℕ) (trap : Trap) → ComesOf service number trap → BeginsToken text trap.at
at_tokens text s r number trap comes =
    let p = r.parses in
    comes_of (BeginsToken text) s (resolve_service r.tree) r.resolved
    (service_placed (BeginsToken text) r.tree
    ((service (BeginsToken text)).so r.tree p.tokens
    (weaker (Contains p.tokens) (λ (t : Token). BeginsToken text t.span) (λ t c. record { tokens = p.tokens; cut = p.cut; token = t; there = c; begins = refl }) p.tokens
    (recursion_from_All (Contains p.tokens) p.tokens (All-contains_itself p.tokens)))
    p.spelled))
    number trap comes

-- ---- lines

abbrev OnLine : Span → Type 0
OnLine at = 1 ≤ at.line

next_line : (at : Span) (b : Bool) → OnLine at → OnLine (if b then record { line = at.line + 1; col = 1 } else record { line = at.line; col = at.col + 1 })
next_line at true h = omega (arith, h)
next_line at false h = h

past_on : (at : Span) (bytes : List ℕ) → OnLine at → OnLine (past at bytes)
past_on at [] h = h
past_on at (b ∷ bs) h = past_on (past_byte at b) bs (next_line at (b == 10) h)

lined : {at : Span} {from : ℕ} {text : List ℕ} {tokens : List Token} → Cuts at from text tokens → OnLine at → Each (λ (t : Token). OnLine t.span) tokens
lined at_end h = tt
lined {at = at} {text = text} (gap {n = n} longest more) h = lined more (past_on at (take n text) h)
lined {at = at} {text = text} (spelled {n = n} longest more) h = (h, lined more (past_on at (take n text) h))

-- a token doesn't stand nowhere
pub somewhere : (text : List ℕ) (at : Span) → BeginsToken text at → at ≢ nowhere
somewhere text at b same =
    let h : OnLine (b.token).span = All-contains (λ (t : Token). OnLine t.span) b.tokens b.token (All-from_recursion (λ (t : Token). OnLine t.span) b.tokens (lined b.cut (omega arith))) b.there in
    let line : at.line ≡ 0 = ap (λ (x : Span). x.line) same in
    let there : (b.token).span.line ≡ at.line = ap (λ (x : Span). x.line) b.begins in
    omega (arith, h, line, there)

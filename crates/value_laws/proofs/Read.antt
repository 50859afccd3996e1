-- A service that was read from a text is bounded: its tokens have numbers and texts within the limits.
use Rattle.std.proofs.Common.{◌≡◌, ◌≤◌, ℕ, ℤ, pos, List, [], ◌∷◌, map, take, Option, Some, None, Ok, FitsSigned, w64, sym, subst, arith}
use Rattle.std.specs.Option.{option_map}
use Rattle.std.proofs.lemmas.List.Elements.{All-from_recursion}
use Rattle.wave_base.specs.declared.span.Span.{Span}
use Rattle.mace_lexer.specs.declared.token.Token.{Token}
use Rattle.mace_lexer.specs.declared.token.Word.{Word}
use Rattle.mace_lexer.specs.declared.token.Word.TheVariants as word
use Rattle.mace_lexer.specs.Cuts.{Cuts, at_end, gap, spelled}
use Rattle.mace_lexer.specs.Pieces.{IsPiece, Spell}
use Rattle.mace_ast.specs.Decls.{ServiceTree}
use Rattle.service_reader.specs.Parsing.{Parses}
use Rattle.resolved_service.specs.declared.service.Event.{Event}
use Rattle.resolved_service.specs.declared.service.Last.{Last}
use Rattle.resolved_service.specs.declared.service.Method.{Method}
use Rattle.resolved_service.specs.declared.service.Phase.{Phase}
use Rattle.resolved_service.specs.declared.service.Resolved.{Resolved}
use Rattle.type_rules.specs.Known.{Entry, service_classes, shape_of}
use Rattle.type_rules.specs.Services.{resolve_service}
use Rattle.type_rules.specs.Views.{event_view, last_view, method_view, phase_view, resolved_view}
use Rattle.value_laws.proofs.Decls.{EntryIs, EventIs, IsService, LastIs, MethodIs, PhaseIs, ServiceIs, entries_are, service, service_is}
use Rattle.value_laws.proofs.Exprs.{IsToken, IsWord}
use Rattle.mace_grammar.proofs.Parts.{Each}
use Rattle.value_laws.specs.Services.{BoundedEvent, BoundedLast, BoundedMethod, BoundedPhase, BoundedService}
use Rattle.value_laws.specs.Values.{BoundedClass, BoundedShape}

-- ---- tokens

below_fits : (z : ℤ) (n : ℕ) → z ≡ pos n → n ≤ 9223372036854775807 → FitsSigned w64 z
below_fits z n e h = subst (FitsSigned w64) (sym e) (record { sfits = omega (arith, h) })

word_is : (v : Word) (bs : List ℕ) → IsPiece (Spell v) bs → IsWord v
word_is (word.Number n) bs h = below_fits n _ h.2 h.1
word_is (word.Text t) bs h = record { printable = h.1; short = omega (arith, h.2) }
word_is (word.Name t) bs h = tt
word_is (word.Key j) bs h = tt
word_is (word.Sign j) bs h = tt

tokens_are : {at : Span} {from : ℕ} {text : List ℕ} {tokens : List Token} → Cuts at from text tokens → Each IsToken tokens
tokens_are at_end = tt
tokens_are (gap longest more) = tokens_are more
tokens_are {text = text} (spelled {n = n} {w = v} longest more) = (word_is v (take n text) longest.piece, tokens_are more)

-- ---- services

last_bounded : (o : Option Last) → LastIs (option_map last_view o) → BoundedLast o
last_bounded None h = tt
last_bounded (Some l) h = h

method_bounded : (m : Method) → MethodIs (method_view m) → BoundedMethod m
method_bounded m h = record { body = h.body; last = last_bounded m.last h.last }

phase_bounded : (f : Phase) → PhaseIs (phase_view f) → BoundedPhase f
phase_bounded f h = record { key = h.key; body = h.body }

each_of : {X Y : Type 0} (f : X → Y) (S : Y → Type 0) (T : X → Type 0) → ((x : X) → S (f x) → T x) → (xs : List X) → Each S (map f xs) → Each T xs
each_of f S T g [] hs = tt
each_of f S T g (x ∷ xs) hs = (g x hs.0, each_of f S T g xs hs.1)

each_map : {X Y : Type 0} (f : X → Y) (S : Y → Type 0) (xs : List X) → Each (λ x. S (f x)) xs → Each S (map f xs)
each_map f S [] hs = tt
each_map f S (x ∷ xs) hs = (hs.0, each_map f S xs hs.1)

event_bounded : (e : Event) → EventIs (event_view e) → BoundedEvent e
event_bounded e h = record {
  here = h.here;
  phases = All-from_recursion BoundedPhase e.phases (each_of phase_view PhaseIs BoundedPhase phase_bounded e.phases h.phases);
  last = last_bounded e.last h.last;
}

service_bounded : (service : Resolved) → ServiceIs (resolved_view service) → BoundedService service
service_bounded service h = record {
  methods = All-from_recursion BoundedMethod service.methods (each_of method_view MethodIs BoundedMethod method_bounded service.methods h.methods);
  events = All-from_recursion BoundedEvent service.events (each_of event_view EventIs BoundedEvent event_bounded service.events h.events);
}

shape_bounded : (tree : ServiceTree) → Each EntryIs (service_classes tree) → BoundedShape (shape_of tree)
unfolding shape_of
shape_bounded tree h = All-from_recursion BoundedClass (map (λ (c : Entry). c.info) (service_classes tree)) (each_map (λ (c : Entry). c.info) BoundedClass (service_classes tree) h)

pub read_bounded : (text : List ℕ) (tree : ServiceTree) (resolved : Resolved) → Parses text (Ok tree) → resolved_view resolved ≡ resolve_service tree → BoundedShape (shape_of tree) × BoundedService resolved
read_bounded text tree resolved p same =
    let is : IsService tree = service.so tree p.tokens (tokens_are p.cut) p.spelled in
    (shape_bounded tree (entries_are tree is), service_bounded resolved (subst ServiceIs (sym same) (service_is tree is)))

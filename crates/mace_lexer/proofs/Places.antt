-- Where the tokens of a text lie.
use Rattle.std.proofs.Common.{◌≡◌, ℕ, zero, suc, ◌+◌, ◌-◌, ◌<◌, ◌≤◌, List, [], ◌∷◌, ◌++◌, length, take, drop, All, refl, sym, ◌∙◌, ap, subst, arith}
use Rattle.std.specs.Prelude.{slice_range}
use Rattle.std.proofs.Math.Seq.{take-add}
use Rattle.std.proofs.lemmas.List.{drop-drop, length-drop}
use Rattle.std.proofs.lemmas.List.Elements.{All-nil, All-cons}
use Rattle.wave_base.specs.declared.span.Span.{Span}
use Rattle.mace_lexer.specs.declared.token.Token.{Token}
use Rattle.mace_lexer.specs.Pieces.{Piece, Spell, IsPiece, IsLongest}
use Rattle.mace_lexer.specs.Cuts.{Cuts, at_end, gap, spelled, past, past_byte}
use Rattle.mace_lexer.specs.Lexed.{start, AreTokens, LiesIn, AreInOrder}
use Rattle.mace_lexer.proofs.Longest.{no_empty}

past-append : (at : Span) (bs cs : List ℕ) → past at (bs ++ cs) ≡ past (past at bs) cs
past-append at [] cs = refl
past-append at (b ∷ bs) cs = past-append (past_byte at b) bs cs

module _ (whole : List ℕ) (text : List ℕ) (at : Span) (from n : ℕ) (rest : text ≡ drop from whole) (place : at ≡ past start (take from whole)) (within : from ≤ length whole) where
  next_rest : drop n text ≡ drop (from + n) whole
  next_rest = ap (drop n) rest ∙ drop-drop n from whole

  next_place : past at (take n text) ≡ past start (take (from + n) whole)
  next_place = ap (λ a. past a (take n text)) place ∙ ap (λ t. past (past start (take from whole)) (take n t)) rest ∙ sym (past-append start (take from whole) (take n (drop from whole))) ∙ ap (past start) (sym (take-add from n whole))

  next_within : n ≤ length text → from + n ≤ length whole
  next_within h = omega (arith, ap length rest, length-drop from whole)

  same_bytes : take n text ≡ slice_range whole from (from + n)
  same_bytes = let e : from + n - from ≡ n = omega arith in ap (take n) rest ∙ ap (λ k. take k (drop from whole)) (sym e)

longest_positive : (text : List ℕ) (n : ℕ) (p : Piece) → IsLongest text n p → 0 < n
longest_positive text zero p h = absurd (no_empty p h.piece)
longest_positive text (suc n) p h = omega arith

lie : {at : Span} {from : ℕ} {text : List ℕ} {tokens : List Token} → Cuts at from text tokens → (whole : List ℕ) → text ≡ drop from whole → at ≡ past start (take from whole) → from ≤ length whole → All (LiesIn whole) tokens
lie at_end whole r p w = All-nil (LiesIn whole)
lie {at = at} {from = from} (gap {n = n} {text = text} h c) whole r p w = lie c whole (next_rest whole text at from n r p w) (next_place whole text at from n r p w) (next_within whole text at from n r p w h.within)
lie {at = at} {from = from} (spelled {n = n} {w = v} {text = text} {tokens = tokens} h c) whole r p w =
    let t : Token = record { word = v; span = at; from = from; to = from + n } in
    let some : 0 < n = longest_positive text n (Spell v) h in
    All-cons (LiesIn whole) t tokens
    (record { some = omega arith; within = next_within whole text at from n r p w h.within; spelled = subst (IsPiece (Spell v)) (same_bytes whole text at from n r p w) h.piece; place = p })
    (lie c whole (next_rest whole text at from n r p w) (next_place whole text at from n r p w) (next_within whole text at from n r p w h.within))

pub tokens_lie : (text : List ℕ) (tokens : List Token) → AreTokens text tokens → All (LiesIn text) tokens
tokens_lie text tokens h = lie h text refl refl (omega arith)

later : (tokens : List Token) (from to : ℕ) → from ≤ to → AreInOrder to tokens → AreInOrder from tokens
later [] from to h k = tt
later (t ∷ tokens) from to h k = (omega (arith, k.0), k.1)

order : {at : Span} {from : ℕ} {text : List ℕ} {tokens : List Token} → Cuts at from text tokens → AreInOrder from tokens
order at_end = tt
order {from = from} (gap {n = n} {tokens = tokens} h c) = later tokens from (from + n) (omega arith) (order c)
order (spelled h c) = (omega arith, order c)

pub tokens_in_order : (text : List ℕ) (tokens : List Token) → AreTokens text tokens → AreInOrder 0 tokens
tokens_in_order text tokens h = order h

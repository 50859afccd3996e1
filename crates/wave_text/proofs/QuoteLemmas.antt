-- How far a text behind an opening quote was read.
use Rattle.std.proofs.Common.{◌≡◌, ℕ, Bool, true, false, cond, List, [], ◌∷◌, ◌++◌, refl, sym, ap, subst, ◌∙◌, append_assoc, append-nil, arith}
use Rattle.std.specs.Prelude.{◌==◌, ◌&&◌, ◌||◌, nat_le, nat_lt}
use Rattle.std.proofs.lemmas.Bool.Decides.{nat_tests}
use Rattle.std.proofs.lemmas.List.Elements.{All-nil, All-cons, All-head, All-tail}
use Rattle.wave_base.specs.Text.{IsPrintable}
use Rattle.wave_base.specs.Text.{escaped_text, escaped_byte}
use Rattle.wave_text.specs.Quotes.{Quotes, QuotesNone, QuotesOnly, Byte, Close, Wrong, next_in, next_escaped}

-- ---- what stands next

escaped_from : (bs r : List ℕ) (b : ℕ) → next_escaped bs ≡ Byte b r → (bs ≡ b ∷ r) × ((b == 34 || b == 92) ≡ true)
escaped_from [] r b e = cc
escaped_from (c ∷ cs) r b e =
    elim (c == 34 || c == 92) as (λ t. (c == 34 || c == 92) ≡ t → cond t (Byte c cs) Wrong ≡ Byte b r → (c ∷ cs ≡ b ∷ r) × ((b == 34 || b == 92) ≡ true)) [
      | true ↦ λ h k. (let same : c ≡ b = cc in (cc, subst (λ x. (x == 34 || x == 92) ≡ true) same h))
      | false ↦ λ h k. cc
    ] refl e

quote_printable : (b : ℕ) → (b == 34 || b == 92) ≡ true → IsPrintable b
quote_printable b h = grind (arith, nat_tests)

plain_printable : (b : ℕ) → (nat_le 32 b && nat_lt b 127) ≡ true → IsPrintable b
plain_printable b h = grind (arith, nat_tests)

plain_byte : (b : ℕ) → b == 34 ≡ false → b == 92 ≡ false → escaped_byte b ≡ b ∷ []
plain_byte b p q = (λ i. cond (p i || q i) (92 ∷ b ∷ []) (b ∷ []))

quoted_byte : (b : ℕ) → (b == 34 || b == 92) ≡ true → escaped_byte b ≡ 92 ∷ b ∷ []
quoted_byte b p = ap (λ t. cond t (92 ∷ b ∷ []) (b ∷ [])) p

is_byte : (b n : ℕ) → b == n ≡ true → b ≡ n
is_byte b n h = grind (arith, nat_tests)

byte_by : (c b : ℕ) (cs r : List ℕ) (p q t : Bool) → c == 34 ≡ p → c == 92 ≡ q → (nat_le 32 c && nat_lt c 127) ≡ t
    → cond p (Close cs) (cond q (next_escaped cs) (cond t (Byte c cs) Wrong)) ≡ Byte b r → (c ∷ cs ≡ escaped_byte b ++ r) × IsPrintable b
byte_by c b cs r true q t hp hq ht e = cc
byte_by c b cs r false true t hp hq ht e =
    let f = escaped_from cs r b e in
    let slash : c ≡ 92 = is_byte c 92 hq in
    ((λ i. slash i ∷ f.0 i) ∙ ap (λ z. z ++ r) (sym (quoted_byte b f.1)), quote_printable b f.1)
byte_by c b cs r false false true hp hq ht e =
    let same : c ≡ b = cc in
    let rest : cs ≡ r = cc in
    ((λ i. c ∷ rest i) ∙ ap (λ z. z ++ r) (sym (plain_byte c hp hq)) ∙ ap (λ z. escaped_byte z ++ r) same, subst IsPrintable same (plain_printable c ht))
byte_by c b cs r false false false hp hq ht e = cc

byte_from : (bs r : List ℕ) (b : ℕ) → next_in bs ≡ Byte b r → (bs ≡ escaped_byte b ++ r) × IsPrintable b
byte_from [] r b e = cc
byte_from (c ∷ cs) r b e = byte_by c b cs r (c == 34) (c == 92) (nat_le 32 c && nat_lt c 127) refl refl refl e

printable_test : (b : ℕ) → IsPrintable b → (nat_le 32 b && nat_lt b 127) ≡ true
printable_test b p = grind (arith, nat_tests)

not_either : (b : ℕ) → (b == 34 || b == 92) ≡ false → (b == 34 ≡ false) × (b == 92 ≡ false)
not_either b h = (grind (arith, nat_tests), grind (arith, nat_tests))

onto_by : (b : ℕ) (r : List ℕ) (t : Bool) → (b == 34 || b == 92) ≡ t → IsPrintable b → next_in (cond t (92 ∷ b ∷ []) (b ∷ []) ++ r) ≡ Byte b r
onto_by b r true h p = ap (λ t. cond t (Byte b r) Wrong) h
onto_by b r false h p =
    let n = not_either b h in
    (λ i. cond (n.0 i) (Close r) (cond (n.1 i) (next_escaped r) (cond (printable_test b p i) (Byte b r) Wrong)))

byte_onto : (b : ℕ) (r : List ℕ) → IsPrintable b → next_in (escaped_byte b ++ r) ≡ Byte b r
byte_onto b r p = onto_by b r (b == 34 || b == 92) refl p

close_by : (c : ℕ) (cs r : List ℕ) (p q t : Bool) → c == 34 ≡ p → cond p (Close cs) (cond q (next_escaped cs) (cond t (Byte c cs) Wrong)) ≡ Close r → c ∷ cs ≡ 34 ∷ r
close_by c cs r true q t hp e =
    let quote : c ≡ 34 = is_byte c 34 hp in
    let rest : cs ≡ r = cc in
    λ i. quote i ∷ rest i
close_by c cs r false true t hp e = absurd (no_close cs r e)
  where
    no_close : (bs r : List ℕ) → next_escaped bs ≡ Close r → ⊥
    no_close [] r e = cc
    no_close (b ∷ bs) r e = elim (b == 34 || b == 92) as (λ t. cond t (Byte b bs) Wrong ≡ Close r → ⊥) [ true ↦ λ k. cc | false ↦ λ k. cc ] e
close_by c cs r false false true hp e = cc
close_by c cs r false false false hp e = cc

close_from : (bs r : List ℕ) → next_in bs ≡ Close r → bs ≡ 34 ∷ r
close_from [] r e = cc
close_from (c ∷ cs) r e = close_by c cs r (c == 34) (c == 92) (nat_le 32 c && nat_lt c 127) refl e

-- ---- how far it was read

-- this front of the text was read, and this is what stands behind it
pub record IsReadTo (bytes front rest : List ℕ) : Type 0 where
  pub sound : (t r : List ℕ) → Quotes rest t r → Quotes bytes (front ++ t) r
  pub whole : (t r : List ℕ) → Quotes bytes t r → (u : List ℕ) × (t ≡ front ++ u) × Quotes rest u r

nothing_else : (rest r : List ℕ) → Quotes rest [] r → next_in rest ≡ Close r
nothing_else rest r q = ap next_in q.spelled

one_more : (rest r u : List ℕ) (b : ℕ) → Quotes rest (b ∷ u) r → next_in rest ≡ Byte b (escaped_text u ++ 34 ∷ r)
one_more rest r u b q =
    ap next_in (q.spelled ∙ append_assoc (escaped_byte b) (escaped_text u) (34 ∷ r)) ∙ byte_onto b (escaped_text u ++ 34 ∷ r) (All-head IsPrintable b u q.printable)

pub byte_read : (bytes front rest front' after : List ℕ) (b : ℕ) → IsReadTo bytes front rest → next_in rest ≡ Byte b after → front' ≡ front ++ b ∷ [] → IsReadTo bytes front' after
byte_read bytes front rest front' after b h e f = record {
  sound = λ t r q.
      let n = byte_from rest after b e in
      let longer : Quotes rest (b ∷ t) r = record {
        spelled = n.0 ∙ ap (λ z. escaped_byte b ++ z) q.spelled ∙ sym (append_assoc (escaped_byte b) (escaped_text t) (34 ∷ r));
        printable = All-cons IsPrintable b t n.1 q.printable;
      } in
      subst (λ z. Quotes bytes z r) (sym (append_assoc front (b ∷ []) t) ∙ ap (λ z. z ++ t) (sym f)) (h.sound (b ∷ t) r longer);
  whole = λ t r q. (let w = h.whole t r q in by_text (w.0) t r w.1 w.2);
}
  where
    by_text : (u t r : List ℕ) → t ≡ front ++ u → Quotes rest u r → (v : List ℕ) × (t ≡ front' ++ v) × Quotes after v r
    by_text [] t r s q = absurd (cc (sym e ∙ nothing_else rest r q))
    by_text (c ∷ u) t r s q =
        let next : Byte b after ≡ Byte c (escaped_text u ++ 34 ∷ r) = sym e ∙ one_more rest r u c q in
        let same : b ≡ c = cc in
        let left : after ≡ escaped_text u ++ 34 ∷ r = cc in
        (u, s ∙ ap (λ z. front ++ z ∷ u) (sym same) ∙ sym (append_assoc front (b ∷ []) u) ∙ ap (λ z. z ++ u) (sym f), record { spelled = left; printable = All-tail IsPrintable c u q.printable })

pub all_read : (bytes front rest after : List ℕ) → IsReadTo bytes front rest → next_in rest ≡ Close after → Quotes bytes front after × QuotesOnly bytes front after
all_read bytes front rest after h e =
    let last : Quotes rest [] after = record { spelled = close_from rest after e; printable = All-nil IsPrintable } in
    (subst (λ z. Quotes bytes z after) (append-nil front) (h.sound [] after last), λ t r q. (let w = h.whole t r q in by_text (w.0) t r w.1 w.2))
  where
    by_text : (u t r : List ℕ) → t ≡ front ++ u → Quotes rest u r → (t ≡ front) × (r ≡ after)
    by_text [] t r s q =
        let next : Close r ≡ Close after = sym (nothing_else rest r q) ∙ e in
        (s ∙ append-nil front, cc)
    by_text (c ∷ u) t r s q = absurd (cc (sym e ∙ one_more rest r u c q))

pub none_read : (bytes front rest : List ℕ) → IsReadTo bytes front rest → next_in rest ≡ Wrong → QuotesNone bytes
none_read bytes front rest h e t r q = (let w = h.whole t r q in by_text (w.0) w.2)
  where
    by_text : (u : List ℕ) → Quotes rest u r → ⊥
    by_text [] q = cc (sym e ∙ nothing_else rest r q)
    by_text (c ∷ u) q = cc (sym e ∙ one_more rest r u c q)

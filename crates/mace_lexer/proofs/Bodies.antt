-- What stands inside a text.
use Rattle.std.proofs.Common.{◌≡◌, ℕ, suc, Bool, true, false, ◌&&◌, ◌||◌, List, [], ◌∷◌, ◌++◌, All, refl, sym, ◌∙◌, ap, subst, arith, eqb-true, append_assoc, append-nil}
use Rattle.std.specs.Prelude.{◌==◌, if◌then◌else◌, nat_le}
use Rattle.std.proofs.lemmas.List.{append_cancel_left}
use Rattle.std.proofs.lemmas.Bool.Decides.{nat_tests}
use Rattle.wave_base.specs.Text.{IsPrintable}
use Rattle.mace_lexer.specs.declared.quoted.Inside.{Inside}
use Rattle.mace_lexer.specs.declared.quoted.Inside.TheVariants.{Byte, Close, Open, Bad}
use Rattle.mace_lexer.specs.Texts.{escape_of, inside_of, is_byte}
use Rattle.wave_base.specs.Text.{escaped_byte, escaped_text}

-- ---- what stands first

-- a byte that is meant stands there as it is written
pub byte_next : (b : ℕ) (rest : List ℕ) → IsPrintable b → inside_of (escaped_byte b ++ rest) ≡ Byte b
byte_next b rest h = go (b == 34 || b == 92) refl
  where
    go : (e : Bool) → (b == 34 || b == 92) ≡ e → inside_of (escaped_byte b ++ rest) ≡ Byte b
    go true k =
        let w : escaped_byte b ++ rest ≡ 92 ∷ b ∷ rest = rw k refl in
        ap inside_of w ∙ rw k refl
    go false k =
        let w : escaped_byte b ++ rest ≡ b ∷ rest = rw k refl in
        let line : (b == 10 || b == 13) ≡ false = grind (arith, nat_tests) in
        let quote : (b == 34) ≡ false = grind (arith, nat_tests) in
        let slash : (b == 92) ≡ false = grind (arith, nat_tests) in
        let plain : (nat_le 32 b && nat_le b 126) ≡ true = grind (arith, nat_tests) in
        ap inside_of w ∙ rw (line, quote, slash, plain) refl

-- what a byte that is meant takes, and what is left
pub record Taken (rest : List ℕ) (b : ℕ) : Type 0 where
  pub left : List ℕ
  pub split : rest ≡ escaped_byte b ++ left
  pub printable : IsPrintable b

escape_byte : (rest : List ℕ) (b : ℕ) → escape_of rest ≡ Byte b → (left : List ℕ) × (rest ≡ b ∷ left) × ((b == 34 || b == 92) ≡ true)
escape_byte [] b h = cc
escape_byte (a ∷ rest) b h = go (a == 34 || a == 92) refl (a == 10 || a == 13) refl
  where
    go : (e : Bool) → (a == 34 || a == 92) ≡ e → (f : Bool) → (a == 10 || a == 13) ≡ f → (left : List ℕ) × (a ∷ rest ≡ b ∷ left) × ((b == 34 || b == 92) ≡ true)
    go true k f l = let w : Byte a ≡ Byte b = sym (ap (λ x. if x then Byte a else if a == 10 || a == 13 then Open else Bad) k) ∙ h in let same : a ≡ b = cc in (rest, ap (λ x. x ∷ rest) same, subst (λ x. (x == 34 || x == 92) ≡ true) same k)
    go false k true l = let w : Open ≡ Byte b = sym (rw (k, l) refl) ∙ h in cc
    go false k false l = let w : Bad ≡ Byte b = sym (rw (k, l) refl) ∙ h in cc

escape_split : (a b : ℕ) (rest left : List ℕ) → a ≡ 92 → rest ≡ b ∷ left → (b == 34 || b == 92) ≡ true → a ∷ rest ≡ escaped_byte b ++ left
escape_split a b rest left h e k = rw (h, e, k) refl

pub byte_taken : (rest : List ℕ) (b : ℕ) → inside_of rest ≡ Byte b → Taken rest b
byte_taken [] b h = cc
byte_taken (a ∷ rest) b h = go (a == 10 || a == 13) refl (a == 34) refl (a == 92) refl (nat_le 32 a && nat_le a 126) refl
  where
    go : (t1 : Bool) → (a == 10 || a == 13) ≡ t1 → (t2 : Bool) → (a == 34) ≡ t2 → (t3 : Bool) → (a == 92) ≡ t3 → (t4 : Bool) → (nat_le 32 a && nat_le a 126) ≡ t4 → Taken (a ∷ rest) b
    go true e1 t2 e2 t3 e3 t4 e4 = let w : Open ≡ Byte b = sym (rw e1 refl) ∙ h in cc
    go false e1 true e2 t3 e3 t4 e4 = let w : Close ≡ Byte b = sym (rw (e1, e2) refl) ∙ h in cc
    go false e1 false e2 true e3 t4 e4 =
        let w : escape_of rest ≡ Byte b = sym (rw (e1, e2, e3) refl) ∙ h in
        let x = escape_byte rest b w in
        let slash : a ≡ 92 = eqb-true a 92 e3 in
        record {
          left = x.0;
          split = escape_split a b rest x.0 slash x.1 x.2;
          printable = grind (arith, nat_tests);
        }
    go false e1 false e2 false e3 true e4 =
        let w : Byte a ≡ Byte b = sym (rw (e1, e2, e3, e4) refl) ∙ h in
        let same : a ≡ b = cc in
        let none : (b == 34 || b == 92) ≡ false = subst (λ x. (x == 34 || x == 92) ≡ false) same (rw (e2, e3) refl) in
        record {
          left = rest;
          split = rw (none, same) refl;
          printable = subst IsPrintable same (grind (arith, nat_tests));
        }
    go false e1 false e2 false e3 false e4 = let w : Bad ≡ Byte b = sym (rw (e1, e2, e3, e4) refl) ∙ h in cc

-- ---- what ends a text's inside

pub close_is : (rest : List ℕ) → inside_of rest ≡ Close → (left : List ℕ) × (rest ≡ 34 ∷ left)
close_is [] h = cc
close_is (a ∷ rest) h = go (a == 10 || a == 13) refl (a == 34) refl (a == 92) refl (nat_le 32 a && nat_le a 126) refl
  where
    no_close : (r : List ℕ) → escape_of r ≡ Close → ⊥
    no_close [] k = cc
    no_close (b ∷ r) k = inner (b == 34 || b == 92) refl (b == 10 || b == 13) refl
      where
        inner : (t : Bool) → (b == 34 || b == 92) ≡ t → (u : Bool) → (b == 10 || b == 13) ≡ u → ⊥
        inner true e u f = let w : Byte b ≡ Close = sym (rw e refl) ∙ k in cc
        inner false e true f = let w : Open ≡ Close = sym (rw (e, f) refl) ∙ k in cc
        inner false e false f = let w : Bad ≡ Close = sym (rw (e, f) refl) ∙ k in cc

    go : (t1 : Bool) → (a == 10 || a == 13) ≡ t1 → (t2 : Bool) → (a == 34) ≡ t2 → (t3 : Bool) → (a == 92) ≡ t3 → (t4 : Bool) → (nat_le 32 a && nat_le a 126) ≡ t4 → (left : List ℕ) × (a ∷ rest ≡ 34 ∷ left)
    go true e1 t2 e2 t3 e3 t4 e4 = let w : Open ≡ Close = sym (rw e1 refl) ∙ h in cc
    go false e1 true e2 t3 e3 t4 e4 = (rest, ap (λ x. x ∷ rest) (eqb-true a 34 e2))
    go false e1 false e2 true e3 t4 e4 = absurd (no_close rest (sym (rw (e1, e2, e3) refl) ∙ h))
    go false e1 false e2 false e3 true e4 = let w : Byte a ≡ Close = sym (rw (e1, e2, e3, e4) refl) ∙ h in cc
    go false e1 false e2 false e3 false e4 = let w : Bad ≡ Close = sym (rw (e1, e2, e3, e4) refl) ∙ h in cc

-- ---- one text has one inside

head_printable : (b : ℕ) (t : List ℕ) → All IsPrintable (b ∷ t) → IsPrintable b
head_printable b t h = h 0 0 (omega arith)

tail_printable : (b : ℕ) (t : List ℕ) → All IsPrintable (b ∷ t) → All IsPrintable t
tail_printable b t h = λ k d l. h (suc k) d (omega arith)

byte_in : (b : ℕ) (t r : List ℕ) → All IsPrintable (b ∷ t) → inside_of (escaped_text (b ∷ t) ++ r) ≡ Byte b
byte_in b t r h = ap inside_of (append_assoc (escaped_byte b) (escaped_text t) r) ∙ byte_next b (escaped_text t ++ r) (head_printable b t h)

pub same_body : (t u r s : List ℕ) → All IsPrintable t → All IsPrintable u → is_byte (inside_of r) ≡ false → is_byte (inside_of s) ≡ false → escaped_text t ++ r ≡ escaped_text u ++ s → (t ≡ u) × (r ≡ s)
same_body [] [] r s h k x y e = (refl, e)
same_body [] (c ∷ u) r s h k x y e = let w : inside_of r ≡ Byte c = ap inside_of e ∙ byte_in c u s k in let v : is_byte (inside_of r) ≡ true = ap is_byte w in cc
same_body (b ∷ t) [] r s h k x y e = let w : inside_of s ≡ Byte b = ap inside_of (sym e) ∙ byte_in b t r h in let v : is_byte (inside_of s) ≡ true = ap is_byte w in cc
same_body (b ∷ t) (c ∷ u) r s h k x y e =
    let w : Byte b ≡ Byte c = sym (byte_in b t r h) ∙ ap inside_of e ∙ byte_in c u s k in
    let same : b ≡ c = cc in
    let whole : escaped_byte b ++ (escaped_text t ++ r) ≡ escaped_byte b ++ (escaped_text u ++ s) = sym (append_assoc (escaped_byte b) (escaped_text t) r) ∙ e ∙ append_assoc (escaped_byte c) (escaped_text u) s ∙ ap (λ z. escaped_byte z ++ (escaped_text u ++ s)) (sym same) in
    let rest = same_body t u r s (tail_printable b t h) (tail_printable c u k) x y (append_cancel_left (escaped_byte b) (escaped_text t ++ r) (escaped_text u ++ s) whole) in
    (rw (same, rest.0) refl, rest.1)

-- ---- one byte more

pub escaped-append : (t u : List ℕ) → escaped_text (t ++ u) ≡ escaped_text t ++ escaped_text u
escaped-append [] u = refl
escaped-append (b ∷ t) u = ap (λ w. escaped_byte b ++ w) (escaped-append t u) ∙ sym (append_assoc (escaped_byte b) (escaped_text t) (escaped_text u))

pub escaped_push : (t : List ℕ) (b : ℕ) → escaped_text (t ++ b ∷ []) ≡ escaped_text t ++ escaped_byte b
escaped_push t b = escaped-append t (b ∷ []) ∙ ap (λ w. escaped_text t ++ w) (append-nil (escaped_byte b))

pub no_byte : (i : Inside) → ((b : ℕ) → i ≡ Byte b → ⊥) → is_byte i ≡ false
no_byte (Byte b) h = absurd (h b refl)
no_byte Close h = refl
no_byte Open h = refl
no_byte Bad h = refl

-- How far the pieces of a line were read.
use Rattle.std.proofs.Common.{◌≡◌, ◌<◌, ℕ, true, List, [], ◌∷◌, ◌++◌, length, refl, sym, ap, subst, ◌∙◌, append_assoc, append-nil, arith}
use Rattle.std.specs.Prelude.{◌==◌}
use Rattle.std.proofs.lemmas.Bool.Decides.{nat_tests}
use Rattle.script_reader.specs.declared.piece.Piece.{Piece}
use Rattle.script_reader.specs.Pieces.{IsOnlyFront, HasNoFront, without_blanks, ArePiecesOf, ArePieces, AreOnlyPieces, HasNoPieces}
use Rattle.script_reader.proofs.FrontLemmas.{some_bytes}

-- these pieces were read, and this is what stands behind them
pub record ArePiecesTo (line : List ℕ) (front : List Piece) (rest : List ℕ) : Type 0 where
  pub sound : (ps : List Piece) → ArePiecesOf rest ps → ArePieces line (front ++ ps)
  pub whole : (ps : List Piece) → ArePieces line ps → (us : List Piece) × (ps ≡ front ++ us) × ArePiecesOf rest us

pub piece_read : (line rest after : List ℕ) (front front' : List Piece) (p : Piece) → ArePiecesTo line front rest → IsOnlyFront rest p after → front' ≡ front ++ p ∷ [] → ArePiecesTo line front' (without_blanks after)
piece_read line rest after front front' p h f e = record {
  sound = λ ps a. subst (ArePieces line) (sym (append_assoc front (p ∷ []) ps) ∙ ap (λ z. z ++ ps) (sym e)) (h.sound (p ∷ ps) (after, f.front, a));
  whole = λ ps a. (let w = h.whole ps a in by_pieces w.0 ps w.1 w.2);
}
  where
    by_pieces : (us ps : List Piece) → ps ≡ front ++ us → ArePiecesOf rest us → (vs : List Piece) × (ps ≡ front' ++ vs) × ArePiecesOf (without_blanks after) vs
    by_pieces [] ps q a = absurd (some_bytes p after f.front.form (sym f.front.spelled ∙ a))
    by_pieces (u ∷ us) ps q a =
        let o = f.only u a.0 a.1 in
        (us, q ∙ ap (λ z. front ++ z ∷ us) o.0 ∙ sym (append_assoc front (p ∷ []) us) ∙ ap (λ z. z ++ us) (sym e), subst (λ z. ArePiecesOf (without_blanks z) us) o.1 a.2)

no_more : (us : List Piece) → ArePiecesOf [] us → us ≡ []
no_more [] a = refl
no_more (u ∷ us) a = absurd (some_bytes u a.0 a.1.form (sym a.1.spelled))

pub all_read : (line rest : List ℕ) (front : List Piece) → ArePiecesTo line front rest → rest ≡ [] → AreOnlyPieces line front
all_read line rest front h e =
    (subst (ArePieces line) (append-nil front) (h.sound [] e), λ others o. (let w = h.whole others o in w.1 ∙ ap (λ z. front ++ z) (no_more w.0 (subst (λ z. ArePiecesOf z w.0) e w.2)) ∙ append-nil front))

pub none_there : (line rest : List ℕ) (front : List Piece) → ArePiecesTo line front rest → 0 < length rest → HasNoFront rest → HasNoPieces line
none_there line rest front h some none ps a = (let w = h.whole ps a in by_pieces w.0 w.2)
  where
    by_pieces : (us : List Piece) → ArePiecesOf rest us → ⊥
    by_pieces [] e = absurd (omega (arith, ap length e))
    by_pieces (u ∷ us) e = none u e.0 e.1

pub is_nil : {A : Type 0} (xs : List A) → true ≡ (length xs == 0) → xs ≡ []
is_nil [] h = refl
is_nil (x ∷ xs) h = absurd (grind (arith, nat_tests))

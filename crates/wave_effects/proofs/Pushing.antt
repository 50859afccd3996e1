-- A list with one element more at its end.
use Rattle.std.proofs.Common.{◌≡◌, ◌⊎◌, inl, inr, ℕ, zero, suc, List, [], ◌∷◌, ◌++◌, length, map, Some, refl, ap}
use Rattle.std.specs.Prelude.{slice_get}
use Rattle.wave_base.specs.declared.numbers.Ticket.{Ticket}
use Rattle.wave_base.specs.declared.script.Line.{Line}
use Rattle.wave_base.specs.Fold.{Head, head_after, created_tickets, tickets_of, with_done}
use Rattle.script_fold.specs.Runs.{ticket_of}

-- an element of it: one that was there, or the new one
pub at_push : {X : Type 0} (xs : List X) (x : X) (i : ℕ) (y : X) → slice_get (xs ++ x ∷ []) i ≡ Some y → (slice_get xs i ≡ Some y) ⊎ ((i ≡ length xs) × (y ≡ x))
at_push [] x zero y e = inr (refl, same x y e)
  where
    same : {X : Type 0} (x y : X) → Some x ≡ Some y → y ≡ x
    same x y e = cc
at_push [] x (suc i) y e = absurd (none_there i y e)
  where
    none_there : {X : Type 0} (j : ℕ) (c : X) → slice_get [] j ≡ Some c → ⊥
    none_there zero c e = cc
    none_there (suc j) c e = cc
at_push (z ∷ xs) x zero y e = inl e
at_push (z ∷ xs) x (suc i) y e = more (at_push xs x i y e)
  where
    more : (slice_get xs i ≡ Some y) ⊎ ((i ≡ length xs) × (y ≡ x)) → (slice_get xs i ≡ Some y) ⊎ ((suc i ≡ length (z ∷ xs)) × (y ≡ x))
    more (inl h) = inl h
    more (inr h) = inr (ap suc h.0, h.1)

-- the first one of what follows
pub slice_past : {X : Type 0} (xs ys : List X) → slice_get (xs ++ ys) (length xs) ≡ slice_get ys 0
slice_past [] ys = refl
slice_past (x ∷ xs) ys = slice_past xs ys

-- one more result: the tickets of what it creates
pub made_push : (first : ℕ) (h : Head Line) (cs : List (List Line)) (c : List Line) → created_tickets first h (cs ++ c ∷ []) ≡ created_tickets first h cs ++ tickets_of first (head_after h cs) c ∷ []
made_push first h [] c = refl
made_push first h (d ∷ cs) c = ap (λ ts. tickets_of first h d ∷ ts) (made_push first (with_done h d) cs c)

pub tickets_back : (ts : List Ticket) → map ticket_of (map (λ t. t.0) ts) ≡ ts
tickets_back [] = refl
tickets_back (t ∷ ts) = ap (λ us. t ∷ us) (tickets_back ts)

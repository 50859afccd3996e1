-- Two blocks read row by row.
use Rattle.std.proofs.Common.{◌≡◌, ◌++◌, ℕ, List, [], ◌∷◌, zero, suc, Some, ap, refl, length, map, arith}
use Rattle.std.specs.Prelude.{slice_get}
use Rattle.wave_base.specs.declared.numbers.Ticket.{Ticket}
use Rattle.wave_base.specs.declared.outcome.EventResult.{EventResult}
use Rattle.wave_effects.specs.declared.kept.Settled.{Settled}
use Rattle.wave_theory.proofs.Basics.{none_not}
use Rattle.wave_effects.specs.inner.Rows.{rows_of}

pub rows_len : (rs : List EventResult) (ms : List (List Ticket)) → length rs ≡ length ms → length (rows_of rs ms) ≡ length rs
rows_len [] ms e = refl
rows_len (r ∷ rs) [] e = absurd (omega (arith, e))
rows_len (r ∷ rs) (m ∷ ms) e = ap suc (rows_len rs ms (omega (arith, e)))

pub rows_results : (rs : List EventResult) (ms : List (List Ticket)) → length rs ≡ length ms → map (λ (x : Settled). x.result) (rows_of rs ms) ≡ rs
rows_results [] ms e = refl
rows_results (r ∷ rs) [] e = absurd (omega (arith, e))
rows_results (r ∷ rs) (m ∷ ms) e = ap (λ xs. r ∷ xs) (rows_results rs ms (omega (arith, e)))

pub rows_made : (rs : List EventResult) (ms : List (List Ticket)) → length rs ≡ length ms → map (λ (x : Settled). x.made) (rows_of rs ms) ≡ ms
rows_made [] [] e = refl
rows_made [] (m ∷ ms) e = absurd (omega (arith, e))
rows_made (r ∷ rs) [] e = absurd (omega (arith, e))
rows_made (r ∷ rs) (m ∷ ms) e = ap (λ xs. m ∷ xs) (rows_made rs ms (omega (arith, e)))

pub rows_push : (rs : List EventResult) (ms : List (List Ticket)) (x : Settled) → length rs ≡ length ms → rows_of (rs ++ x.result ∷ []) (ms ++ x.made ∷ []) ≡ rows_of rs ms ++ x ∷ []
rows_push [] [] x e = refl
rows_push [] (m ∷ ms) x e = absurd (omega (arith, e))
rows_push (r ∷ rs) [] x e = absurd (omega (arith, e))
rows_push (r ∷ rs) (m ∷ ms) x e = ap (λ xs. record { result = r; made = m } ∷ xs) (rows_push rs ms x (omega (arith, e)))

pub rows_get : (rs : List EventResult) (ms : List (List Ticket)) (i : ℕ) (r : EventResult) (m : List Ticket) → slice_get rs i ≡ Some r → slice_get ms i ≡ Some m → slice_get (rows_of rs ms) i ≡ Some (record { result = r; made = m })
rows_get [] ms i r m e f = absurd (none_not e)
rows_get (x ∷ rs) [] i r m e f = absurd (none_not f)
rows_get (x ∷ rs) (y ∷ ms) zero r m e f = cc
rows_get (x ∷ rs) (y ∷ ms) (suc i) r m e f = rows_get rs ms i r m e f

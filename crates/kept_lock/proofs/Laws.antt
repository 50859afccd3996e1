-- The law of passes.
use Rattle.std.proofs.Common.{ℕ, Bool, true, false, ltb, cond, List, length, inl, inr}
use Rattle.kept_lock.specs.History.{StartsWith}
use Rattle.kept_lock.specs.Law.{OneBegins, PassesShareOneHistory}
use Rattle.kept_lock.proofs.Entries.{longer_first, longer_second}

-- of two beginnings of one history one begins with the other
one_begins : {E : Type 0} → (xs ys log : List E) → StartsWith log xs → StartsWith log ys → OneBegins xs ys
one_begins xs ys log a b = by_test (ltb (length xs) (length ys)) (longer_first xs ys log a b) (longer_second xs ys log a b)
  where
    by_test : (t : Bool) → StartsWith (cond t ys xs) xs → StartsWith (cond t ys xs) ys → OneBegins xs ys
    by_test true p q = inr p
    by_test false p q = inl q

pub shares : {V N E : Type 0} → (history_of : V → List E) (owner : E → ℕ) (stands : V → N → Type 0) → PassesShareOneHistory history_of owner stands
shares history_of owner stands name s r = (
  r.history,
  record {
    seen = λ i v h. (r.fits i v h).agrees.0;
    compared = λ i j v w g h. one_begins v.known.seen w.known.seen r.history (r.fits i v g).agrees.0 (r.fits j w h).agrees.0;
    numbers = λ i j v w g h other same. other (r.apart i j v w g h same);
    made = λ i v h. (r.fits i v h).agrees.1;
    joined = λ i v h. (r.fits i v h).accounts;
    given = λ i v h first n l. (r.unused i v h first n l).entries;
  },
  r.home,
)

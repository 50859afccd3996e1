-- A listing that is written part by part, while the run goes on.
use Rattle.std.specs.Prelude.{◌≡◌, ◌+◌, ℕ, Bool, List, ◌++◌, length, take, Some, slice_get}
use Rattle.std.specs.List.{concat}
use Rattle.wave_base.specs.declared.finished.Finished.{Finished}
use Rattle.wave_base.specs.declared.shape.Shape.{Shape}
use Rattle.wave_base.specs.declared.shown.Shown.{Shown}
use Rattle.listing_out.specs.Listing.{lines_from, name_at, made_at, shown_of, end_lines, places_of, last_ticket, listing}

-- this is the i-th ticket of the run
pub record IsShownAt (done : Finished) (i : ℕ) (x : Shown) : Type 0 where
  pub name : name_at done i ≡ x.name
  pub result : slice_get done.results i ≡ Some x.result
  pub made : made_at done i ≡ x.made

-- these are the tickets of the run from the i-th on
abbrev pub AreShownFrom : Finished → ℕ → List Shown → Type 0
AreShownFrom done i part = (k : ℕ) (x : Shown) → slice_get part k ≡ Some x → IsShownAt done (i + k) x

-- the bytes of the first i tickets
abbrev pub first_lines : Shape → ℕ → Finished → ℕ → List ℕ
first_lines shape first done i = concat (lines_from shape first (take i (shown_of done)))

-- Behind the lines of the first i tickets a part that begins there makes those of as many more; and behind the lines of all tickets
-- the last lines make the listing.
pub record PartsMakeListing : Type 0 where
  pub part : (shape : Shape) (first : ℕ) (done : Finished) (i : ℕ) (part : List Shown) → AreShownFrom done i part
      → first_lines shape first done i ++ concat (lines_from shape (first + i) part) ≡ first_lines shape first done (i + length part)
  pub whole : (shape : Shape) (first : ℕ) (done : Finished) (with_map : Bool)
      → first_lines shape first done (length done.results) ++ concat (end_lines shape (places_of done with_map) (last_ticket first done)) ≡ listing shape first done with_map

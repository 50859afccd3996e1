-- Looking up and changing values of known kinds.
use Rattle.std.proofs.Common.{◌≡◌, ℕ, zero, suc, ◌<◌, ◌≤◌, List, [], ◌∷◌, ◌++◌, length, Some, refl, ap, sym, ◌∙◌, drop, take, get_or, arith}
use Rattle.std.specs.Prelude.{map, slice_get, slice_set}
use Rattle.std.specs.Option.{option_map}
use Rattle.std.proofs.lemmas.Option.{slice_get-get_or}

module _ {A B : Type 0} (g : A → B) where
  -- what a list of images has at a place comes from what the list has there
  pub record Image (xs : List A) (i : ℕ) (y : B) : Type 0 where
    pub value : A
    pub is_there : slice_get xs i ≡ Some value
    pub image : g value ≡ y

  pub image : (xs : List A) (i : ℕ) (y : B) → slice_get (map g xs) i ≡ Some y → Image xs i y
  image [] i y e = cc
  image (x ∷ xs) zero y e = record { value = x; is_there = refl; image = cc }
  image (x ∷ xs) (suc i) y e = let r = image xs i y e in record { value = r.value; is_there = r.is_there; image = r.image }

  -- in a list with these images
  pub image_in : (xs : List A) (ys : List B) (i : ℕ) (y : B) → map g xs ≡ ys → slice_get ys i ≡ Some y → Image xs i y
  image_in xs ys i y e h = image xs i y (ap (λ zs. slice_get zs i) e ∙ h)

  -- a change that keeps the image
  pub set_same : (xs : List A) (i : ℕ) (x z : A) → slice_get xs i ≡ Some x → g z ≡ g x → map g (slice_set xs i z) ≡ map g xs
  set_same [] i x z h e = cc
  set_same (y ∷ xs) zero x z h e = let same : y ≡ x = cc in λ i. (e ∙ ap g (sym same)) i ∷ map g xs
  set_same (y ∷ xs) (suc i) x z h e = ap (λ ys. g y ∷ ys) (set_same xs i x z h e)

  pub map-append : (xs ys : List A) → map g (xs ++ ys) ≡ map g xs ++ map g ys
  map-append [] ys = refl
  map-append (x ∷ xs) ys = ap (λ zs. g x ∷ zs) (map-append xs ys)

  pub map-length : (xs : List A) → length (map g xs) ≡ length xs
  map-length [] = refl
  map-length (x ∷ xs) = ap suc (map-length xs)

pub drop_past : {A : Type 0} (xs ys : List A) → drop (length xs) (xs ++ ys) ≡ ys
drop_past [] ys = refl
drop_past (x ∷ xs) ys = drop_past xs ys

-- in a front of a list, and in a list that is one longer
pub take_get : {A : Type 0} (m : ℕ) (xs : List A) (l : ℕ) → l < m → slice_get (take m xs) l ≡ slice_get xs l
take_get zero xs l lt = absurd (omega arith)
take_get (suc m) [] l lt = refl
take_get (suc m) (x ∷ xs) zero lt = refl
take_get (suc m) (x ∷ xs) (suc l) lt = take_get m xs l (omega arith)

pub take_take : {A : Type 0} (m : ℕ) (xs : List A) (l : ℕ) → l ≤ m → take l (take m xs) ≡ take l xs
take_take m xs zero le = refl
take_take zero xs (suc l) le = absurd (omega arith)
take_take (suc m) [] (suc l) le = refl
take_take (suc m) (x ∷ xs) (suc l) le = ap (λ ys. x ∷ ys) (take_take m xs l (omega arith))

pub more_get : {A : Type 0} (xs : List A) (y : A) (l : ℕ) → l < length xs → slice_get (xs ++ y ∷ []) l ≡ slice_get xs l
more_get [] y l lt = absurd (omega arith)
more_get (x ∷ xs) y zero lt = refl
more_get (x ∷ xs) y (suc l) lt = more_get xs y l (omega arith)

pub last_get : {A : Type 0} (xs : List A) (y : A) → slice_get (xs ++ y ∷ []) (length xs) ≡ Some y
last_get [] y = refl
last_get (x ∷ xs) y = last_get xs y

pub map_get : {A B : Type 0} (g : A → B) (xs : List A) (n : ℕ) → slice_get (map g xs) n ≡ option_map g (slice_get xs n)
map_get g [] n = refl
map_get g (x ∷ xs) zero = refl
map_get g (x ∷ xs) (suc n) = map_get g xs n

-- an item of a list
pub item_there : {A : Type 0} (xs ys : List A) (n : ℕ) (x : A) → x ≡ get_or xs n x → n < length xs → xs ≡ ys → slice_get ys n ≡ Some x
item_there xs ys n x is lt same = ap (λ zs. slice_get zs n) (sym same) ∙ slice_get-get_or xs n x lt ∙ ap (λ y. Some y) (sym is)

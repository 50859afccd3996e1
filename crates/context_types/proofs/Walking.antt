-- Going through a list from its front, from place to place: what is asked on the way, and what is made.
use Rattle.std.proofs.Common.{◌≡◌, ◌<◌, ◌≤◌, ◌+◌, ℕ, zero, suc, List, [], ◌∷◌, ◌++◌, length, map, get_or, take, drop, None, refl, sym, ap, subst, ◌∙◌, append_assoc, arith}
use Rattle.std.proofs.lemmas.List.{append-nil, map-append, take_more, take_all}
use Rattle.type_rules.specs.declared.error.TypeError.{TypeError}
use Rattle.type_rules.specs.Demands.{Demand, first_wrong, Fails}
use Rattle.type_rules.proofs.First.{first_wrong_behind, fails_same, fails_front, fails_behind}

-- the place behind some items
module _ {H X : Type 0} (next : H → X → H) where
  abbrev pub ends : H → List X → H
  ends h [] = h
  ends h (x ∷ xs) = ends (next h x) xs

  pub ends_both : (h : H) (xs ys : List X) → ends h (xs ++ ys) ≡ ends (ends h xs) ys
  ends_both h [] ys = refl
  ends_both h (x ∷ xs) ys = ends_both (next h x) xs ys

  pub ends_more : (h : H) (xs : List X) (i : ℕ) (x : X) → i < length xs → x ≡ get_or xs i x → ends h (take (i + 1) xs) ≡ next (ends h (take i xs)) x
  ends_more h xs i x l at = ap (ends h) (take_more xs i x l) ∙ ends_both h (take i xs) (get_or xs i x ∷ []) ∙ ap (next (ends h (take i xs))) (sym at)

  -- what is asked of each item at its place
  module _ (asks : H → X → List Demand) where
    abbrev pub walk : H → List X → List Demand
    walk h [] = []
    walk h (x ∷ xs) = asks h x ++ walk (next h x) xs

    pub walk_both : (h : H) (xs ys : List X) → walk h (xs ++ ys) ≡ walk h xs ++ walk (ends h xs) ys
    walk_both h [] ys = refl
    walk_both h (x ∷ xs) ys = ap (λ ds. asks h x ++ ds) (walk_both (next h x) xs ys) ∙ sym (append_assoc (asks h x) (walk (next h x) xs) (walk (ends (next h x) xs) ys))

    -- one item more holds
    pub walk_more : (h : H) (xs : List X) (i : ℕ) (x : X) → i < length xs → x ≡ get_or xs i x → first_wrong (walk h (take i xs)) ≡ None → first_wrong (asks (ends h (take i xs)) x) ≡ None
        → first_wrong (walk h (take (i + 1) xs)) ≡ None
    walk_more h xs i x l at before now =
        ap (λ ys. first_wrong (walk h ys)) (take_more xs i x l)
        ∙ ap first_wrong (walk_both h (take i xs) (get_or xs i x ∷ []))
        ∙ first_wrong_behind (walk h (take i xs)) _ before
        ∙ ap first_wrong (append-nil (asks (ends h (take i xs)) (get_or xs i x)))
        ∙ ap (λ y. first_wrong (asks (ends h (take i xs)) y)) (sym at)
        ∙ now

    split : (xs : List X) (i : ℕ) (d : X) → i < length xs → xs ≡ take i xs ++ (get_or xs i d ∷ drop (i + 1) xs)
    split [] i d l = absurd (omega arith)
    split (x ∷ xs) zero d l = refl
    split (x ∷ xs) (suc i) d l = ap (λ ys. x ∷ ys) (split xs i d (omega arith)) ∙ (let e : suc (i + 1) ≡ suc i + 1 = omega arith in ap (λ n. x ∷ (take i xs ++ (get_or xs i d ∷ drop n (x ∷ xs)))) e)

    -- the first item that fails tells
    pub walk_fails : (h : H) (xs : List X) (i : ℕ) (x : X) (e : TypeError) → i < length xs → x ≡ get_or xs i x → first_wrong (walk h (take i xs)) ≡ None → Fails (asks (ends h (take i xs)) x) e
        → Fails (walk h xs) e
    walk_fails h xs i x e l at before now =
        fails_same (walk h xs) (walk h (take i xs) ++ (asks (ends h (take i xs)) (get_or xs i x) ++ walk (next (ends h (take i xs)) (get_or xs i x)) (drop (i + 1) xs))) e
        (ap (λ ys. first_wrong (walk h ys)) (split xs i x l) ∙ ap first_wrong (walk_both h (take i xs) (get_or xs i x ∷ drop (i + 1) xs)))
        (fails_behind (walk h (take i xs)) _ e before (fails_front (asks (ends h (take i xs)) (get_or xs i x)) _ e (subst (λ y. Fails (asks (ends h (take i xs)) y) e) at now)))

    pub walk_whole : (h : H) (xs : List X) (n : ℕ) → length xs ≤ n → first_wrong (walk h (take n xs)) ≡ None → first_wrong (walk h xs) ≡ None
    walk_whole h xs n l done = ap (λ ys. first_wrong (walk h ys)) (sym (take_all n xs l)) ∙ done

  -- what is made of each item at its place
  module _ {Y : Type 0} (make : H → X → Y) where
    abbrev pub makes : H → List X → List Y
    makes h [] = []
    makes h (x ∷ xs) = make h x ∷ makes (next h x) xs

    makes_both : (h : H) (xs ys : List X) → makes h (xs ++ ys) ≡ makes h xs ++ makes (ends h xs) ys
    makes_both h [] ys = refl
    makes_both h (x ∷ xs) ys = ap (λ l. make h x ∷ l) (makes_both (next h x) xs ys)

    pub makes_more : (h : H) (xs : List X) (i : ℕ) (x : X) → i < length xs → x ≡ get_or xs i x → makes h (take (i + 1) xs) ≡ makes h (take i xs) ++ make (ends h (take i xs)) x ∷ []
    makes_more h xs i x l at =
        ap (makes h) (take_more xs i x l) ∙ makes_both h (take i xs) (get_or xs i x ∷ []) ∙ ap (λ y. makes h (take i xs) ++ make (ends h (take i xs)) y ∷ []) (sym at)

    -- one more of it
    pub made_more : {Z : Type 0} (view : Z → Y) (h : H) (xs : List X) (i : ℕ) (x : X) (made more : List Z) (z : Z) → i < length xs → x ≡ get_or xs i x
        → makes h (take i xs) ≡ map view made → make (ends h (take i xs)) x ≡ view z → more ≡ made ++ z ∷ [] → makes h (take (i + 1) xs) ≡ map view more
    made_more view h xs i x made more z l at so_far is pushed =
        makes_more h xs i x l at ∙ (λ j. so_far j ++ is j ∷ []) ∙ sym (ap (map view) pushed ∙ map-append view made (z ∷ []))

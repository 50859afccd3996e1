-- Where an instruction finds what it wants, what is held, and where a callee begins.
use Rattle.std.proofs.Common.{◌≡◌, ℕ, zero, suc, ◌+◌, ◌≤◌, ◌&&◌, ◌||◌, List, [], ◌∷◌, ◌++◌, length, get_or, if◌then◌else◌, Bool, true, false, Option, Some, None, refl, ap, sym, ◌∙◌, arith}
use Rattle.std.specs.Prelude.{slice_get, nat_eq}
use Rattle.std.specs.BTreeSet.{insert_key}
use Rattle.std.specs.List.{filter, list_any}
use Rattle.std.proofs.lemmas.Bool.Decides.{nat_tests}
use Rattle.wave_base.specs.declared.path.Path.{Path}
use Rattle.wave_base.specs.declared.path.Step.{Step}
use Rattle.wave_base.specs.declared.value.Value.{Value}
use Rattle.wave_base.specs.Names.{same_bytes}
use Rattle.wave_base.specs.Paths.{path_eq, path_cmp, is_above, parent_of}
use Rattle.wave_base.specs.PathLaws.{path_eq_decides}
use Rattle.wave_base.proofs.Trees.{there-enter}
use Rattle.resolved_service.specs.Meaning.{State}
use Rattle.resolved_service.specs.World.{World, after_change}
use Rattle.service_verify.specs.Steps.{Move, with_some, taken_values}
use Rattle.code_scheme.specs.Texts.{Text, place_of_text}
use Rattle.code_scheme.proofs.Follow.{Here, frame_of, SameHeld, Moving}

-- ---- where an instruction finds what it wants

pub there_or : {A : Type 0} (l : List A) (n : ℕ) (d : A) (go : A → Move) → Moving (with_some (slice_get l n) go) → with_some (slice_get l n) go ≡ go (get_or l n d)
there_or [] n d go h = absurd h
there_or (x ∷ l) zero d go h = refl
there_or (x ∷ l) (suc n) d go h = there_or l n d go h

pub some_then : {A : Type 0} (o : Option A) (m : Move) → Moving (with_some o (λ x. m)) → with_some o (λ x. m) ≡ m
some_then None m h = absurd h
some_then (Some x) m h = refl

same_number : (a b : ℕ) → nat_eq a b ≡ true → a ≡ b
same_number a b e = grind (arith, nat_tests)

and_left : (a b : Bool) → (a && b) ≡ true → a ≡ true
and_left true b e = refl
and_left false b e = cc

and_right : (a b : Bool) → (a && b) ≡ true → b ≡ true
and_right true b e = e
and_right false b e = cc

pub same_text : (t u : Text) → same_bytes t u ≡ true → t ≡ u
same_text [] [] e = refl
same_text [] (y ∷ u) e = cc
same_text (x ∷ t) [] e = cc
same_text (x ∷ t) (y ∷ u) e =
    let first = same_number x y (and_left _ _ e) in
    let rest = same_text t u (and_right (nat_eq x y) _ e) in
    λ i. first i ∷ rest i

pub text_there : (texts : List Text) (t : Text) (go : Text → Move) → Moving (with_some (slice_get texts (place_of_text texts t)) go) → with_some (slice_get texts (place_of_text texts t)) go ≡ go t
text_there [] t go h = absurd h
text_there (u ∷ us) t go h = by (λ k. text_there us t go k) (same_bytes t u) refl h
  where
    by : (Moving (with_some (slice_get us (place_of_text us t)) go) → with_some (slice_get us (place_of_text us t)) go ≡ go t) → (b : Bool) → same_bytes t u ≡ b → Moving (with_some (slice_get (u ∷ us) (if b then zero else suc (place_of_text us t))) go) → with_some (slice_get (u ∷ us) (if b then zero else suc (place_of_text us t))) go ≡ go t
    by rest true e h = ap go (sym (same_text t u e))
    by rest false e h = rest h

-- values put there one after the other
abbrev pub pushed : List Value → List Value → List Value
pushed [] s = s
pushed (x ∷ xs) s = pushed xs (x ∷ s)

take_more : (vs acc s : List Value) (n : ℕ) → taken_values (length vs + n) acc (pushed vs s) ≡ taken_values n (vs ++ acc) s
take_more [] acc s n = let e : zero + n ≡ n = omega arith in ap (λ m. taken_values m acc s) e
take_more (x ∷ vs) acc s n =
    let e : suc (length vs) + n ≡ length vs + suc n = omega arith in
    ap (λ m. taken_values m acc (pushed vs (x ∷ s))) e ∙ take_more vs acc (x ∷ s) (suc n)

append_none : {A : Type 0} (l : List A) → l ++ [] ≡ l
append_none [] = refl
append_none (x ∷ l) = ap (λ m. x ∷ m) (append_none l)

pub take_pushed : (m : ℕ) (vs s : List Value) → m ≡ length vs → taken_values m [] (pushed vs s) ≡ Some (vs, s)
take_pushed m vs s e =
    let e' : m ≡ length vs + 0 = omega (arith, e) in
    ap (λ m. taken_values m [] (pushed vs s)) e' ∙ take_more vs [] s 0 ∙ ap (λ l. Some (l, s)) (append_none vs)

-- ---- what is held

any_append : (r q : Path) (l : List Path) → list_any (path_eq r) (l ++ q ∷ []) ≡ (path_eq r q || list_any (path_eq r) l)
any_append r q [] = refl
any_append r q (x ∷ l) = ap (λ b. path_eq r x || b) (any_append r q l) ∙ swap (path_eq r x) (path_eq r q) (list_any (path_eq r) l)
  where
    swap : (a b c : Bool) → (a || (b || c)) ≡ (b || (a || c))
    swap true true c = refl
    swap true false c = refl
    swap false b c = refl

pub held_more : (held l : List Path) (q : Path) → SameHeld held l → SameHeld (insert_key path_cmp held q) (l ++ q ∷ [])
held_more held l q same r =
    there-enter (record { paths = held; fields = λ p. zero }) q r
    ∙ ap (λ b. path_eq r q || b) (same r)
    ∙ sym (any_append r q l)

any_filter : (r q : Path) (l : List Path) → list_any (path_eq r) (filter (is_above q) l) ≡ (is_above q r && list_any (path_eq r) l)
any_filter r q [] = none (is_above q r)
  where
    none : (b : Bool) → false ≡ (b && false)
    none true = refl
    none false = refl
any_filter r q (x ∷ l) = by (any_filter r q l) (is_above q x) (path_eq r x) refl refl
  where
    apart : (a : Bool) (m : Bool) → a ≡ false → (a && m) ≡ (a && (true || m))
    apart true m e = cc
    apart false m e = refl

    by : list_any (path_eq r) (filter (is_above q) l) ≡ (is_above q r && list_any (path_eq r) l) → (a b : Bool) → is_above q x ≡ a → path_eq r x ≡ b → list_any (path_eq r) (if a then x ∷ filter (is_above q) l else filter (is_above q) l) ≡ (is_above q r && (b || list_any (path_eq r) l))
    by rest true true ea eb =
        let same : is_above q r ≡ true = ap (is_above q) ((path_eq_decides r x).0 eb) ∙ ea in
        ap (λ b. b || list_any (path_eq r) (filter (is_above q) l)) eb ∙ ap (λ a. a && true) (sym same)
    by rest true false ea eb = ap (λ b. b || list_any (path_eq r) (filter (is_above q) l)) eb ∙ rest
    by rest false true ea eb =
        let same : is_above q r ≡ false = ap (is_above q) ((path_eq_decides r x).0 eb) ∙ ea in
        rest ∙ apart (is_above q r) (list_any (path_eq r) l) same
    by rest false false ea eb = rest

pub held_below : (held l : List Path) (q : Path) → SameHeld held l → SameHeld (filter (is_above q) held) (filter (is_above q) l)
held_below held l q same r = any_filter r q held ∙ ap (λ b. is_above q r && b) (same r) ∙ sym (any_filter r q l)

pub parent_child : (p : Path) (s : Step) → parent_of (p ++ s ∷ []) ≡ p
parent_child [] s = refl
parent_child (x ∷ []) s = refl
parent_child (x ∷ y ∷ p) s = ap (λ q. x ∷ q) (parent_child (y ∷ p) s)

abbrev pub Low : {A : Type 0} → ℕ → A → State → Type 0
Low t a st = st.world.ticks ≤ t

-- a world after the way back to the parent
abbrev pub back_if : Bool → World → World
back_if true w = after_change w
back_if false w = w

-- where a callee begins
abbrev pub callee_of : ℕ → Path → Bool → Here → ℕ → List Value → List Value → Here
callee_of g p down h pc s locals = record { fn = g; at = p; down = down; below = frame_of h pc s locals ∷ h.below }

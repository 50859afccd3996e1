-- What is found out of a program's code, function by function, is what the definitions say.
use Rattle.std.proofs.Common.{◌≡◌, ◌⊎◌, inl, inr, ℕ, zero, suc, ◌+◌, ◌<◌, ◌≤◌, List, [], ◌∷◌, ◌++◌, length, drop, get_or, if◌then◌else◌, Bool, true, false, ◌&&◌, Option, Some, None, refl, ap, sym, subst, ◌∙◌, arith}
use Rattle.std.specs.Prelude.{Ok, ◌||◌, map, slice_get, replicate}
use Rattle.std.specs.List.{list_all, list_any}
use Rattle.std.specs.Option.{option_map, option_and_then, unwrap_or}
use Rattle.std.proofs.Math.Seq.{drop-cons}
use Rattle.std.proofs.lemmas.Bool.{cases_lt}
use Rattle.std.proofs.lemmas.List.{drop_all, length-append}
use Rattle.std.proofs.lemmas.Option.{slice_get_past, slice_get_within}
use Rattle.wave_base.specs.declared.shape.ClassInfo.{ClassInfo}
use Rattle.wave_base.specs.declared.shape.FieldInfo.{FieldInfo}
use Rattle.wave_base.specs.declared.shape.Shape.{Shape}
use Rattle.wave_base.specs.declared.value.Kind.{Kind}
use Rattle.wave_base.specs.Shapes.{fields_in, kinds_of_class}
use Rattle.service_code.specs.declared.instr.Instr.{Instr}
use Rattle.service_code.specs.declared.instr.Instr.TheVariants.{Above, Call as CallOwn}
use Rattle.service_code.specs.declared.program.Function.{Function}
use Rattle.service_code.specs.declared.program.Program.{Program}
use Rattle.service_verify.specs.declared.error.Rule.{Rule}
use Rattle.service_verify.specs.declared.error.Rule.TheVariants as rule
use Rattle.service_verify.specs.declared.error.VerifyError.{VerifyError}
use Rattle.service_verify.specs.declared.point.Point.{Point}
use Rattle.service_verify.specs.Boxes.{Frame}
use Rattle.service_verify.specs.Faults.{Names, IsFirst}
use Rattle.service_verify.specs.inner.Surveys.{says, mark_of, unmarked_fields, IsMarked, IsMarkedSoFar, looks_after, looks_by, Keep, IsSurveyed, HasTables}
use Rattle.service_verify.specs.Looks.{is_quiet, is_go, after_go, stays_behind, is_quiet_function, only_looks, function_peeks, peeks, looks_from}
use Rattle.service_verify.specs.Points.{Table, table_in, point_in, judged_function, IsVerified, Breaks}
use Rattle.service_verify.specs.Reads.{Reads, reads_at, code_reads, functions_read, fields_kept, read_marks}
use Rattle.service_verify.specs.Rules.{effect_of, levels_above, gives_only, judged_item}
use Rattle.service_verify.specs.Steps.{code_of}
use Rattle.service_verify.proofs.Frames.{acts}
use Rattle.service_verify.proofs.Judged.{found_ok, some_same}
use Rattle.service_verify.proofs.Judging.{names_as}
use Rattle.service_verify.proofs.Lists.{more_get, last_get}
use Rattle.service_verify.proofs.Peeking.{all_same, and_true, goes_to_first, quiet_same, LowerCalls, call_lower, quiet_alike}
use Rattle.service_verify.proofs.Reading.{kept_fields, kept_there, kept_is_read, of_reads}

-- a code whose last Go is not known yet
any_none : (i : Instr) (is : List Instr) → list_any is_go (i ∷ is) ≡ false → after_go (i ∷ is) ≡ 0
any_none i is e = ap (λ b. if b then suc (after_go is) else 0) e

none_after : (is : List Instr) → list_any is_go is ≡ false → after_go is ≡ 0
none_after [] e = refl
none_after (i ∷ is) e = any_none i is e

go_step : (n after : ℕ) (i : Instr) (is : List Instr) → (if list_any is_go (i ∷ is) then n + after_go (i ∷ is) else after) ≡ (if list_any is_go is then (n + 1) + after_go is else (if is_go i then n + 1 else after))
go_step n after i is = by (is_go i) refl (list_any is_go is) refl
  where
    some : list_any is_go (i ∷ is) ≡ true → n + after_go (i ∷ is) ≡ n + suc (after_go is)
    some e = ap (λ b. n + (if b then suc (after_go is) else 0)) e

    by : (x : Bool) → is_go i ≡ x → (y : Bool) → list_any is_go is ≡ y → (if (x || y) then n + after_go (i ∷ is) else after) ≡ (if y then (n + 1) + after_go is else (if x then n + 1 else after))
    by true is_x true is_y = some (λ j. is_x j || is_y j) ∙ (let e : n + suc (after_go is) ≡ (n + 1) + after_go is = omega arith in e)
    by false is_x true is_y = some (λ j. is_x j || is_y j) ∙ (let e : n + suc (after_go is) ≡ (n + 1) + after_go is = omega arith in e)
    by true is_x false is_y = some (λ j. is_x j || is_y j) ∙ (let z = none_after is is_y in let e : n + suc (after_go is) ≡ n + 1 = omega arith in e)
    by false is_x false is_y = refl

pub next_go : (code : List Instr) (n after new : ℕ) (d : Instr) → n < length code → new ≡ (if is_go (get_or code n d) then n + 1 else after) → after_go code ≡ (if list_any is_go (drop n code) then n + after_go (drop n code) else after) → after_go code ≡ (if list_any is_go (drop (n + 1) code) then (n + 1) + after_go (drop (n + 1) code) else new)
next_go code n after new d lt is e =
    let up : suc n ≡ n + 1 = omega arith in
    e
    ∙ ap (λ is. if list_any is_go is then n + after_go is else after) (drop-cons code n d lt)
    ∙ go_step n after (get_or code n d) (drop (suc n) code)
    ∙ (λ j. if list_any is_go (drop (up j) code) then (n + 1) + after_go (drop (up j) code) else sym is j)

pub first_go : (code : List Instr) → after_go code ≡ (if list_any is_go (drop 0 code) then 0 + after_go (drop 0 code) else 0)
first_go [] = refl
first_go (i ∷ is) = by (list_any is_go (i ∷ is)) refl
  where
    by : (b : Bool) → list_any is_go (i ∷ is) ≡ b → after_go (i ∷ is) ≡ (if b then 0 + after_go (i ∷ is) else 0)
    by true e = omega arith
    by false e = any_none i is e

-- marks
or_assoc : (a b c : Bool) → ((a || b) || c) ≡ (a || (b || c))
or_assoc true b c = refl
or_assoc false b c = refl

or_false : (a : Bool) → (a || false) ≡ a
or_false true = refl
or_false false = refl

pub more_twice : (o : Option Bool) (x y : Bool) → option_map (λ b. b || y) (option_map (λ b. b || x) o) ≡ option_map (λ b. b || (x || y)) o
more_twice None x y = refl
more_twice (Some b) x y = ap (λ c. Some c) (or_assoc b x y)

pub no_more : (o : Option Bool) → option_map (λ b. b || false) o ≡ o
no_more None = refl
no_more (Some b) = ap (λ c. Some c) (or_false b)

module _ (shape : Shape) (class field : ℕ) where
  no_point : (i : Instr) → reads_at shape class field i None ≡ false
  no_point (Above l f) = refl
  no_point _ = refl

  no_points : (code : List Instr) → code_reads shape class field code [] ≡ false
  no_points [] = refl
  no_points (i ∷ is) = refl

  -- the first instruction, and the others
  at_point : (i : Instr) (is : List Instr) (points : Table) (n : ℕ) → code_reads shape class field (i ∷ is) (drop n points) ≡ (reads_at shape class field i (point_in (slice_get points n)) || code_reads shape class field is (drop (suc n) points))
  at_point i is [] zero = sym (λ j. no_point i j || no_points is j)
  at_point i is [] (suc n) = sym (λ j. no_point i j || no_points is j)
  at_point i is (q ∷ points) zero = ap (λ o. reads_at shape class field i o || code_reads shape class field is points) (known q)
    where
      known : (q : Option Point) → q ≡ point_in (Some q)
      known None = refl
      known (Some p) = refl
  at_point i is (q ∷ points) (suc n) = at_point i is points n

  pub next_reads : (code : List Instr) (points : Table) (n : ℕ) (d : Instr) → n < length code → code_reads shape class field (drop n code) (drop n points) ≡ (reads_at shape class field (get_or code n d) (point_in (slice_get points n)) || code_reads shape class field (drop (n + 1) code) (drop (n + 1) points))
  next_reads code points n d lt =
      let up : suc n ≡ n + 1 = omega arith in
      ap (λ is. code_reads shape class field is (drop n points)) (drop-cons code n d lt)
      ∙ at_point (get_or code n d) (drop (suc n) code) points n
      ∙ (λ j. reads_at shape class field (get_or code n d) (point_in (slice_get points n)) || code_reads shape class field (drop (up j) code) (drop (up j) points))

-- the next instruction is marked
pub so_far_more : (before now new : List (List Bool)) (all one more next : ℕ → ℕ → Bool) → IsMarkedSoFar before all now more → IsMarked now one new → ((c f : ℕ) → more c f ≡ (one c f || next c f)) → IsMarkedSoFar before all new next
so_far_more before now new all one more next h m split = record {
  classes = m.classes ∙ h.classes;
  each = λ c f. ap (option_map (λ b. b || next c f)) (m.each c f) ∙ more_twice (mark_of now c f) (one c f) (next c f) ∙ ap (λ x. option_map (λ b. b || x) (mark_of now c f)) (sym (split c f)) ∙ h.each c f;
}

none_within : {A : Type 0} (xs : List A) (n : ℕ) → n < length xs → slice_get xs n ≡ None → ⊥
none_within [] n lt e = omega arith
none_within (x ∷ xs) zero lt e = cc
none_within (x ∷ xs) (suc n) lt e = none_within xs n (omega arith) e

longer : {A : Type 0} (xs : List A) (y : A) (n : ℕ) → length xs ≡ n → length (xs ++ y ∷ []) ≡ suc n
longer xs y n e = let more = length-append xs (y ∷ []) in omega (arith, more, e)

-- one more of which something is known
one_more : {A : Type 0} (xs : List A) (y : A) (g : ℕ → A) (count : ℕ) → length xs ≡ count → ((n : ℕ) → n < count → slice_get xs n ≡ Some (g n)) → y ≡ g count → (n : ℕ) → n < suc count → slice_get (xs ++ y ∷ []) n ≡ Some (g n)
one_more xs y g count long known last n lt = by (cases_lt n count)
  where
    by : n < count ⊎ count ≤ n → slice_get (xs ++ y ∷ []) n ≡ Some (g n)
    by (inl less) = more_get xs y n (subst (λ m. n < m) (sym long) less) ∙ known n less
    by (inr ge) =
        let same : n ≡ count = omega (arith, lt, ge) in
        ap (slice_get (xs ++ y ∷ [])) (same ∙ sym long) ∙ last_get xs y ∙ ap (λ x. Some x) (last ∙ ap g (sym same))

dropped : {A : Type 0} (m : ℕ) (xs : List A) (n : ℕ) → slice_get (drop m xs) n ≡ slice_get xs (m + n)
dropped zero xs n = let e : n ≡ 0 + n = omega arith in ap (slice_get xs) e
dropped (suc m) [] n = refl
dropped (suc m) (x ∷ xs) n = let e : suc m + n ≡ suc (m + n) = omega arith in dropped m xs n ∙ ap (slice_get (x ∷ xs)) (sym e)

drop_there : {A : Type 0} (xs : List A) (n : ℕ) (x : A) → slice_get xs n ≡ Some x → drop n xs ≡ x ∷ drop (suc n) xs
drop_there [] n x e = cc
drop_there (y ∷ xs) zero x e = let same : y ≡ x = cc in ap (λ z. z ∷ xs) same
drop_there (y ∷ xs) (suc n) x e = drop_there xs n x e

-- a list is known by what stands at each place
pub same_at : {A : Type 0} (xs ys : List A) → ((n : ℕ) → slice_get xs n ≡ slice_get ys n) → xs ≡ ys
same_at [] [] same = refl
same_at [] (y ∷ ys) same = let e = same 0 in cc
same_at (x ∷ xs) [] same = let e = same 0 in cc
same_at (x ∷ xs) (y ∷ ys) same =
    let first = same 0 in
    let one : x ≡ y = cc in
    let rest = same_at xs ys (λ n. same (suc n)) in
    λ i. one i ∷ rest i

module _ (program : Program) where
  -- before the first function
  blank_marks : (classes : List ClassInfo) (c f : ℕ) → mark_of (map unmarked_fields classes) c f ≡ option_map (λ x. false) (slice_get (map (λ (d : FieldInfo). d.kind) (fields_in (slice_get classes c))) f)
  blank_marks [] c f = refl
  blank_marks (k ∷ classes) (suc c) f = blank_marks classes c f
  blank_marks (k ∷ classes) zero f = of_fields k.fields f
    where
      of_fields : (fields : List FieldInfo) (f : ℕ) → slice_get (replicate (length fields) false) f ≡ option_map (λ x. false) (slice_get (map (λ (d : FieldInfo). d.kind) fields) f)
      of_fields [] f = refl
      of_fields (x ∷ fields) zero = refl
      of_fields (x ∷ fields) (suc f) = of_fields fields f

  kept_each : (class first : ℕ) (ks : List Kind) (f : ℕ) → option_map (λ b. b || functions_read program class (first + f) 0 program.functions) (option_map (λ x. false) (slice_get ks f)) ≡ slice_get (fields_kept program class first ks) f
  kept_each class first [] f = refl
  kept_each class first (k ∷ ks) zero = let z : first + 0 ≡ first = omega arith in ap (λ m. Some (functions_read program class m 0 program.functions)) z
  kept_each class first (k ∷ ks) (suc f) = let s : first + suc f ≡ suc first + f = omega arith in ap (λ m. option_map (λ b. b || functions_read program class m 0 program.functions) (option_map (λ x. false) (slice_get ks f))) s ∙ kept_each class (suc first) ks f

  pub first_surveyed : (marks : List (List Bool)) (quiet : List Bool) (looks : List (Option ℕ)) → marks ≡ map unmarked_fields program.shape.classes → quiet ≡ [] → looks ≡ [] → IsSurveyed program 0 marks quiet looks
  unfolding read_marks
  first_surveyed marks quiet looks is no_quiet no_looks = record {
    classes = ap length is ∙ long program.shape.classes;
    marked = λ c f.
        ap (λ ms. option_map (λ b. b || functions_read program c f 0 program.functions) (mark_of ms c f)) is
        ∙ ap (option_map (λ b. b || functions_read program c f 0 program.functions)) (blank_marks program.shape.classes c f)
        ∙ (let z : f ≡ 0 + f = omega arith in ap (λ m. option_map (λ b. b || functions_read program c m 0 program.functions) (option_map (λ x. false) (slice_get (kinds_of_class program.shape c) f))) z)
        ∙ kept_each c 0 (kinds_of_class program.shape c) f;
    quiet_long = ap length no_quiet;
    are_quiet = λ n lt. absurd (omega arith);
    looks_long = ap length no_looks;
    only_look = λ n lt. absurd (omega arith);
  }
    where
      long : (cs : List ClassInfo) → length (map unmarked_fields cs) ≡ length cs
      long [] = refl
      long (c ∷ cs) = ap suc (long cs)

  -- the next function
  module _ (number : ℕ) (function : Function) (points : Table) (there : slice_get program.functions number ≡ Some function) (before : Keep program number) (judged : judged_function program number function ≡ Ok points) where
    lower_up_to : (h : ℕ) → h ≤ number → LowerCalls program h
    lower_up_to h le n g is = go (slice_get program.functions h) refl is
      where
        with_points : (f : Function) → slice_get program.functions h ≡ Some f → (ps : Table) × (judged_function program h f ≡ Ok ps)
        with_points f at = by (cases_lt h number)
          where
            by : h < number ⊎ number ≤ h → (ps : Table) × (judged_function program h f ≡ Ok ps)
            by (inl lt) = before h f lt at
            by (inr ge) =
                let same : number ≡ h = omega (arith, le, ge) in
                let one : function ≡ f = let e = sym there ∙ ap (slice_get program.functions) same ∙ at in cc in
                (points, (λ j. judged_function program (sym same j) (sym one j)) ∙ judged)

        go : (o : Option Function) → slice_get program.functions h ≡ o → slice_get (code_of o) n ≡ Some (CallOwn g) → g < h
        go None at is = cc
        go (Some f) at is = let w = with_points f at in call_lower program h f w.0 n g w.1 is

    module _ (quiet : List Bool) (known : (n : ℕ) → n < number → slice_get quiet n ≡ Some (is_quiet_function program n)) where
      -- what the table says of an instruction of this function
      told : (n : ℕ) (i : Instr) → slice_get function.code n ≡ Some i → is_quiet (says quiet) i ≡ is_quiet (is_quiet_function program) i
      told n i is = quiet_same (says quiet) (is_quiet_function program) i (λ g called. ap (λ o. unwrap_or o false) (known g (lower g called)))
        where
          lower : (g : ℕ) → i ≡ CallOwn g → g < number
          lower g called = call_lower program number function points n g judged (is ∙ ap (λ j. Some j) called)

      code_is : code_of (slice_get program.functions number) ≡ function.code
      code_is = ap code_of there

      -- the function itself
      pub quiet_now : looks_after quiet 0 function.code ≡ is_quiet_function program number
      unfolding is_quiet_function
      quiet_now =
          all_same (λ i. is_quiet (says quiet) i && stays_behind 0 i) (is_quiet (is_quiet_function program)) function.code (λ n i is. and_true (is_quiet (says quiet) i) (stays_behind 0 i) (goes_to_first i) ∙ told n i is)
          ∙ ap (list_all (is_quiet (is_quiet_function program))) (sym code_is)
          ∙ sym (quiet_alike program number lower_up_to (length program.functions) (suc (length program.functions)) number (omega arith) within (omega (arith, within)))
        where
          within : number < length program.functions
          within = slice_get_within program.functions number function there

      pub looks_now : looks_by quiet function ≡ looks_from program number
      unfolding peeks
      looks_now =
          (λ j. if function.is_event && same j then Some (after_go function.code) else None)
          ∙ (λ j. if function_peeks program (sym there j) then Some (after_go (sym code_is j)) else None)
        where
          same : looks_after quiet (after_go function.code) (drop (after_go function.code) function.code) ≡ only_looks program (after_go function.code) function.code
          same = all_same (λ i. is_quiet (says quiet) i && stays_behind (after_go function.code) i) (λ i. is_quiet (is_quiet_function program) i && stays_behind (after_go function.code) i) (drop (after_go function.code) function.code) (λ n i is. let e = told (after_go function.code + n) i (sym (dropped (after_go function.code) function.code n) ∙ is) in λ j. e j && stays_behind (after_go function.code) i)

    -- what its code reads
    reads_now : (c f : ℕ) → functions_read program c f number (drop number program.functions) ≡ (code_reads program.shape c f function.code points || functions_read program c f (suc number) (drop (suc number) program.functions))
    reads_now c f =
        ap (functions_read program c f number) (drop_there program.functions number function there)
        ∙ (λ j. code_reads program.shape c f function.code (table_in (judged j)) || functions_read program c f (suc number) (drop (suc number) program.functions))

    next_surveyed : (marks new : List (List Bool)) (quiet : List Bool) (looks : List (Option ℕ)) → IsSurveyed program number marks quiet looks → IsMarked marks (λ c f. code_reads program.shape c f function.code points) new → IsSurveyed program (suc number) new (quiet ++ looks_after quiet 0 function.code ∷ []) (looks ++ looks_by quiet function ∷ [])
    next_surveyed marks new quiet looks h m = record {
      classes = m.classes ∙ h.classes;
      marked = λ c f.
          ap (option_map (λ b. b || functions_read program c f (suc number) (drop (suc number) program.functions))) (m.each c f)
          ∙ more_twice (mark_of marks c f) (code_reads program.shape c f function.code points) (functions_read program c f (suc number) (drop (suc number) program.functions))
          ∙ ap (λ x. option_map (λ b. b || x) (mark_of marks c f)) (sym (reads_now c f))
          ∙ h.marked c f;
      quiet_long = longer quiet _ number h.quiet_long;
      are_quiet = λ n lt. one_more quiet (looks_after quiet 0 function.code) (is_quiet_function program) number h.quiet_long h.are_quiet (quiet_now quiet h.are_quiet) n lt;
      looks_long = longer looks _ number h.looks_long;
      only_look = λ n lt. one_more looks (looks_by quiet function) (looks_from program) number h.looks_long h.only_look (looks_now quiet h.are_quiet) n lt;
    }

    pub then_surveyed : (marks new : List (List Bool)) (quiet quiet' : List Bool) (looks looks' : List (Option ℕ)) (q : Bool) (l : Option ℕ) → IsSurveyed program number marks quiet looks → IsMarked marks (λ c f. code_reads program.shape c f function.code points) new → quiet' ≡ quiet ++ q ∷ [] → looks' ≡ looks ++ l ∷ [] → q ≡ looks_after quiet 0 function.code → l ≡ looks_by quiet function → IsSurveyed program (suc number) new quiet' looks'
    then_surveyed marks new quiet quiet' looks looks' q l h m quiet_is looks_is q_is l_is =
        subst (λ qs. IsSurveyed program (suc number) new qs looks') (sym (quiet_is ∙ ap (λ x. quiet ++ x ∷ []) q_is))
        (subst (λ ls. IsSurveyed program (suc number) new (quiet ++ looks_after quiet 0 function.code ∷ []) ls) (sym (looks_is ∙ ap (λ x. looks ++ x ∷ []) l_is))
        (next_surveyed marks new quiet looks h m))

    pub keep_more : Keep program (number + 1)
    keep_more n f lt at = by (cases_lt n number)
      where
        by : n < number ⊎ number ≤ n → (ps : Table) × (judged_function program n f ≡ Ok ps)
        by (inl less) = before n f less at
        by (inr ge) =
            let same : number ≡ n = omega (arith, lt, ge) in
            let one : function ≡ f = let e = sym there ∙ ap (slice_get program.functions) same ∙ at in cc in
            (points, (λ j. judged_function program (sym same j) (sym one j)) ∙ judged)

  pub surveyed_at : (n m : ℕ) (marks : List (List Bool)) (quiet : List Bool) (looks : List (Option ℕ)) → n ≡ m → IsSurveyed program n marks quiet looks → IsSurveyed program m marks quiet looks
  surveyed_at n m marks quiet looks e h = subst (λ k. IsSurveyed program k marks quiet looks) e h

  pub all_keep : (count : ℕ) → length program.functions ≤ count → Keep program count → IsVerified program
  all_keep count le keep = record { each = λ n f at. let lt = slice_get_within program.functions n f at in keep n f (omega (arith, lt, le)) at }

  -- a function that is not there looks at nothing
  pub looks_past : (n : ℕ) → length program.functions ≤ n → looks_from program n ≡ None
  unfolding peeks
  looks_past n le = ap (λ o. if function_peeks program o then Some (after_go (code_of (slice_get program.functions n))) else None) (slice_get_past program.functions n le)

  -- the first rule that is broken
  pub fault_named : (number : ℕ) (function : Function) → slice_get program.functions number ≡ Some function → Keep program number → (x : VerifyError) → Names (IsFirst program number function) x → Names (Breaks program) x
  fault_named number function there keep x h = names_as named x h
    where
      named : (r : Rule) (f i : ℕ) → IsFirst program number function r f i → Breaks program r f i
      named r f i h = subst (λ n. Breaks program r n i) (sym h.number_is) (record { function = function; is_there = there; before = keep; breaks = h.breaks })

  -- what is read is there
  pub read_there : IsVerified program → (c f : ℕ) → Reads program c f → f < length (kinds_of_class program.shape c)
  unfolding effect_of
  read_there verified c f r =
      let frame : Frame = record { function = r.number; place = r.place; stack = []; locals = []; down = false } in
      let a = acts program verified frame r.function r.point r.is_there r.is_point in
      let same : a.instr ≡ Above r.level f = some_same a.instr (Above r.level f) (sym a.is_instr ∙ r.is_instr) in
      found_ok rule.Field (slice_get (levels_above program.shape r.point.class.0) r.level) (λ d. judged_item rule.Field (slice_get (kinds_of_class program.shape d) f) (λ kind. gives_only kind)) a.leads.effect (ap (effect_of program r.number r.function r.point.class.0) (sym same) ∙ a.leads.is_effect) (λ d is_d is_found.
      found_ok rule.Field (slice_get (kinds_of_class program.shape d) f) (λ kind. gives_only kind) a.leads.effect is_found (λ kind is_kind rest.
      slice_get_within (kinds_of_class program.shape c) f kind (ap (λ e. slice_get (kinds_of_class program.shape e) f) (some_same c d (sym r.is_ancestor ∙ is_d)) ∙ is_kind)))

  pub kept_exact : IsVerified program → (c : ℕ) (ks : List Bool) → ks ≡ read_marks program c → (f : ℕ) → (slice_get ks f ≡ Some true → Reads program c f) × (Reads program c f → slice_get ks f ≡ Some true)
  kept_exact verified c ks is f = (
    λ e. let at = sym (ap (λ xs. slice_get xs f) is) ∙ e in kept_is_read program c f at (subst (λ n. f < n) (kept_fields program c) (slice_get_within (read_marks program c) f true at)),
    λ r. let lt = read_there verified c f r in ap (λ xs. slice_get xs f) is ∙ kept_there program c f lt ∙ ap (λ b. Some b) (of_reads program c f r),
  )

  -- after the last one
  pub all_surveyed : (count : ℕ) (marks : List (List Bool)) (quiet : List Bool) (looks : List (Option ℕ)) → count ≡ length program.functions → IsSurveyed program count marks quiet looks → HasTables program marks looks
  all_surveyed count marks quiet looks whole h = record {
    kept = λ c lt. at_class c (slice_get marks c) refl (subst (λ n. c < n) (sym h.classes) lt);
    only_look = λ n lt. h.only_look n (subst (λ m. n < m) (sym whole) lt);
    many = h.looks_long ∙ whole;
  }
    where
      each : (c f : ℕ) → mark_of marks c f ≡ slice_get (read_marks program c) f
      each c f = sym (ap (λ fs. option_map (λ b. b || functions_read program c f count fs) (mark_of marks c f)) (drop_all count program.functions (omega (arith, whole))) ∙ no_more (mark_of marks c f)) ∙ h.marked c f

      at_class : (c : ℕ) (o : Option (List Bool)) → slice_get marks c ≡ o → c < length marks → o ≡ Some (read_marks program c)
      at_class c None e lt = absurd (none_within marks c lt e)
      at_class c (Some ks) e lt = ap (λ x. Some x) (same_at ks (read_marks program c) (λ f. sym (ap (option_and_then (λ ks. slice_get ks f)) e) ∙ each c f))

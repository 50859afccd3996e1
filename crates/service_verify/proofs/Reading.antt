-- The fields that are kept are those that some instruction reads from below.
use Rattle.std.proofs.Common.{◌≡◌, ℕ, zero, suc, ◌+◌, ◌<◌, List, [], ◌∷◌, length, Bool, true, false, ◌&&◌, Option, Some, None, refl, ap, sym, subst, ◌∙◌, arith}
use Rattle.std.specs.Prelude.{slice_get, ◌==◌, ◌||◌}
use Rattle.std.specs.Option.{unwrap_or}
use Rattle.std.proofs.lemmas.Bool.Decides.{nat_tests}
use Rattle.wave_base.specs.declared.shape.Shape.{Shape}
use Rattle.wave_base.specs.declared.value.Kind.{Kind}
use Rattle.wave_base.specs.Shapes.{kinds_of_class}
use Rattle.service_code.specs.declared.instr.Instr.{Instr}
use Rattle.service_code.specs.declared.instr.Instr.TheVariants.{Above}
use Rattle.service_code.specs.declared.program.Function.{Function}
use Rattle.service_code.specs.declared.program.Program.{Program}
use Rattle.service_verify.specs.declared.point.Point.{Point}
use Rattle.service_verify.specs.Points.{Table, points_of, point_in, point_at}
use Rattle.service_verify.specs.Reads.{Reads, is_number, reads_at, code_reads, functions_read, fields_kept, read_marks, is_kept}
use Rattle.service_verify.specs.Rules.{levels_above}

or_left : (a b : Bool) → a ≡ true → (a || b) ≡ true
or_left true b e = refl
or_left false b e = cc

or_right : (a b : Bool) → b ≡ true → (a || b) ≡ true
or_right true b e = refl
or_right false b e = e

either : {P : Type 0} (a b : Bool) → (a || b) ≡ true → (a ≡ true → P) → (b ≡ true → P) → P
either true b e left right = left refl
either false b e left right = right e

both : {P : Type 0} (a b : Bool) → (a && b) ≡ true → (a ≡ true → b ≡ true → P) → P
both true true e go = go refl refl
both true false e go = cc
both false b e go = cc

number_is : (n : ℕ) (o : Option ℕ) → is_number n o ≡ true → o ≡ Some n
number_is n None e = cc
number_is n (Some m) e = let same : m ≡ n = grind (arith, nat_tests) in ap (λ k. Some k) same

is_number_of : (n : ℕ) (o : Option ℕ) → o ≡ Some n → is_number n o ≡ true
is_number_of n None e = cc
is_number_of n (Some m) e = let same : m ≡ n = cc in grind (arith, nat_tests)

same_number : (n m : ℕ) → n ≡ m → (n == m) ≡ true
same_number n m e = grind (arith, nat_tests)

is_same : (n m : ℕ) → (n == m) ≡ true → n ≡ m
is_same n m e = grind (arith, nat_tests)

module _ (shape : Shape) (class field : ℕ) where
  -- an instruction of a code reads the field
  record Found (code : List Instr) (points : Table) : Type 0 where
    place : ℕ
    level : ℕ
    is_instr : slice_get code place ≡ Some (Above level field)
    point : Point
    is_point : slice_get points place ≡ Some (Some point)
    is_ancestor : slice_get (levels_above shape point.class.0) level ≡ Some class

  reads_above : (i : Instr) (q : Option Point) → reads_at shape class field i q ≡ true → (level : ℕ) × (i ≡ Above level field) × ((p : Point) × (q ≡ Some p) × (slice_get (levels_above shape p.class.0) level ≡ Some class))
  reads_above (Above l f) (Some p) e = both (f == field) (is_number class (slice_get (levels_above shape p.class.0) l)) e (λ a b. (l, ap (Above l) (is_same f field a), (p, refl, number_is class (slice_get (levels_above shape p.class.0) l) b)))
  reads_above _ _ e = cc

  code_found : (code : List Instr) (points : Table) → code_reads shape class field code points ≡ true → Found code points
  code_found [] points e = cc
  code_found (i ∷ is) [] e = cc
  code_found (i ∷ is) (q ∷ points) e =
      either (reads_at shape class field i q) (code_reads shape class field is points) e
      (λ h. let r = reads_above i q h in record { place = 0; level = r.0; is_instr = ap (λ j. Some j) r.1; point = r.2.0; is_point = ap (λ o. Some o) r.2.1; is_ancestor = r.2.2 })
      (λ h. let r = code_found is points h in record { place = suc r.place; level = r.level; is_instr = r.is_instr; point = r.point; is_point = r.is_point; is_ancestor = r.is_ancestor })

  found_code : (code : List Instr) (points : Table) (place level : ℕ) (point : Point) → slice_get code place ≡ Some (Above level field) → slice_get points place ≡ Some (Some point) → slice_get (levels_above shape point.class.0) level ≡ Some class → code_reads shape class field code points ≡ true
  found_code [] points place level point is at above = cc
  found_code (i ∷ is) [] place level point is_i at above = cc
  found_code (i ∷ is) (q ∷ points) zero level point is_i at above =
      let same : i ≡ Above level field = cc in
      let same_point : q ≡ Some point = cc in
      or_left (reads_at shape class field i q) (code_reads shape class field is points)
      ((λ j. reads_at shape class field (same j) (same_point j)) ∙ (λ j. same_number field field refl j && is_number_of class (slice_get (levels_above shape point.class.0) level) above j))
  found_code (i ∷ is) (q ∷ points) (suc place) level point is_i at above =
      or_right (reads_at shape class field i q) (code_reads shape class field is points) (found_code is points place level point is_i at above)

point_there : (o : Option (Option Point)) (p : Point) → point_in o ≡ Some p → o ≡ Some (Some p)
point_there None p e = cc
point_there (Some q) p e = ap (λ x. Some x) e

module _ (program : Program) (class : ℕ) where
  -- a function among these, the first of which has this number, has an instruction that reads the field
  record FoundIn (field number : ℕ) (fs : List Function) : Type 0 where
    place : ℕ
    function : Function
    is_there : slice_get fs place ≡ Some function
    found : Found program.shape class field function.code (points_of program (number + place) function)

  found_in : (field number : ℕ) (fs : List Function) → functions_read program class field number fs ≡ true → FoundIn field number fs
  found_in field number [] e = cc
  found_in field number (f ∷ fs) e =
      either (code_reads program.shape class field f.code (points_of program number f)) (functions_read program class field (suc number) fs) e
      (λ h. let z : number ≡ number + 0 = omega arith in record { place = 0; function = f; is_there = refl; found = subst (λ n. Found program.shape class field f.code (points_of program n f)) z (code_found program.shape class field f.code (points_of program number f) h) })
      (λ h. let r = found_in field (suc number) fs h in let s : suc number + r.place ≡ number + suc r.place = omega arith in record { place = suc r.place; function = r.function; is_there = r.is_there; found = subst (λ n. Found program.shape class field r.function.code (points_of program n r.function)) s r.found })

  in_found : (field number : ℕ) (fs : List Function) (place : ℕ) (f : Function) → slice_get fs place ≡ Some f → code_reads program.shape class field f.code (points_of program (number + place) f) ≡ true → functions_read program class field number fs ≡ true
  in_found field number [] place f there e = cc
  in_found field number (g ∷ fs) zero f there e =
      let same : g ≡ f = cc in
      let z : number ≡ number + 0 = omega arith in
      or_left (code_reads program.shape class field g.code (points_of program number g)) (functions_read program class field (suc number) fs)
      ((λ j. code_reads program.shape class field (same j).code (points_of program (z j) (same j))) ∙ e)
  in_found field number (g ∷ fs) (suc place) f there e =
      let s : suc number + place ≡ number + suc place = omega arith in
      or_right (code_reads program.shape class field g.code (points_of program number g)) (functions_read program class field (suc number) fs)
      (in_found field (suc number) fs place f there (ap (λ n. code_reads program.shape class field f.code (points_of program n f)) s ∙ e))

  pub reads_of : (field : ℕ) → functions_read program class field 0 program.functions ≡ true → Reads program class field
  unfolding point_at
  reads_of field e =
      let r = found_in field 0 program.functions e in
      let z : 0 + r.place ≡ r.place = omega arith in
      record {
        number = r.place;
        function = r.function;
        is_there = r.is_there;
        place = r.found.place;
        level = r.found.level;
        is_instr = r.found.is_instr;
        point = r.found.point;
        is_point = ap (λ n. point_in (slice_get (points_of program n r.function) r.found.place)) (sym z) ∙ ap point_in r.found.is_point;
        is_ancestor = r.found.is_ancestor;
      }

  pub of_reads : (field : ℕ) → Reads program class field → functions_read program class field 0 program.functions ≡ true
  unfolding point_at
  of_reads field r =
      let z : 0 + r.number ≡ r.number = omega arith in
      in_found field 0 program.functions r.number r.function r.is_there
      (ap (λ n. code_reads program.shape class field r.function.code (points_of program n r.function)) z
      ∙ found_code program.shape class field r.function.code (points_of program r.number r.function) r.place r.level r.point r.is_instr (point_there _ r.point r.is_point) r.is_ancestor)

  kept_at : (first : ℕ) (ks : List Kind) (n : ℕ) → n < length ks → slice_get (fields_kept program class first ks) n ≡ Some (functions_read program class (first + n) 0 program.functions)
  kept_at first [] n lt = absurd (omega arith)
  kept_at first (k ∷ ks) zero lt = let z : first ≡ first + 0 = omega arith in ap (λ m. Some (functions_read program class m 0 program.functions)) z
  kept_at first (k ∷ ks) (suc n) lt = let s : suc first + n ≡ first + suc n = omega arith in kept_at (suc first) ks n (omega arith) ∙ ap (λ m. Some (functions_read program class m 0 program.functions)) s

  kept_long : (first : ℕ) (ks : List Kind) → length (fields_kept program class first ks) ≡ length ks
  kept_long first [] = refl
  kept_long first (k ∷ ks) = ap suc (kept_long (suc first) ks)

  -- one truth value per field
  pub kept_fields : length (read_marks program class) ≡ length (kinds_of_class program.shape class)
  unfolding read_marks
  kept_fields = kept_long 0 (kinds_of_class program.shape class)

  pub kept_there : (n : ℕ) → n < length (kinds_of_class program.shape class) → slice_get (read_marks program class) n ≡ Some (functions_read program class n 0 program.functions)
  unfolding read_marks
  kept_there n lt = let z : 0 + n ≡ n = omega arith in kept_at 0 (kinds_of_class program.shape class) n lt ∙ ap (λ m. Some (functions_read program class m 0 program.functions)) z

  -- a field that is read from below is kept
  pub read_is_kept : (field : ℕ) → field < length (kinds_of_class program.shape class) → Reads program class field → is_kept program class field ≡ true
  read_is_kept field lt r = ap (λ o. unwrap_or o false) (kept_there field lt) ∙ of_reads field r

  -- and no other one
  pub kept_is_read : (field : ℕ) → slice_get (read_marks program class) field ≡ Some true → field < length (kinds_of_class program.shape class) → Reads program class field
  kept_is_read field e lt = reads_of field (some_true _ (sym (kept_there field lt) ∙ e))
    where
      some_true : (b : Bool) → Some b ≡ Some true → b ≡ true
      some_true b e = cc

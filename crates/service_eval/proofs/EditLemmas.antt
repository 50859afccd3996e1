-- Maps changed where they stand: what the rows of the table say; and fields that come out and go back.
use Rattle.std.proofs.Common.{◌≡◌, ℤ, ℕ, zero, suc, List, [], ◌∷◌, get_or, slice_set, Result, Ok, Err, refl, sym, ap, subst, ◌∙◌}
use Rattle.wave_base.proofs.Trees.{put_same}
use Rattle.wave_base.specs.declared.path.Path.{Path}
use Rattle.wave_base.specs.declared.span.Span.{Span}
use Rattle.wave_base.specs.declared.trap.TrapKind.TheVariants.{Absent}
use Rattle.wave_base.specs.declared.value.Value.{Value}
use Rattle.wave_base.specs.declared.value.Value.TheVariants.{Int, Bool, Str, Map}
use Rattle.wave_base.specs.Tables.{without}
use Rattle.wave_base.specs.Tree.{Tree, put}
use Rattle.value_ops.specs.Kinds.{Answer}
use Rattle.value_ops.specs.Operators.{apply_row, operators}
use Rattle.context_tree.specs.Contexts.{with_field}
use Rattle.resolved_service.specs.Meaning.{row_put, row_cut}
use Rattle.resolved_service.specs.World.{nothing}
use Rattle.service_eval.specs.declared.stop.Stop.{Stop}
use Rattle.service_eval.specs.declared.stop.Stop.TheVariants as stop
use Rattle.service_eval.specs.inner.Turns.{Alters}

-- ---- rows

pub put_no_map : (v k x : Value) → ((m : List (ℤ × ℤ)) → v ≡ Map m → ⊥) → apply_row row_put (v ∷ k ∷ x ∷ []) ≡ Err Absent
unfolding apply_row operators
put_no_map (Int n) k x h = refl
put_no_map (Bool b) k x h = refl
put_no_map (Str t) k x h = refl
put_no_map (Map m) k x h = absurd (h m refl)

pub put_no_key : (m : List (ℤ × ℤ)) (k x : Value) → ((n : ℤ) → k ≡ Int n → ⊥) → apply_row row_put (Map m ∷ k ∷ x ∷ []) ≡ Err Absent
unfolding apply_row operators
put_no_key m (Int n) x h = absurd (h n refl)
put_no_key m (Bool b) x h = refl
put_no_key m (Str t) x h = refl
put_no_key m (Map k) x h = refl

pub put_no_value : (m : List (ℤ × ℤ)) (k : ℤ) (x : Value) → ((n : ℤ) → x ≡ Int n → ⊥) → apply_row row_put (Map m ∷ Int k ∷ x ∷ []) ≡ Err Absent
unfolding apply_row operators
put_no_value m k (Int n) h = absurd (h n refl)
put_no_value m k (Bool b) h = refl
put_no_value m k (Str t) h = refl
put_no_value m k (Map x) h = refl

pub cut_no_map : (v k : Value) → ((m : List (ℤ × ℤ)) → v ≡ Map m → ⊥) → apply_row row_cut (v ∷ k ∷ []) ≡ Err Absent
unfolding apply_row operators
cut_no_map (Int n) k h = refl
cut_no_map (Bool b) k h = refl
cut_no_map (Str t) k h = refl
cut_no_map (Map m) k h = absurd (h m refl)

pub cut_no_key : (m : List (ℤ × ℤ)) (k : Value) → ((n : ℤ) → k ≡ Int n → ⊥) → apply_row row_cut (Map m ∷ k ∷ []) ≡ Err Absent
unfolding apply_row operators
cut_no_key m (Int n) h = absurd (h n refl)
cut_no_key m (Bool b) h = refl
cut_no_key m (Str t) h = refl
cut_no_key m (Map k) h = refl

abbrev pub put_answer : Value → Value → Value → Answer Value
put_answer map key new = apply_row row_put (map ∷ key ∷ new ∷ [])

abbrev pub cut_answer : Value → Value → Answer Value
cut_answer map key = apply_row row_cut (map ∷ key ∷ [])

pub put_ints : (v k x : Value) (m : List (ℤ × ℤ)) (n w n' w' : ℤ) → v ≡ Map m → k ≡ Int n → x ≡ Int w → n' ≡ n → w' ≡ w → put_answer v k x ≡ put_answer (Map m) (Int n') (Int w')
put_ints v k x m n w n' w' e f g a b i = put_answer (e i) ((f ∙ ap Int (sym a)) i) ((g ∙ ap Int (sym b)) i)

pub cut_ints : (v k : Value) (m : List (ℤ × ℤ)) (n n' : ℤ) → v ≡ Map m → k ≡ Int n → n' ≡ n → cut_answer v k ≡ Ok (Map (without m n'))
unfolding apply_row operators
cut_ints v k m n n' e f a i = cut_answer (e i) ((f ∙ ap Int (sym a)) i)

-- an answer that is none, told at a place, leaves the value
pub alters_not : (a : Answer Value) (at : Span) (before after : Value) (r : Result (Unit {0}) Stop) → a ≡ Err Absent → r ≡ Err (stop.Trapped (record { kind = Absent; at = at })) → after ≡ before → Alters a at before r after
alters_not a at before after r e h s = subst (λ r. Alters a at before r after) (sym h) (e, refl, s)

-- ---- lists and fields

pub set_read : (xs : List Value) (i : ℕ) (d : Value) → slice_set xs i (get_or xs i d) ≡ xs
set_read [] i d = refl
set_read (x ∷ xs) zero d = refl
set_read (x ∷ xs) (suc i) d = ap (λ ys. x ∷ ys) (set_read xs i d)

module _ (t : Tree (List Value)) (p : Path) (f : ℕ) where
  pub field_same : with_field t p f (get_or (t.fields p) f nothing) ≡ t
  field_same = ap (put t p) (set_read (t.fields p) f nothing) ∙ put_same t p

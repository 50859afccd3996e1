-- Two or three values, where one is of another kind than is asked.
use Rattle.std.proofs.Common.{◌≡◌, ℤ, Bool, true, false, ◌&&◌, [], ◌∷◌, Some, refl}
use Rattle.wave_base.specs.declared.value.Kind.{Kind}
use Rattle.wave_base.specs.declared.value.Kind.TheVariants as k
use Rattle.wave_base.specs.declared.value.Value.{Value}
use Rattle.wave_base.specs.declared.value.Value.TheVariants as v
use Rattle.value_ops.specs.declared.takes.Takes.{Takes}
use Rattle.value_ops.specs.declared.takes.Takes.TheVariants as o
use Rattle.value_ops.specs.Rows.{three}
use Rattle.value_ops.specs.Takes.{kinds_in}
use Rattle.service_eval.specs.inner.Answers.{is_kind, are_kinds}

pub no_int : (x : Value) → ((n : ℤ) → x ≡ v.Int n → ⊥) → is_kind (Some k.Int) x ≡ false
no_int (v.Int n) h = absurd (h n refl)
no_int (v.Bool b) h = refl
no_int (v.Str t) h = refl
no_int (v.Map m) h = refl

pub no_bool : (x : Value) → ((b : Bool) → x ≡ v.Bool b → ⊥) → is_kind (Some k.Bool) x ≡ false
no_bool (v.Int n) h = refl
no_bool (v.Bool b) h = absurd (h b refl)
no_bool (v.Str t) h = refl
no_bool (v.Map m) h = refl

pub no_text : (x : Value) → ((t : _) → x ≡ v.Str t → ⊥) → is_kind (Some k.Text) x ≡ false
no_text (v.Int n) h = refl
no_text (v.Bool b) h = refl
no_text (v.Str t) h = absurd (h t refl)
no_text (v.Map m) h = refl

pub no_map : (x : Value) → ((m : _) → x ≡ v.Map m → ⊥) → is_kind (Some k.Map) x ≡ false
no_map (v.Int n) h = refl
no_map (v.Bool b) h = refl
no_map (v.Str t) h = refl
no_map (v.Map m) h = absurd (h m refl)

behind : (a b : Bool) → b ≡ false → (a && b) ≡ false
behind true b h = h
behind false b h = refl

before : (a b : Bool) → a ≡ false → (a && b) ≡ false
before true b h = cc
before false b h = refl

-- of two values
module _ (x y : Kind) (a b : Value) where
  pub first_wrong : is_kind (Some x) a ≡ false → are_kinds (three (x ∷ y ∷ [])) (a ∷ b ∷ []) ≡ false
  first_wrong h = before (is_kind (Some x) a) (is_kind (Some y) b && true) h

  pub second_wrong : is_kind (Some y) b ≡ false → are_kinds (three (x ∷ y ∷ [])) (a ∷ b ∷ []) ≡ false
  second_wrong h = behind (is_kind (Some x) a) (is_kind (Some y) b && true) (before (is_kind (Some y) b) true h)

pub no_two : (t : Takes) (a b : Value) → (t ≡ o.MapInt → ⊥) → (t ≡ o.Texts → ⊥) → (t ≡ o.Bools → ⊥) → (t ≡ o.Ints → ⊥) → are_kinds (three (kinds_in t)) (a ∷ b ∷ []) ≡ false
no_two o.Int a b h1 h2 h3 h4 = behind (is_kind (Some k.Int) a) false refl
no_two o.Ints a b h1 h2 h3 h4 = absurd (h4 refl)
no_two o.Bool a b h1 h2 h3 h4 = behind (is_kind (Some k.Bool) a) false refl
no_two o.Bools a b h1 h2 h3 h4 = absurd (h3 refl)
no_two o.Text a b h1 h2 h3 h4 = behind (is_kind (Some k.Text) a) false refl
no_two o.Texts a b h1 h2 h3 h4 = absurd (h2 refl)
no_two o.TextIntInt a b h1 h2 h3 h4 = behind (is_kind (Some k.Text) a) (is_kind (Some k.Int) b && false) (behind (is_kind (Some k.Int) b) false refl)
no_two o.Map a b h1 h2 h3 h4 = behind (is_kind (Some k.Map) a) false refl
no_two o.MapInt a b h1 h2 h3 h4 = absurd (h1 refl)
no_two o.MapIntInt a b h1 h2 h3 h4 = behind (is_kind (Some k.Map) a) (is_kind (Some k.Int) b && false) (behind (is_kind (Some k.Int) b) false refl)

-- of three values
module _ (x y z : Kind) (a b c : Value) where
  pub first_of_three : is_kind (Some x) a ≡ false → are_kinds (three (x ∷ y ∷ z ∷ [])) (a ∷ b ∷ c ∷ []) ≡ false
  first_of_three h = before (is_kind (Some x) a) (is_kind (Some y) b && is_kind (Some z) c) h

  pub second_of_three : is_kind (Some y) b ≡ false → are_kinds (three (x ∷ y ∷ z ∷ [])) (a ∷ b ∷ c ∷ []) ≡ false
  second_of_three h = behind (is_kind (Some x) a) (is_kind (Some y) b && is_kind (Some z) c) (before (is_kind (Some y) b) (is_kind (Some z) c) h)

  pub third_of_three : is_kind (Some z) c ≡ false → are_kinds (three (x ∷ y ∷ z ∷ [])) (a ∷ b ∷ c ∷ []) ≡ false
  third_of_three h = behind (is_kind (Some x) a) (is_kind (Some y) b && is_kind (Some z) c) (behind (is_kind (Some y) b) (is_kind (Some z) c) h)

pub no_three : (t : Takes) (a b c : Value) → (t ≡ o.TextIntInt → ⊥) → (t ≡ o.MapIntInt → ⊥) → are_kinds (three (kinds_in t)) (a ∷ b ∷ c ∷ []) ≡ false
no_three o.Int a b c h1 h2 = behind (is_kind (Some k.Int) a) false refl
no_three o.Ints a b c h1 h2 = behind (is_kind (Some k.Int) a) (is_kind (Some k.Int) b && false) (behind (is_kind (Some k.Int) b) false refl)
no_three o.Bool a b c h1 h2 = behind (is_kind (Some k.Bool) a) false refl
no_three o.Bools a b c h1 h2 = behind (is_kind (Some k.Bool) a) (is_kind (Some k.Bool) b && false) (behind (is_kind (Some k.Bool) b) false refl)
no_three o.Text a b c h1 h2 = behind (is_kind (Some k.Text) a) false refl
no_three o.Texts a b c h1 h2 = behind (is_kind (Some k.Text) a) (is_kind (Some k.Text) b && false) (behind (is_kind (Some k.Text) b) false refl)
no_three o.TextIntInt a b c h1 h2 = absurd (h1 refl)
no_three o.Map a b c h1 h2 = behind (is_kind (Some k.Map) a) false refl
no_three o.MapInt a b c h1 h2 = behind (is_kind (Some k.Map) a) (is_kind (Some k.Int) b && false) (behind (is_kind (Some k.Int) b) false refl)
no_three o.MapIntInt a b c h1 h2 = absurd (h2 refl)

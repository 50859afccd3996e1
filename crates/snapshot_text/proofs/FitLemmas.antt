-- The fields of a class have words as names.
use Rattle.std.proofs.Common.{◌≡◌, ℕ, zero, suc, true, List, [], ◌∷◌, length, map, slice_get, All, refl, ap, ◌∙◌}
use Rattle.std.specs.Prelude.{◌&&◌, nat_le}
use Rattle.std.specs.List.{list_all}
use Rattle.std.proofs.lemmas.Bool.{and_parts}
use Rattle.std.proofs.lemmas.List.Elements.{All-head, All-tail}
use Rattle.wave_base.specs.declared.shape.ClassInfo.{ClassInfo}
use Rattle.wave_base.specs.declared.shape.Shape.{Shape}
use Rattle.wave_base.specs.Names.{HasNames, AreNames, is_word, is_name}
use Rattle.wave_base.specs.Shapes.{fields_in, declared_fields}

words_of : (names : List (List ℕ)) → list_all is_name names ≡ true → list_all is_word names ≡ true
words_of [] h = refl
words_of (n ∷ ns) h =
    let k = and_parts (is_name n) (list_all is_name ns) h in
    let w = and_parts (is_word n) (nat_le (length n) 64) k.0 in
    ap (λ t. t && list_all is_word ns) w.0 ∙ words_of ns k.1

abbrev HasFieldNames : ClassInfo → Type 0
HasFieldNames c = AreNames (map (λ f. f.name) c.fields)

words_at : (classes : List ClassInfo) (n : ℕ) → All HasFieldNames classes → list_all is_word (map (λ f. f.name) (fields_in (slice_get classes n))) ≡ true
words_at [] n h = refl
words_at (c ∷ cs) zero h = words_of (map (λ f. f.name) c.fields) (All-head HasFieldNames c cs h).names_all
words_at (c ∷ cs) (suc n) h = words_at cs n (All-tail HasFieldNames c cs h)

pub field_words : (shape : Shape) → HasNames shape → (c : ℕ) → list_all is_word (map (λ f. f.name) (declared_fields shape c)) ≡ true
field_words shape names c = words_at shape.classes c names.fields

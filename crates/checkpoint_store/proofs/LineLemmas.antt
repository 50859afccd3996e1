-- The lines that are due: their words, and that no line feed stands in them.
use Rattle.std.proofs.Common.{◌≡◌, ◌<◌, ◌^◌, ℕ, zero, suc, true, List, [], ◌∷◌, ◌++◌, length, map, get_or, slice_get, Option, Some, None, All, refl, sym, ap, subst, ◌∙◌, append_assoc, lit<, arith}
use Rattle.std.specs.Prelude.{◌&&◌, codes}
use Rattle.std.specs.Fmt.{decimal}
use Rattle.std.specs.List.{list_all}
use Rattle.std.proofs.lemmas.Bool.{and_parts, or_right}
use Rattle.std.proofs.lemmas.Bool.Decides.{nat_tests}
use Rattle.wave_base.specs.declared.finished.Place.{Place}
use Rattle.wave_base.specs.declared.path.Class.{Class}
use Rattle.wave_base.specs.declared.shape.ClassInfo.{ClassInfo}
use Rattle.wave_base.specs.declared.shape.FieldInfo.{FieldInfo}
use Rattle.wave_base.specs.declared.shape.Shape.{Shape}
use Rattle.wave_base.specs.declared.value.Kind.{Kind}
use Rattle.wave_base.specs.declared.value.Kind.TheVariants as k
use Rattle.wave_base.specs.Names.{HasNames, is_word, is_name_start, is_name_byte, same_bytes}
use Rattle.wave_base.specs.Shapes.{IsShape, class_name, name_in, parent_in, fields_in}
use Rattle.wave_text.specs.Splits.{is_other, HasNone}
use Rattle.wave_text.proofs.PairLemmas.{at_place}
use Rattle.wave_text.proofs.SplitLemmas.{none-append}
use Rattle.path_text.specs.Found.{IsPath}
use Rattle.path_text.specs.PathTexts.{path_text}
use Rattle.path_text.specs.PlaceTexts.{place_text}
use Rattle.journal_text.proofs.SolidLemmas.{all_imply, solid_has_none, decimal_solid, word_solid, start_is_byte}
use Rattle.snapshot_text.proofs.AgainLemmas.{word_at}
use Rattle.snapshot_text.proofs.FitLemmas.{field_words}
use Rattle.snapshot_text.proofs.ShotLemmas.{path_has_none}
use Rattle.checkpoint_store.specs.declared.numbers.Numbers.{Numbers}
use Rattle.checkpoint_store.specs.CheckpointTexts.{numbers_text, count_text, kind_text, fields_text, parent_text, class_text}
use Rattle.checkpoint_store.specs.Forms.{is_parent}
use Rattle.checkpoint_store.specs.Points.{AreInRange}

-- ---- classes as a shape has them

pub record IsDeclared (shape : Shape) (c : ClassInfo) : Type 0 where
  pub name : is_word c.name ≡ true
  pub parent : is_parent (parent_text shape c.parent) ≡ true
  pub solid : HasNone 32 (parent_text shape c.parent) × HasNone 10 (parent_text shape c.parent)
  pub fields : list_all is_word (map (λ f. f.name) c.fields) ≡ true

module _ (shape : Shape) (is : IsShape shape) (names : HasNames shape) where
  record IsParent (o : Option Class) : Type 0 where
    form : is_parent (parent_text shape o) ≡ true
    solid : HasNone 32 (parent_text shape o) × HasNone 10 (parent_text shape o)

  root_parent : IsParent None
  root_parent = record { form = refl; solid = (refl, refl) }

  word_parent : (d : Class) → is_word (class_name shape d.0) ≡ true → IsParent (Some d)
  word_parent d h = record {
    form = or_right (same_bytes (class_name shape d.0) (codes "-")) (is_word (class_name shape d.0)) h;
    solid = (solid_has_none 32 (lit< tt) (class_name shape d.0) (word_solid (class_name shape d.0) h), solid_has_none 10 (lit< tt) (class_name shape d.0) (word_solid (class_name shape d.0) h));
  }

  class_word : (n : ℕ) (info : ClassInfo) → n < length shape.classes → is_word (class_name shape n) ≡ true
  class_word n info h =
      let there = at_place shape.classes n info h in
      ap (λ o. is_word (name_in o)) there ∙ word_at shape.classes n (get_or shape.classes n info) there names.classes.names_all

  parent_at : (n : ℕ) (info : ClassInfo) → slice_get shape.classes n ≡ Some info → n < length shape.classes → IsParent info.parent
  parent_at zero info at h =
      let same : is.root.0 ≡ info = cc (is.root.1) in
      subst IsParent (sym is.root.2 ∙ ap (λ (c : ClassInfo). c.parent) same) root_parent
  parent_at (suc m) info at h =
      let p = is.parents m h in
      let there : p.0.0 < length shape.classes = omega (arith, p.2) in
      subst IsParent (sym p.1 ∙ ap parent_in at) (word_parent p.0 (class_word p.0.0 info there))

  pub declared : All (IsDeclared shape) shape.classes
  declared n d h =
      let info : ClassInfo = get_or shape.classes n d in
      let at : slice_get shape.classes n ≡ Some info = at_place shape.classes n d h in
      let parent = parent_at n info at h in
      record {
        name = word_at shape.classes n info at names.classes.names_all;
        parent = parent.form;
        solid = parent.solid;
        fields = sym (ap (λ o. list_all is_word (map (λ f. f.name) (fields_in o))) at) ∙ field_words shape names n;
      }

-- ---- numbers

pub number_none : (b n : ℕ) → b < 33 → n < 2 ^ 64 → HasNone b (decimal n)
number_none b n low h = solid_has_none b low (decimal n) (decimal_solid n h)

pub wide_hosts : (n : Numbers) → AreInRange n → n.hosts < 2 ^ 64
wide_hosts n h = omega (arith, h.few_hosts)

pub wide_lines : (n : Numbers) → AreInRange n → n.lines < 2 ^ 64
wide_lines n h = omega (arith, h.few_lines)

pub wide_next : (n : Numbers) → AreInRange n → n.next < 2 ^ 64
wide_next n h = omega (arith, h.last_next)

pub numbers_none : (n : Numbers) → AreInRange n → HasNone 10 (numbers_text n)
numbers_none n h =
    none-append 10 (codes "hosts ") (decimal n.hosts ++ (codes " lines " ++ (decimal n.lines ++ (codes " next " ++ decimal n.next)))) refl
    (none-append 10 (decimal n.hosts) (codes " lines " ++ (decimal n.lines ++ (codes " next " ++ decimal n.next))) (number_none 10 n.hosts (lit< tt) (wide_hosts n h))
    (none-append 10 (codes " lines ") (decimal n.lines ++ (codes " next " ++ decimal n.next)) refl
    (none-append 10 (decimal n.lines) (codes " next " ++ decimal n.next) (number_none 10 n.lines (lit< tt) (wide_lines n h))
    (none-append 10 (codes " next ") (decimal n.next) refl (number_none 10 n.next (lit< tt) (wide_next n h))))))

pub count_none : (shape : Shape) → length shape.classes < 2 ^ 16 → HasNone 10 (count_text shape)
count_none shape h =
    let wide : length shape.classes < 2 ^ 64 = omega arith in
    none-append 10 (codes "classes ") (decimal (length shape.classes)) refl (number_none 10 (length shape.classes) (lit< tt) wide)

-- ---- classes

pub kind_none : (b : ℕ) → (b < 48) → (x : Kind) → HasNone b (kind_text x)
kind_none b h k.Int = grind (arith, nat_tests)
kind_none b h k.Bool = grind (arith, nat_tests)
kind_none b h k.Text = grind (arith, nat_tests)
kind_none b h k.Map = grind (arith, nat_tests)

pub word_none : (b : ℕ) → b < 33 → (w : List ℕ) → is_word w ≡ true → HasNone b w
word_none b low w h = solid_has_none b low w (word_solid w h)

not_colon : (b : ℕ) → is_name_byte b ≡ true → is_other 58 b ≡ true
not_colon b h = grind (arith, nat_tests)

pub word_no_colon : (w : List ℕ) → is_word w ≡ true → HasNone 58 w
word_no_colon [] h = refl
word_no_colon (b ∷ bs) h =
    let k = and_parts (is_name_start b) (list_all is_name_byte bs) h in
    (λ i. not_colon b (start_is_byte b k.0) i && list_all (is_other 58) bs) ∙ all_imply is_name_byte (is_other 58) not_colon bs k.1

-- field:kind
abbrev pub field_word : List ℕ × Kind → List ℕ
field_word f = f.0 ++ 58 ∷ kind_text f.1

abbrev pub kinds_of : List FieldInfo → List (List ℕ × Kind)
kinds_of fields = map (λ f. (f.name, f.kind)) fields

pub field_none : (b : ℕ) → b < 33 → (f : List ℕ × Kind) → is_word f.0 ≡ true → HasNone b (field_word f)
field_none b low f h =
    let high : b < 48 = omega arith in
    let colon : is_other b 58 ≡ true = grind (arith, nat_tests) in
    none-append b f.0 (58 ∷ kind_text f.1) (word_none b low f.0 h) (λ i. colon i && kind_none b high f.1 i)

fields_none : (fields : List FieldInfo) → list_all is_word (map (λ f. f.name) fields) ≡ true → HasNone 10 (fields_text (kinds_of fields))
fields_none [] h = refl
fields_none (f ∷ fs) h =
    let p = and_parts (is_word f.name) (list_all is_word (map (λ g. g.name) fs)) h in
    none-append 10 (field_word (f.name, f.kind)) (fields_text (kinds_of fs)) (field_none 10 (lit< tt) (f.name, f.kind) p.0) (fields_none fs p.1)

pub class_none : (shape : Shape) (c : ClassInfo) → IsDeclared shape c → HasNone 10 (class_text shape c)
class_none shape c h =
    none-append 10 (codes "class ") (c.name ++ 32 ∷ (parent_text shape c.parent ++ fields_text (kinds_of c.fields))) refl
    (none-append 10 c.name (32 ∷ (parent_text shape c.parent ++ fields_text (kinds_of c.fields))) (word_none 10 (lit< tt) c.name h.name)
    (none-append 10 (parent_text shape c.parent) (fields_text (kinds_of c.fields)) h.solid.1 (fields_none c.fields h.fields)))

-- ---- places

pub place_spelled : (shape : Shape) (x : Place) → place_text shape x ≡ codes "place " ++ (path_text shape x.path ++ (codes " " ++ decimal x.host.0))
place_spelled shape x = ap (λ t. codes "place " ++ t) (append_assoc (path_text shape x.path) (codes " ") (decimal x.host.0))

pub place_none : (shape : Shape) → HasNames shape → (x : Place) → IsPath shape x.path → x.host.0 < 2 ^ 64 → HasNone 10 (place_text shape x)
place_none shape names x path wide =
    subst (HasNone 10) (sym (place_spelled shape x))
    (none-append 10 (codes "place ") (path_text shape x.path ++ (codes " " ++ decimal x.host.0)) refl
    (none-append 10 (path_text shape x.path) (codes " " ++ decimal x.host.0) (path_has_none shape names 10 (lit< tt) x.path path)
    (none-append 10 (codes " ") (decimal x.host.0) refl (number_none 10 x.host.0 (lit< tt) wide))))

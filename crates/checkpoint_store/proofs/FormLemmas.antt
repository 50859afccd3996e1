-- A line that is as it is to be has the form.
use Rattle.std.proofs.Common.{◌≡◌, ◌<◌, ◌≤◌, ◌^◌, ℕ, Bool, true, false, List, [], ◌∷◌, ◌++◌, length, map, get_or, Result, IfOk, refl, sym, ap, subst, ◌∙◌, append-nil, lit<, arith}
use Rattle.std.specs.Prelude.{◌&&◌, ◌↔◌, IsTrue, codes}
use Rattle.std.specs.Fmt.{decimal}
use Rattle.std.specs.List.{list_all}
use Rattle.std.proofs.lemmas.Bool.{and_parts, false≢true}
use Rattle.std.proofs.lemmas.Result.{IfOk-weaker}
use Rattle.std.proofs.lemmas.Fmt.{decimal_injective}
use Rattle.wave_base.specs.declared.finished.Place.{Place}
use Rattle.wave_base.specs.declared.memory.OutOfMemory.{OutOfMemory}
use Rattle.wave_base.specs.declared.path.Path.{Path}
use Rattle.wave_base.specs.declared.shape.ClassInfo.{ClassInfo}
use Rattle.wave_base.specs.declared.shape.FieldInfo.{FieldInfo}
use Rattle.wave_base.specs.declared.shape.Shape.{Shape}
use Rattle.wave_base.specs.declared.value.Kind.{Kind}
use Rattle.wave_base.specs.declared.value.Kind.TheVariants as k
use Rattle.wave_base.specs.Names.{HasNames, is_word}
use Rattle.wave_base.specs.Shapes.{IsShape}
use Rattle.wave_text.specs.Splits.{HasNone}
use Rattle.path_text.specs.Found.{IsPath}
use Rattle.path_text.specs.PathTexts.{path_text, written_step}
use Rattle.path_text.specs.PlaceTexts.{place_text}
use Rattle.path_text.specs.declared.written.Written.{Written}
use Rattle.path_text.specs.Steps.{is_step, HasSteps, HasOnlySteps, HasNoSteps}
use Rattle.snapshot_text.specs.Forms.{is_plain_digits, is_plain_key, is_plain_step}
use Rattle.snapshot_text.proofs.FormLemmas.{both_all}
use Rattle.snapshot_text.proofs.AgainLemmas.{steps_plain}
use Rattle.snapshot_text.proofs.BelowLemmas.{plain_decimal}
use Rattle.snapshot_text.proofs.ShotLemmas.{path_has_none}
use Rattle.checkpoint_store.specs.declared.numbers.Numbers.{Numbers}
use Rattle.checkpoint_store.specs.CheckpointTexts.{numbers_text, count_text, kind_text, fields_text, parent_text, class_text}
use Rattle.checkpoint_store.specs.Dues.{Due, First, Counts, Classes, ClassOf, PlaceOf, Last, HasForm, IsDue}
use Rattle.checkpoint_store.specs.Forms.{cut_at, is_numbers, is_count, is_kind, is_named_kind, is_field, is_class_line, HasPlainSteps, IsPlaceLine}
use Rattle.checkpoint_store.specs.Points.{AreInRange}
use Rattle.checkpoint_store.proofs.CutLemmas.{cut_none, cut_some}
use Rattle.checkpoint_store.proofs.LineLemmas.{IsDeclared, number_none, wide_hosts, wide_lines, wide_next, word_none, word_no_colon, field_word, kinds_of, field_none, place_spelled}

-- ---- numbers

pub numbers_words : (n : Numbers) → AreInRange n → cut_at 32 (numbers_text n) ≡ codes "hosts" ∷ decimal n.hosts ∷ codes "lines" ∷ decimal n.lines ∷ codes "next" ∷ decimal n.next ∷ []
numbers_words n h =
    cut_some 32 (codes "hosts") (decimal n.hosts ++ (codes " lines " ++ (decimal n.lines ++ (codes " next " ++ decimal n.next)))) refl
    ∙ ap (λ ws. codes "hosts" ∷ ws) (cut_some 32 (decimal n.hosts) (codes "lines " ++ (decimal n.lines ++ (codes " next " ++ decimal n.next))) (number_none 32 n.hosts (lit< tt) (wide_hosts n h)))
    ∙ ap (λ ws. codes "hosts" ∷ decimal n.hosts ∷ ws) (cut_some 32 (codes "lines") (decimal n.lines ++ (codes " next " ++ decimal n.next)) refl)
    ∙ ap (λ ws. codes "hosts" ∷ decimal n.hosts ∷ codes "lines" ∷ ws) (cut_some 32 (decimal n.lines) (codes "next " ++ decimal n.next) (number_none 32 n.lines (lit< tt) (wide_lines n h)))
    ∙ ap (λ ws. codes "hosts" ∷ decimal n.hosts ∷ codes "lines" ∷ decimal n.lines ∷ ws) (cut_some 32 (codes "next") (decimal n.next) refl)
    ∙ ap (λ ws. codes "hosts" ∷ decimal n.hosts ∷ codes "lines" ∷ decimal n.lines ∷ codes "next" ∷ ws) (cut_none 32 (decimal n.next) (number_none 32 n.next (lit< tt) (wide_next n h)))

numbers_form : (n : Numbers) → AreInRange n → is_numbers (cut_at 32 (numbers_text n)) ≡ true
numbers_form n h =
    ap is_numbers (numbers_words n h)
    ∙ (λ i. true && plain_decimal n.hosts (wide_hosts n h) i && true && plain_decimal n.lines (wide_lines n h) i && true && plain_decimal n.next (wide_next n h) i)

-- one line is that of these numbers alone
pub one_numbers : (n m : Numbers) → AreInRange n → AreInRange m → numbers_text n ≡ numbers_text m → n ≡ m
one_numbers n m h g e =
    let words : codes "hosts" ∷ decimal n.hosts ∷ codes "lines" ∷ decimal n.lines ∷ codes "next" ∷ decimal n.next ∷ [] ≡ codes "hosts" ∷ decimal m.hosts ∷ codes "lines" ∷ decimal m.lines ∷ codes "next" ∷ decimal m.next ∷ [] =
    sym (numbers_words n h) ∙ ap (cut_at 32) e ∙ numbers_words m g in
    let hosts : decimal n.hosts ≡ decimal m.hosts = cc in
    let lines : decimal n.lines ≡ decimal m.lines = cc in
    let next : decimal n.next ≡ decimal m.next = cc in
    λ i. record {
      hosts = decimal_injective n.hosts m.hosts (wide_hosts n h) (wide_hosts m g) hosts i;
      lines = decimal_injective n.lines m.lines (wide_lines n h) (wide_lines m g) lines i;
      next = decimal_injective n.next m.next (wide_next n h) (wide_next m g) next i;
    }

count_form : (shape : Shape) → length shape.classes < 2 ^ 16 → is_count (cut_at 32 (count_text shape)) ≡ true
count_form shape h =
    let wide : length shape.classes < 2 ^ 64 = omega arith in
    ap is_count
    (cut_some 32 (codes "classes") (decimal (length shape.classes)) refl ∙ ap (λ ws. codes "classes" ∷ ws) (cut_none 32 (decimal (length shape.classes)) (number_none 32 (length shape.classes) (lit< tt) wide)))
    ∙ (λ i. true && plain_decimal (length shape.classes) wide i)

-- ---- classes

cut_fields : (w : List ℕ) (fields : List FieldInfo) → HasNone 32 w → list_all is_word (map (λ f. f.name) fields) ≡ true → cut_at 32 (w ++ fields_text (kinds_of fields)) ≡ w ∷ map field_word (kinds_of fields)
cut_fields w [] h g = ap (cut_at 32) (append-nil w) ∙ cut_none 32 w h
cut_fields w (f ∷ fs) h g =
    let p = and_parts (is_word f.name) (list_all is_word (map (λ x. x.name) fs)) g in
    cut_some 32 w (field_word (f.name, f.kind) ++ fields_text (kinds_of fs)) h
    ∙ ap (λ ws. w ∷ ws) (cut_fields (field_word (f.name, f.kind)) fs (field_none 32 (lit< tt) (f.name, f.kind) p.0) p.1)

kind_is : (x : Kind) → is_kind (kind_text x) ≡ true
kind_is k.Int = refl
kind_is k.Bool = refl
kind_is k.Text = refl
kind_is k.Map = refl

kind_no_colon : (x : Kind) → HasNone 58 (kind_text x)
kind_no_colon k.Int = refl
kind_no_colon k.Bool = refl
kind_no_colon k.Text = refl
kind_no_colon k.Map = refl

field_is : (f : List ℕ × Kind) → is_word f.0 ≡ true → is_field (field_word f) ≡ true
field_is f h =
    ap is_named_kind (cut_some 58 f.0 (kind_text f.1) (word_no_colon f.0 h) ∙ ap (λ ws. f.0 ∷ ws) (cut_none 58 (kind_text f.1) (kind_no_colon f.1)))
    ∙ (λ i. h i && kind_is f.1 i)

fields_are : (fields : List FieldInfo) → list_all is_word (map (λ f. f.name) fields) ≡ true → list_all is_field (map field_word (kinds_of fields)) ≡ true
fields_are [] h = refl
fields_are (f ∷ fs) h =
    let p = and_parts (is_word f.name) (list_all is_word (map (λ x. x.name) fs)) h in
    λ i. field_is (f.name, f.kind) p.0 i && fields_are fs p.1 i

class_form : (shape : Shape) (c : ClassInfo) → IsDeclared shape c → is_class_line (cut_at 32 (class_text shape c)) ≡ true
class_form shape c h =
    ap is_class_line
    (cut_some 32 (codes "class") (c.name ++ 32 ∷ (parent_text shape c.parent ++ fields_text (kinds_of c.fields))) refl
    ∙ ap (λ ws. codes "class" ∷ ws) (cut_some 32 c.name (parent_text shape c.parent ++ fields_text (kinds_of c.fields)) (word_none 32 (lit< tt) c.name h.name))
    ∙ ap (λ ws. codes "class" ∷ c.name ∷ ws) (cut_fields (parent_text shape c.parent) c.fields h.solid.0 h.fields))
    ∙ (λ i. true && h.name i && h.parent i && fields_are c.fields h.fields i)

-- ---- places

module _ (shape : Shape) (names : HasNames shape) where
  pub place_words : (x : Place) → IsPath shape x.path → x.host.0 < 2 ^ 64 → cut_at 32 (place_text shape x) ≡ codes "place" ∷ path_text shape x.path ∷ decimal x.host.0 ∷ []
  place_words x path wide =
      ap (cut_at 32) (place_spelled shape x)
      ∙ cut_some 32 (codes "place") (path_text shape x.path ++ (codes " " ++ decimal x.host.0)) refl
      ∙ ap (λ ws. codes "place" ∷ ws) (cut_some 32 (path_text shape x.path) (decimal x.host.0) (path_has_none shape names 32 (lit< tt) x.path path))
      ∙ ap (λ ws. codes "place" ∷ path_text shape x.path ∷ ws) (cut_none 32 (decimal x.host.0) (number_none 32 x.host.0 (lit< tt) wide))

  place_form : (x : Place) → IsPath shape x.path → x.host.0 < 2 ^ 64 → IsPlaceLine (cut_at 32 (place_text shape x))
  place_form x path wide =
      subst IsPlaceLine (sym (place_words x path wide)) (record {
        word_is = refl;
        path_is = record { steps = map (written_step shape) x.path; spelled = refl; plain = steps_plain shape names 0 x.path path.path path.keys.keys };
        host_is = plain_decimal x.host.0 wide;
      })

  -- one line is that of one host
  pub one_host : (p : Path) (h g : ℕ) → IsPath shape p → h < 2 ^ 64 → g < 2 ^ 64 → place_text shape (record { path = p; host = record { 0 = h } }) ≡ place_text shape (record { path = p; host = record { 0 = g } }) → h ≡ g
  one_host p h g path wide wide' e =
      let words : codes "place" ∷ path_text shape p ∷ decimal h ∷ [] ≡ codes "place" ∷ path_text shape p ∷ decimal g ∷ [] =
      sym (place_words (record { path = p; host = record { 0 = h } }) path wide) ∙ ap (cut_at 32) e ∙ place_words (record { path = p; host = record { 0 = g } }) path wide' in
      let same : decimal h ≡ decimal g = cc in
      decimal_injective h g wide wide' same

-- ---- all of them

-- what is to be known of a line that is due
abbrev pub Fits : Shape → Due → Type 0
Fits shape First = Unit {0}
Fits shape Counts = Unit {0}
Fits shape Classes = Unit {0}
Fits shape (ClassOf c) = IsDeclared shape c
Fits shape (PlaceOf p) = IsPath shape p
Fits shape Last = Unit {0}

pub due_form : (shape : Shape) → IsShape shape → HasNames shape → (hosts : ℕ) → hosts ≤ 256 → (due : Due) → Fits shape due → (line : List ℕ) → IsDue shape hosts due line → HasForm due line
due_form shape is names hosts few First fit line h = h
due_form shape is names hosts few Counts fit line h = ap (λ l. is_numbers (cut_at 32 l)) h.2 ∙ numbers_form h.0 h.1
due_form shape is names hosts few Classes fit line h = ap (λ l. is_count (cut_at 32 l)) h ∙ count_form shape is.few_classes
due_form shape is names hosts few (ClassOf c) fit line h = ap (λ l. is_class_line (cut_at 32 l)) h ∙ class_form shape c fit
due_form shape is names hosts few (PlaceOf p) fit line h =
    let wide : h.0 < 2 ^ 64 = omega (arith, h.1) in
    subst (λ l. IsPlaceLine (cut_at 32 l)) (sym h.2) (place_form shape names (record { path = p; host = record { 0 = h.0 } }) fit wide)
due_form shape is names hosts few Last fit line h = h

-- ---- a path with plain keys

no_plain_path : (text : List ℕ) → HasNoSteps text → HasPlainSteps text → ⊥
no_plain_path text none h = none h.steps (record { spelled = h.spelled; form = (both_all h.steps h.plain).0 })

all_both : (steps : List Written) → list_all is_step steps ≡ true → list_all is_plain_key steps ≡ true → list_all is_plain_step steps ≡ true
all_both [] h k = refl
all_both (s ∷ ss) h k =
    let a = and_parts (is_step s) (list_all is_step ss) h in
    let b = and_parts (is_plain_key s) (list_all is_plain_key ss) k in
    (λ i. (a.0 i && b.0 i) && list_all is_plain_step ss) ∙ all_both ss a.1 b.1

pub no_path_is : (text : List ℕ) → HasNoSteps text → IsTrue false ↔ HasPlainSteps text
no_path_is text none = (λ h. absurd (false≢true h), λ h. absurd (no_plain_path text none h))

pub path_is_plain : (text : List ℕ) (steps : List Written) (b : Bool) → HasSteps text steps → HasOnlySteps text steps → b ≡ list_all is_plain_key steps → IsTrue b ↔ HasPlainSteps text
path_is_plain text steps b has only e = (
  λ h. record { steps = steps; spelled = has.spelled; plain = all_both steps has.form (sym e ∙ h) },
  λ h. (let form = both_all h.steps h.plain in e ∙ ap (list_all is_plain_key) (sym (only h.steps (record { spelled = h.spelled; form = form.0 }))) ∙ form.1),
)

-- ---- a line of a place, by its words

pub three_words : (ws : List (List ℕ)) (a b c : List ℕ) → length ws ≡ 3 → a ≡ get_or ws 0 a → b ≡ get_or ws 1 b → c ≡ get_or ws 2 c → ws ≡ a ∷ b ∷ c ∷ []
three_words [] a b c n e f g = absurd (omega (arith, n))
three_words (x ∷ []) a b c n e f g = absurd (omega (arith, n))
three_words (x ∷ y ∷ []) a b c n e f g = absurd (omega (arith, n))
three_words (x ∷ y ∷ z ∷ []) a b c n e f g = λ i. sym e i ∷ sym f i ∷ sym g i ∷ []
three_words (x ∷ y ∷ z ∷ u ∷ ws) a b c n e f g = absurd (omega (arith, n))

pub place_line_is : (ws : List (List ℕ)) (a b c p : List ℕ) (r : Result Bool OutOfMemory) → ws ≡ a ∷ b ∷ c ∷ [] → a ≡ codes "place" → is_plain_digits c ≡ true → p ≡ b → IfOk r (λ t. IsTrue t ↔ HasPlainSteps p) → IfOk r (λ t. IsTrue t ↔ IsPlaceLine ws)
place_line_is ws a b c p r words word digits path h = IfOk-weaker r (λ t. IsTrue t ↔ HasPlainSteps p) (λ t. IsTrue t ↔ IsPlaceLine ws) both h
  where
    both : (t : Bool) → IsTrue t ↔ HasPlainSteps p → IsTrue t ↔ IsPlaceLine ws
    both t k = (
      λ e. subst IsPlaceLine (sym words) (record { word_is = word; path_is = subst HasPlainSteps path (k.0 e); host_is = digits }),
      λ l. (let q : IsPlaceLine (a ∷ b ∷ c ∷ []) = subst IsPlaceLine words l in k.1 (subst HasPlainSteps (sym path) q.path_is)),
    )

-- Fields and the form of a line, as the reader finds them.
use Rattle.std.proofs.Common.{◌≡◌, ◌<◌, ℕ, true, List, [], ◌∷◌, ◌++◌, length, All, Option, Some, None, Result, Ok, Err, IfOk, IfSome, IfNone, refl, sym, ap, subst, ◌∙◌, append_assoc, arith, lit<}
use Rattle.std.specs.Prelude.{◌&&◌}
use Rattle.std.specs.List.{list_all}
use Rattle.std.proofs.lemmas.Bool.{and_parts}
use Rattle.std.proofs.lemmas.List.Elements.{All-cons, All-head, All-tail}
use Rattle.wave_base.specs.Names.{is_word}
use Rattle.path_text.specs.declared.written.Written.{Written}
use Rattle.wave_text.specs.Splits.{IsSplit}
use Rattle.path_text.specs.Steps.{is_step, written_text, HasSteps, HasOnlySteps, HasNoSteps}
use Rattle.wave_text.proofs.SplitLemmas.{one_split}
use Rattle.journal_text.proofs.SolidLemmas.{solid_has_none, written_solid}
use Rattle.snapshot_text.specs.Forms.{Field, IsField, literal_text, field_text, fields_text, is_plain, is_plain_key, is_plain_step, HasForm, HasNoForm}
use Rattle.snapshot_text.specs.inner.Fronts.{Ends, IsRun, HasLiteral, OnlyBehindLiteral, HasNoLiteral, HasField, OnlyBehindField, HasNoField, IsFieldsText, HasOnlyForm}
use Rattle.snapshot_text.proofs.ByteLemmas.{word_no_equals, one_run}

-- ---- what is said of what a call gives

pub lift_some : {T E : Type 0} (r : Result (Option T) E) (P Q : T → Type 0) → IfOk r (λ o. IfSome o P) → ((x : T) → P x → Q x) → IfOk r (λ o. IfSome o Q)
lift_some (Ok None) P Q h f = h
lift_some (Ok (Some x)) P Q h f = f x h
lift_some (Err e) P Q h f = h

pub lift_none : {T E : Type 0} (r : Result (Option T) E) (P Q : Type 0) → IfOk r (λ o. IfNone o P) → (P → Q) → IfOk r (λ o. IfNone o Q)
lift_none (Ok None) P Q h f = f h
lift_none (Ok (Some x)) P Q h f = h
lift_none (Err e) P Q h f = h

-- ---- one field

-- the text of a field in its parts
spelled : (f : Field) (left : List ℕ) → field_text f ++ left ≡ 32 ∷ (f.name ++ 61 ∷ (literal_text f.literal ++ left))
spelled f left = ap (λ z. 32 ∷ z) (append_assoc f.name (61 ∷ literal_text f.literal) left)

module _ (text rest : List ℕ) (blank : text ≡ 32 ∷ rest) where
  behind_blank : (left : List ℕ) (h : HasField text left) → rest ≡ h.field.name ++ 61 ∷ (literal_text h.field.literal ++ left)
  behind_blank left h =
      let whole : 32 ∷ rest ≡ 32 ∷ (h.field.name ++ 61 ∷ (literal_text h.field.literal ++ left)) = sym blank ∙ h.spelled ∙ spelled h.field left in
      cc

  module _ (name value : List ℕ) (s : IsSplit 61 rest name value) where
    pub field_parts : (left : List ℕ) → HasField text left → (is_word name ≡ true) × HasLiteral value left
    field_parts left h =
        let o = one_split 61 name value h.field.name (literal_text h.field.literal ++ left) s.first (word_no_equals h.field.name h.form.name) (sym s.spelled ∙ behind_blank left h) in
        (ap is_word o.0 ∙ h.form.name, record { literal = h.field.literal; spelled = o.1; form = h.form.literal })

    pub field_is : is_word name ≡ true → (left : List ℕ) → HasLiteral value left → HasField text left
    field_is word left h =
        let f : Field = record { name = name; literal = h.literal } in
        record {
          field = f;
          spelled = blank ∙ ap (λ z. 32 ∷ z) (s.spelled ∙ ap (λ z. name ++ 61 ∷ z) h.spelled) ∙ sym (spelled f left);
          form = record { name = word; literal = h.form };
        }

    pub field_only : (left : List ℕ) → OnlyBehindLiteral value left → OnlyBehindField text left
    field_only left only other h ends = only other (field_parts other h).1 ends

    pub field_none : HasNoLiteral value → HasNoField text
    field_none none left h ends = none left (field_parts left h).1 ends

    pub no_word : (is_word name ≡ true → ⊥) → HasNoField text
    no_word none left h ends = none (field_parts left h).0

-- ---- all fields

ends_fields : (fs : List Field) → Ends (fields_text fs)
ends_fields [] = tt
ends_fields (f ∷ fs) = refl

-- the first of the fields
first_field : (text : List ℕ) → 0 < length text → IsFieldsText text → (left : List ℕ) × HasField text left × Ends left × IsFieldsText left
first_field text some h = by_fields h.0 h.1 h.2
  where
    by_fields : (fs : List Field) → text ≡ fields_text fs → All IsField fs → (left : List ℕ) × HasField text left × Ends left × IsFieldsText left
    by_fields [] e a = absurd (omega (arith, some, ap length e))
    by_fields (f ∷ fs) e a =
        (fields_text fs, record { field = f; spelled = e; form = All-head IsField f fs a }, ends_fields fs, (fs, refl, All-tail IsField f fs a))

pub fields_up : (text rest : List ℕ) → HasField text rest → IsFieldsText rest → IsFieldsText text
fields_up text rest h m = (h.field ∷ m.0, h.spelled ∙ ap (λ z. field_text h.field ++ z) m.1, All-cons IsField h.field m.0 h.form m.2)

pub fields_down : (text rest : List ℕ) → 0 < length text → OnlyBehindField text rest → IsFieldsText text → IsFieldsText rest
fields_down text rest some only m = (let f = first_field text some m in subst IsFieldsText (only f.0 f.1 f.2) f.3)

pub fields_none : (text : List ℕ) → 0 < length text → HasNoField text → IsFieldsText text → ⊥
fields_none text some none m = (let f = first_field text some m in none f.0 f.1 f.2)

-- ---- the line

pub both_all : (steps : List Written) → list_all is_plain_step steps ≡ true → (list_all is_step steps ≡ true) × (list_all is_plain_key steps ≡ true)
both_all [] h = (refl, refl)
both_all (s ∷ ss) h =
    let k = and_parts (is_plain_step s) (list_all is_plain_step ss) h in
    let b = and_parts (is_step s) (is_plain s.key) k.0 in
    let r = both_all ss k.1 in
    (ap (λ t. t && list_all is_step ss) b.0 ∙ r.0, ap (λ t. t && list_all is_plain_key ss) b.1 ∙ r.1)

all_both : (steps : List Written) → list_all is_step steps ≡ true → list_all is_plain_key steps ≡ true → list_all is_plain_step steps ≡ true
all_both [] h k = refl
all_both (s ∷ ss) h k =
    let a = and_parts (is_step s) (list_all is_step ss) h in
    let b = and_parts (is_plain s.key) (list_all is_plain_key ss) k in
    (λ i. (a.0 i && b.0 i) && list_all is_plain_step ss) ∙ all_both ss a.1 b.1

module _ (line rest path fields : List ℕ) (at : line ≡ 97 ∷ 116 ∷ 32 ∷ rest) (r : IsRun rest path fields) where
  pub form_parts : (steps : List Written) → HasForm line steps → HasSteps path steps × (list_all is_plain_key steps ≡ true) × IsFieldsText fields
  form_parts steps h =
      let b = both_all steps h.steps_are in
      let whole : 97 ∷ 116 ∷ 32 ∷ rest ≡ 97 ∷ 116 ∷ 32 ∷ (written_text steps ++ fields_text h.fields) = sym at ∙ h.spelled in
      let behind : rest ≡ written_text steps ++ fields_text h.fields = cc in
      let o = one_run rest path fields r (written_text steps) (fields_text h.fields) (solid_has_none 32 (lit< tt) (written_text steps) (written_solid steps b.0)) (ends_fields h.fields) behind in
      (record { spelled = o.0; form = b.0 }, b.1, (h.fields, o.1, h.fields_are))

  pub form_is : (steps : List Written) → HasSteps path steps → HasOnlySteps path steps → list_all is_plain_key steps ≡ true → IsFieldsText fields → HasOnlyForm line steps
  form_is steps s only plain m = record {
    form = record {
      fields = m.0;
      spelled = at ∙ ap (λ z. 97 ∷ 116 ∷ 32 ∷ z) (r.spelled ∙ (λ i. s.spelled i ++ m.1 i));
      steps_are = all_both steps s.form plain;
      fields_are = m.2;
    };
    only = λ others h. only others (form_parts others h).0;
  }

  pub no_steps : HasNoSteps path → HasNoForm line
  no_steps none steps h = none steps (form_parts steps h).0

  pub not_plain : (steps : List Written) → HasOnlySteps path steps → (list_all is_plain_key steps ≡ true → ⊥) → HasNoForm line
  not_plain steps only none others h =
      let p = form_parts others h in
      none (ap (list_all is_plain_key) (sym (only others p.0)) ∙ p.1)

  pub not_fields : (IsFieldsText fields → ⊥) → HasNoForm line
  not_fields none steps h = none (form_parts steps h).2

-- The words of a line have neither blanks nor line feeds in them.
use Rattle.std.proofs.Common.{◌≡◌, ◌<◌, ◌^◌, ℕ, Bool, true, false, cond, List, [], ◌∷◌, ◌++◌, refl, sym, subst, ◌∙◌, arith}
use Rattle.std.specs.Prelude.{◌==◌, ◌&&◌, nat_le}
use Rattle.std.specs.Char.{is_ascii_digit}
use Rattle.std.specs.Fmt.{decimal}
use Rattle.std.specs.List.{list_all}
use Rattle.std.proofs.lemmas.Bool.{and_parts}
use Rattle.std.proofs.lemmas.Bool.Decides.{nat_tests}
use Rattle.std.proofs.lemmas.Fmt.{digits_decimal}
use Rattle.wave_base.specs.declared.numbers.Ticket.{Ticket}
use Rattle.wave_base.specs.declared.path.Path.{Path}
use Rattle.wave_base.specs.declared.shape.Shape.{Shape}
use Rattle.wave_base.specs.Names.{HasNames, is_digits, is_name_start, is_name_byte, is_word}
use Rattle.wave_base.specs.Shapes.{is_path}
use Rattle.wave_labels.specs.declared.label.MailId.{MailId}
use Rattle.wave_text.specs.Words.{is_whole}
use Rattle.wave_text.proofs.NumberLemmas.{own}
use Rattle.path_text.specs.declared.written.Written.{Written}
use Rattle.wave_text.specs.Splits.{is_other, HasNone}
use Rattle.path_text.specs.PathTexts.{path_text}
use Rattle.path_text.specs.Steps.{is_key, is_step, step_text, steps_text, written_text}
use Rattle.path_text.proofs.Again.{path_again}
use Rattle.journal_text.specs.Fits.{IsTicket, IsMail}
use Rattle.path_text.specs.Found.{HasKeys}
use Rattle.journal_text.specs.LabelTexts.{ticket_text, mail_text}

-- above the space
abbrev pub is_solid : ℕ → Bool
is_solid b = nat_le 33 b

abbrev pub IsSolid : List ℕ → Type 0
IsSolid bs = list_all is_solid bs ≡ true

head_of : (p : ℕ → Bool) (b : ℕ) (bs : List ℕ) → list_all p (b ∷ bs) ≡ true → (p b ≡ true) × (list_all p bs ≡ true)
head_of p b bs h = and_parts (p b) (list_all p bs) h

pub all_imply : (p q : ℕ → Bool) → ((b : ℕ) → p b ≡ true → q b ≡ true) → (bs : List ℕ) → list_all p bs ≡ true → list_all q bs ≡ true
all_imply p q f [] h = refl
all_imply p q f (b ∷ bs) h =
    let k = head_of p b bs h in
    (λ i. f b k.0 i && list_all q bs) ∙ all_imply p q f bs k.1

pub solid-append : (xs ys : List ℕ) → IsSolid xs → IsSolid ys → IsSolid (xs ++ ys)
solid-append [] ys h k = k
solid-append (b ∷ bs) ys h k =
    let t = head_of is_solid b bs h in
    (λ i. t.0 i && list_all is_solid (bs ++ ys)) ∙ solid-append bs ys t.1 k

not_low : (b c : ℕ) → b < 33 → is_solid c ≡ true → is_other b c ≡ true
not_low b c low h = grind (arith, nat_tests)

-- so no byte up to the space is in them
pub solid_has_none : (b : ℕ) → b < 33 → (bs : List ℕ) → IsSolid bs → HasNone b bs
solid_has_none b low bs h = all_imply is_solid (is_other b) (λ c. not_low b c low) bs h

-- ---- numbers

digit_solid : (b : ℕ) → is_ascii_digit b ≡ true → is_solid b ≡ true
digit_solid b h = grind (arith, nat_tests)

digit_not_dot : (b : ℕ) → is_ascii_digit b ≡ true → is_other 46 b ≡ true
digit_not_dot b h = grind (arith, nat_tests)

pub decimal_solid : (n : ℕ) → n < 2 ^ 64 → IsSolid (decimal n)
decimal_solid n h = all_imply is_ascii_digit is_solid digit_solid (decimal n) (digits_decimal own n h)

decimal_no_dot : (n : ℕ) → n < 2 ^ 64 → HasNone 46 (decimal n)
decimal_no_dot n h = all_imply is_ascii_digit (is_other 46) digit_not_dot (decimal n) (digits_decimal own n h)

pub ticket_no_dot : (t : Ticket) → IsTicket t → HasNone 46 (ticket_text t)
ticket_no_dot t h = decimal_no_dot t.0 (omega arith)

pub ticket_solid : (t : Ticket) → IsTicket t → IsSolid (ticket_text t)
ticket_solid t h = decimal_solid t.0 (omega arith)

pub mail_solid : (m : MailId) → IsMail m → IsSolid (mail_text m)
mail_solid m h =
    let wide : m.number < 2 ^ 64 = omega (arith, h.number) in
    solid-append (ticket_text m.ticket) (46 ∷ decimal m.number) (ticket_solid m.ticket h.ticket) (decimal_solid m.number wide)

digits_solid : (bs : List ℕ) → is_digits bs ≡ true → IsSolid bs
digits_solid [] h = refl
digits_solid (b ∷ bs) h = all_imply is_ascii_digit is_solid digit_solid (b ∷ bs) h

minus_solid : (b : ℕ) → b == 45 ≡ true → is_solid b ≡ true
minus_solid b h = grind (arith, nat_tests)

pub whole_solid : (bs : List ℕ) → is_whole bs ≡ true → IsSolid bs
whole_solid [] h = refl
whole_solid (b ∷ bs) h =
    elim (b == 45) as (λ t. b == 45 ≡ t → is_digits (cond t bs (b ∷ bs)) ≡ true → IsSolid (b ∷ bs)) [
      | true ↦ λ e d. (λ i. minus_solid b e i && list_all is_solid bs) ∙ digits_solid bs d
      | false ↦ λ e d. digits_solid (b ∷ bs) d
    ] refl h

-- ---- paths

name_byte_solid : (b : ℕ) → is_name_byte b ≡ true → is_solid b ≡ true
name_byte_solid b h = grind (arith, nat_tests)

pub start_is_byte : (b : ℕ) → is_name_start b ≡ true → is_name_byte b ≡ true
start_is_byte b h = grind (arith, nat_tests)

pub word_solid : (w : List ℕ) → is_word w ≡ true → IsSolid w
word_solid [] h = refl
word_solid (b ∷ bs) h =
    let k = and_parts (is_name_start b) (list_all is_name_byte bs) h in
    (λ i. name_byte_solid b (start_is_byte b k.0) i && list_all is_solid bs) ∙ all_imply is_name_byte is_solid name_byte_solid bs k.1

step_solid : (s : Written) → is_step s ≡ true → IsSolid (step_text s)
step_solid s h =
    let form = and_parts (is_word s.name) (is_key s.key) h in
    let key = and_parts (is_whole s.key) (nat_le _ 19) form.1 in
    solid-append s.name (91 ∷ (s.key ++ 93 ∷ [])) (word_solid s.name form.0) (solid-append s.key (93 ∷ []) (whole_solid s.key key.0) refl)

steps_solid : (steps : List Written) → list_all is_step steps ≡ true → IsSolid (steps_text steps)
steps_solid [] h = refl
steps_solid (s ∷ ss) h =
    let k = and_parts (is_step s) (list_all is_step ss) h in
    solid-append (step_text s) (steps_text ss) (step_solid s k.0) (steps_solid ss k.1)

pub written_solid : (steps : List Written) → list_all is_step steps ≡ true → IsSolid (written_text steps)
written_solid [] h = refl
written_solid (s ∷ ss) h = steps_solid (s ∷ ss) h

pub path_solid : (shape : Shape) → HasNames shape → (p : Path) → is_path shape p ≡ true → HasKeys p → IsSolid (path_text shape p)
path_solid shape names p h k =
    let again = path_again shape names p (path_text shape p) h k.short k.keys refl in
    subst IsSolid (sym again.spelled.spelled) (written_solid again.steps again.spelled.form)

-- Answers: a status, a note, and a text for the output.
use Rattle.std.specs.Prelude.{◌≡◌, ℕ, List, [], ◌++◌, codes}
use Rattle.due_parts.specs.declared.answer.Answer.{Answer}

abbrev pub refusal : ℕ → List ℕ → Answer
refusal status note = record { status = status; note = note; text = [] }

-- the input has more bytes than one may have
abbrev pub too_large_input : Answer
too_large_input = refusal 3 (codes "TooLarge input")

abbrev pub no_script : Answer
no_script = refusal 3 (codes "NoScript")

abbrev pub too_large_script : Answer
too_large_script = refusal 4 (codes "TooLarge script")

abbrev pub text_answer : List ℕ → Answer
text_answer text = record { status = 0; note = []; text = text }

-- a text behind that of an answer
abbrev pub with_text : Answer → List ℕ → Answer
with_text a more = record { status = a.status; note = a.note; text = a.text ++ more }

-- it is so of this answer, and of no other
pub record Only (P : Answer → Type 0) (due : Answer) : Type 0 where
  pub is_due : P due
  pub only : (other : Answer) → P other → other ≡ due

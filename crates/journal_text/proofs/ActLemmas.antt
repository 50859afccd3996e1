-- The word of an act, and what stands behind it.
use Rattle.std.proofs.Common.{◌≡◌, ℕ, List, ◌∷◌, Some, refl, ap, ◌∙◌}
use Rattle.wave_base.specs.declared.shape.Shape.{Shape}
use Rattle.wave_labels.specs.declared.label.Act.{Act}
use Rattle.wave_labels.specs.declared.label.Act.TheVariants as act
use Rattle.wave_text.specs.Splits.{HasNone}
use Rattle.journal_text.specs.declared.verb.Verb.{Verb}
use Rattle.journal_text.specs.declared.verb.Verb.TheVariants.{Admit, Queue, Grant, Visit, Start, Stop, Free, Pass, Land, Commit}
use Rattle.journal_text.specs.LabelTexts.{words_text, act_words}
use Rattle.journal_text.specs.inner.Parts.{IsWordOf}
use Rattle.journal_text.specs.inner.Verbs.{word_of, verb_of, verb_in, operands}

pub act_is : (shape : Shape) (a : Act) → act_words shape a ≡ word_of (verb_in a) ∷ operands shape a
act_is shape (act.Admit t) = refl
act_is shape (act.Queue m p) = refl
act_is shape (act.Grant t p) = refl
act_is shape (act.Visit m p) = refl
act_is shape (act.Start t p) = refl
act_is shape (act.Stop t p) = refl
act_is shape (act.Free m p) = refl
act_is shape (act.Pass m p g) = refl
act_is shape (act.Land m p) = refl
act_is shape (act.Commit t) = refl

pub verb_again : (v : Verb) → verb_of (word_of v) ≡ Some v
verb_again Admit = refl
verb_again Queue = refl
verb_again Grant = refl
verb_again Visit = refl
verb_again Start = refl
verb_again Stop = refl
verb_again Free = refl
verb_again Pass = refl
verb_again Land = refl
verb_again Commit = refl

pub word_is_solid : (v : Verb) → HasNone 32 (word_of v)
word_is_solid Admit = refl
word_is_solid Queue = refl
word_is_solid Grant = refl
word_is_solid Visit = refl
word_is_solid Start = refl
word_is_solid Stop = refl
word_is_solid Free = refl
word_is_solid Pass = refl
word_is_solid Land = refl
word_is_solid Commit = refl

pub act_parts : (shape : Shape) (text w r : List ℕ) → IsWordOf text w r → (a : Act) → text ≡ words_text (act_words shape a) → (w ≡ word_of (verb_in a)) × (r ≡ words_text (operands shape a))
act_parts shape text w r word a e = word (word_of (verb_in a)) (operands shape a) (word_is_solid (verb_in a)) (e ∙ ap words_text (act_is shape a))

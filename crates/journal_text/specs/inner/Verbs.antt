-- The words of acts.
use Rattle.std.specs.Prelude.{ℕ, if◌then◌else◌, List, [], ◌∷◌, Option, Some, None, codes}
use Rattle.std.specs.Fmt.{decimal}
use Rattle.wave_base.specs.declared.shape.Shape.{Shape}
use Rattle.wave_base.specs.Names.{same_bytes}
use Rattle.wave_labels.specs.declared.label.Act.{Act}
use Rattle.wave_labels.specs.declared.label.Act.TheVariants as act
use Rattle.path_text.specs.PathTexts.{path_text}
use Rattle.journal_text.specs.declared.verb.Verb.{Verb}
use Rattle.journal_text.specs.declared.verb.Verb.TheVariants.{Admit, Queue, Grant, Visit, Start, Stop, Free, Pass, Land, Commit}
use Rattle.journal_text.specs.LabelTexts.{ticket_text, mail_text}

abbrev pub word_of : Verb → List ℕ
word_of Admit = codes "Admit"
word_of Queue = codes "Queue"
word_of Grant = codes "Grant"
word_of Visit = codes "Visit"
word_of Start = codes "Start"
word_of Stop = codes "Stop"
word_of Free = codes "Free"
word_of Pass = codes "Pass"
word_of Land = codes "Land"
word_of Commit = codes "Commit"

abbrev pub if_is : List ℕ → Verb → Option Verb → Option Verb
if_is word v other = if same_bytes word (word_of v) then Some v else other

-- the act of that word
abbrev pub verb_of : List ℕ → Option Verb
verb_of word =
    if_is word Admit (if_is word Queue (if_is word Grant (if_is word Visit (if_is word Start (if_is word Stop (if_is word Free (if_is word Pass (if_is word Land (if_is word Commit None)))))))))

abbrev pub verb_in : Act → Verb
verb_in (act.Admit t) = Admit
verb_in (act.Queue m p) = Queue
verb_in (act.Grant t p) = Grant
verb_in (act.Visit m p) = Visit
verb_in (act.Start t p) = Start
verb_in (act.Stop t p) = Stop
verb_in (act.Free m p) = Free
verb_in (act.Pass m p g) = Pass
verb_in (act.Land m p) = Land
verb_in (act.Commit t) = Commit

-- what stands behind the word
abbrev pub operands : Shape → Act → List (List ℕ)
operands shape (act.Admit t) = ticket_text t ∷ []
operands shape (act.Queue m p) = mail_text m ∷ path_text shape p ∷ []
operands shape (act.Grant t p) = ticket_text t ∷ path_text shape p ∷ []
operands shape (act.Visit m p) = mail_text m ∷ path_text shape p ∷ []
operands shape (act.Start t p) = ticket_text t ∷ path_text shape p ∷ []
operands shape (act.Stop t p) = ticket_text t ∷ path_text shape p ∷ []
operands shape (act.Free m p) = mail_text m ∷ path_text shape p ∷ []
operands shape (act.Pass m p g) = mail_text m ∷ path_text shape p ∷ codes "to" ∷ decimal g.0 ∷ []
operands shape (act.Land m p) = mail_text m ∷ path_text shape p ∷ []
operands shape (act.Commit t) = ticket_text t ∷ []

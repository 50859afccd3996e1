-- A label as a line of a journal: its number, its worker, its host, the word of its act, and what that act is done to.
use Rattle.std.specs.Prelude.{ℕ, List, [], ◌∷◌, ◌++◌, codes}
use Rattle.std.specs.Fmt.{decimal}
use Rattle.wave_base.specs.declared.numbers.Ticket.{Ticket}
use Rattle.wave_base.specs.declared.shape.Shape.{Shape}
use Rattle.wave_labels.specs.declared.label.Act.{Act}
use Rattle.wave_labels.specs.declared.label.Act.TheVariants.{Admit, Queue, Grant, Visit, Start, Stop, Free, Pass, Land, Commit}
use Rattle.wave_labels.specs.declared.label.Label.{Label}
use Rattle.wave_labels.specs.declared.label.MailId.{MailId}
use Rattle.path_text.specs.PathTexts.{path_text}

-- words, with one space between two of them
abbrev pub words_text : List (List ℕ) → List ℕ
words_text [] = []
words_text (w ∷ []) = w
words_text (w ∷ v ∷ ws) = w ++ 32 ∷ words_text (v ∷ ws)

-- #t
abbrev pub ticket_text : Ticket → List ℕ
ticket_text t = 35 ∷ decimal t.0

-- #t.k
abbrev pub mail_text : MailId → List ℕ
mail_text m = ticket_text m.ticket ++ 46 ∷ decimal m.number

-- the word of an act, and what it is done to
abbrev pub act_words : Shape → Act → List (List ℕ)
act_words shape (Admit t) = codes "Admit" ∷ ticket_text t ∷ []
act_words shape (Queue m p) = codes "Queue" ∷ mail_text m ∷ path_text shape p ∷ []
act_words shape (Grant t p) = codes "Grant" ∷ ticket_text t ∷ path_text shape p ∷ []
act_words shape (Visit m p) = codes "Visit" ∷ mail_text m ∷ path_text shape p ∷ []
act_words shape (Start t p) = codes "Start" ∷ ticket_text t ∷ path_text shape p ∷ []
act_words shape (Stop t p) = codes "Stop" ∷ ticket_text t ∷ path_text shape p ∷ []
act_words shape (Free m p) = codes "Free" ∷ mail_text m ∷ path_text shape p ∷ []
act_words shape (Pass m p g) = codes "Pass" ∷ mail_text m ∷ path_text shape p ∷ codes "to" ∷ decimal g.0 ∷ []
act_words shape (Land m p) = codes "Land" ∷ mail_text m ∷ path_text shape p ∷ []
act_words shape (Commit t) = codes "Commit" ∷ ticket_text t ∷ []

-- wW hH Act ..
abbrev pub label_words : Shape → Label → List (List ℕ)
label_words shape l = (119 ∷ decimal l.worker.0) ∷ (104 ∷ decimal l.host.0) ∷ act_words shape l.act

abbrev pub label_text : Shape → Label → List ℕ
label_text shape l = words_text (label_words shape l)

-- i wW hH Act ..
abbrev pub line_text : Shape → ℕ → Label → List ℕ
line_text shape i l = words_text (decimal i ∷ label_words shape l)

-- What a reader takes a part of a line for: where the part is written so, it can be nothing else.
use Rattle.std.specs.Prelude.{◌≡◌, ◌<◌, ◌^◌, ℕ, true, List, [], ◌∷◌, Option, Some}
use Rattle.std.specs.Fmt.{decimal}
use Rattle.wave_base.specs.declared.numbers.Ticket.{Ticket}
use Rattle.wave_base.specs.declared.path.Path.{Path}
use Rattle.wave_base.specs.declared.shape.Shape.{Shape}
use Rattle.wave_base.specs.Shapes.{is_path}
use Rattle.wave_labels.specs.declared.label.Act.{Act}
use Rattle.wave_labels.specs.declared.label.Label.{Label}
use Rattle.wave_labels.specs.declared.label.MailId.{MailId}
use Rattle.path_text.specs.PathTexts.{path_text}
use Rattle.wave_text.specs.Splits.{HasNone}
use Rattle.journal_text.specs.declared.verb.Verb.{Verb}
use Rattle.journal_text.specs.Fits.{IsTicket, IsMail, HasPath, HasNumbers, IsLabel}
use Rattle.path_text.specs.Found.{HasKeys}
use Rattle.journal_text.specs.LabelTexts.{words_text, ticket_text, mail_text, act_words, line_text}
use Rattle.journal_text.specs.inner.Verbs.{verb_in, operands}

-- the first word, and the words behind it
abbrev pub IsWordOf : List ℕ → List ℕ → List ℕ → Type 0
IsWordOf text word rest = (w : List ℕ) (ws : List (List ℕ)) → HasNone 32 w → text ≡ words_text (w ∷ ws) → (word ≡ w) × (rest ≡ words_text ws)

-- behind a mark of one byte
abbrev pub IsMarkedOf : ℕ → List ℕ → Option ℕ → Type 0
IsMarkedOf bits text o = (mark n : ℕ) → n < 2 ^ bits → text ≡ mark ∷ decimal n → o ≡ Some n

abbrev pub IsTicketOf : List ℕ → Option Ticket → Type 0
IsTicketOf text o = (t : Ticket) → IsTicket t → text ≡ ticket_text t → o ≡ Some t

abbrev pub IsMailOf : List ℕ → Option MailId → Type 0
IsMailOf text o = (m : MailId) → IsMail m → text ≡ mail_text m → o ≡ Some m

-- #t path
abbrev pub IsTicketAtOf : Shape → List ℕ → Option (Ticket × Path) → Type 0
IsTicketAtOf shape text o = (t : Ticket) (p : Path) → IsTicket t → is_path shape p ≡ true → HasKeys p → text ≡ words_text (ticket_text t ∷ path_text shape p ∷ []) → o ≡ Some (t, p)

-- #t.k path
abbrev pub IsMailAtOf : Shape → List ℕ → Option (MailId × Path) → Type 0
IsMailAtOf shape text o = (m : MailId) (p : Path) → IsMail m → is_path shape p ≡ true → HasKeys p → text ≡ words_text (mail_text m ∷ path_text shape p ∷ []) → o ≡ Some (m, p)

abbrev pub IsOperandsOf : Shape → Verb → List ℕ → Option Act → Type 0
IsOperandsOf shape verb text o = (a : Act) → verb_in a ≡ verb → HasPath shape a → HasNumbers a → text ≡ words_text (operands shape a) → o ≡ Some a

abbrev pub IsActOf : Shape → List ℕ → Option Act → Type 0
IsActOf shape text o = (a : Act) → HasPath shape a → HasNumbers a → text ≡ words_text (act_words shape a) → o ≡ Some a

abbrev pub IsLabelOf : Shape → List ℕ → Option Label → Type 0
IsLabelOf shape line o = (i : ℕ) (l : Label) → i < 2 ^ 64 → IsLabel shape l → line ≡ line_text shape i l → o ≡ Some l

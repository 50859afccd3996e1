-- What a label leaves of its own ticket.
use Rattle.std.proofs.Common.{◌≡◌, ℕ, ◌<◌, inl, inr, nat_eq, Bool, true, false, Option, Some, None, refl, sym, ◌∙◌, ap, subst}
use Rattle.wave_base.specs.declared.path.Path.{Path}
use Rattle.wave_states.specs.Actors.{Actors}
use Rattle.wave_states.specs.States.{Cell, Letter, Enter, Visit, Back, Release, Transfer, Mail, Ask, Status, Travelling, Ended, Waiting, set}
use Rattle.wave_theory.proofs.Basics.{none_not, number_cases, set_at, set_there}
use Rattle.wave_theory.proofs.Order.{Way, Stage, Entering, Lined, Coming, There, Done}
use Rattle.wave_theory.proofs.Leaves.{Course}
use Rattle.wave_theory.proofs.Tracks.{owner}
use Rattle.wave_theory.proofs.Opened.{LetterIs}
use Rattle.wave_theory.proofs.Shows

-- a segment is out only while its ticket is at its context
pub status_out : (st : Status) (v : Stage) (o : Bool) (p : Path) → Shows.StatusShows st v o p → (v ≡ There → ⊥) → o ≡ false
status_out Travelling Entering o p z n = z
status_out Travelling Coming o p z n = z
status_out (Waiting q) Lined o p z n = z.1
status_out Ended Done o p z n = z
status_out st There o p z n = absurd (n refl)
status_out st v o p z n = absurd z

module _ {A F R J : Type 0} (sys : Actors A F R J) (w : Way) (course : Course sys) (low : ℕ) (is_real : ℕ → Type 0) where
  abbrev MailShows : Shows.Ghost F → ℕ → ℕ → ℕ → Path → Letter F → Type 0
  MailShows g t k host p m = Shows.MailShows sys w course low is_real g t k host p m

  -- what is held stays as it is, and what was given up isn't held
  pub record Own (g g' : Shows.Ghost F) (t : ℕ) (q : Path) : Type 0 where
    pub not_held : w.held t (g.lines.pos t) q ≡ false → w.held t (g'.lines.pos t) q ≡ false
    pub parting : g'.parting t q ≡ g.parting t q
    pub holds : g'.lines.holds q t ≡ true
    pub trail : g'.trail q ≡ g.trail q
    pub entry : (g.trail q).stored ≡ false → g'.entry q ≡ g.entry q

  pub leaving_own : (g g' : Shows.Ghost F) (t k h : ℕ) (q : Path) → Own g g' t q → Shows.Leaving sys w course low is_real g t k h q → Shows.Leaving sys w course low is_real g' t k h q
  leaving_own g g' t k h q o x = record {
    holds = o.holds;
    not_held = o.not_held x.not_held;
    number_is = x.number_is ∙ sym o.parting;
    host_is = x.host_is ∙ ap owner (sym o.trail);
  }

  -- no Enter, Visit or Back of it is left
  pub record Quiet (g : Shows.Ghost F) (t k h : ℕ) (q : Path) : Type 0 where
    pub no_enter : (a : Ask) → Shows.EnterShows sys w course low is_real g t k h q a → ⊥
    pub no_coming : Shows.ComingShows sys w course low is_real g t k h q → ⊥

  pub mail_own : (g g' : Shows.Ghost F) (t k h : ℕ) (q : Path) (m : Letter F) → Quiet g t k h q → (Shows.Leaving sys w course low is_real g t k h q → Own g g' t q) → MailShows g t k h q m → MailShows g' t k h q m
  mail_own g g' t k h q (Enter a) n o x = absurd (n.no_enter a x)
  mail_own g g' t k h q Visit n o x = absurd (n.no_coming x)
  mail_own g g' t k h q Back n o x = absurd (n.no_coming x)
  mail_own g g' t k h q Release n o x = (leaving_own g g' t k h q (o x.0) x.0, ap (λ z. z.stored) (o x.0).trail ∙ x.1)
  mail_own g g' t k h q (Transfer en) n o x = (leaving_own g g' t k h q (o x.0) x.0, ap (λ z. z.stored) (o x.0).trail ∙ x.1, x.2 ∙ sym ((o x.0).entry x.1), x.3)

  -- the mails but the one that is taken
  pub mails_but : (g g' : Shows.Ghost F) (t k : ℕ) (mails : ℕ → Option (Mail F)) → ((i : ℕ) (m : Mail F) → mails i ≡ Some m → nat_eq k i ≡ false → MailShows g' t i m.host m.path m.letter) →
      (i : ℕ) (m : Mail F) → set nat_eq mails k None i ≡ Some m → MailShows g' t i m.host m.path m.letter
  mails_but g g' t k mails f i m e = elim (number_cases k i) [
    | inr z ↦ f i m (sym (set_there nat_eq mails k None i z) ∙ e) z
    | inl z ↦ absurd (none_not (sym (set_at mails k None) ∙ subst (λ j. set nat_eq mails k None j ≡ Some m) (sym z) e))
  ]

  pub unused_but : (sent k : ℕ) (mails : ℕ → Option (Mail F)) → ((i : ℕ) → sent < i → mails i ≡ None) → (i : ℕ) → sent < i → set nat_eq mails k None i ≡ None
  unused_but sent k mails f i l = elim (number_cases k i) [
    | inr z ↦ set_there nat_eq mails k None i z ∙ f i l
    | inl z ↦ subst (λ j. set nat_eq mails k None j ≡ None) z (set_at mails k None)
  ]

  -- what the mail that a label takes shows
  pub shows_letter : (g : Shows.Ghost F) (t k h : ℕ) (p : Path) (m : Letter F) (c : Cell A F R) → Shows.CellShows sys w course low is_real g t c → LetterIs (c.mails k) h p m → MailShows g t k h p m
  shows_letter g t k h p m c x l = subst (MailShows g t k h p) l.letter_is (subst (λ q. MailShows g t k h q l.mail.letter) l.path_is (subst (λ i. MailShows g t k i l.mail.path l.mail.letter) l.host_is (x.mails k l.mail l.mail_is)))

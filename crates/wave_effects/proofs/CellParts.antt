-- What the calls on a cell make of the cell of the theory that it stands for.
use Rattle.std.proofs.Common.{◌≡◌, ◌∙◌, ℕ, true, false, is_some, Option, Some, None, refl, sym, ap, subst, cond}
use Rattle.std.specs.Prelude.{nat_eq}
use Rattle.std.specs.BTreeMap.{insert_entry}
use Rattle.wave_base.specs.declared.outcome.EventResult.{EventResult}
use Rattle.wave_base.specs.declared.path.Path.{Path}
use Rattle.wave_base.specs.Paths.{path_cmp}
use Rattle.service_code.specs.declared.program.Program.{Program}
use Rattle.context_queue.specs.declared.entry.Entry.{Entry}
use Rattle.context_queue.specs.Entries.{StandsFor as EntryStands}
use Rattle.event_cells.specs.declared.cell.Cell.{Cell}
use Rattle.event_cells.specs.declared.held.Hold.{Hold}
use Rattle.event_cells.specs.declared.outbox.Envelope.{Envelope}
use Rattle.event_cells.specs.Cells.{StandsFor, Carries, IsEnvelope, is_over, hold_of, with_actor, with_held, with_mail}
use Rattle.wave_states.specs.States as theory
use Rattle.wave_states.specs.States.{Ask, Enter, Hand, set}
use Rattle.wave_states.specs.Desks.{Desk}
use Rattle.wave_states.specs.Steps.{Part, without_mail}
use Rattle.code_actor.specs.CodeActors.{Fields}
use Rattle.plan_actors.specs.PlanActors as actors
use Rattle.plan_actors.specs.PlanActors.{plan_actors}
use Rattle.migration_core.specs.declared.mail.Letter.{Letter}
use Rattle.migration_core.specs.declared.mail.Letter.TheVariants as letter
use Rattle.migration_core.specs.Letters.{Says}
use Rattle.wave_effects.specs.Keeping.{entry_in, entry_of}
use Rattle.wave_effects.specs.declared.actor.Actor.{Actor}
use Rattle.wave_effects.specs.Machines.{IsCell, event_as}

abbrev pub ThePart : Type 0
ThePart = Part actors.Actor Fields EventResult

abbrev pub TheCell : Type 0
TheCell = theory.Cell actors.Actor Fields EventResult

-- the calls on a cell: its mail is taken; it is taken, and the event has another status; it goes to another host; a context is held
pub record TakesMail (c c' : Cell Actor) (k : ℕ) : Type 0 where
  pub desk : (d : Desk Actor Fields) → StandsFor c d → StandsFor c' (with_mail d k None)
  pub actor : c'.actor ≡ c.actor

pub record TakesAndWaits (c c' : Cell Actor) (k : ℕ) (status : theory.Status) : Type 0 where
  pub desk : (d : Desk Actor Fields) → is_over c.status ≡ false → StandsFor c d → StandsFor c' (with_actor (with_mail d k None) d.event.actor status)
  pub actor : c'.actor ≡ c.actor

pub record Redirects (c c' : Cell Actor) (k : ℕ) (e : Envelope) : Type 0 where
  pub desk : (d : Desk Actor Fields) (m : theory.Mail Fields) → StandsFor c d → IsEnvelope e m → StandsFor c' (with_mail d k (Some m))
  pub actor : c'.actor ≡ c.actor

pub record LetsIn (c c' : Cell Actor) (p : Path) (hold : Hold) : Type 0 where
  pub desk : (d : Desk Actor Fields) → is_over c.status ≡ false → StandsFor c d → StandsFor c' (with_actor (with_held d (insert_entry path_cmp d.event.held p (hold_of hold))) d.event.actor (theory.Ready p))
  pub actor : c'.actor ≡ c.actor

pub same_event : {X : Type 0} (x y : X) (o : Option X) → o ≡ Some x → o ≡ Some y → x ≡ y
same_event x y o a b = cc

abbrev with_status : theory.Status → theory.Event actors.Actor → Option (theory.Event actors.Actor)
with_status status e = Some (record { actor = e.actor; held = e.held; sent = e.sent; status = status })

module _ (program : Program) (c c' : Cell Actor) where
  pub taken : (k : ℕ) (x : TheCell) → IsCell program c x → TakesMail c c' k → IsCell program c' (without_mail x k)
  taken k x is t = record {
    desk = with_mail is.desk k None;
    stands = t.desk is.desk is.stands;
    event = is.event;
    mails = λ q. ap (cond (nat_eq k q) None) (is.mails q);
    marked = λ a e. is.marked a (sym t.actor ∙ e);
  }

  -- with another status besides
  pub taken_to : (k : ℕ) (status : theory.Status) (x y : TheCell) (event : theory.Event actors.Actor) → IsCell program c x → TakesAndWaits c c' k status → is_over c.status ≡ false → x.event ≡ Some event
      → with_status status event ≡ y.event → ((q : ℕ) → (without_mail x k).mails q ≡ y.mails q) → IsCell program c' y
  taken_to k status x y event is t over at e mails = record {
    desk = with_actor (with_mail is.desk k None) is.desk.event.actor status;
    stands = t.desk is.desk over is.stands;
    event = sym e ∙ ap (with_status status) (same_event event (event_as is.desk.event) x.event at is.event);
    mails = λ q. sym (mails q) ∙ ap (cond (nat_eq k q) None) (is.mails q);
    marked = λ a h. is.marked a (sym t.actor ∙ h);
  }

  pub redirected : (k : ℕ) (e : Envelope) (m : theory.Mail Fields) (x y : TheCell) → IsCell program c x → Redirects c c' k e → IsEnvelope e m → x.event ≡ y.event → ((q : ℕ) → set nat_eq x.mails k (Some m) q ≡ y.mails q) → IsCell program c' y
  redirected k e m x y is t says event mails = record {
    desk = with_mail is.desk k (Some m);
    stands = t.desk is.desk m is.stands says;
    event = sym event ∙ is.event;
    mails = λ q. sym (mails q) ∙ ap (cond (nat_eq k q) (Some m)) (is.mails q);
    marked = λ a h. is.marked a (sym t.actor ∙ h);
  }

  pub let_in_at : (p : Path) (hold : Hold) (x y : TheCell) (event : theory.Event actors.Actor) → IsCell program c x → LetsIn c c' p hold → is_over c.status ≡ false → x.event ≡ Some event
      → Some (record { actor = event.actor; held = insert_entry path_cmp event.held p (hold_of hold); sent = event.sent; status = theory.Ready p }) ≡ y.event → ((q : ℕ) → x.mails q ≡ y.mails q) → IsCell program c' y
  let_in_at p hold x y event is t over at e mails = record {
    desk = with_actor (with_held is.desk (insert_entry path_cmp is.desk.event.held p (hold_of hold))) is.desk.event.actor (theory.Ready p);
    stands = t.desk is.desk over is.stands;
    event = sym e ∙ ap (λ (z : theory.Event actors.Actor). Some (record { actor = z.actor; held = insert_entry path_cmp z.held p (hold_of hold); sent = z.sent; status = theory.Ready p })) (same_event event (event_as is.desk.event) x.event at is.event);
    mails = λ q. sym (mails q) ∙ is.mails q;
    marked = λ a h. is.marked a (sym t.actor ∙ h);
  }

-- a Transfer stands for one alone
letter_is : (l : Letter) (en : theory.Entry Fields) → Says l (theory.Transfer en) → (e : Entry) × (entry_of l ≡ Some e) × EntryStands e en
letter_is (letter.Enter number followed peek) en h = cc
letter_is letter.Visit en h = cc
letter_is letter.Back en h = cc
letter_is letter.Release en h = cc
letter_is (letter.Transfer e) en h = (e, refl, h)

pub carried_is : (o : Option Envelope) (m : theory.Mail Fields) (en : theory.Entry Fields) → Carries o (Some m) → m.letter ≡ theory.Transfer en → (e : Entry) × (entry_in o ≡ Some e) × EntryStands e en
carried_is None m en h l = absurd h
carried_is (Some e) m en h l = letter_is e.letter en (subst (Says e.letter) l h.letter)

-- a mail is there where the theory has one, and says what that says
pub carries_some : (o : Option Envelope) (r : Option (theory.Mail Fields)) (m : theory.Mail Fields) → Carries o r → r ≡ Some m → is_some o ≡ true
carries_some o r m h e = by_mail o (subst (Carries o) e h)
  where
    by_mail : (o : Option Envelope) → Carries o (Some m) → is_some o ≡ true
    by_mail None h = absurd h
    by_mail (Some x) h = refl

pub says_of : (o : Option Envelope) (e : Envelope) (m : theory.Mail Fields) → Carries o (Some m) → o ≡ Some e → Says e.letter m.letter
says_of o e m h is = let x : IsEnvelope e m = subst (λ r. Carries r (Some m)) is h in x.letter

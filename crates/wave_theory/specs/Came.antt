-- Who came to a context, by the labels that were taken.
use Rattle.std.specs.Prelude.{◌≡◌, ◌+◌, ◌&&◌, ℕ, suc, Bool, false, List, [], ◌∷◌, ◌++◌, length, Option, Some, None, is_some, slice_get, if◌then◌else◌}
use Rattle.wave_base.specs.declared.path.Step.{Step}
use Rattle.wave_base.specs.declared.path.Path.{Path}
use Rattle.wave_base.specs.Paths.{path_eq}
use Rattle.wave_base.specs.Kids.{child_at}
use Rattle.wave_states.specs.Actors.{Actors}
use Rattle.wave_states.specs.Kinds.{Kind}
use Rattle.wave_states.specs.States.{State, Event, Entry, Record, Mail, ask_in}
use Rattle.wave_states.specs.Labels.{Act, Label, Grant, ticket_of}
use Rattle.wave_states.specs.Steps.{step, child_or_new}
use Rattle.wave_states.specs.Begins.{Begin, start_state}
use Rattle.wave_theory.specs.Always.{served_before}
use Rattle.wave_theory.specs.Numbers.{IsNumber, HasEntry}

-- the tickets that were granted a context, in the order of the labels
abbrev pub granted_by : Path → Act → List ℕ
granted_by p (Grant t q) = if path_eq q p then t ∷ [] else []
granted_by p _ = []

abbrev pub grants_at : Path → List Label → List ℕ
grants_at p [] = []
grants_at p (l ∷ ls) = granted_by p l.act ++ grants_at p ls

abbrev pub is_enter_to : {F : Type 0} → Path → Option (Mail F) → Bool
is_enter_to p None = false
is_enter_to p (Some m) = is_some (ask_in m.letter) && path_eq m.path p

abbrev pub sent_by : {A : Type 0} → Option (Event A) → ℕ
sent_by None = 0
sent_by (Some e) = e.sent

module _ {A F R J : Type 0} where
  -- the ticket of a label whose first new mail is an Enter to the context
  abbrev pub sender_by : Path → ℕ → State A F R J → Option (State A F R J) → List ℕ
  sender_by p t s None = []
  sender_by p t s (Some v) = if is_enter_to p ((v.cells t).mails (suc (sent_by (s.cells t).event))) then t ∷ [] else []

module _ {A F R J : Type 0} (sys : Actors A F R J) (workers : ℕ) where
  -- the tickets whose Enter to a context was sent, in the order of the labels
  abbrev pub senders_from : Path → Option (State A F R J) → List Label → List ℕ
  senders_from p None ls = []
  senders_from p (Some s) [] = []
  senders_from p (Some s) (l ∷ ls) = sender_by p (ticket_of l.act) s (step sys workers s l) ++ senders_from p (step sys workers s l) ls

-- the entry numbers that were given for a child
abbrev pub given_of : {F : Type 0} → Record F → Step → ℕ
given_of r st = (child_or_new (child_at r.children st) 0).given

module _ {A F R J : Type 0} (kind : Kind A F R J) where
  module _ (b : Begin F) (batches : List (List J)) where
    -- these are the first tickets of this run that enter the context, in the order of the fold
    abbrev pub AreFirst : Path → List ℕ → Type 0
    AreFirst p ts = (i t : ℕ) → slice_get ts i ≡ Some t → IsNumber kind b batches p t (served_before kind b batches p + suc i)

  -- Came. The tickets that were granted a context are the first of the fold that enter it, in that order, and as many as its entry says;
  -- and so are those whose Enter to it was sent, as many as its parent's record says.
  pub record Came (workers : ℕ) (b : Begin F) (batches : List (List J)) (labels : List Label) (s : State A F R J) : Type 0 where
    pub granted_first : (p : Path) → AreFirst b batches p (grants_at p labels)
    pub served : (p : Path) (en : Entry F) → HasEntry s p en → en.served ≡ served_before kind b batches p + length (grants_at p labels)
    pub sent_first : (p : Path) → AreFirst b batches p (senders_from kind.system workers p (Some (start_state b batches)) labels)
    pub given : (p : Path) (st : Step) (en : Entry F) (r : Record F) → HasEntry s p en → en.body ≡ Some r → given_of r st ≡ length (senders_from kind.system workers (p ++ st ∷ []) (Some (start_state b batches)) labels)
    pub at_root : s.admitted ≡ length (senders_from kind.system workers [] (Some (start_state b batches)) labels)

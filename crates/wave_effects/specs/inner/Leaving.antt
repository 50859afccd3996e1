-- How a Stop leaves a context and its event, by its pause.
use Rattle.std.specs.Prelude.{◌≡◌, ◌+◌, ◌<◌, ◌^◌, ◌==◌, if◌then◌else◌, ℕ, suc, Bool, true, false, List, [], ◌∷◌, ◌++◌, length, Option, Some, None, is_some}
use Rattle.wave_base.specs.declared.children.Child.{Child}
use Rattle.wave_base.specs.declared.outcome.EventResult.{EventResult}
use Rattle.wave_base.specs.declared.path.Path.{Path}
use Rattle.wave_base.specs.declared.path.Step.{Step}
use Rattle.wave_base.specs.declared.pause.Pause.{Pause as Halt}
use Rattle.wave_base.specs.declared.pause.Pause.TheVariants as halt
use Rattle.wave_base.specs.declared.record.Record.{Record}
use Rattle.wave_base.specs.Kids.{child_at, with_child}
use Rattle.wave_base.specs.Paths.{parent_of}
use Rattle.context_queue.specs.Entries.{record_of}
use Rattle.host_map.specs.Stores.{Stores, IsAt}
use Rattle.event_cells.specs.declared.cell.Cell.{Cell}
use Rattle.event_cells.specs.declared.outbox.Envelope.{Envelope}
use Rattle.event_cells.specs.Cells.{IsEnvelope, StandsFor}
use Rattle.code_actor.specs.CodeActors.{Fields}
use Rattle.wave_states.specs.Actors.{Pause, Go, Down, Back, Over}
use Rattle.wave_states.specs.States as theory
use Rattle.wave_states.specs.States.{Column, Entry, Enter, Letter, Mail, Transfer, hold_at}
use Rattle.wave_states.specs.Desks.{Desk, kept_of, not_at, send, with_held}
use Rattle.wave_states.specs.Steps.{Part, cell_of, child_or_new, host_or, into_child, keep_below, after_look, moved_on, over_by, put_back, with_body}
use Rattle.wave_effects.specs.declared.actor.Actor.{Actor}

abbrev pub Hold : Type 0
Hold = theory.Hold

-- a child with the next number given, born at this host where it is new
abbrev pub raised_child : Option Child → ℕ → Child
raised_child o host = record { given = suc (child_or_new o host).given; birth = (child_or_new o host).birth }

-- The mail by which an actor goes on from a context, and the record that stays there; none where it is over.
module _ (host : ℕ) (p : Path) (r : theory.Record Fields) where
  -- into a child: a Visit where it is held, else an Enter with the next number that is given for it
  abbrev pub into : Step → Bool → Option Hold → Mail Fields × theory.Record Fields
  into s peek (Some x) = (record { host = x.host; path = p ++ s ∷ []; letter = Letter.Visit }, r)
  into s peek None =
      let c : Child = raised_child (child_at r.children s) host in
      (record { host = c.birth.0; path = p ++ s ∷ []; letter = Enter (record { number = c.given; followed = 0; peek = peek }) }, record { fields = r.fields; children = with_child r.children s c })

  abbrev pub onward : List (Path × Hold) → Bool → Halt → Option (Mail Fields × theory.Record Fields)
  onward held peek (halt.Go s) = Some (into s peek (hold_at held (p ++ s ∷ [])))
  onward held peek (halt.Down s) = Some (into s false (hold_at held (p ++ s ∷ [])))
  onward held peek halt.Back = Some (record { host = host_or (hold_at held (parent_of p)) host; path = parent_of p; letter = Letter.Back }, r)
  onward held peek (halt.Over x) = None

-- the envelope is that mail, and the record has become that one; without a mail it is as it was
abbrev pub Tells : Option (Mail Fields × theory.Record Fields) → Record → Option Envelope → Record → Type 0
Tells None r None r' = r' ≡ r
Tells None r (Some e) r' = ⊥
Tells (Some x) r None r' = ⊥
Tells (Some x) r (Some e) r' = IsEnvelope e x.0 × (record_of r' ≡ x.1)

-- a child's path is short enough, and so is its number
pub record IsNear (p : Path) (children : List (Step × Child)) (s : Step) : Type 0 where
  pub short : length p < 8
  pub few : (c : Child) → child_at children s ≡ Some c → c.given + 1 < 2 ^ 64

abbrev pub CanGoOn : Path → List (Step × Child) → Halt → Type 0
CanGoOn p children (halt.Go s) = IsNear p children s
CanGoOn p children (halt.Down s) = IsNear p children s
CanGoOn p children halt.Back = Unit {0}
CanGoOn p children (halt.Over x) = Unit {0}

-- where a result sends its context, other than this host
abbrev pub away_from : ℕ → Option (Path × ℕ) → Option ℕ
away_from host None = None
away_from host (Some m) = if m.1 == host then None else Some m.1

-- all but what is over has a mail
abbrev pub HasMail : Halt → Option Envelope → Type 0
HasMail (halt.Over x) mail = Unit {0}
HasMail _ mail = is_some mail ≡ true

module _ {A F R : Type 0} (moved : R → Option (Path × ℕ)) where
  -- what the theory's Stop leaves, where results move contexts so
  abbrev pub paused_by : Path → ℕ → Part A F R → Desk A F → Entry F → theory.Record F → Bool → Pause R → Part A F R
  paused_by p host x d en r peek (Go s) = put_back x host (keep_below (p ++ s ∷ []) (into_child p host d en r.fields r.children s peek (hold_at d.event.held (p ++ s ∷ []))))
  paused_by p host x d en r peek (Down s) = put_back x host (into_child p host d en r.fields r.children s false (hold_at d.event.held (p ++ s ∷ [])))
  paused_by p host x d en r peek Back = put_back x host (send d (record { host = host_or (hold_at d.event.held (parent_of p)) host; path = parent_of p; letter = Letter.Back }), with_body en (Some r))
  paused_by p host x d en r peek (Over o) = over_by p x host d (with_body en (Some r)) o (moved o)

  abbrev pub stopped_by : Path → ℕ → Part A F R → Desk A F → Entry F → theory.Record F → Bool → Pause R → Bool → Option (Part A F R)
  stopped_by p host x d en r peek why true = after_look x host d en why
  stopped_by p host x d en r peek why false = Some (paused_by p host x d en r peek why)

-- an event that sent its context away
abbrev pub sent_off : Desk Actor Fields → Path → ℕ → Entry Fields → Desk Actor Fields
sent_off d p to en = send (record { event = with_held d.event (kept_of (not_at p) d.event.held); mails = d.mails }) (record { host = to; path = p; letter = Transfer (moved_on en) })

-- a cell and a host's store stand for what a Stop leaves, and this is the event's result, if it is over
pub record HasLeft (c : Cell Actor) (st : Stores) (p : Path) (host : ℕ) (result : Option EventResult) (y : Part Actor Fields EventResult) : Type 0 where
  pub desk : Desk Actor Fields
  pub stands : StandsFor c desk
  pub cell : y.cell ≡ cell_of desk result
  pub there : IsAt st p y.column host

-- The canonical list: what can be done in a state, in one fixed order.
use Rattle.std.specs.Prelude.{ℕ, suc, ◌+◌, Bool, false, ◌&&◌, ◌==◌, if◌then◌else◌, List, [], ◌∷◌, ◌++◌, flat_map, map, Option, Some, None, is_some, is_none}
use Rattle.std.specs.List.{filter}
use Rattle.wave_base.specs.declared.path.Path.{Path}
use Rattle.wave_base.specs.Paths.{path_eq}
use Rattle.wave_base.specs.Fold.{tickets_from}
use Rattle.wave_states.specs.Actors.{Actors}
use Rattle.wave_states.specs.States.{Mark, Mail, Status, Waiting, Ready, Running, Event, Column, Hand, State}
use Rattle.wave_states.specs.Labels.{Act, Choice, Label, Admit, Queue, Grant, Visit, Start, Stop, Free, Pass, Land, Commit, ticket_of, path_of}
use Rattle.wave_states.specs.Steps.{next_ticket, step}

-- 0, 1, .. below n
abbrev pub below : ℕ → List ℕ
below n = tickets_from 0 n

-- the host among these whose store has the context
abbrev pub host_in : {F : Type 0} → Column F → List ℕ → Option ℕ
host_in c [] = None
host_in c (h ∷ hs) = if is_some (c.store h) then Some h else host_in c hs

abbrev pub at_host : Option ℕ → Act → List Choice
at_host None a = []
at_host (Some h) a = record { host = h; act = a } ∷ []

abbrev pub by_event : {A X : Type 0} → Option (Event A) → (Event A → List X) → List X
by_event None f = []
by_event (Some e) f = f e

abbrev pub by_mail : {F X : Type 0} → Option (Mail F) → (Mail F → List X) → List X
by_mail None f = []
by_mail (Some m) f = f m

abbrev pub to_mark : Option Mark → (ℕ → Act) → ℕ → List Choice
to_mark None f h = []
to_mark (Some m) f h = record { host = h; act = f m.to } ∷ []

-- what a worker takes
abbrev pub taken_as : ℕ → Choice → Label
taken_as w c = record { worker = w; host = c.host; act = c.act }

-- the first of these workers that is idle
abbrev pub idle_in : {A F : Type 0} → (ℕ → Option (Hand A F)) → List ℕ → Option ℕ
idle_in hands [] = None
idle_in hands (w ∷ ws) = if is_none (hands w) then Some w else idle_in hands ws

-- does this worker run the ticket at the path
abbrev pub runs_it : {A F : Type 0} → Option (Hand A F) → ℕ → Path → Bool
runs_it None t p = false
runs_it (Some g) t p = (g.ticket == t) && path_eq g.path p

-- what a mail may be taken by
abbrev pub mail_act : {F : Type 0} → (ℕ → ℕ → Path → Act) → ℕ → ℕ → Mail F → List Choice
mail_act f t k m = record { host = m.host; act = f t k m.path } ∷ []

module _ {A F R J : Type 0} (s : State A F R J) where
  -- the tickets admitted in this run
  abbrev pub tickets : List ℕ
  tickets = tickets_from (suc s.before) s.admitted

  -- by ticket, what its status asks for
  abbrev pub by_status : (ℕ → Status → List Choice) → List Choice
  by_status f = flat_map (λ t. by_event (s.cells t).event (λ e. f t e.status)) tickets

  -- by ticket and then by number, what the mails ask for
  abbrev pub by_mails : (ℕ → ℕ → Mail F → List Choice) → List Choice
  by_mails f = flat_map (λ t. by_event (s.cells t).event (λ e. flat_map (λ k. by_mail ((s.cells t).mails k) (f t k)) (tickets_from 1 e.sent))) tickets

  -- a Pass goes to the host of the mark
  abbrev pub passes_of : ℕ → ℕ → Mail F → List Choice
  passes_of t k m = to_mark ((s.columns m.path).gone m.host) (λ g. Pass t k m.path g) m.host

  module _ (hosts : ℕ) where
    -- where a context is
    abbrev pub place : Path → Option ℕ
    place p = host_in (s.columns p) (below hosts)

    abbrev pub grants_of : ℕ → Status → List Choice
    grants_of t (Waiting p) = at_host (place p) (Grant t p)
    grants_of t _ = []

    abbrev pub starts_of : ℕ → Status → List Choice
    starts_of t (Ready p) = at_host (place p) (Start t p)
    starts_of t _ = []

    abbrev pub stops_of : ℕ → Status → List Choice
    stops_of t (Running p) = at_host (place p) (Stop t p)
    stops_of t _ = []

    -- all that is asked for: the kinds before the Stops, in their order
    abbrev pub early : List Choice
    early = record { host = 0; act = Admit (next_ticket s) } ∷
        by_mails (mail_act (λ t k p. Queue t k p))
        ++ by_status grants_of
        ++ by_mails (mail_act (λ t k p. Visit t k p))
        ++ by_status starts_of

    abbrev pub stops : List Choice
    stops = by_status stops_of

  -- and those behind them
  abbrev pub late : List Choice
  late = by_mails (mail_act (λ t k p. Free t k p))
      ++ by_mails passes_of
      ++ by_mails (mail_act (λ t k p. Land t k p))
      ++ record { host = 0; act = Commit (suc (s.before + s.head.done)) } ∷ []

module _ {A F R J : Type 0} (sys : Actors A F R J) (workers : ℕ) (s : State A F R J) where
  -- of these, what a worker can take
  abbrev pub takes : ℕ → List Choice → List Label
  takes w cs = filter (λ l. is_some (step sys workers s l)) (map (taken_as w) cs)

  abbrev pub taken_by : Option ℕ → List Choice → List Label
  taken_by None cs = []
  taken_by (Some w) cs = takes w cs

  -- a Stop is its running worker's
  abbrev pub stop_by : Choice → List Label
  stop_by c = filter (λ l. is_some (step sys workers s l)) (map (λ w. taken_as w c) (filter (λ w. runs_it (s.hands w) (ticket_of c.act) (path_of c.act)) (below workers)))

module _ {A F R J : Type 0} (sys : Actors A F R J) (workers hosts : ℕ) (s : State A F R J) where
  -- The canonical list. All but the Stops are the lowest idle worker's; without an idle worker there are Stops alone.
  unfoldable pub enabled_labels : List Label
  enabled_labels = taken_by sys workers s (idle_in s.hands (below workers)) (early s hosts)
      ++ flat_map (stop_by sys workers s) (stops s hosts)
      ++ taken_by sys workers s (idle_in s.hands (below workers)) (late s)

  -- what one worker can take, in the same order
  unfoldable pub enabled_for : ℕ → List Label
  enabled_for w = takes sys workers s w (early s hosts ++ stops s hosts ++ late s)

-- What a Stop leaves, for actors as programs have them and for those of the theory.
use Rattle.std.proofs.Common.{◌≡◌, ◌≢◌, ◌∙◌, ℕ, suc, ◌==◌, Bool, true, false, List, [], ◌∷◌, ◌++◌, Option, Some, None, refl, sym, ap, cond}
use Rattle.std.specs.Prelude.{nat_eq, option_map}
use Rattle.std.proofs.lemmas.Bool.{eqb-true}
use Rattle.wave_base.specs.declared.path.Path.{Path}
use Rattle.wave_base.specs.declared.path.Step.{Step}
use Rattle.wave_base.specs.declared.children.Child.{Child}
use Rattle.wave_base.specs.Paths.{is_above}
use Rattle.code_actor.specs.CodeActors.{Fields}
use Rattle.wave_states.specs.Actors.{Actors, Pause, Left, Go, Down, Back, Over}
use Rattle.wave_states.specs.States as theory
use Rattle.wave_states.specs.States.{Cell, Column, Entry, Release, Ended, hold_at}
use Rattle.wave_states.specs.Desks.{Desk, give_up, kept_of, left_of, release, send, with_held, with_status, nothing_kept, not_at}
use Rattle.wave_states.specs.Steps.{Part, cell_of, column_left, after_end, into_child, over_by, over_here, over_there, after_pause, put_back, after_stop, with_body, with_entry, moved_on}
use Rattle.wave_theory.proofs.Basics.{none_not, some_same}
use Rattle.plan_actors.specs.PlanActors as actors
use Rattle.wave_effects.specs.declared.actor.Actor.{Actor}
use Rattle.wave_effects.specs.Machines.{event_as}
use Rattle.wave_effects.specs.inner.Leaving.{Hold, into, paused_by, stopped_by}

-- ---- the actors of the theory in the place of those of programs

abbrev pub desk_as : {F : Type 0} → Desk Actor F → Desk actors.Actor F
desk_as d = record { event = event_as d.event; mails = d.mails }

module _ {F R : Type 0} where
  abbrev pub cell_as : Cell Actor F R → Cell actors.Actor F R
  cell_as c = record { event = option_map event_as c.event; mails = c.mails; result = c.result }

  abbrev pub part_as : Part Actor F R → Part actors.Actor F R
  part_as x = record { cell = cell_as x.cell; column = x.column }

module _ {F : Type 0} where
  release_as : (xs : List (Path × Hold)) (d : Desk Actor F) → release xs (desk_as d) ≡ desk_as (release xs d)
  release_as [] d = refl
  release_as (x ∷ xs) d = release_as xs (send d (record { host = x.1.host; path = x.0; letter = Release }))

  give_up_as : (keep : Path → Bool) (d : Desk Actor F) → give_up keep (desk_as d) ≡ desk_as (give_up keep d)
  give_up_as keep d = release_as (left_of keep d.event.held) (record { event = with_held d.event (kept_of keep d.event.held); mails = d.mails })

  into_as : (p : Path) (host : ℕ) (d : Desk Actor F) (en : Entry F) (f : F) (cs : List (Step × Child)) (s : Step) (peek : Bool) (o : Option Hold) →
      into_child p host (desk_as d) en f cs s peek o ≡ (desk_as (into_child p host d en f cs s peek o).0, (into_child p host d en f cs s peek o).1)
  into_as p host d en f cs s peek None = refl
  into_as p host d en f cs s peek (Some h) = refl

  module _ {R : Type 0} where
    ended_as : (d : Desk Actor F) (r : R) (column : Column F) → record { cell = cell_of (after_end (desk_as d)) (Some r); column = column } ≡ part_as (record { cell = cell_of (after_end d) (Some r); column = column })
    ended_as d r column = ap (λ (z : Desk actors.Actor F). record { cell = cell_of z (Some r); column = column }) (give_up_as nothing_kept (record { event = with_status d.event Ended; mails = d.mails }))

    over_as : (p : Path) (host : ℕ) (x : Part Actor F R) (d : Desk Actor F) (en : Entry F) (r : R) (o : Option (Path × ℕ)) → over_by p (part_as x) host (desk_as d) en r o ≡ part_as (over_by p x host d en r o)
    over_as p host x d en r None = ended_as d r (with_entry x.column host (Some en))
    over_as p host x d en r (Some m) = by_place (m.1 == host)
      where
        by_place : (b : Bool) → cond b (over_here (part_as x) host (desk_as d) en r) (over_there p (part_as x) host (desk_as d) en r m.1) ≡ part_as (cond b (over_here x host d en r) (over_there p x host d en r m.1))
        by_place true = ended_as d r (with_entry x.column host (Some en))
        by_place false = ended_as (send (record { event = with_held d.event (kept_of (not_at p) d.event.held); mails = d.mails }) (record { host = m.1; path = p; letter = theory.Transfer (moved_on en) })) r (column_left x.column host m.1 (suc en.moves))

    module _ (moved : R → Option (Path × ℕ)) (p : Path) (host : ℕ) (x : Part Actor F R) (d : Desk Actor F) (en : Entry F) (r : theory.Record F) (peek : Bool) where
      paused_as : (why : Pause R) → paused_by moved p host (part_as x) (desk_as d) en r peek why ≡ part_as (paused_by moved p host x d en r peek why)
      paused_as (Go s) =
          let y : Desk Actor F × Entry F = into_child p host d en r.fields r.children s peek (hold_at d.event.held (p ++ s ∷ [])) in
          ap (λ (z : Desk actors.Actor F × Entry F). put_back (part_as x) host (give_up (is_above (p ++ s ∷ [])) z.0, z.1)) (into_as p host d en r.fields r.children s peek (hold_at d.event.held (p ++ s ∷ [])))
          ∙ ap (λ (z : Desk actors.Actor F). put_back (part_as x) host (z, y.1)) (give_up_as (is_above (p ++ s ∷ [])) y.0)
      paused_as (Down s) = ap (put_back (part_as x) host) (into_as p host d en r.fields r.children s false (hold_at d.event.held (p ++ s ∷ [])))
      paused_as Back = refl
      paused_as (Over o) = over_as p host x d (with_body en (Some r)) o (moved o)

      pub stopped_as : (why : Pause R) (looks : Bool) → stopped_by moved p host (part_as x) (desk_as d) en r peek why looks ≡ option_map part_as (stopped_by moved p host x d en r peek why looks)
      stopped_as why false = ap Some (paused_as why)
      stopped_as (Go s) true = refl
      stopped_as (Down s) true = refl
      stopped_as Back true = refl
      stopped_as (Over o) true = ap Some (ended_as d o (with_entry x.column host (Some en)))

-- ---- the theory's Stop

module _ {A F R J : Type 0} (sys : Actors A F R J) (p : Path) (host : ℕ) (x : Part A F R) (d : Desk A F) (en : Entry F) (cs : List (Step × Child)) where
  paused_is : (f : F) (peek : Bool) (why : Pause R) → after_pause sys p host x d en f cs peek why ≡ paused_by sys.moved p host x d en (record { fields = f; children = cs }) peek why
  paused_is f peek (Go s) = refl
  paused_is f peek (Down s) = refl
  paused_is f peek Back = refl
  paused_is f peek (Over r) = refl

  pub stopped_is : (y : Left A F R) (looks : Bool) → after_stop sys p host x d en cs y looks ≡ stopped_by sys.moved p host x d en (record { fields = y.fields; children = cs }) (sys.peeks y.actor) y.pause looks
  stopped_is y true = refl
  stopped_is y false = ap Some (paused_is y.fields (sys.peeks y.actor) y.pause)

-- ---- at other hosts the column is as it was

apart_from : (h g : ℕ) → g ≢ h → nat_eq h g ≡ false
apart_from h g n = by_test (nat_eq h g) refl
  where
    by_test : (b : Bool) → nat_eq h g ≡ b → nat_eq h g ≡ false
    by_test true e = absurd (n (sym (eqb-true h g e)))
    by_test false e = e

-- a column that is as another one but at one host
abbrev pub Elsewhere : {F : Type 0} → ℕ → Column F → Column F → Type 0
Elsewhere h c c' = (g : ℕ) → g ≢ h → (c.store g ≡ c'.store g) × (c.gone g ≡ c'.gone g)

module _ {A F R : Type 0} (moved : R → Option (Path × ℕ)) (p : Path) (host : ℕ) (x : Part A F R) (d : Desk A F) (en : Entry F) (r : theory.Record F) (peek : Bool) where
  entry_else : (e : Entry F) → Elsewhere host x.column (with_entry x.column host (Some e))
  entry_else e g n = (sym (ap (λ b. cond b (Some e) (x.column.store g)) (apart_from host g n)), refl)

  departed_else : (to k : ℕ) → Elsewhere host x.column (column_left x.column host to k)
  departed_else to k g n = (sym (ap (λ b. cond b None (x.column.store g)) (apart_from host g n)), sym (ap (λ b. cond b (Some (record { to = to; number = k })) (x.column.gone g)) (apart_from host g n)))

  over_else : (e : Entry F) (o : R) (m : Option (Path × ℕ)) → Elsewhere host x.column (over_by p x host d e o m).column
  over_else e o None = entry_else e
  over_else e o (Some m) = by_place (m.1 == host)
    where
      by_place : (b : Bool) → Elsewhere host x.column (cond b (over_here x host d e o) (over_there p x host d e o m.1)).column
      by_place true = entry_else e
      by_place false = departed_else m.1 (suc e.moves)

  paused_else : (why : Pause R) → Elsewhere host x.column (paused_by moved p host x d en r peek why).column
  paused_else (Go s) = entry_else (into_child p host d en r.fields r.children s peek (hold_at d.event.held (p ++ s ∷ []))).1
  paused_else (Down s) = entry_else (into_child p host d en r.fields r.children s false (hold_at d.event.held (p ++ s ∷ []))).1
  paused_else Back = entry_else (with_body en (Some r))
  paused_else (Over o) = over_else (with_body en (Some r)) o (moved o)

  pub stopped_else : (why : Pause R) (looks : Bool) (y : Part A F R) → stopped_by moved p host x d en r peek why looks ≡ Some y → Elsewhere host x.column y.column
  stopped_else why false y e g n =
      let z = paused_else why g n in
      let same = some_same (paused_by moved p host x d en r peek why) y e in
      (z.0 ∙ ap (λ (u : Part A F R). u.column.store g) same, z.1 ∙ ap (λ (u : Part A F R). u.column.gone g) same)
  stopped_else (Go s) true y e g n = absurd (none_not e)
  stopped_else (Down s) true y e g n = absurd (none_not e)
  stopped_else Back true y e g n = absurd (none_not e)
  stopped_else (Over o) true y e g n =
      let z = entry_else en g n in
      let same = some_same (over_here x host d en o) y e in
      (z.0 ∙ ap (λ (u : Part A F R). u.column.store g) same, z.1 ∙ ap (λ (u : Part A F R). u.column.gone g) same)

-- ---- the mail and the record of a way into a child

pub into_is : {A : Type 0} (p : Path) (host : ℕ) (d : Desk A Fields) (en : Entry Fields) (r : theory.Record Fields) (s : Step) (peek : Bool) (o : Option Hold) →
    into_child p host d en r.fields r.children s peek o ≡ (send d (into host p r s peek o).0, with_body en (Some (into host p r s peek o).1))
into_is p host d en r s peek None = refl
into_is p host d en r s peek (Some h) = refl

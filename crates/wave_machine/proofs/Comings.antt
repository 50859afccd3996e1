-- Where a context comes to a host or goes from it, no other host has it, and no other ticket is ready there.
use Rattle.std.proofs.Common.{◌≡◌, ◌≢◌, ◌∙◌, inl, inr, ℕ, ◌+◌, true, false, List, Some, sym, ap, arith}
use Rattle.std.specs.Prelude.{slice_get}
use Rattle.std.proofs.lemmas.Option.{slice_get_within}
use Rattle.wave_base.specs.declared.path.Path.{Path}
use Rattle.wave_base.specs.declared.start.Start.{Start}
use Rattle.event_cells.specs.declared.cell.Cell.{Cell}
use Rattle.event_cells.specs.declared.status.Status.TheVariants as status
use Rattle.wave_states.specs.Labels.{Label, path_of, ticket_of}
use Rattle.wave_theory.proofs.Basics.{bool_cases, not_same, number_cases}
use Rattle.plan_actors.specs.Plans.{Plan, Fits, FitsStart}
use Rattle.wave_effects.specs.declared.actor.Actor.{Actor}
use Rattle.wave_effects.specs.Apart.{Moves}
use Rattle.wave_effects.specs.Machines.{IsReached, IsStood, Kept, Shows, TheState}
use Rattle.wave_machine.specs.inner.Updating.{IsAlone, has_at}
use Rattle.wave_machine.specs.inner.Listable.{CanList}
use Rattle.wave_machine.proofs.Births.{has_here, none_ready}
use Rattle.wave_machine.proofs.Ways.{has_elsewhere}
use Rattle.wave_machine.proofs.Owned as owned

module _ (m : Kept) (start : Start) (s : TheState) (shows : Shows m s) (list : CanList m.plan start s) where
  -- no two hosts have a context
  not_else : (p : Path) (h : ℕ) → has_at p (slice_get m.stores h) ≡ true → (h' : ℕ) → h' ≢ h → has_at p (slice_get m.stores h') ≡ false
  not_else p h here h' apart = elim (bool_cases (has_at p (slice_get m.stores h'))) [
    | inl too ↦ absurd (apart (list.owner.one p h' h (inl (sym (has_here m start s shows list p h') ∙ too)) (inl (sym (has_here m start s shows list p h) ∙ here))))
    | inr away ↦ away
  ]

-- what is known of each state that labels lead to
abbrev pub StatesList : Type 0
StatesList = (plan : Plan) (start : Start) (labels : List Label) (s : TheState) → Fits plan → FitsStart plan start → IsReached plan start labels s → CanList plan start s

module _ (lists : StatesList) (m m' : Kept) (l : Label) (more : ℕ) (on : IsStood m) (on' : IsStood m') (moves : Moves m m' l more) where
  abbrev p : Path
  p = path_of l.act

  list : CanList m.plan on.start on.state
  list = lists m.plan on.start on.stands.labels on.state on.stands.fits on.stands.begins on.stands.reached

  list' : CanList m'.plan on'.start on'.state
  list' = lists m'.plan on'.start on'.stands.labels on'.state on'.stands.fits on'.stands.begins on'.stands.reached

  same_at : (h : ℕ) → h ≢ l.host → has_at p (slice_get m'.stores h) ≡ has_at p (slice_get m.stores h)
  same_at h d = has_elsewhere m m' l more moves h p (λ both. d both.0)

  away_all : (n : Kept) → has_at p (slice_get n.stores l.host) ≡ false → ((h : ℕ) → h ≢ l.host → has_at p (slice_get n.stores h) ≡ false) → (h : ℕ) → has_at p (slice_get n.stores h) ≡ false
  away_all n here rest h = elim (number_cases h l.host) [ inl e ↦ ap (λ k. has_at p (slice_get n.stores k)) e ∙ here | inr d ↦ rest h (not_same h l.host d) ]

  still_ready : (i : ℕ) (c : Cell Actor) → m.first + i ≢ ticket_of l.act → slice_get m.cells i ≡ Some c → c.status ≡ status.Ready p → (c' : Cell Actor) × (slice_get m'.cells i ≡ Some c') × (c'.status ≡ status.Ready p)
  still_ready i c other there ready =
      let within = slice_get_within m.cells i c there in
      let many = moves.as_many in
      let x = owned.slice_some m'.cells i (omega (arith, within, many)) in
      (x.0, x.1, (moves.others.cells i c x.0 other there x.1).status ∙ ready)

  pub alone_here : has_at p (slice_get m'.stores l.host) ≢ has_at p (slice_get m.stores l.host) → IsAlone m l
  alone_here apart = elim (bool_cases (has_at p (slice_get m.stores l.host))) [ inl here ↦ leaves here (away' here) | inr away ↦ comes away (here' away) ]
    where
      away' : has_at p (slice_get m.stores l.host) ≡ true → has_at p (slice_get m'.stores l.host) ≡ false
      away' here = elim (bool_cases (has_at p (slice_get m'.stores l.host))) [ inl too ↦ absurd (apart (too ∙ sym here)) | inr gone ↦ gone ]

      here' : has_at p (slice_get m.stores l.host) ≡ false → has_at p (slice_get m'.stores l.host) ≡ true
      here' away = elim (bool_cases (has_at p (slice_get m'.stores l.host))) [ inl too ↦ too | inr gone ↦ absurd (apart (gone ∙ sym away)) ]

      leaves : has_at p (slice_get m.stores l.host) ≡ true → has_at p (slice_get m'.stores l.host) ≡ false → IsAlone m l
      leaves here gone =
          let rest = not_else m on.start on.state on.stands.shows list p l.host here in
          record {
            elsewhere = rest;
            none_ready = λ i c other there ready.
                let x = still_ready i c other there ready in
                none_ready m' on'.start on'.state on'.stands.shows list' p (away_all m' gone (λ h d. same_at h d ∙ rest h d)) i x.0 x.1 x.2;
          }

      comes : has_at p (slice_get m.stores l.host) ≡ false → has_at p (slice_get m'.stores l.host) ≡ true → IsAlone m l
      comes away here =
          let rest : (h : ℕ) → h ≢ l.host → has_at p (slice_get m.stores h) ≡ false = λ h d. sym (same_at h d) ∙ not_else m' on'.start on'.state on'.stands.shows list' p l.host here h d in
          record { elsewhere = rest; none_ready = λ i c other there ready. none_ready m on.start on.state on.stands.shows list p (away_all m away rest) i c there ready }

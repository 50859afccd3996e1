-- Drives: what the rule picks next, and what taking it leaves of the segments that are out.
use Rattle.std.proofs.Common.{◌≡◌, ◌≢◌, ◌∙◌, inl, inr, ℕ, zero, suc, ◌<◌, Bool, true, false, List, [], ◌∷◌, ◌++◌, length, is_some, Option, Some, None, refl, sym, ap, subst, arith}
use Rattle.std.specs.Prelude.{nat_lt, option_and_then, replicate, slice_get, slice_set}
use Rattle.std.proofs.lemmas.List.{length-replicate, length-set}
use Rattle.wave_base.specs.declared.outcome.EventResult.{EventResult}
use Rattle.wave_base.specs.declared.path.Path.{Path}
use Rattle.wave_base.specs.declared.pause.Pause.{Pause}
use Rattle.wave_base.specs.declared.script.Line.{Line}
use Rattle.wave_base.specs.declared.start.Start.{Start}
use Rattle.service_code.specs.declared.program.Program.{Program}
use Rattle.wave_states.specs.Actors.{Actors}
use Rattle.wave_states.specs.Canonical.{enabled_labels}
use Rattle.wave_states.specs.Labels.{Act, Label, Admit, Queue, Grant, Visit, Start as Begin, Stop, Free, Pass, Land, Commit}
use Rattle.wave_states.specs.Runs.{IsDrive, Rule, run}
use Rattle.wave_states.specs.States.{Hand, State}
use Rattle.wave_states.specs.Steps.{part_of, step}
use Rattle.wave_theory.proofs.Basics.{if_some, none_not, not_same, number_cases, some_same}
use Rattle.wave_theory.proofs.InHand.{hands_stay}
use Rattle.code_actor.specs.CodeActors.{Fields}
use Rattle.plan_actors.specs.PlanActors as actors
use Rattle.plan_actors.specs.PlanActors.{plan_actors}
use Rattle.plan_actors.specs.Plans.{Plan}
use Rattle.wave_labels.specs.declared.label.Act as program
use Rattle.wave_labels.specs.declared.label.Act.TheVariants as label
use Rattle.wave_labels.specs.Labels.{act_of}
use Rattle.wave_drives.specs.declared.ends.End.{End}
use Rattle.std.proofs.lemmas.Bool.Decides.{nat_tests}
use Rattle.wave_drives.specs.declared.rules.PickRule.{PickRule}
use Rattle.wave_drives.specs.declared.rules.PickRule.TheVariants as rule
use Rattle.wave_effects.specs.Kinds.{is_move, job_kind}
use Rattle.wave_drives.specs.Rules.{rule_number, rule_of}
use Rattle.wave_theory.specs.Drives.{Picks, RulesPick}
use Rattle.wave_theory.specs.Listed.{IsIn}
use Rattle.wave_theory.specs.Owners.{ByOwners, OneOwner}
use Rattle.wave_effects.specs.declared.lease.Lease.{Lease}
use Rattle.wave_effects.specs.Always.{Holds}
use Rattle.wave_effects.specs.Leases.{HasRun, StandsFor}
use Rattle.wave_effects.specs.Acts.{is_step}
use Rattle.wave_effects.specs.Machines.{IsEnabled, Keeps, Kept, Stands, Takes, TheState}
use Rattle.wave_states.specs.Owners.{IsOwner}
use Rattle.wave_theory.proofs.Frames.{option_some}
use Rattle.wave_effects.specs.Running.{CanStop, IsBack, IsInHand, Leases, Stops, stop_of}
use Rattle.wave_drives.specs.inner.Drivable.{CanDrive}
use Rattle.wave_drives.specs.Walks.{IsEnd, IsTaking, IsUnder, Leads}
use Rattle.wave_drives.specs.inner.Driving.{DrivesTo, IsDriving, first_state}
use Rattle.wave_effects.proofs.Headed.{admits, commits}
use Rattle.wave_effects.proofs.Opening.{left_by, free_found, grant_found, land_found, pass_found, queue_found, visit_found}
use Rattle.wave_effects.proofs.Parts.{set_same}
use Rattle.wave_effects.proofs.Stopped.{stopped_by}

-- ---- one label more

module _ {A F R J : Type 0} (sys : Actors A F R J) (workers hosts : ℕ) (rule : Rule A F R J) where
  pub drive_more : (ls : List Label) (x : ℕ) (s : State A F R J) (y : ℕ) (v : State A F R J) (l : Label) (u : State A F R J) (z : ℕ) → DrivesTo sys workers hosts rule x s ls y v → rule y v (enabled_labels sys workers hosts v) ≡ (z, Some l) → step sys workers v l ≡ Some u
      → DrivesTo sys workers hosts rule x s (ls ++ l ∷ []) z u
  drive_more [] x s y v l u z d picks takes =
      let pick : rule x s (enabled_labels sys workers hosts s) ≡ (z, Some l) = (λ i. rule (d.0 i) (d.1 i) (enabled_labels sys workers hosts (d.1 i))) ∙ picks in
      (ap (λ (r : ℕ × Option Label). r.1) pick, u, ap (λ w. step sys workers w l) d.1 ∙ takes, (ap (λ (r : ℕ × Option Label). r.0) pick, refl))
  drive_more (m ∷ ls) x s y v l u z d picks takes = (d.0, d.1, d.2, drive_more ls (rule x s (enabled_labels sys workers hosts s)).0 d.1 y v l u z d.3 picks takes)

  -- it is the rule's drive where nothing is left
  pub drive_done : (ls : List Label) (x : ℕ) (s : State A F R J) (y : ℕ) (v : State A F R J) → DrivesTo sys workers hosts rule x s ls y v → enabled_labels sys workers hosts v ≡ [] → IsDrive sys workers hosts rule x s ls
  unfolding IsDrive
  drive_done [] x s y v d none = ap (enabled_labels sys workers hosts) d.1 ∙ none
  drive_done (m ∷ ls) x s y v d none = (d.0, d.1, d.2, drive_done ls (rule x s (enabled_labels sys workers hosts s)).0 d.1 y v d.3 none)

  -- and a run
  pub drive_run : (ls : List Label) (x : ℕ) (s : State A F R J) (y : ℕ) (v : State A F R J) → DrivesTo sys workers hosts rule x s ls y v → run sys workers s ls ≡ Some v
  unfolding run
  drive_run [] x s y v d = ap Some d.1
  drive_run (m ∷ ls) x s y v d = ap (option_and_then (λ w. run sys workers w ls)) d.2 ∙ drive_run ls (rule x s (enabled_labels sys workers hosts s)).0 d.1 y v d.3

-- ---- hands

-- a label that is neither a Start nor a Stop leaves all hands
abbrev pub stays_calm : Act → Bool
stays_calm (Begin t p) = false
stays_calm (Stop t p) = false
stays_calm _ = true

module _ {A F R J : Type 0} (sys : Actors A F R J) (workers : ℕ) (s v : State A F R J) where
  calm_hands : (w host : ℕ) (a : Act) → stays_calm a ≡ true → step sys workers s (record { worker = w; host = host; act = a }) ≡ Some v → (u : ℕ) → v.hands u ≡ s.hands u
  calm_hands w host (Admit t) z e u = ap (λ (x : State A F R J). x.hands u) (sym (admits sys workers s v w host t e).gives)
  calm_hands w host (Commit t) z e u = ap (λ (x : State A F R J). x.hands u) (sym (commits sys workers s v w host t e).gives)
  calm_hands w host (Queue t k p) z e u =
      let left = left_by sys workers s v (record { worker = w; host = host; act = Queue t k p }) refl e in
      let calm = queue_found sys host (part_of s t p) left.bench t k p (s.hands w) left.found in
      ap (λ (x : State A F R J). x.hands u) (sym left.gives) ∙ set_same s.hands w left.bench.hand (calm.hand ∙ sym calm.idle) u
  calm_hands w host (Grant t p) z e u =
      let left = left_by sys workers s v (record { worker = w; host = host; act = Grant t p }) refl e in
      let calm = grant_found sys host (part_of s t p) left.bench t 0 p (s.hands w) left.found in
      ap (λ (x : State A F R J). x.hands u) (sym left.gives) ∙ set_same s.hands w left.bench.hand (calm.hand ∙ sym calm.idle) u
  calm_hands w host (Visit t k p) z e u =
      let left = left_by sys workers s v (record { worker = w; host = host; act = Visit t k p }) refl e in
      let calm = visit_found sys host (part_of s t p) left.bench t k p (s.hands w) left.found in
      ap (λ (x : State A F R J). x.hands u) (sym left.gives) ∙ set_same s.hands w left.bench.hand (calm.hand ∙ sym calm.idle) u
  calm_hands w host (Free t k p) z e u =
      let left = left_by sys workers s v (record { worker = w; host = host; act = Free t k p }) refl e in
      let calm = free_found sys host (part_of s t p) left.bench t k p (s.hands w) left.found in
      ap (λ (x : State A F R J). x.hands u) (sym left.gives) ∙ set_same s.hands w left.bench.hand (calm.hand ∙ sym calm.idle) u
  calm_hands w host (Pass t k p g) z e u =
      let left = left_by sys workers s v (record { worker = w; host = host; act = Pass t k p g }) refl e in
      let calm = pass_found sys host (part_of s t p) left.bench t k p g (s.hands w) left.found in
      ap (λ (x : State A F R J). x.hands u) (sym left.gives) ∙ set_same s.hands w left.bench.hand (calm.hand ∙ sym calm.idle) u
  calm_hands w host (Land t k p) z e u =
      let left = left_by sys workers s v (record { worker = w; host = host; act = Land t k p }) refl e in
      let calm = land_found sys host (part_of s t p) left.bench t k p (s.hands w) left.found in
      ap (λ (x : State A F R J). x.hands u) (sym left.gives) ∙ set_same s.hands w left.bench.hand (calm.hand ∙ sym calm.idle) u
  calm_hands w host (Begin t p) z e u = cc
  calm_hands w host (Stop t p) z e u = cc

-- ---- lists that were set at a place

set_there : {X : Type 0} (xs : List X) (i : ℕ) (x : X) → i < length xs → slice_get (slice_set xs i x) i ≡ Some x
set_there [] i x l = absurd (omega (arith, l))
set_there (y ∷ ys) zero x l = refl
set_there (y ∷ ys) (suc i) x l = set_there ys i x (omega (arith, l))

set_elsewhere : {X : Type 0} (xs : List X) (i j : ℕ) (x : X) → i ≢ j → slice_get (slice_set xs i x) j ≡ slice_get xs j
set_elsewhere [] i j x n = refl
set_elsewhere (y ∷ ys) zero zero x n = absurd (n refl)
set_elsewhere (y ∷ ys) zero (suc j) x n = refl
set_elsewhere (y ∷ ys) (suc i) zero x n = refl
set_elsewhere (y ∷ ys) (suc i) (suc j) x n = set_elsewhere ys i j x (λ e. n (ap suc e))

-- ---- where a run begins

pub first_under : (m : Kept) (plan : Plan) (start : Start) (ends : List (Option End)) → m.plan ≡ plan → ends ≡ replicate plan.workers None → Stands m start (first_state plan start) → IsUnder m ends start (first_state plan start)
first_under m plan start ends same none stands = record { stands = stands; as_many = ap length none ∙ length-replicate plan.workers None ∙ ap (λ (p : Plan). p.workers) (sym same); ends = λ w hand there. absurd (none_not there) }

-- ---- what was reserved for

module _ (m m₁ : Kept) (keeps : Keeps m m₁) (plan : m₁.plan ≡ m.plan) (l : Label) where
  pub keeps_enabled : IsEnabled m l → IsEnabled m₁ l
  keeps_enabled on = record {
    start = on.start;
    state = on.state;
    next = on.next;
    stands = keeps on.start on.state on.stands;
    enabled = subst (λ (p : Plan). step (plan_actors p.program) p.workers on.state l ≡ Some on.next) (sym plan) on.enabled;
  }

  pub keeps_takes : (m' : Kept) → Takes m₁ m' l → Takes m m' l
  keeps_takes m' takes start s s' stands e = takes start s s' (keeps start s stands) (subst (λ (p : Plan). step (plan_actors p.program) p.workers s l ≡ Some s') (sym plan) e)

pub enabled_of : (m : Kept) (ends : List (Option End)) (l : Label) → IsTaking m ends l → IsEnabled m l
enabled_of m ends l on = record { start = on.start; state = on.state; next = on.next; stands = on.under.stands; enabled = on.enabled }

-- ---- the labels

pub calm_leads : (m m' : Kept) (ends : List (Option End)) (l : Label) → stays_calm l.act ≡ true → Takes m m' l → m'.plan ≡ m.plan → Leads m ends l m' ends
calm_leads m m' ends l z takes plan start s s' under e = record {
  stands = takes start s s' under.stands e;
  as_many = under.as_many ∙ ap (λ (p : Plan). p.workers) (sym plan);
  ends = λ w hand there. subst (λ (p : Plan). IsEnd p.program w hand (slice_get ends w)) (sym plan) (under.ends w hand (sym (calm_hands (plan_actors m.plan.program) m.plan.workers s s' l.worker l.host l.act z e w) ∙ there));
}

pub step_is_calm : (a : program.Act) → is_step a ≡ true → stays_calm (act_of a) ≡ true
step_is_calm (label.Admit t) e = refl
step_is_calm (label.Queue k p) e = refl
step_is_calm (label.Grant t p) e = refl
step_is_calm (label.Visit k p) e = refl
step_is_calm (label.Start t p) e = cc
step_is_calm (label.Stop t p) e = cc
step_is_calm (label.Free k p) e = refl
step_is_calm (label.Pass k p g) e = refl
step_is_calm (label.Land k p) e = refl
step_is_calm (label.Commit t) e = refl

module _ (m m' : Kept) (ends : List (Option End)) (l : Label) (plan : m'.plan ≡ m.plan) (within : l.worker < length ends) where
  -- at other workers all is as it was
  pub others : (start : Start) (s s' : TheState) (o : Option End) → IsUnder m ends start s → step (plan_actors m.plan.program) m.plan.workers s l ≡ Some s' → (w : ℕ) (hand : Hand actors.Actor Fields) → (l.worker ≢ w) → s'.hands w ≡ Some hand
      → IsEnd m'.plan.program w hand (slice_get (slice_set ends l.worker o) w)
  others start s s' o under e w hand apart there =
      subst (λ (x : Option (Option End)). IsEnd m'.plan.program w hand x) (sym (set_elsewhere ends l.worker w o apart))
      (subst (λ (p : Plan). IsEnd p.program w hand (slice_get ends w)) (sym plan) (under.ends w hand (sym (hands_stay (plan_actors m.plan.program) m.plan.workers s s' l w e (λ k. apart (sym k))) ∙ there)))

  -- a segment begins, and is run
  pub begun_leads : Takes m m' l → (end : End) → end.lease.worker.0 ≡ l.worker
      → ((start : Start) (s s' : TheState) (hand : Hand actors.Actor Fields) → Stands m start s → step (plan_actors m.plan.program) m.plan.workers s l ≡ Some s' → s'.hands l.worker ≡ Some hand → HasRun m.plan.program hand end.lease end.pause)
      → Leads m ends l m' (slice_set ends l.worker (Some end))
  begun_leads takes end worker ran start s s' under e = record {
    stands = takes start s s' under.stands e;
    as_many = length-set ends l.worker (Some end) ∙ under.as_many ∙ ap (λ (p : Plan). p.workers) (sym plan);
    ends = λ w hand there. elim (number_cases l.worker w) [
      | inr apart ↦ others start s s' (Some end) under e w hand (not_same l.worker w apart) there
      | inl same ↦
          let here : s'.hands l.worker ≡ Some hand = ap s'.hands same ∙ there in
          let it : IsEnd m.plan.program l.worker hand (Some (Some end)) = (worker, ran start s s' hand under.stands e here) in
          subst (λ n. IsEnd m'.plan.program n hand (slice_get (slice_set ends l.worker (Some end)) n)) same
          (subst (λ (x : Option (Option End)). IsEnd m'.plan.program l.worker hand x) (sym (set_there ends l.worker (Some end) within))
          (subst (λ (p : Plan). IsEnd p.program l.worker hand (Some (Some end))) (sym plan) it))
    ];
  }

-- The Stop of a lease is the label that was picked: its worker, ticket and path are those of the hand, and no context has two owners.
module _ (m m' : Kept) (ends : List (Option End)) (end : End) (w host to t : ℕ) (p : Path) (plan : m'.plan ≡ m.plan) (within : w < length ends) (there : slice_get ends w ≡ Some (Some end)) where
  abbrev picked : Label
  picked = record { worker = w; host = host; act = Stop t p }

  pub back_of : (start : Start) (s s' : TheState) → IsUnder m ends start s → step (plan_actors m.plan.program) m.plan.workers s picked ≡ Some s' → IsBack m.plan.program s end.lease end.pause
  back_of start s s' under e =
      let of = stopped_by (plan_actors m.plan.program) m.plan.workers s s' w host t p e in
      let it : IsEnd m.plan.program w of.hand (Some (Some end)) = subst (λ (x : Option (Option End)). IsEnd m.plan.program w of.hand x) there (under.ends w of.hand of.there) in
      record { hand = of.hand; there = ap s.hands it.0 ∙ of.there; run = it.1 }

  pub stop_leads : Holds OneOwner → Holds ByOwners → CanStop m end.lease end.pause to → Stops m end.lease end.pause to m' → Leads m ends picked m' (slice_set ends w None)
  stop_leads one by_owners can stops start s s' under e =
      let of = stopped_by (plan_actors m.plan.program) m.plan.workers s s' w host t p e in
      let back = back_of start s s' under e in
      let it : IsEnd m.plan.program w of.hand (Some (Some end)) = subst (λ (x : Option (Option End)). IsEnd m.plan.program w of.hand x) there (under.ends w of.hand of.there) in
      let other = option_some (step (plan_actors m.plan.program) m.plan.workers s (stop_of end.lease to)) (can start s under.stands back) in
      let owns = by_owners m start s under.stands in
      let path : end.lease.path ≡ p = sym (it.1).path ∙ of.path in
      let ticket : end.lease.ticket.0 ≡ t = sym (it.1).ticket ∙ of.ticket in
      let same : to ≡ host = (one m start s under.stands).one p to host (subst (λ q. IsOwner s q to) path (owns (stop_of end.lease to) other.0 other.1).0) (owns picked s' e).0 in
      let label : picked ≡ stop_of end.lease to = λ i. record { worker = sym it.0 i; host = sym same i; act = Stop (sym ticket i) (sym path i) } in
      let taking : step (plan_actors m.plan.program) m.plan.workers s (stop_of end.lease to) ≡ Some s' = ap (step (plan_actors m.plan.program) m.plan.workers s) (sym label) ∙ e in
      record {
        stands = stops start s s' under.stands back taking;
        as_many = length-set ends w None ∙ under.as_many ∙ ap (λ (x : Plan). x.workers) (sym plan);
        ends = λ v hand at. elim (number_cases w v) [
          | inr apart ↦ others m m' ends picked plan within start s s' None under e v hand (not_same w v apart) at
          | inl is ↦ absurd (none_not (sym of.empty ∙ ap s'.hands is ∙ at))
        ];
      }

-- ---- a segment that begins

module _ (m m₁ : Kept) (keeps : Keeps m m₁) (plan : m₁.plan ≡ m.plan) (l : Label) (lease : Lease) (leases : Leases m₁ l lease) where
  in_hand : (start : Start) (s s' : TheState) → Stands m start s → step (plan_actors m.plan.program) m.plan.workers s l ≡ Some s' → IsInHand m.plan.program lease (s'.hands l.worker)
  in_hand start s s' stands e =
      subst (λ (p : Plan). IsInHand p.program lease (s'.hands l.worker)) plan
      (leases start s s' (keeps start s stands) (subst (λ (p : Plan). step (plan_actors p.program) p.workers s l ≡ Some s') (sym plan) e))

  pub lease_ran : (left : Lease) (why : Pause) → ((hand : Hand actors.Actor Fields) → StandsFor m.plan.program lease hand → HasRun m.plan.program hand left why)
      → (start : Start) (s s' : TheState) (hand : Hand actors.Actor Fields) → Stands m start s → step (plan_actors m.plan.program) m.plan.workers s l ≡ Some s' → s'.hands l.worker ≡ Some hand → HasRun m.plan.program hand left why
  lease_ran left why ran start s s' hand stands e there = ran hand (subst (λ (o : Option (Hand actors.Actor Fields)). IsInHand m.plan.program lease o) there (in_hand start s s' stands e))

pub within_ends : (m : Kept) (ends : List (Option End)) (l : Label) → IsTaking m ends l → l.worker < length ends
unfolding step
within_ends m ends l on =
    let i = if_some (nat_lt l.worker m.plan.workers) _ on.next on.enabled in
    let many = on.under.as_many in
    let low = below_of l.worker m.plan.workers i.0 in
    omega (arith, many, low)
  where
    below_of : (a b : ℕ) → nat_lt a b ≡ true → a < b
    below_of a b e = grind (arith, nat_tests)

-- a worker that runs a segment has its end
pub has_end : (program : Program) (w : ℕ) (hand : Hand actors.Actor Fields) (o : Option End) → IsEnd program w hand (Some o) → is_some o ≡ true
has_end program w hand (Some e) h = refl
has_end program w hand None h = absurd h

-- ---- the whole drive

pub picks_of : RulesPick actors.Actor Fields EventResult Line → (r : PickRule) → Picks (rule_of r)
picks_of all (rule.Seed x) = all.by_seed
picks_of all rule.Oldest = all.by_oldest
picks_of all rule.Newest = all.by_newest
picks_of all rule.Movers = all.by_movers (λ line. is_move (job_kind line))
picks_of all rule.MailLast = all.by_mail_last

module _ (r : Rule actors.Actor Fields EventResult Line) (picks : Picks r) (x : ℕ) (s : TheState) where
  pick_in : (ls : List Label) (l : Label) → (r x s ls).1 ≡ Some l → IsIn ls l
  pick_in [] l e = absurd (none_not (sym (picks.none x s) ∙ e))
  pick_in (a ∷ ls) l e = let p = picks.one_of x s a ls in subst (IsIn (a ∷ ls)) (some_same p.0 l (sym p.1 ∙ e)) p.2

  pick_none : (ls : List Label) → (r x s ls).1 ≡ None → ls ≡ []
  pick_none [] e = refl
  pick_none (a ∷ ls) e = let p = picks.one_of x s a ls in absurd (none_not (sym e ∙ p.1))

module _ (all : RulesPick actors.Actor Fields EventResult Line) (m : Kept) (ends : List (Option End)) (start : Start) (r : PickRule) (x z : ℕ) (s : TheState) (under : IsUnder m ends start s) (drives : CanDrive m.plan start s) where
  abbrev listed_now : List Label
  listed_now = enabled_labels (plan_actors m.plan.program) m.plan.workers m.plan.script.hosts s

  -- what is picked can be taken
  pub next_state : (l : Label) → rule_of r x s listed_now ≡ (z, Some l) → (u : TheState) × (step (plan_actors m.plan.program) m.plan.workers s l ≡ Some u)
  next_state l e = option_some (step (plan_actors m.plan.program) m.plan.workers s l) ((drives.listed l).0 (pick_in (rule_of r) (picks_of all r) x s listed_now l (ap (λ (p : ℕ × Option Label). p.1) e))).0

  pub next_taking : (l : Label) → rule_of r x s listed_now ≡ (z, Some l) → IsTaking m ends l
  next_taking l e = let u = next_state l e in record { start = start; state = s; next = u.0; under = under; enabled = u.1 }

  pub nothing_left : rule_of r x s listed_now ≡ (z, None) → listed_now ≡ []
  nothing_left e = pick_none (rule_of r) (picks_of all r) x s listed_now (ap (λ (p : ℕ × Option Label). p.1) e)

-- one label more of a drive
pub driving_more : (all : RulesPick actors.Actor Fields EventResult Line) (m m' : Kept) (plan : Plan) (start : Start) (r : PickRule) (x z : ℕ) (ls : List Label) (ends ends' : List (Option End)) (l : Label) (d : IsDriving m plan start r x ls ends)
    → CanDrive m.plan start d.state → rule_of r x d.state (enabled_labels (plan_actors m.plan.program) m.plan.workers m.plan.script.hosts d.state) ≡ (z, Some l) → Leads m ends l m' ends' → m'.plan ≡ m.plan
    → IsDriving m' plan start r z (ls ++ l ∷ []) ends'
driving_more all m m' plan start r x z ls ends ends' l d can picks leads same =
    let u = next_state all m ends start r x z d.state d.under can l picks in
    record {
      same = same ∙ d.same;
      state = u.0;
      under = leads start d.state u.0 d.under u.1;
      drives = drive_more (plan_actors plan.program) plan.workers plan.script.hosts (rule_of r) ls (rule_number r) (first_state plan start) x d.state l u.0 z d.drives
          (subst (λ (p : Plan). rule_of r x d.state (enabled_labels (plan_actors p.program) p.workers p.script.hosts d.state) ≡ (z, Some l)) d.same picks)
          (subst (λ (p : Plan). step (plan_actors p.program) p.workers d.state l ≡ Some u.0) d.same u.1);
    }

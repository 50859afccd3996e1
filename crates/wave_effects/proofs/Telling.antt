-- What a machine gives in the end is what its finished state tells.
use Rattle.std.proofs.Common.{◌≡◌, ◌∙◌, ◌⊎◌, inl, inr, ℕ, suc, ◌+◌, ◌-◌, true, List, [], ◌∷◌, ◌++◌, length, map, Option, Some, None, is_some, refl, sym, ap, ap₂, subst, true≢false, arith}
use Rattle.std.specs.FinMap as table
use Rattle.std.specs.Prelude.{if◌then◌else◌, option_map, slice_get, take, All}
use Rattle.std.specs.List.{list_any}
use Rattle.std.specs.List.Sorted.{IsStrictlySortedBy}
use Rattle.std.proofs.lemmas.List.{append-nil, length-map}
use Rattle.std.proofs.lemmas.List.Elements.{All-weaker}
use Rattle.std.proofs.lemmas.Option.{slice_get-map, slice_get_within}
use Rattle.std.proofs.Math.Seq.{take-append_seam}
use Rattle.wave_base.specs.declared.finished.Finished.{Finished as Told}
use Rattle.wave_base.specs.declared.finished.Place.{Place}
use Rattle.wave_base.specs.declared.outcome.EventResult.{EventResult}
use Rattle.wave_base.specs.declared.path.Path.{Path}
use Rattle.wave_base.specs.declared.record.Record.{Record}
use Rattle.wave_base.specs.declared.script.Line.{Line}
use Rattle.wave_base.specs.declared.script.Line.TheVariants.{Request, Move, Snapshot}
use Rattle.wave_base.specs.declared.shot.Shot.{Shot}
use Rattle.wave_base.specs.declared.start.Start.{Start}
use Rattle.wave_base.specs.Fold.{Head, created_lines, first_head, created_tickets}
use Rattle.wave_base.specs.Paths.{path_cmp, path_eq}
use Rattle.script_fold.specs.Lines.{name_of}
use Rattle.script_fold.specs.Runs.{ticket_of}
use Rattle.context_queue.specs.declared.entry.Entry.{Entry}
use Rattle.context_queue.specs.Entries.{StandsFor, record_of}
use Rattle.host_map.specs.Stores.{Stores, Matches, has}
use Rattle.wave_states.specs.Begins.{is_root}
use Rattle.wave_states.specs.Labels.{Label}
use Rattle.wave_states.specs.Runs.{Finished}
use Rattle.wave_theory.specs.Always.{AlwaysBy}
use Rattle.wave_theory.specs.Complete.{Complete, IsComplete}
use Rattle.wave_theory.specs.Finals.{Loads}
use Rattle.wave_theory.proofs.Basics.{map_some, none_not, options}
use Rattle.plan_actors.specs.Finishing.{IsLoad, IsOn, IsShot, Tells, path_of, path_shot}
use Rattle.plan_actors.specs.PlanActors.{plan_actors, plan_kind}
use Rattle.plan_actors.specs.Plans.{Plan, Fits, FitsStart, Setting, begin_in}
use Rattle.plan_actors.proofs.Meeting.{begin_fits, plan_fits}
use Rattle.plan_actors.proofs.Owing.{setting_of}
use Rattle.wave_effects.specs.declared.kept.Settled.{Settled}
use Rattle.wave_effects.specs.Kinds.{job_kind, name_in}
use Rattle.wave_effects.specs.inner.Endings.{AreHome, AreServed, IsLoadOf, IsPlace, IsShotOf, Paired}
use Rattle.wave_effects.specs.Machines.{IsReached, Kept, Known, Shows, Stands, TheState, created_in}
use Rattle.wave_effects.proofs.Ending.{Completes, all_from, some_at, so_done}
use Rattle.wave_effects.proofs.Headings.{Heads, known_is}
use Rattle.wave_effects.proofs.Reached.{has_it, host_is}
use Rattle.wave_effects.proofs.StoreParts.{TheEntry}
use Rattle.wave_effects.proofs.Taking.{Laws, now}

-- the law of loads, as it is given
abbrev pub LoadsAre : Type 0
LoadsAre = (plan : Plan) (start : Start) (labels : List Label) (s : TheState) → Fits plan → FitsStart plan start → IsReached plan start labels s → Loads (plan_kind plan.program plan.script.hosts) plan.workers (begin_in plan start) plan.script.batches s

-- the kind of a line tells its event
pub name_is : (l : Line) → name_in (job_kind l) ≡ name_of l
name_is (Request call) = refl
name_is (Move p h) = refl
name_is Snapshot = refl

names_of : (ls : List Line) → map name_in (map job_kind ls) ≡ map name_of ls
names_of [] = refl
names_of (l ∷ ls) = ap₂ (λ x xs. x ∷ xs) (name_is l) (names_of ls)

-- what a store has stands for what the theory has there
matched : (o : Option Entry) (r : Option TheEntry) (e : Entry) → Matches o r → o ≡ Some e → (en : TheEntry) × (r ≡ Some en) × StandsFor e en
matched None r e m f = absurd (none_not f)
matched (Some x) None e m f = absurd m
matched (Some x) (Some en) e m f = (en, refl, subst (λ z. StandsFor z en) (same x e f) m)
  where
    same : (a b : Entry) → Some a ≡ Some b → a ≡ b
    same a b h = cc

body_there : (o : Option Record) → is_some (option_map record_of o) ≡ true → is_some o ≡ true
body_there None e = absurd (true≢false (sym e))
body_there (Some r) e = refl

there_is : (o : Option Entry) → is_some o ≡ true → (e : Entry) × (o ≡ Some e)
there_is None e = absurd (true≢false (sym e))
there_is (Some x) e = (x, refl)

empty_is : (xs : List Line) → slice_get xs 0 ≡ None → xs ≡ []
empty_is [] e = refl
empty_is (x ∷ xs) e = cc

lines_created : (rs : List Settled) → map created_lines (map (λ x. x.result) rs) ≡ created_in rs
lines_created [] = refl
lines_created (r ∷ rs) = ap (λ cs. created_lines r.result ∷ cs) (lines_created rs)

-- lists that are paired have the same of each
maps_same : {X Y Z : Type 0} (R : X → Y → Type 0) (f : X → Z) (g : Y → Z) → ((x : X) (y : Y) → R x y → g y ≡ f x) → (xs : List X) (ys : List Y) → Paired R xs ys → map g ys ≡ map f xs
maps_same R f g same [] [] p = refl
maps_same R f g same [] (y ∷ ys) p = absurd (omega (arith, p.count))
maps_same R f g same (x ∷ xs) [] p = absurd (omega (arith, p.count))
maps_same R f g same (x ∷ xs) (y ∷ ys) p = ap₂ (λ a bs. a ∷ bs) (same x y (p.each 0 x y refl refl)) (maps_same R f g same xs ys (record { count = omega (arith, p.count); each = λ i a b e h. p.each (suc i) a b e h }))

module _ (laws : Laws) (heads : Heads) (completes : Completes) (loads_are : LoadsAre) (m : Kept) (start : Start) (s : TheState) (stands : Stands m start s) (finished : Finished (plan_actors m.plan.program) m.plan.workers s) where
  h : Shows m s
  h = stands.shows

  known : Known m.plan start s
  known = now laws m start s stands

  complete : IsComplete (plan_kind m.plan.program m.plan.script.hosts) (begin_in m.plan start) m.plan.script.batches s
  complete = completes m.plan start stands.labels s stands.fits stands.begins stands.reached finished

  first_is : m.first ≡ start.next.0
  first_is = sym h.head.before ∙ (heads m.plan start stands.labels s stands.fits stands.begins stands.reached).first

  -- what the theory has where a store has an entry
  entry_is : (host : ℕ) (x : Stores) (p : Path) (e : Entry) → slice_get m.stores host ≡ Some x → table.get x.store p ≡ Some e → (en : TheEntry) × ((s.columns p).store host ≡ Some en) × StandsFor e en
  entry_is host x p e at found = matched (table.get x.store p) ((s.columns p).store host) e (h.stores.each host x at p).entry found

  pub home : AreHome m.stores
  home host x p e at found =
      let en = entry_is host x p e at found in
      let there = known.agree.at_home p en.0 (inl (host, en.1)) (complete.no_holders p host en.0 en.1) in
      body_there e.body (ap is_some (sym en.2.body) ∙ there)

  pub served : AreServed m.stores m.first
  served host x e at found =
      let en = entry_is host x [] e at found in
      let load = loads_are m.plan start stands.labels s stands.fits stands.begins stands.reached finished [] en.0 (inl (host, en.1)) in
      omega (arith, load, en.2.served, first_is)

  on_it : (host : ℕ) (x : Stores) (p : Path) → slice_get m.stores host ≡ Some x → has p x ≡ true → IsOn s p host
  on_it host x p at e =
      let found = there_is (table.get x.store p) e in
      let en = entry_is host x p found.0 at found.1 in
      ap is_some en.1

  all_on : (p : Path) (host : ℕ) → IsOn s p host → (x : Stores) × (slice_get m.stores host ≡ Some x) × (has p x ≡ true)
  all_on p host on = by_entry (options ((s.columns p).store host))
    where
      by_entry : ((s.columns p).store host ≡ None) ⊎ ((en : TheEntry) × ((s.columns p).store host ≡ Some en)) → (x : Stores) × (slice_get m.stores host ≡ Some x) × (has p x ≡ true)
      by_entry (inl none) = absurd (true≢false (sym on ∙ ap is_some none))
      by_entry (inr en) =
          let within = host_is (plan_kind m.plan.program m.plan.script.hosts) m.plan.workers (begin_in m.plan start) m.plan.script.batches s known.bounds p host en.0 en.1 in
          let many = h.stores.as_many in
          let x = some_at m.stores host (omega (arith, within, many)) in
          (x.0, x.1, has_it (table.get x.0.store p) ((s.columns p).store host) en.0 (h.stores.each host x.0 x.1 p).entry en.1)

  names_are : map name_in m.settled.kinds ≡ map name_of s.head.known
  names_are =
      let lines = h.head.lines in
      let none = (so_done laws heads m start s stands completes finished).none_next in
      let waiting : m.head.waiting ≡ [] = empty_is m.head.waiting none in
      let all : s.head.known ≡ lines = known_is m s h ∙ ap (λ xs. lines ++ xs) waiting ∙ append-nil lines in
      ap (map name_in) (h.results.ledger.kinds ∙ ap (λ xs. map job_kind (take m.head.admitted xs)) (known_is m s h) ∙ ap (λ n. map job_kind (take n (lines ++ m.head.waiting))) (sym h.head.as_many) ∙ ap (map job_kind) (take-append_seam lines m.head.waiting ∙ sym all)) ∙ names_of s.head.known

  module _ (f : Told) (results : f.results ≡ map (λ (x : Settled). x.result) m.settled.results) (made_is : f.made ≡ map (λ (x : Settled). x.made) m.settled.results) (names : f.names ≡ map name_in m.settled.kinds) (ordered : IsStrictlySortedBy path_cmp (map path_of f.places))
      (there : All (IsPlace m.stores) f.places) (all_there : (host : ℕ) (x : Stores) (p : Path) → slice_get m.stores host ≡ Some x → has p x ≡ true → list_any (path_eq p) (map path_of f.places) ≡ true)
      (shots : Paired (IsShotOf m.stores) f.places f.shots) (loads : Paired (IsLoadOf m.stores m.first) f.places f.loads) where
    one_result : (i : ℕ) (r : EventResult) → slice_get f.results i ≡ Some r → (s.cells (start.next.0 + i)).result ≡ Some r
    one_result i r e =
        let x = map_some (λ (y : Settled). y.result) (slice_get m.settled.results i) r (sym (slice_get-map (λ (y : Settled). y.result) m.settled.results i) ∙ ap (λ xs. slice_get xs i) (sym results) ∙ e) in
        ap (λ n. (s.cells (n + i)).result) (sym first_is) ∙ h.results.settled i x.0 x.1 ∙ ap Some (sym x.2)

    all_made : f.made ≡ map (map ticket_of) (created_tickets start.next.0 (first_head m.plan.script.batches) (map created_lines f.results))
    all_made = made_is ∙ h.results.ledger.made ∙ ap₂ (λ n cs. map (map ticket_of) (created_tickets n (first_head m.plan.script.batches) cs)) first_is (sym (ap (map created_lines) results ∙ lines_created m.settled.results))

    one_shot : (i : ℕ) (x : Shot) → slice_get f.shots i ≡ Some x → IsShot s x
    one_shot i x e =
        let place = some_at f.places i (omega (arith, slice_get_within f.shots i x e, shots.count)) in
        let is = shots.each i place.0 x place.1 e in
        let en = entry_is place.0.host.0 is.there.store place.0.path is.entry is.there.stored is.there.entry in
        record {
          host = place.0.host.0;
          entry = en.0;
          body = record_of is.body;
          stored = ap (λ p. (s.columns p).store place.0.host.0) is.path ∙ en.1;
          home = en.2.body ∙ ap (option_map record_of) is.home;
          fields = is.fields;
        }

    one_load : (i : ℕ) (x : Place) (load : ℕ) → slice_get f.places i ≡ Some x → slice_get f.loads i ≡ Some load → IsLoad s start x.path load
    one_load i x load e g =
        let is = loads.each i x load e g in
        let en = entry_is x.host.0 is.there.store x.path is.entry is.there.stored is.there.entry in
        record { host = x.host.0; entry = en.0; stored = en.1; served = en.2.served ∙ is.served ∙ ap (λ n. (if is_root x.path then n - 1 else 0) + load) first_is }

    pub tells : Tells s start m.plan.script.batches f
    tells = record {
      count = ap length results ∙ length-map m.settled.results (λ (x : Settled). x.result) ∙ h.results.as_many ∙ ap (λ (x : Head Line). x.done) (sym h.head.head);
      results = one_result;
      made_is = all_made;
      names = names ∙ names_are;
      ordered = ordered;
      all_there = λ p host on. let x = all_on p host on in all_there host x.0 p x.1 x.2;
      places = All-weaker (IsPlace m.stores) (λ (x : Place). IsOn s x.path x.host.0) (λ x is. on_it x.host.0 is.store x.path is.stored is.has_it) f.places there;
      same_paths = maps_same (IsShotOf m.stores) path_of path_shot (λ x y r. r.path) f.places f.shots shots;
      shots = all_from (IsShot s) f.shots one_shot;
      as_many = loads.count;
      loads = one_load;
    }

-- the laws as the theory has them
pub completes_by : ((k : Setting) → AlwaysBy (plan_kind k.program k.hosts) Complete) → Completes
completes_by law plan start labels s fits begins reached = law (setting_of plan.program fits.fit fits.verified plan.script.hosts) plan.workers (begin_in plan start) plan.script.batches (begin_fits plan fits start begins) (plan_fits plan fits) labels s reached

pub loads_by : ((k : Setting) → AlwaysBy (plan_kind k.program k.hosts) Loads) → LoadsAre
loads_by law plan start labels s fits begins reached = law (setting_of plan.program fits.fit fits.verified plan.script.hosts) plan.workers (begin_in plan start) plan.script.batches (begin_fits plan fits start begins) (plan_fits plan fits) labels s reached

-- pairs of equal lists
pub paired_as : {X Y : Type 0} (R : List Stores → X → Y → Type 0) (a b : List Stores) (xs xs' : List X) (ys ys' : List Y) → a ≡ b → xs ≡ xs' → ys ≡ ys' → Paired (R a) xs ys → Paired (R b) xs' ys'
paired_as R a b xs xs' ys ys' e f g p = subst (λ zs. Paired (R b) xs' zs) g (subst (λ zs. Paired (R b) zs ys) f (subst (λ c. Paired (R c) xs ys) e p))

-- What a finished state tells is what the script's fold by code gives.
use Rattle.std.proofs.Common.{◌≡◌, ◌≤◌, ◌<◌, ℕ, zero, suc, ◌+◌, ◌-◌, inl, inr, true, if◌then◌else◌, List, [], ◌∷◌, length, map, Some, None, slice_get, refl, sym, ◌∙◌, ap, ap₂, subst, arith}
use Rattle.std.specs.Prelude.{All, is_some}
use Rattle.std.specs.List.{list_any, AllByRecursion}
use Rattle.std.proofs.lemmas.List.Elements.{recursion_from_All, All-from_recursion}
use Rattle.std.proofs.lemmas.Option.{slice_get_within}
use Rattle.wave_base.specs.declared.finished.Finished.{Finished}
use Rattle.wave_base.specs.declared.finished.Place.{Place}
use Rattle.wave_base.specs.declared.outcome.EventResult.{EventResult}
use Rattle.wave_base.specs.declared.path.Path.{Path}
use Rattle.wave_base.specs.declared.script.Line.{Line}
use Rattle.wave_base.specs.declared.shot.Shot.{Shot}
use Rattle.wave_base.specs.declared.start.Start.{Start}
use Rattle.wave_base.specs.Fold.{Head, Progress, first_head, next_job, with_job, created_tickets, created_lines}
use Rattle.std.specs.List.Sorted.{IsStrictlySortedBy}
use Rattle.wave_base.specs.Paths.{path_eq, path_cmp}
use Rattle.wave_base.specs.Places.{load_of}
use Rattle.wave_base.specs.Tree.{Tree, there, shots}
use Rattle.resolved_service.specs.Jobs.{shot_of}
use Rattle.script_fold.specs.Lines.{name_of}
use Rattle.script_fold.specs.Runs.{after_jobs, whole_run, hosts_after, ticket_of, place_of, finished_of}
use Rattle.wave_states.specs.Begins.{is_root}
use Rattle.wave_states.specs.Alone.{fold_alone, places_alone, run_alone}
use Rattle.wave_states.specs.States.{State, Entry, Record}
use Rattle.wave_theory.specs.Always.{served_before}
use Rattle.wave_theory.specs.Complete.{IsComplete}
use Rattle.wave_theory.specs.Numbers.{HasEntry}
use Rattle.wave_theory.specs.Results.{Results, Tickets}
use Rattle.wave_theory.proofs.Basics.{options, none_not, some_same, path_self}
use Rattle.wave_theory.proofs.Paths.{or_left, or_right}
use Rattle.wave_theory.proofs.Folds.{with_done_done}
use Rattle.code_actor.specs.CodeActors.{Fields}
use Rattle.plan_actors.specs.Calls.{code_ran}
use Rattle.plan_actors.specs.Finishing.{path_of, path_shot, IsOn, IsShot, IsLoad, Tells}
use Rattle.plan_actors.specs.PlanActors.{Actor, plan_actors, plan_kind}
use Rattle.plan_actors.specs.Plans.{Plan, Fits, FitsStart, begin_in}
use Rattle.plan_actors.proofs.Meeting.{good, hosts_paths, folds_meet, places_meet, whole_meets}
use Rattle.plan_actors.proofs.Order.{at_path, sorted_same}

-- lists of one length that have the same at each place are the same
lists_same : {X : Type 0} (xs ys : List X) → length xs ≡ length ys → ((i : ℕ) (x y : X) → slice_get xs i ≡ Some x → slice_get ys i ≡ Some y → x ≡ y) → xs ≡ ys
lists_same [] [] e f = refl
lists_same [] (y ∷ ys) e f = absurd (omega (arith, e))
lists_same (x ∷ xs) [] e f = absurd (omega (arith, e))
lists_same (x ∷ xs) (y ∷ ys) e f = ap₂ (λ a b. a ∷ b) (f 0 x y refl refl) (lists_same xs ys (omega (arith, e)) (λ i x y g h. f (suc i) x y g h))

map_twice : {X Y Z : Type 0} (f : Y → Z) (g : X → Y) (xs : List X) → map f (map g xs) ≡ map (λ x. f (g x)) xs
map_twice f g [] = refl
map_twice f g (x ∷ xs) = ap (λ ys. f (g x) ∷ ys) (map_twice f g xs)

-- a list whose items are known by their paths
by_paths : {X : Type 0} (f : X → Path) (g : Path → X) (xs : List X) → AllByRecursion (λ x. x ≡ g (f x)) xs → xs ≡ map g (map f xs)
by_paths f g [] h = refl
by_paths f g (x ∷ xs) h = ap₂ (λ y ys. y ∷ ys) h.0 (by_paths f g xs h.1)

all_in : {X : Type 0} (P Q : X → Type 0) → ((x : X) → P x → Q x) → (xs : List X) → AllByRecursion P xs → AllByRecursion Q xs
all_in P Q f [] h = tt
all_in P Q f (x ∷ xs) h = (f x h.0, all_in P Q f xs h.1)

module _ (plan : Plan) (fits : Fits plan) (start : Start) (begins : FitsStart plan start) (s : State Actor Fields EventResult Line)
    (complete : IsComplete (plan_kind plan.program plan.script.hosts) (begin_in plan start) plan.script.batches s)
    (tickets : Tickets (plan_kind plan.program plan.script.hosts) (begin_in plan start) plan.script.batches s)
    (results : Results (plan_kind plan.program plan.script.hosts) (begin_in plan start) plan.script.batches s)
    (loads : (p : Path) (en : Entry Fields) → HasEntry s p en → en.served ≡ served_before (plan_kind plan.program plan.script.hosts) (begin_in plan start) plan.script.batches p + load_of (fold_alone (plan_actors plan.program) (begin_in plan start) plan.script.batches s.head.done).entered p) where
  abbrev fold : ℕ → Progress Fields EventResult Line
  fold n = fold_alone (plan_actors plan.program) (begin_in plan start) plan.script.batches n

  abbrev at : ℕ → Progress Fields EventResult Line
  at n = after_jobs (code_ran plan.program) plan.program.shape start plan.script n

  abbrev pub whole : Progress Fields EventResult Line
  whole = whole_run (code_ran plan.program) plan.program.shape start plan.script

  done_is : (fold s.head.done).head.done ≡ s.head.done
  done_is = ap (λ (h : Head Line). h.done) (sym tickets.head_is)

  -- no job is left
  pub none_left : next_job (fold s.head.done).head ≡ None
  none_left = elim (options (next_job (fold s.head.done).head)) [
    | inl z ↦ z
    | inr z ↦ absurd (one_more s.head.done (fold s.head.done).head.done (fold (suc s.head.done)).head.done done_is (goes z.0 z.1) (complete.committed (suc s.head.done)))
  ]
    where
      goes : (j : Line) → next_job (fold s.head.done).head ≡ Some j → (fold (suc s.head.done)).head.done ≡ suc (fold s.head.done).head.done
      goes j e = ap (λ o. (with_job (suc (start.next.0 - 1)) (run_alone (plan_actors plan.program)) created_lines (fold s.head.done) o).head.done) e
          ∙ with_done_done (fold s.head.done).head (created_lines (run_alone (plan_actors plan.program) (suc (start.next.0 - 1) + (fold s.head.done).head.done) (fold s.head.done).tree j).result)

      one_more : (d e f : ℕ) → e ≡ d → f ≡ suc e → f ≤ d → ⊥
      one_more d e f g h l = omega (arith, g, h, l)

  pub fold_whole : fold s.head.done ≡ whole
  fold_whole = whole_meets plan fits start begins s.head.done none_left

  at_whole : at s.head.done ≡ whole
  at_whole = sym (folds_meet plan fits start begins s.head.done) ∙ fold_whole

  head_whole : s.head ≡ whole.head
  head_whole = tickets.head_is ∙ ap (λ (w : Progress Fields EventResult Line). w.head) fold_whole

  count_whole : length whole.results ≡ s.head.done
  count_whole = ap (λ (w : Progress Fields EventResult Line). length w.results) (sym at_whole) ∙ (good plan fits start begins s.head.done).results
      ∙ ap (λ (w : Progress Fields EventResult Line). w.head.done) (sym (folds_meet plan fits start begins s.head.done)) ∙ done_is

  places_whole : places_alone (plan_actors plan.program) (begin_in plan start) plan.script.batches s.head.done ≡ hosts_after start whole
  places_whole = places_meet plan fits start begins s.head.done ∙ ap (hosts_after start) at_whole

  paths_whole : (hosts_after start whole).paths ≡ whole.tree.paths
  paths_whole = subst (λ (w : Progress Fields EventResult Line). (hosts_after start w).paths ≡ w.tree.paths) at_whole (hosts_paths plan fits start begins s.head.done)

  tree_whole : (fold s.head.done).tree ≡ whole.tree
  tree_whole = ap (λ (w : Progress Fields EventResult Line). w.tree) fold_whole

  -- the host of a context, by the fold
  on_host : (p : Path) (host : ℕ) → IsOn s p host → host ≡ (hosts_after start whole).fields p
  on_host p host e = complete.places p host (inl e) ∙ ap (λ (t : Tree ℕ). t.fields p) places_whole

  module _ (f : Finished) (t : Tells s start plan.script.batches f) where
    results_are : f.results ≡ whole.results
    results_are = lists_same f.results whole.results (t.count ∙ sym count_whole) one
      where
        firsts : suc (start.next.0 - 1) ≡ start.next.0
        firsts = omega (arith, begins.first_next)

        upto : (a : ℕ) → a ≤ a
        upto a = omega arith

        below : (i n d : ℕ) → i < n → n ≡ d → i < d
        below i n d l e = omega (arith, l, e)

        one : (i : ℕ) (x y : EventResult) → slice_get f.results i ≡ Some x → slice_get whole.results i ≡ Some y → x ≡ y
        one i x y e g =
            let r = results s.head.done i (upto s.head.done) (below i (length f.results) s.head.done (slice_get_within f.results i x e) t.count) in
            some_same x r.0 (sym (t.results i x e) ∙ ap (λ n. (s.cells (n + i)).result) (sym firsts) ∙ r.1)
            ∙ some_same r.0 y (sym r.2 ∙ ap (λ (w : Progress Fields EventResult Line). slice_get w.results i) fold_whole ∙ g)

    made_are : f.made ≡ map (map ticket_of) (created_tickets start.next.0 (first_head plan.script.batches) (map created_lines whole.results))
    made_are = t.made_is ∙ ap (λ rs. map (map ticket_of) (created_tickets start.next.0 (first_head plan.script.batches) (map created_lines rs))) results_are

    names_are : f.names ≡ map name_of whole.head.known
    names_are = t.names ∙ ap (λ (h : Head Line). map name_of h.known) head_whole

    places_by : AllByRecursion (λ (x : Place). IsOn s x.path x.host.0) f.places
    places_by = recursion_from_All (λ (x : Place). IsOn s x.path x.host.0) f.places t.places

    paths_are : map path_of f.places ≡ whole.tree.paths
    paths_are = sorted_same (map path_of f.places) whole.tree.paths t.ordered (subst (λ (w : Progress Fields EventResult Line). IsStrictlySortedBy path_cmp w.tree.paths) at_whole (good plan fits start begins s.head.done).tree.ordered) there_are are_told
      where
        there_are : (q : Path) → list_any (path_eq q) (map path_of f.places) ≡ true → list_any (path_eq q) whole.tree.paths ≡ true
        there_are q e = ap (λ (t : Tree Fields). there t q) (sym tree_whole) ∙ at_path (λ q. there (fold s.head.done).tree q ≡ true) (map path_of f.places) (each f.places places_by) q e
          where
            each : (xs : List Place) → AllByRecursion (λ (x : Place). IsOn s x.path x.host.0) xs → AllByRecursion (λ q. there (fold s.head.done).tree q ≡ true) (map path_of xs)
            each [] h = tt
            each (x ∷ xs) h = (complete.no_others x.path x.host.0 h.0, each xs h.1)

        are_told : (q : Path) → list_any (path_eq q) whole.tree.paths ≡ true → list_any (path_eq q) (map path_of f.places) ≡ true
        are_told q e = let c = complete.contexts q (ap (λ (t : Tree Fields). there t q) tree_whole ∙ e) in t.all_there q c.0 (ap is_some c.3)

    abbrev placed : Path → Place
    placed p = place_of (p, (hosts_after start whole).fields p)

    places_are : f.places ≡ map place_of (shots (hosts_after start whole))
    places_are = by_paths path_of placed f.places (all_in (λ (x : Place). IsOn s x.path x.host.0) (λ x. x ≡ placed x.path) (λ x e i. record { path = x.path; host = record { 0 = on_host x.path x.host.0 e i } }) f.places places_by)
        ∙ ap (map placed) (paths_are ∙ sym paths_whole) ∙ sym (map_twice place_of (λ p. (p, (hosts_after start whole).fields p)) (hosts_after start whole).paths)

    abbrev shown : Path → Shot
    shown p = shot_of (p, whole.tree.fields p)

    -- the record of a context has the fields that the fold has
    shot_is : (x : Shot) → IsShot s x → x ≡ shown x.path
    shot_is x h =
        let on : IsOn s x.path h.host = ap is_some h.stored in
        let c = complete.contexts x.path (complete.no_others x.path h.host on) in
        let same_host : c.0 ≡ h.host = on_host x.path c.0 (ap is_some c.3) ∙ sym (on_host x.path h.host on) in
        let same_entry : c.1 ≡ h.entry = some_same c.1 h.entry (sym c.3 ∙ ap (λ host. (s.columns x.path).store host) same_host ∙ h.stored) in
        let same_body : c.2 ≡ h.body = some_same c.2 h.body (sym c.4 ∙ ap (λ (en : Entry Fields). en.body) same_entry ∙ h.home) in
        let fields : x.fields ≡ whole.tree.fields x.path = h.fields ∙ ap (λ (r : Record Fields). r.fields) (sym same_body) ∙ c.5 ∙ ap (λ (t : Tree Fields). t.fields x.path) tree_whole in
        λ i. record { path = x.path; fields = fields i }

    shots_are : f.shots ≡ map shot_of (shots whole.tree)
    shots_are = by_paths path_shot shown f.shots (all_in (IsShot s) (λ x. x ≡ shown x.path) shot_is f.shots (recursion_from_All (IsShot s) f.shots t.shots))
        ∙ ap (map shown) (t.same_paths ∙ paths_are) ∙ sym (map_twice shot_of (λ p. (p, whole.tree.fields p)) whole.tree.paths)

    load_is : (x : Place) (n : ℕ) → IsLoad s start x.path n → n ≡ load_of whole.entered x.path
    load_is x n h = same (if is_root x.path then start.next.0 - 1 else 0) n (load_of whole.entered x.path) h.entry.served h.served
        (loads x.path h.entry (inl (h.host, h.stored)) ∙ ap (λ (w : Progress Fields EventResult Line). (if is_root x.path then start.next.0 - 1 else 0) + load_of w.entered x.path) fold_whole)
      where
        same : (a n m v : ℕ) → v ≡ a + n → v ≡ a + m → n ≡ m
        same a n m v e g = omega (arith, e, g)

    loads_are : f.loads ≡ map (load_of whole.entered) (hosts_after start whole).paths
    loads_are = each f.places f.loads t.as_many (λ i x n e g. load_is x n (t.loads i x n e g)) ∙ sym (map_twice (load_of whole.entered) path_of f.places) ∙ ap (map (load_of whole.entered)) (paths_are ∙ sym paths_whole)
      where
        each : (xs : List Place) (ns : List ℕ) → length ns ≡ length xs → ((i : ℕ) (x : Place) (n : ℕ) → slice_get xs i ≡ Some x → slice_get ns i ≡ Some n → n ≡ load_of whole.entered x.path) → ns ≡ map (λ x. load_of whole.entered x.path) xs
        each [] [] e h = refl
        each [] (n ∷ ns) e h = absurd (omega (arith, e))
        each (x ∷ xs) [] e h = absurd (omega (arith, e))
        each (x ∷ xs) (n ∷ ns) e h = ap₂ (λ a b. a ∷ b) (h 0 x n refl refl) (each xs ns (omega (arith, e)) (λ i y m g k. h (suc i) y m g k))

    pub told : f ≡ finished_of (code_ran plan.program) plan.program.shape start plan.script
    told = λ i. record { results = results_are i; made = made_are i; names = names_are i; places = places_are i; shots = shots_are i; loads = loads_are i }

  -- ---- and the state tells it

  abbrev pub given : Finished
  given = finished_of (code_ran plan.program) plan.program.shape start plan.script

  abbrev hosts : Tree ℕ
  hosts = hosts_after start whole

  -- a context of the tree is on its host, with its fields
  on_its_host : (p : Path) → there whole.tree p ≡ true → IsOn s p (hosts.fields p)
  on_its_host p e = let c = complete.contexts p (ap (λ (t : Tree Fields). there t p) tree_whole ∙ e) in
      subst (IsOn s p) (on_host p c.0 (ap is_some c.3)) (ap is_some c.3)

  its_shot : (p : Path) → there whole.tree p ≡ true → IsShot s (shot_of (p, whole.tree.fields p))
  its_shot p e = let c = complete.contexts p (ap (λ (t : Tree Fields). there t p) tree_whole ∙ e) in
      record { host = c.0; entry = c.1; body = c.2; stored = c.3; home = c.4; fields = ap (λ (t : Tree Fields). t.fields p) (sym tree_whole) ∙ sym c.5 }

  its_load : (p : Path) → there whole.tree p ≡ true → IsLoad s start p (load_of whole.entered p)
  its_load p e = let c = complete.contexts p (ap (λ (t : Tree Fields). there t p) tree_whole ∙ e) in
      record { host = c.0; entry = c.1; stored = c.3; served = loads p c.1 (inl (c.0, c.3)) ∙ ap (λ (w : Progress Fields EventResult Line). (if is_root p then start.next.0 - 1 else 0) + load_of w.entered p) fold_whole }

  each_there : AllByRecursion (λ p. there whole.tree p ≡ true) whole.tree.paths
  each_there = self whole.tree.paths (λ q e. e)
    where
      self : (ps : List Path) → ((q : Path) → list_any (path_eq q) ps ≡ true → there whole.tree q ≡ true) → AllByRecursion (λ p. there whole.tree p ≡ true) ps
      self [] h = tt
      self (p ∷ ps) h = (h p (or_left (path_eq p p) (list_any (path_eq p) ps) (path_self p)), self ps (λ q e. h q (or_right (path_eq q p) (list_any (path_eq q) ps) e)))

  -- what holds of each path holds of what is made from it
  all_made : {X : Type 0} (P : X → Type 0) (g : Path → X) (ps : List Path) → AllByRecursion (λ p. P (g p)) ps → AllByRecursion P (map g ps)
  all_made P g [] h = tt
  all_made P g (p ∷ ps) h = (h.0, all_made P g ps h.1)

  paths_again : {X : Type 0} (f : X → Path) (g : Path → X) (ps : List Path) → ((p : Path) → f (g p) ≡ p) → map f (map g ps) ≡ ps
  paths_again f g [] h = refl
  paths_again f g (p ∷ ps) h = ap₂ (λ q qs. q ∷ qs) (h p) (paths_again f g ps h)

  places_made : given.places ≡ map (λ p. place_of (p, hosts.fields p)) whole.tree.paths
  places_made = map_twice place_of (λ p. (p, hosts.fields p)) hosts.paths ∙ ap (map (λ p. place_of (p, hosts.fields p))) paths_whole

  place_paths : map path_of given.places ≡ whole.tree.paths
  place_paths = ap (map path_of) places_made ∙ paths_again path_of (λ p. place_of (p, hosts.fields p)) whole.tree.paths (λ p. refl)

  shots_made : given.shots ≡ map (λ p. shot_of (p, whole.tree.fields p)) whole.tree.paths
  shots_made = map_twice shot_of (λ p. (p, whole.tree.fields p)) whole.tree.paths

  loads_made : given.loads ≡ map (load_of whole.entered) whole.tree.paths
  loads_made = ap (map (load_of whole.entered)) paths_whole

  each_load : (ps : List Path) → AllByRecursion (λ p. there whole.tree p ≡ true) ps → (i : ℕ) (x : Place) (n : ℕ) → slice_get (map (λ p. place_of (p, hosts.fields p)) ps) i ≡ Some x → slice_get (map (load_of whole.entered) ps) i ≡ Some n → IsLoad s start x.path n
  each_load [] h i x n e g = absurd (none_not e)
  each_load (p ∷ ps) h zero x n e g = subst (IsLoad s start x.path) (some_same (load_of whole.entered p) n g) (subst (λ (y : Place). IsLoad s start y.path (load_of whole.entered p)) (some_same (place_of (p, hosts.fields p)) x e) (its_load p h.0))
  each_load (p ∷ ps) h (suc i) x n e g = each_load ps h.1 i x n e g

  lengths : {X Y : Type 0} (f : Path → X) (g : Path → Y) (ps : List Path) → length (map f ps) ≡ length (map g ps)
  lengths f g [] = refl
  lengths f g (p ∷ ps) = ap suc (lengths f g ps)

  pub tells : Tells s start plan.script.batches given
  tells = record {
    count = count_whole;
    results = λ i r e.
        let c = results s.head.done i (upto s.head.done) (below i (length whole.results) s.head.done (slice_get_within whole.results i r e) count_whole) in
        ap (λ n. (s.cells (n + i)).result) (sym firsts) ∙ c.1 ∙ sym c.2 ∙ ap (λ (w : Progress Fields EventResult Line). slice_get w.results i) fold_whole ∙ e;
    made_is = refl;
    names = ap (λ (h : Head Line). map name_of h.known) (sym head_whole);
    ordered = subst (IsStrictlySortedBy path_cmp) (sym place_paths) (subst (λ (w : Progress Fields EventResult Line). IsStrictlySortedBy path_cmp w.tree.paths) at_whole (good plan fits start begins s.head.done).tree.ordered);
    all_there = λ p host e. ap (list_any (path_eq p)) place_paths ∙ ap (λ (t : Tree Fields). there t p) (sym tree_whole) ∙ complete.no_others p host e;
    places = subst (All (λ (x : Place). IsOn s x.path x.host.0)) (sym places_made) (All-from_recursion (λ (x : Place). IsOn s x.path x.host.0) (map (λ p. place_of (p, hosts.fields p)) whole.tree.paths)
        (all_made (λ (x : Place). IsOn s x.path x.host.0) (λ p. place_of (p, hosts.fields p)) whole.tree.paths (all_in (λ p. there whole.tree p ≡ true) (λ p. IsOn s p (hosts.fields p)) on_its_host whole.tree.paths each_there)));
    same_paths = ap (map path_shot) shots_made ∙ paths_again path_shot (λ p. shot_of (p, whole.tree.fields p)) whole.tree.paths (λ p. refl) ∙ sym place_paths;
    shots = subst (All (IsShot s)) (sym shots_made) (All-from_recursion (IsShot s) (map (λ p. shot_of (p, whole.tree.fields p)) whole.tree.paths)
        (all_made (IsShot s) (λ p. shot_of (p, whole.tree.fields p)) whole.tree.paths (all_in (λ p. there whole.tree p ≡ true) (λ p. IsShot s (shot_of (p, whole.tree.fields p))) its_shot whole.tree.paths each_there)));
    as_many = ap length loads_made ∙ lengths (load_of whole.entered) (λ p. place_of (p, hosts.fields p)) whole.tree.paths ∙ ap length (sym places_made);
    loads = λ i x n e g. each_load whole.tree.paths each_there i x n (ap (λ xs. slice_get xs i) (sym places_made) ∙ e) (ap (λ ns. slice_get ns i) (sym loads_made) ∙ g);
  }
    where
      firsts : suc (start.next.0 - 1) ≡ start.next.0
      firsts = omega (arith, begins.first_next)

      upto : (a : ℕ) → a ≤ a
      upto a = omega arith

      below : (i n d : ℕ) → i < n → n ≡ d → i < d
      below i n d l e = omega (arith, l, e)

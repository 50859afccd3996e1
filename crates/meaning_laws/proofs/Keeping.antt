-- What an event does keeps the tree of contexts well, and creates few calls, each a generation later.
use Rattle.std.proofs.Common.{◌≡◌, ◌≢◌, ℕ, zero, suc, ◌<◌, ◌≤◌, ◌||◌, ◌==◌, Bool, true, false, if◌then◌else◌, nat_lt, List, [], ◌∷◌, ◌++◌, length, All, Option, Ok, Err, refl, sym, ap, ◌∙◌, arith, length-append}
use Rattle.std.specs.List.Sorted.{IsStrictlySortedBy}
use Rattle.std.proofs.lemmas.Bool.Decides.{nat_tests}
use Rattle.std.proofs.lemmas.List.Elements.{All-nil, All-cons, All-filter, All-append, All-weaker}
use Rattle.std.proofs.lemmas.List.Folds.{list_any-append}
use Rattle.wave_base.proofs.Trees.{there-enter, enter_sorted}
use Rattle.wave_base.specs.declared.call.Call.{Call}
use Rattle.wave_base.specs.declared.path.Path.{Path}
use Rattle.wave_base.specs.declared.path.Step.{Step}
use Rattle.wave_base.specs.declared.shape.Shape.{Shape}
use Rattle.wave_base.specs.declared.span.Span.{Span}
use Rattle.wave_base.specs.declared.trap.TrapKind.TheVariants.{Reach, Sends, Spawns, Generation}
use Rattle.wave_base.specs.declared.value.Value.{Value}
use Rattle.wave_base.specs.Paths.{path_eq, path_cmp, is_above, parent_of}
use Rattle.wave_base.specs.Shapes.{class_of, is_path}
use Rattle.wave_base.specs.Tree.{Tree, there, enter, put}
use Rattle.value_ops.specs.Kinds.{Answer}
use Rattle.resolved_service.specs.Fits.{IsChildClass}
use Rattle.resolved_service.specs.Meaning as m
use Rattle.resolved_service.specs.Meaning.{State, Outcome, Done, Trapped, Left, Act, and_then, answer, with_world, tick, enter_at, demand, choose}
use Rattle.resolved_service.specs.World.{World, has, key_of, child, after_tick, after_change, with_entered, entering, releasing, sending, spawning, set_field}
use Rattle.service_eval.proofs.PathLemmas.{parent_of-child, is_path-child, all_there, parent_there, enter_holds, entered_there, still_there, same_paths}
use Rattle.service_eval.specs.Worlds.{Holds}
use Rattle.meaning_laws.specs.Kept.{IsEarly}

false_not : false ≡ true → ⊥
false_not e = cc

module _ (shape : Shape) (first : Tree (List Value)) (g : ℕ) where
  -- of a generation, a tree, the paths that were entered and are held, and the calls that were created, since an event of
  -- generation g began on the first tree
  pub record Keeps (generation : ℕ) (tree : Tree (List Value)) (entered held : List Path) (created : List Call) : Type 0 where
    pub same : generation ≡ g
    pub holds : Holds shape tree
    pub held_there : All (λ q. there tree q ≡ true) held
    pub joined : (p : Path) → there tree p ≡ (there first p || has entered p)
    pub ordered : IsStrictlySortedBy path_cmp first.paths → IsStrictlySortedBy path_cmp tree.paths
    pub few : length created ≤ 4
    pub later : All (λ (d : Call). d.generation ≡ suc g) created
    pub early : All IsEarly created

  abbrev pub Kept : World → Type 0
  Kept w = Keeps w.generation w.tree w.entered w.held w.created

  -- and this context is there
  abbrev pub At : Path → World → Type 0
  At p w = Kept w × (there w.tree p ≡ true)

  -- at a context it comes to an end at the same context, where it may also return, or traps, or finishes
  abbrev pub Good : {A : Type 0} → Bool → Path → Outcome A → Type 0
  Good may p (Done a st) = At p st.world
  Good may p (Trapped k at w) = Kept w
  Good may p (Left (m.Returned r) st) = (may ≡ true) × At p st.world
  Good may p (Left (m.Finished r) st) = Kept st.world

  abbrev pub Safe : {A : Type 0} → Bool → Path → Act A → Type 0
  Safe may p f = (st : State) → At p st.world → Good may p (f st)

  -- one after the other, the first at another context
  pub then_at : {A B : Type 0} (may : Bool) (p q : Path) (o : Outcome A) (f : A → Act B) → Good false q o → ((a : A) (st : State) → At q st.world → Good may p (f a st)) → Good may p (and_then o f)
  then_at may p q (Done a st) f h k = k a st h
  then_at may p q (Trapped k at w) f h go = h
  then_at may p q (Left (m.Returned r) st) f h k = absurd (false_not h.0)
  then_at may p q (Left (m.Finished r) st) f h k = h

  pub safe_then : {A B : Type 0} (may : Bool) (p : Path) (o : Outcome A) (f : A → Act B) → Good may p o → ((a : A) → Safe may p (f a)) → Good may p (and_then o f)
  safe_then may p (Done a st) f h k = k a st h
  safe_then may p (Trapped t at w) f h k = h
  safe_then may p (Left (m.Returned r) st) f h k = h
  safe_then may p (Left (m.Finished r) st) f h k = h

  pub safe_answer : (may : Bool) (p : Path) (a : Answer Value) (at : Span) → Safe may p (answer a at)
  safe_answer may p (Ok v) at st h = h
  safe_answer may p (Err k) at st h = h.0

  pub safe_choose : {A : Type 0} (may : Bool) (p : Path) (b : Bool) (x y : Act A) → Safe may p x → Safe may p y → Safe may p (choose b x y)
  safe_choose may p true x y h k = h
  safe_choose may p false x y h k = k

  pub safe_demand : (may : Bool) (p : Path) (b : Bool) (at : Span) → Safe may p (demand b at)
  safe_demand may p true at st h = h
  safe_demand may p false at st h = h.0

  pub safe_tick : (may : Bool) (p : Path) (at : Span) → Safe may p (tick at)
  safe_tick may p at st h = by_ticks st.world.ticks
    where
      by_ticks : (n : ℕ) → Good may p (with_world (after_tick n st.world) at st)
      by_ticks zero = h.0
      by_ticks (suc n) = h

  -- what is there is of the shape
  pub is_path_at : (p : Path) (w : World) → At p w → is_path shape p ≡ true
  is_path_at p w h = all_there (λ q. is_path shape q ≡ true) w.tree.paths p h.1 h.0.holds.paths

  -- into a child
  pub enters : (p q : Path) (at : Span) (st : State) → At p st.world → is_path shape q ≡ true → parent_of q ≡ p → Good false q (enter_at q at st)
  unfolding entering
  enters p q at st h path parent = by_held (has st.world.held q) refl
    where
      w : World
      w = st.world

      k : Kept w
      k = h.0

      holds : Holds shape (enter w.tree q)
      holds = enter_holds shape w.tree k.holds q path (ap (there w.tree) parent ∙ h.1)

      still : (r : Path) → there w.tree r ≡ true → there (enter w.tree q) r ≡ true
      still r e = still_there shape w.tree k.holds q r e

      or_last : (a b c : Bool) → (a || (b || c)) ≡ (b || (c || (a || false)))
      or_last true true c = refl
      or_last true false true = refl
      or_last true false false = refl
      or_last false true c = refl
      or_last false false true = refl
      or_last false false false = refl

      joined : (r : Path) → there (enter w.tree q) r ≡ (there first r || has (w.entered ++ q ∷ []) r)
      joined r =
          there-enter w.tree q r ∙ ap (λ x. path_eq r q || x) (k.joined r) ∙ or_last (path_eq r q) (there first r) (has w.entered r)
          ∙ ap (λ x. there first r || x) (sym (list_any-append (path_eq r) w.entered (q ∷ [])))

      fresh : Kept (with_entered q w)
      fresh = record {
        same = k.same;
        holds = holds;
        held_there = All-append (λ r. there (enter w.tree q) r ≡ true) w.held (q ∷ [])
            (All-weaker (λ r. there w.tree r ≡ true) (λ r. there (enter w.tree q) r ≡ true) still w.held k.held_there)
            (All-cons (λ r. there (enter w.tree q) r ≡ true) q [] (entered_there shape w.tree k.holds q) (All-nil (λ r. there (enter w.tree q) r ≡ true)));
        joined = joined;
        ordered = λ o. enter_sorted w.tree q (k.ordered o);
        few = k.few;
        later = k.later;
        early = k.early;
      }

      by_room : (b : Bool) → Good false q (with_world (if b then Ok (after_change (with_entered q w)) else Err Reach) at st)
      by_room true = (fresh, entered_there shape w.tree k.holds q)
      by_room false = k

      by_held : (b : Bool) → has w.held q ≡ b → Good false q (with_world (if b then Ok (after_change w) else (if nat_lt (length w.entered) 256 then Ok (after_change (with_entered q w)) else Err Reach)) at st)
      by_held true e = (k, all_there (λ r. there w.tree r ≡ true) w.held q e k.held_there)
      by_held false e = by_room (nat_lt (length w.entered) 256)

  -- into a child of a class that stands below this one's
  pub enters_child : (p : Path) (class : ℕ) (key : Value) (at : Span) (st : State) → At p st.world → IsChildClass shape (class_of p) class → Good false (child p class key) (enter_at (child p class key) at st)
  enters_child p class key at st h kid =
      let s : Step = record { class = record { 0 = class }; key = key_of key } in
      enters p (p ++ s ∷ []) at st h (is_path-child shape p s (is_path_at p st.world h) kid) (parent_of-child p s)

  -- and back
  pub rises : (p : Path) (class : ℕ) (key : Value) (w : World) → At (child p class key) w → At p w
  rises p class key w h =
      let s : Step = record { class = record { 0 = class }; key = key_of key } in
      (h.0, sym (ap (there w.tree) (parent_of-child p s)) ∙ parent_there shape w.tree h.0.holds (p ++ s ∷ []) h.1)

  pub releases : (p q : Path) (w : World) → At p w → At p (releasing q w)
  releases p q w h = (
    record {
      same = h.0.same;
      holds = h.0.holds;
      held_there = All-filter (is_above q) (λ r. there w.tree r ≡ true) w.held h.0.held_there;
      joined = h.0.joined;
      ordered = h.0.ordered;
      few = h.0.few;
      later = h.0.later;
      early = h.0.early;
    },
    h.1,
  )

  pub puts : (p : Path) (f : ℕ) (value : Value) (w : World) → At p w → At p (set_field f value p w)
  unfolding set_field
  puts p f value w h = (
    record {
      same = h.0.same;
      holds = same_paths shape w.tree (put w.tree p _) refl h.0.holds;
      held_there = h.0.held_there;
      joined = h.0.joined;
      ordered = h.0.ordered;
      few = h.0.few;
      later = h.0.later;
      early = h.0.early;
    },
    h.1,
  )

  pub sends : (may : Bool) (p : Path) (label : List ℕ) (value : Value) (at : Span) (st : State) → At p st.world → Good may p (with_world (sending label value st.world) at st)
  unfolding sending
  sends may p label value at st h = by_room (nat_lt (length st.world.messages) 64)
    where
      by_room : (b : Bool) → Good may p (with_world (if b then Ok (record st.world { messages = st.world.messages ++ record { label = label; value = value } ∷ [] }) else Err Sends) at st)
      by_room true = h
      by_room false = h.0

  pub spawns : (may : Bool) (p : Path) (event : ℕ) (args : List Value) (at : Span) (st : State) → g ≤ 4 → At p st.world → Good may p (with_world (spawning event args st.world) at st)
  unfolding spawning
  spawns may p event args at st old h = by_last (w.generation == 4) refl
    where
      w : World
      w = st.world

      k : Kept w
      k = h.0

      made : Call
      made = record { event = event; args = args; generation = suc w.generation }

      more : w.generation ≢ 4 → nat_lt (length w.created) 4 ≡ true → Kept (record w { created = w.created ++ made ∷ [] })
      more last room =
          let same : w.generation ≡ g = k.same in
          let below : w.generation < 4 = omega (arith, same, old, last) in
          let small : length w.created < 4 = grind (arith, nat_tests) in
          record {
            same = k.same;
            holds = k.holds;
            held_there = k.held_there;
            joined = k.joined;
            ordered = k.ordered;
            few = omega (arith, small, length-append w.created (made ∷ []));
            later = All-append (λ (d : Call). d.generation ≡ suc g) w.created (made ∷ []) k.later (All-cons (λ (d : Call). d.generation ≡ suc g) made [] (ap suc k.same) (All-nil (λ (d : Call). d.generation ≡ suc g)));
            early = All-append IsEarly w.created (made ∷ []) k.early (All-cons IsEarly made [] below (All-nil IsEarly));
          }

      by_room : (b : Bool) → w.generation ≢ 4 → nat_lt (length w.created) 4 ≡ b → Good may p (with_world (if b then Ok (record w { created = w.created ++ made ∷ [] }) else Err Spawns) at st)
      by_room true last e = (more last e, h.1)
      by_room false last e = k

      by_last : (b : Bool) → (w.generation == 4) ≡ b → Good may p (with_world (if b then Err Generation else (if nat_lt (length w.created) 4 then Ok (record w { created = w.created ++ made ∷ [] }) else Err Spawns)) at st)
      by_last true e = k
      by_last false e = by_room (nat_lt (length w.created) 4) (λ s. grind (arith, nat_tests)) refl

  -- ends at some context, early or not, or traps
  abbrev pub Ends : Outcome (Option Value) → Type 0
  Ends (Done r st) = Kept st.world
  Ends (Trapped k at w) = Kept w
  Ends (Left l st) = Kept st.world

  pub ends_good : (may : Bool) (p : Path) (o : Outcome (Option Value)) → Good may p o → Ends o
  ends_good may p (Done r st) h = h.0
  ends_good may p (Trapped k at w) h = h
  ends_good may p (Left (m.Returned r) st) h = h.1.0
  ends_good may p (Left (m.Finished r) st) h = h

  pub ends_then : {A : Type 0} (may : Bool) (p : Path) (o : Outcome A) (f : A → Act (Option Value)) → Good may p o → ((a : A) (st : State) → At p st.world → Ends (f a st)) → Ends (and_then o f)
  ends_then may p (Done a st) f h k = k a st h
  ends_then may p (Trapped k at w) f h go = h
  ends_then may p (Left (m.Returned r) st) f h k = h.1.0
  ends_then may p (Left (m.Finished r) st) f h k = h

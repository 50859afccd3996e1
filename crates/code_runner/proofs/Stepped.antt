-- What a segment makes of a call under way.
use Rattle.std.proofs.Common.{◌≡◌, ℕ, suc, ◌⊎◌, inl, inr, Bool, true, false, List, [], ◌∷◌, ◌++◌, length, ◌||◌, Some, None, refl, ap, sym, subst, ◌∙◌, arith}
use Rattle.std.proofs.lemmas.List.{length-append, length-map}
use Rattle.std.specs.List.{list_any}
use Rattle.wave_base.specs.declared.call.Call.{Call}
use Rattle.wave_base.specs.declared.outcome.EventResult.{EventResult}
use Rattle.wave_base.specs.declared.path.Path.{Path}
use Rattle.wave_base.specs.declared.path.Step.{Step}
use Rattle.wave_base.specs.declared.pause.Pause.{Pause as Halt}
use Rattle.wave_base.specs.declared.pause.Pause.TheVariants as halt
use Rattle.wave_base.specs.Paths.{path_eq, parent_of}
use Rattle.wave_base.specs.PathLaws.{path_eq_equiv}
use Rattle.wave_base.specs.declared.shape.Shape.{Shape}
use Rattle.wave_base.specs.Shapes.{is_path}
use Rattle.wave_base.specs.Values.{kind_of}
use Rattle.wave_base.specs.Tree.{Tree, there, enter, put}
use Rattle.wave_base.specs.Trees.{FitsShape, HasKinds}
use Rattle.context_tree.specs.Contexts.{Contexts, tree_of, is_there}
use Rattle.service_code.specs.declared.program.Program.{Program}
use Rattle.service_verify.specs.Boxes.{Box}
use Rattle.service_verify.specs.Copies.{Trip, trip_with, next_trip, first_trip}
use Rattle.service_verify.specs.Segments.{Event, event_segment}
use Rattle.service_verify.specs.Standing.{HasFields, Stands, Leaves}
use Rattle.service_verify.specs.Steps.{is_held}
use Rattle.service_verify.specs.Tours.{Fields, Tour, into, tour_at_pause}
use Rattle.code_actor.specs.CodeActors.{first_event}
use Rattle.code_actor.specs.Locks.{Enters, Locks, holds, has_entered}
use Rattle.code_runner.specs.declared.walk.Walk.{Walk}
use Rattle.code_actor.proofs.Above.{parent_child}
use Rattle.code_runner.proofs.Walking.{at_there}
use Rattle.code_runner.specs.inner.Walks.{trip_of, Walks, paths_into, tree_into}

-- a call that begins
pub started : (program : Program) (call call' : Call) (tree tree' : Tree Fields) (w : Walk) → call' ≡ call → w.event.event ≡ first_event program call' → w.entered.items ≡ [] ∷ [] → w.segments ≡ 0 → tree' ≡ enter tree [] → trip_of w tree' None ≡ first_trip program call tree
started program call call' tree tree' w c e n s t = let f = e ∙ ap (first_event program) c in λ i. record { tour = record { box = (f i).box; tree = t i; entered = n i; segments = s i; result = None }; levels = (f i).levels }

same_test : (p : Path) (ps : List Path) → list_any (λ q. path_eq q p) ps ≡ list_any (path_eq p) ps
same_test p [] = refl
same_test p (q ∷ ps) = λ i. path_eq_equiv.symm q p i || same_test p ps i

-- a search for a path, as it was answered
pub told : (p : Path) (ps qs : List Path) (answer c : Bool) → answer ≡ list_any (λ q. path_eq q p) ps → ps ≡ qs → answer ≡ c → list_any (path_eq p) qs ≡ c
told p ps qs answer c value same is = sym (same_test p qs) ∙ ap (list_any (λ q. path_eq q p)) (sym same) ∙ sym value ∙ is

-- by whether it had entered the path
pub entered_so : (entered new : List Path) (p q : Path) (c : Bool) → q ≡ p → list_any (path_eq q) entered ≡ c → new ≡ paths_into c entered q → new ≡ paths_into (list_any (path_eq p) entered) entered p
entered_so entered new p q c same e n = subst (λ r. new ≡ paths_into (list_any (path_eq r) entered) entered r) same (subst (λ d. new ≡ paths_into d entered q) (sym e) n)

pub tree_so : (entered : List Path) (tree new : Tree Fields) (p q : Path) (c : Bool) → q ≡ p → list_any (path_eq q) entered ≡ c → new ≡ tree_into c tree q → new ≡ tree_into (list_any (path_eq p) entered) tree p
tree_so entered tree new p q c same e n = subst (λ r. new ≡ tree_into (list_any (path_eq r) entered) tree r) same (subst (λ d. new ≡ tree_into d tree q) (sym e) n)

last_is : (xs : List Path) (a b : Path) → xs ++ a ∷ [] ≡ xs ++ b ∷ [] → a ≡ b
last_is [] a b e = head_is e
  where
    head_is : ◌≡◌ {A = List Path} (a ∷ []) (b ∷ []) → a ≡ b
    head_is e = cc
last_is (x ∷ xs) a b e = last_is xs a b (tail_is e)
  where
    tail_is : ◌≡◌ {A = List Path} (x ∷ xs ++ a ∷ []) (x ∷ xs ++ b ∷ []) → xs ++ a ∷ [] ≡ xs ++ b ∷ []
    tail_is e = cc

grew : {A : Type 0} (xs : List Path) (a : Path) → xs ++ a ∷ [] ≡ xs → A
grew xs a e = absurd (let l = ap length e in let k = length-append xs (a ∷ []) in omega (arith, l, k))

-- it holds a child where it entered it, and enters it else
tells : (t : Tour) (b : Box) (left : Fields) (c : Bool) → is_held t.box.held b.path ≡ c → ((q : Path) → holds t q ≡ true → has_entered t q ≡ true) → Locks t (into t b left c) → list_any (path_eq b.path) t.entered ≡ c
tells t b left true e known l = known b.path e
tells t b left false e known l = by l.enters
  where
    by : Enters t (into t b left false) → list_any (path_eq b.path) t.entered ≡ false
    by (inl same) = grew t.entered b.path same
    by (inr new) = ap (has_entered t) (last_is t.entered b.path (t.box.path ++ new.0 ∷ []) new.2) ∙ new.1

-- the fields where it runs have the kinds of their class
pub has_here : (program : Program) (w : Walk) (tree : Tree Fields) (walks : Walks program (trip_of w tree None)) (here : Path) (fields : Fields) → here ≡ w.event.event.box.path → fields ≡ tree.fields here → HasFields program.shape walks.path fields
has_here program w tree walks here fields at same =
    let has : HasFields program.shape walks.path (tree.fields walks.path) = at_there (λ q. HasKinds program.shape q (tree.fields q)) walks.path tree.paths walks.fits.kinds walks.here in
    subst (HasFields program.shape walks.path) (sym (same ∙ ap tree.fields (at ∙ walks.stands.box.path))) has

-- what a segment requires of the event and of the fields
pub stands_on : (program : Program) (w : Walk) (tree : Tree Fields) → Walks program (trip_of w tree None) → (here : Path) (fields : Fields) → here ≡ w.event.event.box.path → fields ≡ tree.fields here → (p : Path) × (n : ℕ) × Stands program p n w.event.event × HasFields program.shape p fields
stands_on program w tree walks here fields at same = (walks.path, walks.calls, walks.stands, has_here program w tree walks here fields at same)

-- a context is there after fields were put
pub still_there : (shape : Shape) (t u : Contexts) (here p q : Path) (left : Fields) → ((shape : Shape) → tree_of shape u ≡ put (tree_of shape t) here left) → q ≡ p → is_there t p ≡ true → is_there u q ≡ true
still_there shape t u here p q left is same there' = ap (λ (r : Tree Fields). there r q) (is shape) ∙ ap (is_there t) same ∙ there'

-- into a child, for good or for a call
abbrev pub IsInto : Halt → Type 0
IsInto why = ((s : Step) × (why ≡ halt.Go s)) ⊎ ((s : Step) × (why ≡ halt.Down s))

no_go : {A : Type 0} (y : Halt) (s : Step) → y ≡ halt.Back → y ≡ halt.Go s → A
no_go y s e f = cc

no_down : {A : Type 0} (y : Halt) (s : Step) → y ≡ halt.Back → y ≡ halt.Down s → A
no_down y s e f = cc

over_no_go : {A : Type 0} (r : EventResult) (s : Step) → halt.Over r ≡ halt.Go s → A
over_no_go r s e = cc

over_no_down : {A : Type 0} (r : EventResult) (s : Step) → halt.Over r ≡ halt.Down s → A
over_no_down r s e = cc

pub into_child : (program : Program) (p : Path) (n : ℕ) (e : Event) (why : Halt) → IsInto why → Leaves program p n e why → (is_path program.shape e.box.path ≡ true) × (parent_of e.box.path ≡ p)
into_child program p n e (halt.Go s) i l = (subst (λ q. is_path program.shape q ≡ true) (sym l.1.box.path) l.1.box.is_path, ap parent_of l.1.box.path ∙ parent_child p s)
into_child program p n e (halt.Down s) i l = (subst (λ q. is_path program.shape q ≡ true) (sym l.box.path) l.box.is_path, ap parent_of l.box.path ∙ parent_child p s)
into_child program p n e halt.Back (inl is) l = no_go halt.Back is.0 refl is.1
into_child program p n e halt.Back (inr is) l = no_down halt.Back is.0 refl is.1
into_child program p n e (halt.Over r) (inl is) l = over_no_go r is.0 is.1
into_child program p n e (halt.Over r) (inr is) l = over_no_down r is.0 is.1

module _ (program : Program) (w : Walk) (tree : Tree Fields) (walks : Walks program (trip_of w tree None)) (fields : Fields) (same : fields ≡ tree.fields w.event.event.box.path) (e : Event) (left : Fields) (why : Halt) (is : event_segment program w.event.event fields ≡ Some (record { event = e; fields = left; pause = why })) where
  abbrev t : Trip
  t = trip_of w tree None

  pub is_next : next_trip program t ≡ record { tour = tour_at_pause t.tour e.box left why; levels = e.levels }
  is_next = ap (trip_with t) (ap (event_segment program w.event.event) (sym same) ∙ is)

  -- what the call has become
  module _ (w' : Walk) (tree' : Tree Fields) (event : w'.event.event ≡ e) (segments : w'.segments ≡ suc w.segments) where
    abbrev left_tree : Tree Fields
    left_tree = put tree w.event.event.box.path left

    by_into : (c : Bool) → w'.entered.items ≡ paths_into c w.entered.items e.box.path → tree' ≡ tree_into c left_tree e.box.path → trip_of w' tree' None ≡ record { tour = into t.tour e.box left c; levels = e.levels }
    by_into true n r i = record { tour = record { box = (event i).box; tree = r i; entered = n i; segments = segments i; result = None }; levels = (event i).levels }
    by_into false n r i = record { tour = record { box = (event i).box; tree = r i; entered = n i; segments = segments i; result = None }; levels = (event i).levels }

    next_into : IsInto why → next_trip program t ≡ record { tour = into t.tour e.box left (is_held t.tour.box.held e.box.path); levels = e.levels }
    next_into (inl is) = subst (λ y. next_trip program t ≡ record { tour = tour_at_pause t.tour e.box left y; levels = e.levels }) is.1 is_next
    next_into (inr is) = subst (λ y. next_trip program t ≡ record { tour = tour_at_pause t.tour e.box left y; levels = e.levels }) is.1 is_next

    pub stepped_into : IsInto why → w'.entered.items ≡ paths_into (list_any (path_eq e.box.path) w.entered.items) w.entered.items e.box.path → tree' ≡ tree_into (list_any (path_eq e.box.path) w.entered.items) left_tree e.box.path → trip_of w' tree' None ≡ next_trip program t
    stepped_into i n r =
        let next = next_into i in
        let c = is_held t.tour.box.held e.box.path in
        let told : list_any (path_eq e.box.path) w.entered.items ≡ c = tells t.tour e.box left c refl walks.known (subst (λ (u : Trip). Locks t.tour u.tour) next walks.locks) in
        by_into c (subst (λ d. w'.entered.items ≡ paths_into d w.entered.items e.box.path) told n) (subst (λ d. tree' ≡ tree_into d left_tree e.box.path) told r) ∙ sym next

    pub stepped_back : why ≡ halt.Back → w'.entered.items ≡ w.entered.items → tree' ≡ left_tree → trip_of w' tree' None ≡ next_trip program t
    stepped_back is n r = let next = subst (λ y. next_trip program t ≡ record { tour = tour_at_pause t.tour e.box left y; levels = e.levels }) is is_next in (λ i. record { tour = record { box = (event i).box; tree = r i; entered = n i; segments = segments i; result = None }; levels = (event i).levels }) ∙ sym next

    pub stepped_over : (o : EventResult) → why ≡ halt.Over o → w'.entered.items ≡ w.entered.items → tree' ≡ left_tree → trip_of w' tree' (Some o) ≡ next_trip program t
    stepped_over o is n r = let next = subst (λ y. next_trip program t ≡ record { tour = tour_at_pause t.tour e.box left y; levels = e.levels }) is is_next in (λ i. record { tour = record { box = (event i).box; tree = r i; entered = n i; segments = segments i; result = Some o }; levels = (event i).levels }) ∙ sym next

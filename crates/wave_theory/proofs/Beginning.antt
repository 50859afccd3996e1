-- The state that a run begins with shows the lines before any of its tickets.
use Rattle.std.proofs.Common.{◌≡◌, ℕ, zero, suc, ◌+◌, ◌<◌, ◌≤◌, ◌&&◌, not, inl, inr, nat_eq, Bool, true, false, Option, Some, None, is_some, List, [], ◌∷◌, ◌++◌, refl, sym, ◌∙◌, ap, subst, arith}
use Rattle.std.specs.Prelude.{if◌then◌else◌, cond}
use Rattle.std.specs.List.{AllByRecursion}
use Rattle.wave_base.specs.declared.path.Step.{Step}
use Rattle.wave_base.specs.declared.path.Path.{Path}
use Rattle.wave_base.specs.declared.children.Child.{Child}
use Rattle.wave_base.specs.Paths.{path_eq}
use Rattle.wave_base.specs.Kids.{child_at}
use Rattle.wave_states.specs.States.{Entry, Record, Mark, set}
use Rattle.wave_states.specs.Steps.{child_or_new, new_entry}
use Rattle.wave_theory.proofs.Basics.{bool_cases, clash, some_same, none_not, some_not, number_is, number_cases, not_same, path_is, set_at, set_there, and_second, and_both, differ}
use Rattle.wave_theory.proofs.Order.{Way, IsWay, visits, rank, Done, Lines, Good}
use Rattle.wave_theory.proofs.Ranks.{rank_pos}
use Rattle.wave_theory.proofs.NewTickets.{root_number}
use Rattle.wave_theory.proofs.Leaves.{Course, IsCourse, frames}
use Rattle.wave_theory.proofs.Tracks.{Trail, owner, Track, unborn}
use Rattle.wave_theory.proofs.Paths.{parent_child}
use Rattle.wave_theory.proofs.Frames.{not_is}
use Rattle.wave_theory.proofs.Shows
use Rattle.std.specs.Prelude.{All, map, ◌↔◌}
use Rattle.wave_base.specs.Tree.{there, children_of}
use Rattle.wave_states.specs.Begins.{Begin, start_state, column_at_start, entry_at_start, child_at_start, has_moved, is_root}
use Rattle.wave_states.specs.Kinds.{Kind}
use Rattle.wave_states.specs.Owes.{Owes, IsBegin}
use Rattle.wave_theory.proofs.Maps.{any_child, none_any, child_listed, steps_listed}
use Rattle.wave_theory.proofs.Courses.{Real, leaf_of, leaf_first, view_early, view_later, view, View}
use Rattle.wave_theory.proofs.Courses

module _ {A F R J : Type 0} (kind : Kind A F R J) (owes : Owes kind) (b : Begin F) (batches : List (List J)) (begins : IsBegin kind b) (jobs : All (All kind.is_job) batches) where
  abbrev w : Way
  w = Courses.w kind owes b batches begins jobs

  abbrev course : Course kind.system
  course = Courses.course kind owes b batches begins jobs

  law : IsWay w
  law = Courses.law kind owes b batches begins jobs

  abbrev Is_real : ℕ → Type 0
  Is_real = Courses.Real kind owes b batches begins jobs

  courses : IsCourse kind.system w course b.before Is_real
  courses = Courses.courses kind owes b batches begins jobs

  abbrev pub at_root : Path → ℕ
  at_root p = if is_root p then b.before else 0

  abbrev lines₀ : Lines
  lines₀ = record { admitted = b.before; pos = λ t. suc (w.last t); stage = λ t. Done; served = at_root; given = at_root; holds = λ p t. false }

  abbrev new_record : Path → Record F
  new_record p = record { fields = kind.system.initial p; children = [] }

  abbrev old_record : Path → Record F
  old_record p = record { fields = b.tree.fields p; children = map (child_at_start b p) (children_of b.tree p) }

  abbrev pub moved_trail : Bool → Path → Trail
  moved_trail true p = record { at = set nat_eq (λ i. b.places.fields p) 0 0; last = 1; stored = true }
  moved_trail false p = record { at = λ i. b.places.fields p; last = 0; stored = true }

  abbrev pub ghost₀ : Shows.Ghost F
  ghost₀ = record {
    lines = lines₀;
    out = λ t. false;
    worker = λ t. 0;
    main = λ t. 0;
    parting = λ t p. 0;
    entry = λ p. if there b.tree p then entry_at_start b p else new_entry kind.system p;
    body = λ p. if there b.tree p then old_record p else new_record p;
    born = λ p. there b.tree p;
    trail = λ p. if there b.tree p then moved_trail (has_moved b p) p else unborn 0;
  }

  root_is : (p : Path) → is_root p ≡ true → [] ≡ p
  root_is [] e = refl
  root_is (s ∷ p) e = absurd (clash false e refl)

  child_no_root : (p : Path) (s : Step) → is_root (p ++ s ∷ []) ≡ false
  child_no_root [] s = refl
  child_no_root (x ∷ p) s = refl

  -- a ticket of before entered the root alone
  early_entered : (t k : ℕ) (p : Path) → t ≤ b.before → w.entered t k p ≡ path_eq [] p
  early_entered t k p l = ap (λ (v : View A F R). v.one.entered k p) (view_early kind owes b batches begins jobs t l)

  rank_early : (p : Path) (t : ℕ) → t ≤ b.before → is_root p ≡ false → rank w p t ≡ 0
  unfolding rank
  rank_early p zero l e = refl
  rank_early p (suc t) l e = rw (early_entered (suc t) (suc (w.last (suc t))) p l ∙ not_root p e) (rank_early p t (omega arith) e)
    where
      not_root : (p : Path) → is_root p ≡ false → path_eq [] p ≡ false
      not_root [] e = absurd (clash true refl e)
      not_root (s ∷ p) e = refl

  -- who has come so far: at the root all tickets of before, elsewhere none
  came : (t : ℕ) (p : Path) → 1 ≤ t → visits w t p ≡ true → (t ≤ b.before) ↔ (rank w p t ≤ at_root p)
  came t p l v = by (is_root p) refl
    where
      by : (i : Bool) → is_root p ≡ i → (t ≤ b.before) ↔ (rank w p t ≤ (if i then b.before else 0))
      by true e = subst (λ r. (t ≤ b.before) ↔ (rank w r t ≤ b.before)) (root_is p e) (subst (λ n. (t ≤ b.before) ↔ (n ≤ b.before)) (sym (root_number law t)) (λ x. x, λ x. x))
      by false e = (λ x. absurd (clash _ (subst (λ i. is_root i ≡ true) (path_is [] p (sym (early_entered t (suc (w.last t)) p x) ∙ v)) refl) e), λ x. absurd (let r : 0 < rank w p t = rank_pos w p t l v in omega arith))

  good₀ : Good w lines₀
  good₀ = record {
    within = λ t l. omega arith;
    going = λ t l n. absurd (n refl);
    ended = λ t l e. refl;
    is_fresh = λ t l e. absurd (clash false e refl);
    sends = λ t p l v. (λ x. (came t p l v).0 x.known, λ x. record { known = (came t p l v).1 x; entered = v });
    grants = λ t p l v. (λ x. (came t p l v).0 x.known, λ x. record { known = (came t p l v).1 x; entered = v; past = λ e. absurd (clash false e refl) });
    first = λ t p e. absurd (clash false e refl);
    let_in = λ t p e. absurd (clash false e refl);
    keeps = λ t p l x e. absurd (clash _ e (law.none t p));
    alone = λ t p e. absurd (clash false e refl);
    latest = λ t p e. absurd (clash false e refl);
  }

  abbrev first_kid : Path → Step → Child
  first_kid p s = record { given = 0; birth = record { 0 = b.places.fields (p ++ s ∷ []) } }

  kids_at : (p : Path) (s : Step) → child_at (old_record p).children s ≡ cond (there b.tree (p ++ s ∷ [])) (Some (first_kid p s)) None
  kids_at p s = child_listed (first_kid p) (children_of b.tree p) s ∙ ap (λ i. cond i (Some (first_kid p s)) None) (sym (any_child p s b.tree.paths))

  -- a context that isn't there has no children
  no_kids : (p : Path) → there b.tree p ≡ false → children_of b.tree p ≡ []
  no_kids p e = none_any (children_of b.tree p) (λ s. sym (any_child p s b.tree.paths) ∙ (elim (bool_cases (there b.tree (p ++ s ∷ []))) [
    | inr i ↦ i
    | inl i ↦ absurd (clash _ (subst (λ r. there b.tree r ≡ true) (parent_child p s) (begins.parents (p ++ s ∷ []) i)) e)
  ]))

  like₀ : (p : Path) → Shows.Like kind.system w course b.before Is_real ((ghost₀).body p) (leaf_of b.tree p)
  like₀ p = by (there b.tree p) refl
    where
      by : (i : Bool) → there b.tree p ≡ i → Shows.Like kind.system w course b.before Is_real (if i then old_record p else new_record p) (leaf_of b.tree p)
      by true e = record { fields = refl; steps = steps_listed (first_kid p) (children_of b.tree p) }
      by false e = record { fields = sym (begins.absent p e); steps = sym (no_kids p e) }

  pub rank_start : (p : Path) → rank w p b.before ≡ (if is_root p then b.before else 0)
  rank_start p = by (is_root p) refl
    where
      by : (i : Bool) → is_root p ≡ i → rank w p b.before ≡ (if i then b.before else 0)
      by true e = subst (λ r. rank w r b.before ≡ b.before) (root_is p e) (root_number law b.before)
      by false e = rank_early p b.before (omega arith) e

  kept₀ : Shows.Kept kind.system w course b.before Is_real ghost₀
  kept₀ = record {
    held = λ p t e. absurd (clash false e refl);
    calm = λ p m c e l. subst (Shows.Like kind.system w course b.before Is_real ((ghost₀).body p)) (sym (path p m e l)) (like₀ p);
  }
    where
      rank_before : (p : Path) → rank w p b.before ≡ at_root p
      rank_before p = by (is_root p) refl
        where
          by : (i : Bool) → is_root p ≡ i → rank w p b.before ≡ (if i then b.before else 0)
          by true e = subst (λ r. rank w r b.before ≡ b.before) (root_is p e) (root_number law b.before)
          by false e = rank_early p b.before (omega arith) e

      path : (p : Path) (m : ℕ) → rank w p m ≡ at_root p → b.before ≤ m → course.leaf (suc m) 0 p ≡ leaf_of b.tree p
      path p m e l = frames kind.system law courses b.before m p l (rank_before p ∙ sym e)
          ∙ ap (λ i. course.leaf i 0 p) (let z : suc b.before ≡ suc b.before + 0 = omega arith in z)
          ∙ ap (λ (v : View A F R). v.leaf 0 p) (view_later kind owes b batches begins jobs 0)
          ∙ leaf_first kind owes b batches begins jobs 0 (Rattle.wave_states.specs.Alone.job_after kind.system b batches 0) p

  kid_given : (p : Path) (s : Step) (i : Bool) → child_at (if i then old_record p else new_record p).children s ≡ cond (i && there b.tree (p ++ s ∷ [])) (Some (first_kid p s)) None
  kid_given p s true = kids_at p s
  kid_given p s false = refl

  -- whatever is in a record is there
  pub kid_there : (p : Path) (s : Step) (c : Child) → child_at ((ghost₀).body p).children s ≡ Some c → there b.tree (p ++ s ∷ []) ≡ true
  kid_there p s c e = and_second (there b.tree p) _ (by (there b.tree p && there b.tree (p ++ s ∷ [])) (sym (kid_given p s (there b.tree p)) ∙ e))
    where
      by : (i : Bool) → cond i (Some (first_kid p s)) None ≡ Some c → i ≡ true
      by true e = refl
      by false e = absurd (none_not e)

  given₀ : (j : Bool) (p : Path) (s : Step) → (child_or_new (cond j (Some (first_kid p s)) None) 0).given ≡ 0
  given₀ true p s = refl
  given₀ false p s = refl

  root_there : (p : Path) → there b.tree p ≡ false → is_root p ≡ false
  root_there p e = elim (bool_cases (is_root p)) [ inr i ↦ i | inl i ↦ absurd (clash _ (subst (λ r. there b.tree r ≡ true) (root_is p i) begins.root) e) ]

  entry₀ : (p : Path) → Shows.EntryShows kind.system w course b.before Is_real ghost₀ p
  entry₀ p = record {
    served = by_served (there b.tree p) refl;
    holders = λ t. ap (λ (u : Entry F). Shows.holds_claim u.holders t) (same (there b.tree p)) ∙ none_hold (there b.tree p) t;
    peeks = none_peek (there b.tree p);
    later = λ t e. absurd (clash false e refl);
    waits = λ j c e. absurd (none_not (sym (none_wait (there b.tree p) j) ∙ e));
    away = λ e. absurd (some_not (sym (there_body (there b.tree p)) ∙ e));
    body = λ r e. sym (some_same _ r (sym (there_body (there b.tree p)) ∙ e));
    given = λ s. ap (λ o. (child_or_new o 0).given) (kid_given p s (there b.tree p)) ∙ given₀ (there b.tree p && there b.tree (p ++ s ∷ [])) p s ∙ sym (ap (λ i. if i then b.before else 0) (child_no_root p s));
    births = λ s c e. births s c (there b.tree p && there b.tree (p ++ s ∷ [])) refl (sym (kid_given p s (there b.tree p)) ∙ e);
    strangers = λ s e. strangers s (there b.tree (p ++ s ∷ [])) refl (sym (kid_given p s (there b.tree p)) ∙ e);
    unborn = λ e. ap (λ i. if i then entry_at_start b p else new_entry kind.system p) e;
    moves = moves_now (there b.tree p) (has_moved b p) refl;
  }
    where
      same : (i : Bool) → (if i then entry_at_start b p else new_entry kind.system p) ≡ (if i then entry_at_start b p else new_entry kind.system p)
      same i = refl

      by_served : (i : Bool) → there b.tree p ≡ i → (if i then entry_at_start b p else new_entry kind.system p).served ≡ at_root p
      by_served true e = refl
      by_served false e = sym (ap (λ j. if j then b.before else 0) (root_there p e))

      none_hold : (i : Bool) (t : ℕ) → Shows.holds_claim (if i then entry_at_start b p else new_entry kind.system p).holders t ≡ false
      none_hold true t = refl
      none_hold false t = refl

      none_peek : (i : Bool) → AllByRecursion (λ c. c.peek ≡ w.looks c.ticket p) (if i then entry_at_start b p else new_entry kind.system p).holders
      none_peek true = tt
      none_peek false = tt

      none_wait : (i : Bool) (j : ℕ) → (if i then entry_at_start b p else new_entry kind.system p).waiting j ≡ None
      none_wait true j = refl
      none_wait false j = refl

      there_body : (i : Bool) → (if i then entry_at_start b p else new_entry kind.system p).body ≡ Some (if i then old_record p else new_record p)
      there_body true = refl
      there_body false = refl

      births : (s : Step) (c : Child) (i : Bool) → (there b.tree p && there b.tree (p ++ s ∷ [])) ≡ i → cond i (Some (first_kid p s)) None ≡ Some c → c.birth.0 ≡ ((ghost₀).trail (p ++ s ∷ [])).at 0
      births s c false n e = absurd (none_not e)
      births s c true n e = ap (λ (u : Child). u.birth.0) (sym (some_same _ c e)) ∙ sym (ap (λ i. (if i then moved_trail (has_moved b (p ++ s ∷ [])) (p ++ s ∷ []) else unborn 0).at 0) (and_second (there b.tree p) _ n) ∙ ap (λ i. (moved_trail (i && not (nat_eq (b.places.fields (p ++ s ∷ [])) 0)) (p ++ s ∷ [])).at 0) (child_no_root p s))

      strangers : (s : Step) (j : Bool) → there b.tree (p ++ s ∷ []) ≡ j → cond (there b.tree p && there b.tree (p ++ s ∷ [])) (Some (first_kid p s)) None ≡ None → there b.tree (p ++ s ∷ []) ≡ false
      strangers s false n e = n
      strangers s true n e = absurd (some_not (sym (ap (λ j. cond j (Some (first_kid p s)) None) (and_both _ _ (subst (λ r. there b.tree r ≡ true) (parent_child p s) (begins.parents (p ++ s ∷ []) n)) n)) ∙ e))

      moves_now : (i j : Bool) → has_moved b p ≡ j → (if i then entry_at_start b p else new_entry kind.system p).moves ≡ (if i then moved_trail (has_moved b p) p else unborn 0).last
      moves_now false j e = refl
      moves_now true true e = ap (λ u. if u then 1 else 0) e ∙ sym (ap (λ u. (moved_trail u p).last) e)
      moves_now true false e = ap (λ u. if u then 1 else 0) e ∙ sym (ap (λ u. (moved_trail u p).last) e)

  abbrev no_marks : ℕ → Option Mark
  no_marks h = None

  one_store : (h : ℕ) (en : Entry F) (a : ℕ) → is_some (set nat_eq (λ i. None) h (Some en) a) ≡ true → a ≡ h
  one_store h en a e = elim (number_cases h a) [ inl z ↦ sym z | inr z ↦ absurd (clash false (sym (ap is_some (set_there nat_eq (λ i. None) h (Some en) a z)) ∙ e) refl) ]

  column₀ : (p : Path) → Shows.ColumnShows kind.system w course b.before Is_real (there b.tree p) ghost₀ p (column_at_start b p)
  column₀ p = by (there b.tree p) refl (has_moved b p) refl
    where
      trail_is : (j : Bool) → there b.tree p ≡ true → has_moved b p ≡ j → (ghost₀).trail p ≡ moved_trail j p
      trail_is j e m = ap (λ i. if i then moved_trail (has_moved b p) p else unborn 0) e ∙ ap (λ u. moved_trail u p) m

      store_is : there b.tree p ≡ true → (column_at_start b p).store ≡ set nat_eq (λ h. None) (b.places.fields p) (Some (entry_at_start b p))
      store_is e = ap (λ i. if i then set nat_eq (λ h. None) (b.places.fields p) (Some (entry_at_start b p)) else (λ h. None)) e

      entry_is : there b.tree p ≡ true → (ghost₀).entry p ≡ entry_at_start b p
      entry_is e = ap (λ i. if i then entry_at_start b p else new_entry kind.system p) e

      away_from : has_moved b p ≡ true → nat_eq (b.places.fields p) 0 ≡ false
      away_from m = not_is _ (and_second (is_root p) _ m)

      by : (i : Bool) → there b.tree p ≡ i → (j : Bool) → has_moved b p ≡ j → Shows.ColumnShows kind.system w course b.before Is_real i ghost₀ p (column_at_start b p)
      by false e j m = record {
        empty = record {
          no_entry = λ h. ap (λ i. (if i then set nat_eq (λ h. None) (b.places.fields p) (Some (entry_at_start b p)) else (λ h. None)) h) e;
          no_marks = λ h. ap (λ i. (if i then set nat_eq no_marks 0 (Some (record { to = b.places.fields p; number = 1 })) else (λ h. None)) h) (ap (λ i. i && not (nat_eq (b.places.fields p) 0)) (root_there p e));
        };
        last = ap (λ i. (if i then moved_trail (has_moved b p) p else unborn 0).last) e;
      }
      by true e false m = record {
        track = subst (Track (column_at_start b p)) (sym (trail_is false e m)) (record {
          store_is = λ h x. (refl, one_store (b.places.fields p) (entry_at_start b p) h (sym (ap (λ f. is_some (f h)) (store_is e)) ∙ x));
          stored_is = λ x. ap (λ f. is_some (f (b.places.fields p))) (store_is e) ∙ ap is_some (set_at (λ h. None) (b.places.fields p) (Some (entry_at_start b p)));
          neighbours = λ i l. absurd (omega arith);
          mark_is = λ h a x. absurd (none_not (sym (no_mark h) ∙ x));
          no_mark = λ h x. inr (λ i l. absurd (omega arith));
          here_no_mark = λ x. no_mark (b.places.fields p);
          has_moved = λ x. absurd (clash true refl x);
        });
        there = λ x. ap (λ f. f (owner ((ghost₀).trail p))) (store_is e) ∙ ap (λ r. set nat_eq (λ h. None) (b.places.fields p) (Some (entry_at_start b p)) (owner r)) (trail_is false e m) ∙ set_at (λ h. None) (b.places.fields p) (Some (entry_at_start b p)) ∙ ap Some (sym (entry_is e));
      }
        where
          no_mark : (h : ℕ) → (column_at_start b p).gone h ≡ None
          no_mark h = ap (λ i. (if i then set nat_eq no_marks 0 (Some (record { to = b.places.fields p; number = 1 })) else (λ h. None)) h) m
      by true e true m = record {
        track = subst (Track (column_at_start b p)) (sym (trail_is true e m)) (record {
          store_is = λ h x. (refl, one_store (b.places.fields p) (entry_at_start b p) h (sym (ap (λ f. is_some (f h)) (store_is e)) ∙ x) ∙ sym last_at);
          stored_is = λ x. ap (λ f. is_some (f ((moved_trail true p).at 1))) (store_is e) ∙ ap (λ a. is_some (set nat_eq (λ h. None) (b.places.fields p) (Some (entry_at_start b p)) a)) last_at ∙ ap is_some (set_at (λ h. None) (b.places.fields p) (Some (entry_at_start b p)));
          neighbours = λ i l x. (let z : i ≡ 0 = omega arith in not_same (b.places.fields p) 0 (away_from m) (sym last_at ∙ ap (λ a. (moved_trail true p).at (suc a)) (sym z) ∙ sym x ∙ ap (moved_trail true p).at z ∙ first_at));
          mark_is = λ h a x. elim (number_cases 0 h) [
            | inr n ↦ absurd (none_not (sym (ap (λ f. f h) gone_is ∙ set_there nat_eq no_marks 0 (Some (record { to = b.places.fields p; number = 1 })) h n) ∙ x))
            | inl n ↦ (let y : record { to = b.places.fields p; number = 1 } ≡ a = some_same _ a (sym (set_at no_marks 0 (Some (record { to = b.places.fields p; number = 1 }))) ∙ subst (λ i. set nat_eq no_marks 0 (Some (record { to = b.places.fields p; number = 1 })) i ≡ Some a) (sym n) (sym (ap (λ f. f h) gone_is) ∙ x)) in
                (0, omega arith, first_at ∙ n, ap (λ (u : Mark). u.number) (sym y), ap (λ (u : Mark). u.to) (sym y) ∙ sym last_at, λ i l l'. absurd (omega arith)))
          ];
          no_mark = λ h x. inr (λ i l z. none_not (sym x ∙ ap (λ f. f h) gone_is ∙ subst (λ a. set nat_eq no_marks 0 (Some (record { to = b.places.fields p; number = 1 })) a ≡ Some (record { to = b.places.fields p; number = 1 })) (sym first_at ∙ ap (moved_trail true p).at (let y : 0 ≡ i = omega arith in y) ∙ z) (set_at no_marks 0 (Some (record { to = b.places.fields p; number = 1 })))));
          here_no_mark = λ x. ap (λ f. f ((moved_trail true p).at 1)) gone_is ∙ ap (λ a. set nat_eq no_marks 0 (Some (record { to = b.places.fields p; number = 1 })) a) last_at ∙ set_there nat_eq no_marks 0 (Some (record { to = b.places.fields p; number = 1 })) (b.places.fields p) (differ 0 (b.places.fields p) (λ z. not_same (b.places.fields p) 0 (away_from m) (sym z)));
          has_moved = λ x. absurd (clash true refl x);
        });
        there = λ x. ap (λ f. f (owner ((ghost₀).trail p))) (store_is e) ∙ ap (λ r. set nat_eq (λ h. None) (b.places.fields p) (Some (entry_at_start b p)) (owner r)) (trail_is true e m) ∙ ap (λ a. set nat_eq (λ h. None) (b.places.fields p) (Some (entry_at_start b p)) a) last_at ∙ set_at (λ h. None) (b.places.fields p) (Some (entry_at_start b p)) ∙ ap Some (sym (entry_is e));
      }
        where
          last_at : (moved_trail true p).at 1 ≡ b.places.fields p
          last_at = set_there nat_eq (λ i. b.places.fields p) 0 0 1 (differ 0 1 (λ z. omega arith))

          first_at : (moved_trail true p).at 0 ≡ 0
          first_at = set_at (λ i. b.places.fields p) 0 0

          gone_is : (column_at_start b p).gone ≡ set nat_eq no_marks 0 (Some (record { to = b.places.fields p; number = 1 }))
          gone_is = ap (λ i. if i then set nat_eq no_marks 0 (Some (record { to = b.places.fields p; number = 1 })) else (λ h. None)) m

  birth₀ : ((ghost₀).trail []).at 0 ≡ 0
  birth₀ = ap (λ i. (if i then moved_trail (has_moved b []) [] else unborn 0).at 0) begins.root ∙ by (nat_eq (b.places.fields []) 0) refl
    where
      by : (j : Bool) → nat_eq (b.places.fields []) 0 ≡ j → (moved_trail (not j) []).at 0 ≡ 0
      by true e = number_is (b.places.fields []) 0 e
      by false e = set_at (λ i. b.places.fields []) 0 0

  pub start_shows : Shows.Shows kind.system w course b.before Is_real (start_state b batches) ghost₀
  start_shows = record {
    good = good₀;
    kept = kept₀;
    cells = λ t l m. absurd (omega arith);
    no_cells = λ t n. refl;
    entries = entry₀;
    columns = column₀;
    hands = λ v h e. absurd (none_not e);
    before = refl;
    admitted = omega arith;
    idle = λ t n. (refl, refl);
    root = begins.root;
    root_birth = birth₀;
  }

  -- every host of a trail is one of the hosts
  pub housed₀ : 0 < kind.hosts → (p : Path) (i : ℕ) → i ≤ ((ghost₀).trail p).last → ((ghost₀).trail p).at i < kind.hosts
  housed₀ some p i = by (there b.tree p) refl
    where
      moved : there b.tree p ≡ true → (j : Bool) → (i : ℕ) → i ≤ (moved_trail j p).last → (moved_trail j p).at i < kind.hosts
      moved u false i l = begins.within p u
      moved u true i l = elim (number_cases 0 i) [
        | inl e ↦ subst (λ a. set nat_eq (λ n. b.places.fields p) 0 0 a < kind.hosts) e some
        | inr e ↦ subst (λ a. a < kind.hosts) (sym (set_there nat_eq (λ n. b.places.fields p) 0 0 i e)) (begins.within p u)
      ]

      by : (j : Bool) → there b.tree p ≡ j → i ≤ (if j then moved_trail (has_moved b p) p else unborn 0).last → (if j then moved_trail (has_moved b p) p else unborn 0).at i < kind.hosts
      by false u l = some
      by true u l = moved u (has_moved b p) i l

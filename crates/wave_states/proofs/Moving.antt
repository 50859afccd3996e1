-- Movers owe what an actor owes.
use Rattle.std.proofs.Common.{◌≡◌, ◌<◌, ℕ, zero, suc, Bool, true, false, List, [], ◌∷◌, ◌++◌, length, Some, None, refl, sym, ◌∙◌, ap, subst}
use Rattle.std.specs.Prelude.{if◌then◌else◌}
use Rattle.std.specs.List.{list_any, filter}
use Rattle.std.proofs.lemmas.List.{append-nil, append_assoc}
use Rattle.std.proofs.lemmas.List.Elements.{All-nil}
use mathlib.Core.Bool.{true≢false}
use Rattle.wave_base.specs.declared.path.Step.{Step}
use Rattle.wave_base.specs.declared.path.Path.{Path}
use Rattle.wave_base.specs.Paths.{step_eq, is_above}
use Rattle.wave_base.specs.Tree.{children_of}
use Rattle.wave_states.specs.Actors.{Left, Go, Over}
use Rattle.wave_states.specs.Kinds.{Kind}
use Rattle.wave_states.specs.Alone.{Alone, into, has, goes_on, next_alone, segment_if, after_segments, first_alone}
use Rattle.wave_states.specs.Owes.{Owes, Keeps}
use Rattle.wave_states.specs.Movers.{Move, Mover, MoveEnd, Moved, Absent, advance_on, movers, IsMove, mover_kind}
use Rattle.wave_states.proofs.Segments.{after_first, after_none, after_over}

module _ {F : Type 0} (initial : Path → F) (hosts : ℕ) (fits : Path → F → Type 0) (initial_fits : (p : Path) → fits p (initial p)) where
  abbrev kind : Kind Mover F MoveEnd Move
  kind = mover_kind initial hosts fits

  abbrev End : Path → ℕ → Left Mover F MoveEnd → Type 0
  End p n l = Keeps kind l.actor p n l.pause

  keeps_on : (m : Move) (p : Path) (n : ℕ) (f : F) (cs ss : List Step) → n ≡ 0 → m.path ≡ p ++ ss → m.to < hosts → End p n (advance_on m f cs ss)
  keeps_on m p zero f cs [] z e l = (All-nil (IsMove hosts), (e ∙ append-nil p, l))
  keeps_on m p (suc n) f cs [] z e l = (All-nil (IsMove hosts), (e ∙ append-nil p, l))
  keeps_on m p n f cs (s ∷ ss) z e l = by n z (list_any (step_eq s) cs)
    where
      by : (n : ℕ) → n ≡ 0 → (i : Bool) → End p n (if i then record { actor = record { move = m; rest = ss }; fields = f; pause = Go s } else record { actor = record { move = m; rest = s ∷ ss }; fields = f; pause = Over (Absent m.path) })
      by zero z true = (refl, record { none = refl; way = e ∙ sym (append_assoc p (s ∷ []) ss); within = l })
      by (suc n) z true = (z, record { none = refl; way = e ∙ sym (append_assoc p (s ∷ []) ss); within = l })
      by zero z false = (All-nil (IsMove hosts), tt)
      by (suc n) z false = (All-nil (IsMove hosts), tt)

  same_fields : (m : Move) (f : F) (cs ss : List Step) → (advance_on m f cs ss).fields ≡ f
  same_fields m f cs [] = refl
  same_fields m f cs (s ∷ ss) = by (list_any (step_eq s) cs)
    where
      by : (i : Bool) → (let l : Left Mover F MoveEnd = if i then record { actor = record { move = m; rest = ss }; fields = f; pause = Go s } else record { actor = record { move = m; rest = s ∷ ss }; fields = f; pause = Over (Absent m.path) } in l.fields) ≡ f
      by true = refl
      by false = refl

  -- what a segment leads to
  abbrev goes_by : Alone Mover F MoveEnd → Left Mover F MoveEnd → Alone Mover F MoveEnd
  goes_by x l = goes_on (movers initial) x l.actor l.fields l.pause

  next_by : (x : Alone Mover F MoveEnd) (ss : List Step) → x.result ≡ None → x.actor.rest ≡ ss → next_alone (movers initial) x ≡ goes_by x (advance_on x.actor.move (x.tree.fields x.at) (children_of x.tree x.at) ss)
  next_by x ss none rest = ap (segment_if (movers initial) x) none ∙ ap (λ us. goes_by x (advance_on x.actor.move (x.tree.fields x.at) (children_of x.tree x.at) us)) rest

  -- with so many steps left it has at most one segment more
  ends_by : (ss : List Step) (x : Alone Mover F MoveEnd) → x.result ≡ None → x.actor.rest ≡ ss → (r : MoveEnd) × ((after_segments (movers initial) (suc (length ss)) x).result ≡ Some r)
  ends_by [] x none rest = (Moved x.actor.move.path x.actor.move.to, ap (λ (y : Alone Mover F MoveEnd). y.result) (after_first (movers initial) 0 x ∙ after_none (movers initial) (next_alone (movers initial) x) ∙ next_by x [] none rest))
  ends_by (s ∷ ss) x none rest = subst (λ (y : Alone Mover F MoveEnd). (r : MoveEnd) × (y.result ≡ Some r)) (sym (after_first (movers initial) (suc (length ss)) x))
      (subst (λ (y : Alone Mover F MoveEnd). (r : MoveEnd) × ((after_segments (movers initial) (suc (length ss)) y).result ≡ Some r)) (sym (next_by x (s ∷ ss) none rest)) (by (list_any (step_eq s) (children_of x.tree x.at)) (λ y n e. ends_by ss y n e)))
    where
      by : (i : Bool) → ((y : Alone Mover F MoveEnd) → y.result ≡ None → y.actor.rest ≡ ss → (r : MoveEnd) × ((after_segments (movers initial) (suc (length ss)) y).result ≡ Some r)) →
          (r : MoveEnd) × ((after_segments (movers initial) (suc (length ss)) (goes_by x (if i then record { actor = record { move = x.actor.move; rest = ss }; fields = x.tree.fields x.at; pause = Go s } else record { actor = record { move = x.actor.move; rest = s ∷ ss }; fields = x.tree.fields x.at; pause = Over (Absent x.actor.move.path) }))).result ≡ Some r)
      by true more = entering (has x.held (x.at ++ s ∷ []))
        where
          entering : (was : Bool) → (r : MoveEnd) × ((after_segments (movers initial) (suc (length ss)) (into x (record { move = x.actor.move; rest = ss }) (x.tree.fields x.at) (x.at ++ s ∷ []) false (filter (is_above (x.at ++ s ∷ [])) x.held) was)).result ≡ Some r)
          entering true = more _ refl refl
          entering false = more _ refl refl
      by false more = (Absent x.actor.move.path, after_over (movers initial) (suc (length ss)) _ (Absent x.actor.move.path) refl)

  pub movers_owe : Owes kind
  movers_owe = record {
    initial = initial_fits;
    first = λ j t l. record { none = refl; way = refl; within = l };
    kept = λ a p n f cs h k. subst (fits p) (sym (same_fields a.move f cs a.rest)) k;
    keeps = λ a p n f cs h k. keeps_on a.move p n f cs a.rest h.none h.way h.within;
    looks = λ a p n f cs h k e. absurd (true≢false (sym e));
    ends = λ j t tree l k o. ends_by j.path (first_alone (movers initial) j t tree) refl refl;
  }

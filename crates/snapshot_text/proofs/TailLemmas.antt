-- How far the lines behind a head were read.
use Rattle.std.proofs.Common.{◌≡◌, ◌⊎◌, inl, inr, ◌+◌, ℕ, true, List, [], ◌∷◌, ◌++◌, length, All, refl, sym, ap, subst, ◌∙◌, append_assoc, append-nil}
use Rattle.std.proofs.lemmas.List.{map-append}
use Rattle.std.proofs.lemmas.List.Elements.{All-nil, All-cons, All-head, All-tail, All-append}
use Rattle.wave_base.specs.declared.shape.Shape.{Shape}
use Rattle.wave_base.specs.declared.shot.Shot.{Shot}
use Rattle.wave_base.specs.Names.{HasNames}
use Rattle.wave_text.specs.Splits.{HasNone, IsSplit}
use Rattle.path_text.specs.ShotTexts.{shot_text}
use Rattle.wave_text.proofs.SplitLemmas.{one_split, nowhere}
use Rattle.snapshot_text.specs.declared.error.Fault.{Fault}
use Rattle.snapshot_text.specs.declared.error.Fault.TheVariants as fault
use Rattle.snapshot_text.specs.declared.error.ShotError.{ShotError}
use Rattle.snapshot_text.specs.declared.error.ShotError.TheVariants as error
use Rattle.snapshot_text.specs.Refusals.{error_at}
use Rattle.snapshot_text.specs.Shots.{IsShot, comes_next, are_in_order, paths_of}
use Rattle.snapshot_text.specs.SnapshotTexts.{shots_text}
use Rattle.snapshot_text.specs.Verdicts.{IsFault, BeginsWithFault}
use Rattle.snapshot_text.specs.inner.Tails.{IsNextLine, IsOnlyFault, IsParted, IsEnd, IsOnlyParted, StopsWith, IsRefusal}
use Rattle.snapshot_text.proofs.FaultLemmas.{no_fault}
use Rattle.snapshot_text.proofs.OrderLemmas.{order_more, order_at}
use Rattle.snapshot_text.proofs.ShotLemmas.{front_shot}
use Rattle.wave_base.specs.Memory.{the_refusal}

-- the shots that others have behind these
pub record AreMore (shape : Shape) (before : List Shot) (rest : List ℕ) (others : List Shot) (left : List ℕ) : Type 0 where
  pub more : List Shot
  pub all : others ≡ before ++ more
  pub spelled : rest ≡ shots_text shape more ++ left
  pub each : All (IsShot shape) more

-- these shots were read, and this is left; however the lines are parted at an end, it begins with these shots
pub record AreReadTo (shape : Shape) (tail : List ℕ) (before : List Shot) (rest : List ℕ) : Type 0 where
  pub parted : IsParted shape tail before rest
  pub only : (others : List Shot) (left : List ℕ) → IsParted shape tail others left → IsEnd shape others left → AreMore shape before rest others left

paths-more : (before : List Shot) (s : Shot) (more : List Shot) → paths_of (before ++ s ∷ more) ≡ paths_of before ++ s.path ∷ paths_of more
paths-more before s more = map-append (λ (x : Shot). x.path) before (s ∷ more)

no_cons : (xs ys : List ℕ) → [] ≡ xs ++ 10 ∷ ys → ⊥
no_cons [] ys f = cc
no_cons (x ∷ xs) ys f = cc

module _ (shape : Shape) where
  shots-append : (xs : List Shot) (s : Shot) (rest : List ℕ) → shots_text shape (xs ++ s ∷ []) ++ rest ≡ shots_text shape xs ++ (shot_text shape s ++ 10 ∷ rest)
  shots-append [] s rest = append_assoc (shot_text shape s) (10 ∷ []) rest
  shots-append (x ∷ xs) s rest =
      append_assoc (shot_text shape x) (10 ∷ shots_text shape (xs ++ s ∷ [])) rest
      ∙ ap (λ z. shot_text shape x ++ 10 ∷ z) (shots-append xs s rest)
      ∙ sym (append_assoc (shot_text shape x) (10 ∷ shots_text shape xs) (shot_text shape s ++ 10 ∷ rest))

  -- the front of what stands behind, where it has a shot
  shot_front : (rest : List ℕ) (m : Shot) (more : List Shot) (left : List ℕ) → rest ≡ shots_text shape (m ∷ more) ++ left → rest ≡ shot_text shape m ++ 10 ∷ (shots_text shape more ++ left)
  shot_front rest m more left e = e ∙ append_assoc (shot_text shape m) (10 ∷ shots_text shape more) left

  -- ---- a line is read

  no_end : HasNames shape → (before : List Shot) (rest line after : List ℕ) (s : Shot) → IsSplit 10 rest line after → IsNextLine shape before line s → IsEnd shape before rest → ⊥
  no_end names before rest line after s p l (inl e) = no_cons line after (sym e ∙ p.spelled)
  no_end names before rest line after s p l (inr (f, inl h)) =
      let o = one_split 10 line after h.0 h.1 p.first h.3 (sym p.spelled ∙ h.2) in
      no_fault shape before line names s l f (subst (λ t. IsFault shape before t f) (sym o.0) h.4)
  no_end names before rest line after s p l (inr (f, inr h)) = nowhere 10 line after (subst (HasNone 10) p.spelled h.0)

  one_more : HasNames shape → (before : List Shot) (rest line after : List ℕ) (s : Shot) (others : List Shot) (left : List ℕ) → IsSplit 10 rest line after → IsNextLine shape before line s → IsEnd shape others left
      → (more : List Shot) → others ≡ before ++ more → rest ≡ shots_text shape more ++ left → All (IsShot shape) more → AreMore shape (before ++ s ∷ []) after others left
  one_more names before rest line after s others left p l end [] all spelled each =
      let same : others ≡ before = all ∙ append-nil before in
      absurd (no_end names before rest line after s p l (subst (λ xs. IsEnd shape xs rest) same (subst (IsEnd shape others) (sym spelled) end)))
  one_more names before rest line after s others left p l end (m ∷ more) all spelled each =
      let head : IsShot shape m = All-head (IsShot shape) m more each in
      let parts = front_shot shape names rest line after p m (shots_text shape more ++ left) head (shot_front rest m more left spelled) in
      let same : m ≡ s = l.line_of.only m (record { spelled = parts.0; fits = head }) in
      record {
        more = more;
        all = all ∙ ap (λ x. before ++ x ∷ more) same ∙ sym (append_assoc before (s ∷ []) more);
        spelled = parts.1;
        each = All-tail (IsShot shape) m more each;
      }

  pub line_read : HasNames shape → (tail : List ℕ) (before : List Shot) (rest line after : List ℕ) (s : Shot) → AreReadTo shape tail before rest → IsSplit 10 rest line after → IsNextLine shape before line s → AreReadTo shape tail (before ++ s ∷ []) after
  line_read names tail before rest line after s h p l = record {
    parted = record {
      spelled = h.parted.spelled ∙ ap (λ z. shots_text shape before ++ z) (p.spelled ∙ ap (λ z. z ++ 10 ∷ after) l.line_of.line_of.spelled) ∙ sym (shots-append before s after);
      each = All-append (IsShot shape) before (s ∷ []) h.parted.each (All-cons (IsShot shape) s [] l.line_of.line_of.fits (All-nil (IsShot shape)));
      order = ap (are_in_order []) (paths-more before s []) ∙ order_more [] (paths_of before) s.path h.parted.order l.next;
    };
    only = λ others left q end.
        let m = h.only others left q end in
        one_more names before rest line after s others left p l end m.more m.all m.spelled m.each;
  }

  -- ---- nothing is left

  pub all_read : (tail : List ℕ) (before : List Shot) → AreReadTo shape tail before [] → IsOnlyParted shape tail before []
  all_read tail before h = record {
    parted = h.parted;
    only = λ others left p end. (let m = h.only others left p end in by_more others left m.more m.all m.spelled);
  }
    where
      by_more : (others : List Shot) (left : List ℕ) (more : List Shot) → others ≡ before ++ more → [] ≡ shots_text shape more ++ left → (others ≡ before) × (left ≡ [])
      by_more others left [] all e = (all ∙ append-nil before, sym e)
      by_more others left (m ∷ more) all e = absurd (no_cons (shot_text shape m) (shots_text shape more ++ left) (shot_front [] m more left e))

  -- ---- a line has a fault

  -- a shot that others have comes next
  next_of : (before : List Shot) (m : Shot) (more others : List Shot) → others ≡ before ++ m ∷ more → are_in_order [] (paths_of others) ≡ true → comes_next (paths_of before) m.path ≡ true
  next_of before m more others all order =
      order_at [] (paths_of before) m.path (paths_of more) (sym (ap (are_in_order []) (ap paths_of all ∙ paths-more before m more)) ∙ order)

  module _ (names : HasNames shape) (tail : List ℕ) (before : List Shot) (rest line after : List ℕ) (f : Fault) (h : AreReadTo shape tail before rest) (p : IsSplit 10 rest line after) (o : IsOnlyFault shape before line f) where
    ends_here : (others : List Shot) (left : List ℕ) → are_in_order [] (paths_of others) ≡ true → (more : List Shot) → others ≡ before ++ more → rest ≡ shots_text shape more ++ left → All (IsShot shape) more → (others ≡ before) × (left ≡ rest)
    ends_here others left order [] all e each = (all ∙ append-nil before, sym e)
    ends_here others left order (m ∷ more) all e each =
        let head : IsShot shape m = All-head (IsShot shape) m more each in
        let parts = front_shot shape names rest line after p m (shots_text shape more ++ left) head (shot_front rest m more left e) in
        absurd (o.not_next m (record { spelled = parts.0; fits = head }) (next_of before m more others all order))

    one_fault : (g : Fault) → BeginsWithFault shape before rest g → g ≡ f
    one_fault g (inl b) =
        let s = one_split 10 line after b.0 b.1 p.first b.3 (sym p.spelled ∙ b.2) in
        o.only g (subst (λ t. IsFault shape before t g) (sym s.0) b.4)
    one_fault g (inr b) = absurd (nowhere 10 line after (subst (HasNone 10) p.spelled b.0))

    pub line_stops : StopsWith shape tail before f
    line_stops = record {
      rest = rest;
      parted = record { parted = h.parted; only = λ others left q end. (let m = h.only others left q end in ends_here others left q.order m.more m.all m.spelled m.each) };
      wrong = inl (line, after, p.spelled, p.first, o.fault);
      only = one_fault;
    }

  -- a line was refused
  pub line_refused : HasNames shape → (tail : List ℕ) (before : List Shot) (rest line after : List ℕ) (n : ℕ) (e : ShotError) → AreReadTo shape tail before rest → IsSplit 10 rest line after → n ≡ length before + 2 → IsRefusal shape before line n e
      → (e ≡ error.OutOfMemory the_refusal) ⊎ ((xs : List Shot) × (f : Fault) × StopsWith shape tail xs f × (e ≡ error_at f (length xs + 2)))
  line_refused names tail before rest line after n e h p number (inl m) = inl m
  line_refused names tail before rest line after n e h p number (inr r) = inr (before, r.0, line_stops names tail before rest line after r.0 h p r.1, r.2 ∙ ap (error_at r.0) number)

  -- ---- no line feed stands behind the last line

  module _ (tail : List ℕ) (before : List Shot) (rest : List ℕ) (h : AreReadTo shape tail before rest) (some : rest ≡ [] → ⊥) (none : HasNone 10 rest) where
    open_here : (others : List Shot) (left : List ℕ) (more : List Shot) → others ≡ before ++ more → rest ≡ shots_text shape more ++ left → (others ≡ before) × (left ≡ rest)
    open_here others left [] all e = (all ∙ append-nil before, sym e)
    open_here others left (m ∷ more) all e = absurd (nowhere 10 (shot_text shape m) (shots_text shape more ++ left) (subst (HasNone 10) (shot_front rest m more left e) none))

    open_fault : (g : Fault) → BeginsWithFault shape before rest g → g ≡ fault.Syntax
    open_fault g (inl b) = absurd (nowhere 10 b.0 b.1 (subst (HasNone 10) b.2 none))
    open_fault g (inr b) = b.2

    pub open_stops : StopsWith shape tail before fault.Syntax
    open_stops = record {
      rest = rest;
      parted = record { parted = h.parted; only = λ others left q end. (let m = h.only others left q end in open_here others left m.more m.all m.spelled) };
      wrong = inr (none, some, refl);
      only = open_fault;
    }

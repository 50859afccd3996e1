-- Each rule has one drive, which is a run and ends in a finished state.
use Rattle.std.proofs.Common.{◌≡◌, ℕ, zero, suc, ◌+◌, ◌*◌, ◌<◌, ◌≤◌, Option, Some, None, List, [], ◌∷◌, ◌++◌, length, refl, sym, ◌∙◌, ap, subst, arith}
use Rattle.std.specs.Prelude.{All, option_and_then}
use Rattle.std.proofs.lemmas.List.{length-append}
use Rattle.wave_states.specs.States.{State, Hand}
use Rattle.wave_states.specs.Labels.{Label}
use Rattle.wave_states.specs.Steps.{step}
use Rattle.wave_states.specs.Canonical.{enabled_labels}
use Rattle.wave_states.specs.Runs.{Rule, run, drive, keep_on, picked_labels, IsDrive}
use Rattle.wave_states.specs.Alone.{job_after}
use Rattle.wave_states.specs.Begins.{Begin, start_state}
use Rattle.wave_states.specs.Kinds.{Kind}
use Rattle.wave_states.specs.Owes.{Owes, IsBegin}
use Rattle.wave_states.specs.Work.{work_after}
use Rattle.wave_theory.specs.Counted.{size, most_moves}
use Rattle.wave_theory.specs.Drives.{Picks, HasDrive}
use Rattle.wave_theory.specs.Hands.{CanStop}
use Rattle.wave_theory.specs.Listed.{IsIn}
use Rattle.wave_theory.proofs.Basics.{none_not, some_same}
use Rattle.wave_theory.proofs.Frames.{option_some}
use Rattle.wave_theory.proofs.Along.{run_more}
use Rattle.wave_theory.proofs.Canon
use Rattle.wave_theory.proofs.InHand
use Rattle.wave_theory.proofs.Noted
use Rattle.wave_theory.proofs.Often
use Rattle.wave_theory.proofs.Passed
use Rattle.wave_theory.proofs.GoodStates.{Good_state}
use Rattle.wave_theory.proofs.Reached

module _ {A F R J : Type 0} (kind : Kind A F R J) (owes : Owes kind) (b : Begin F) (batches : List (List J)) (begins : IsBegin kind b) (jobs : All (All kind.is_job) batches) (some_host : 0 < kind.hosts) (workers : ℕ) (some_worker : 0 < workers) (n : ℕ)
    (over : job_after kind.system b batches n ≡ None) (rule : Rule A F R J) (picks : Picks rule) where
  abbrev start : State A F R J
  start = start_state b batches

  abbrev list : State A F R J → List Label
  list s = enabled_labels kind.system workers kind.hosts s

  abbrev Drives : ℕ → State A F R J → List Label → Type 0
  Drives x s ls = IsDrive kind.system workers kind.hosts rule x s ls

  abbrev top : ℕ
  top = size (work_after kind.system b batches n) + (work_after kind.system b batches n).entered * most_moves b (work_after kind.system b batches n)

  few : (ls : List Label) (s : State A F R J) → run kind.system workers start ls ≡ Some s → length ls ≤ top
  few ls s r = (Passed.bounded kind owes b batches begins jobs some_host workers some_worker ls s r (Often.each kind owes b batches begins jobs some_host workers ls s r)).within n over

  good : (ls : List Label) (s : State A F R J) → run kind.system workers start ls ≡ Some s → Good_state kind owes b batches begins jobs s
  good ls s r = Reached.reached kind owes b batches begins jobs some_host workers s ls r

  -- from a state on
  record Goes (x : ℕ) (s : State A F R J) : Type 0 where
    labels : List Label
    is_drive : Drives x s labels
    state : State A F R J
    is_run : run kind.system workers s labels ≡ Some state
    empty : list state ≡ []

  ends_here : (x : ℕ) (s : State A F R J) → list s ≡ [] → Goes x s
  unfolding IsDrive run
  ends_here x s e = record { labels = []; is_drive = e; state = s; is_run = refl; empty = e }

  goes_by : (x : ℕ) (s v : State A F R J) (l : Label) → (rule x s (list s)).1 ≡ Some l → step kind.system workers s l ≡ Some v → Goes (rule x s (list s)).0 v → Goes x s
  unfolding IsDrive run
  goes_by x s v l p e g = record { labels = l ∷ g.labels; is_drive = (p, v, e, g.is_drive); state = g.state; is_run = ap (option_and_then (λ u. run kind.system workers u g.labels)) e ∙ g.is_run; empty = g.empty }

  go_on : (f : ℕ) (before : List Label) (s : State A F R J) (x : ℕ) → run kind.system workers start before ≡ Some s → top < length before + f → Goes x s
  go_on zero before s x r l = absurd (never _ _ (few before s r) l)
    where
      never : (a c : ℕ) → a ≤ c → c < a + 0 → ⊥
      never a c l m = omega (arith, l, m)
  go_on (suc f) before s x r l = by (list s) refl (go_on f)
    where
      less : (a c : ℕ) → c < a + suc f → (m : ℕ) → m ≡ a + 1 → c < m + f
      less a c l m e = omega (arith, l, e)

      by : (ls : List Label) → list s ≡ ls → ((before : List Label) (s : State A F R J) (x : ℕ) → run kind.system workers start before ≡ Some s → top < length before + f → Goes x s) → Goes x s
      by [] e more = ends_here x s e
      by (m ∷ ms) e more =
          let p = picks.one_of x s m ms in
          let c = (Canon.listed kind owes b batches begins jobs s (good before s r) workers p.0).0 (subst (λ ls. IsIn ls p.0) (sym e) p.2) in
          let v = option_some (step kind.system workers s p.0) c.0 in
          goes_by x s v.0 p.0 (subst (λ ls. (rule x s ls).1 ≡ Some p.0) (sym e) p.1) v.1
          (more (before ++ p.0 ∷ []) v.0 (rule x s (list s)).0 (run_more kind owes b batches begins jobs some_host workers before start s v.0 p.0 r v.1) (less (length before) top l _ (length-append before (p.0 ∷ []))))

  -- there is no other
  not_both : (x : ℕ) (s : State A F R J) (l : Label) → list s ≡ [] → (rule x s (list s)).1 ≡ Some l → ⊥
  not_both x s l e p = none_not (sym (picks.none x s) ∙ subst (λ ls. (rule x s ls).1 ≡ Some l) e p)

  only : (x : ℕ) (s : State A F R J) (ls ks : List Label) → Drives x s ls → Drives x s ks → ls ≡ ks
  unfolding IsDrive
  only x s [] [] d e = refl
  only x s [] (k ∷ ks) d e = absurd (not_both x s k d e.0)
  only x s (l ∷ ls) [] d e = absurd (not_both x s l e d.0)
  only x s (l ∷ ls) (k ∷ ks) d e =
      let z : l ≡ k = some_same l k (sym d.0 ∙ e.0) in
      let y : d.1 ≡ e.1 = some_same d.1 e.1 (sym d.2 ∙ ap (step kind.system workers s) z ∙ e.2) in
      ap (λ m. m ∷ ls) z ∙ ap (λ ms. k ∷ ms) (only (rule x s (list s)).0 e.1 ls ks (subst (λ u. Drives (rule x s (list s)).0 u ls) y d.3) e.3)

  -- and it is what is picked
  picked_none : (more : ℕ → State A F R J → List Label) (s : State A F R J) (p : ℕ × Option Label) → p.1 ≡ None → picked_labels kind.system workers more s p ≡ []
  picked_none more s (x, None) e = refl
  picked_none more s (x, Some l) e = absurd (none_not (sym e))

  picked_some : (more : ℕ → State A F R J → List Label) (s v : State A F R J) (p : ℕ × Option Label) (l : Label) → p.1 ≡ Some l → step kind.system workers s l ≡ Some v → picked_labels kind.system workers more s p ≡ l ∷ more p.0 v
  picked_some more s v (x, None) l e f = absurd (none_not e)
  picked_some more s v (x, Some m) l e f = (let z : m ≡ l = some_same m l e in ap (keep_on kind.system workers more x m) (ap (step kind.system workers s) z ∙ f) ∙ ap (λ k. k ∷ more x v) z)

  computed : (x : ℕ) (s : State A F R J) (ls : List Label) → Drives x s ls → (i : ℕ) → length ls ≤ i → drive kind.system workers kind.hosts rule i x s ≡ ls
  unfolding IsDrive drive
  computed x s [] d zero l = refl
  computed x s [] d (suc i) l = picked_none (λ y v. drive kind.system workers kind.hosts rule i y v) s (rule x s (list s)) (subst (λ es. (rule x s es).1 ≡ None) (sym d) (picks.none x s))
  computed x s (m ∷ ls) d zero l = absurd (omega (arith, l))
  computed x s (m ∷ ls) d (suc i) l = picked_some (λ y v. drive kind.system workers kind.hosts rule i y v) s d.1 (rule x s (list s)) m d.0 d.2 ∙ ap (λ es. m ∷ es) (computed (rule x s (list s)).0 d.1 ls d.3 i (less (length ls) i l))
    where
      less : (a c : ℕ) → suc a ≤ suc c → a ≤ c
      less a c l = omega (arith, l)

  begun : run kind.system workers start [] ≡ Some start
  unfolding run
  begun = refl

  pub driven : (x : ℕ) → HasDrive kind workers b batches rule x
  driven x = record {
    labels = g.labels;
    is_drive = g.is_drive;
    only = λ others d. only x start others g.labels d g.is_drive;
    state = g.state;
    is_run = g.is_run;
    finished = (Canon.empty_at_end kind owes b batches begins jobs g.state k workers some_worker stoppable).0 g.empty;
    computed = computed x start g.labels g.is_drive;
  }
    where
      enough : (a : ℕ) → a < 0 + suc a
      enough a = omega arith

      g : Goes x start
      g = go_on (suc top) [] start x begun (enough top)

      k : Good_state kind owes b batches begins jobs g.state
      k = good g.labels g.state g.is_run

      stoppable : (v : ℕ) (hd : Hand A F) → (g.state).hands v ≡ Some hd → CanStop kind.system workers g.state v hd
      stoppable v hd i = InHand.can_stop kind owes b batches begins jobs g.state k v hd i workers (InHand.below_workers workers g.state v hd i (Noted.bounds kind owes b batches begins jobs some_host workers g.labels g.state g.is_run).hands)

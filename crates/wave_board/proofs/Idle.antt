-- Of a worker that has as many Stops as Starts in the journal the hand is empty.
use Rattle.std.proofs.Common.{◌≡◌, ◌∙◌, inl, inr, ℕ, ◌+◌, nat_eq, Bool, true, false, List, [], ◌∷◌, ◌++◌, length, map, take, drop, Option, Some, None, refl, sym, ap, subst, zero-add, arith}
use Rattle.std.specs.Prelude.{filter, if◌then◌else◌, is_none, slice_get, suc, nat_lt, ◌==◌, ◌&&◌}
use Rattle.std.proofs.lemmas.List.{length-append, take-append-drop}
use Rattle.std.proofs.lemmas.List.Elements.{filter-append}
use Rattle.wave_base.specs.declared.numbers.Worker.{Worker}
use Rattle.wave_base.specs.declared.path.Path.{Path}
use Rattle.wave_labels.specs.declared.label.Label as declared
use Rattle.wave_labels.specs.Labels.{act_of, label_of}
use Rattle.wave_states.specs.Actors.{Actors}
use Rattle.wave_states.specs.Begins.{start_state}
use Rattle.wave_states.specs.Labels.{Act, Label, Admit, Queue, Grant, Visit, Start, Stop, Free, Pass, Land, Commit, is_start, is_stop}
use Rattle.wave_states.specs.Runs.{run}
use Rattle.wave_states.specs.States.{Hand, State}
use Rattle.wave_states.specs.Steps.{Bench, act_bench, admit, after_admit, commit, after_commit, next_ticket, only_if, part_of, step}
use Rattle.wave_theory.specs.Hands.{HandsStay}
use Rattle.wave_theory.proofs.Basics.{bool_cases, if_some, none_not, not_same, number_cases, number_self, only_some, options, set_at, some_same, then_some}
use Rattle.wave_theory.proofs.Opened.{starts}
use Rattle.plan_actors.specs.PlanActors.{plan_actors}
use Rattle.plan_actors.specs.Plans.{begin_in}
use Rattle.kept_lock.specs.History.{entries_of}
use Rattle.wave_effects.specs.Machines.{TheState}
use Rattle.wave_effects.proofs.Opening.{Left, left_by, free_found, grant_found, land_found, pass_found, queue_found, visit_found}
use Rattle.wave_effects.proofs.Starting.{start_found}
use Rattle.wave_effects.proofs.Stopping.{stop_found}
use Rattle.wave_board.specs.declared.board.Board.{Board}
use Rattle.wave_board.specs.declared.board.StopWord.{StopWord}
use Rattle.wave_board.specs.declared.origin.Origin.{Origin}
use Rattle.wave_board.specs.declared.trail.StopCause.{StopCause}
use Rattle.wave_board.specs.declared.trail.Trail.{Trail}
use Rattle.wave_board.specs.declared.trail.Trail.TheVariants.{Step, Halt}
use Rattle.wave_board.specs.Boards.{IsAt, history_of, owner_of, with_halt}
use Rattle.wave_board.specs.Taking.{AreEven, begins, ends}

-- 1 where a hand is full, and where a test holds
abbrev full : {H : Type 0} → Option H → ℕ
full None = 0
full (Some h) = 1

abbrev pub one : Bool → ℕ
one true = 1
one false = 0

module _ {A F R J : Type 0} (sys : Actors A F R J) (workers : ℕ) (s v : State A F R J) where
  -- what a label makes of its worker's hand
  abbrev Turns : Label → Type 0
  Turns l = full (s.hands l.worker) + one (is_start l.act) ≡ one (is_stop l.act) + full (v.hands l.worker)

  module _ (l : Label) (left : Left sys workers s v l) where
    hand_is : v.hands l.worker ≡ left.bench.hand
    hand_is = ap (λ (z : State A F R J). z.hands l.worker) (sym left.gives) ∙ set_at s.hands l.worker left.bench.hand

    calm : is_start l.act ≡ false → is_stop l.act ≡ false → s.hands l.worker ≡ None → left.bench.hand ≡ None → Turns l
    calm no_start no_stop idle empty =
        let a : full (s.hands l.worker) ≡ 0 = ap full idle in
        let b : full (v.hands l.worker) ≡ 0 = ap full (hand_is ∙ empty) in
        let d : one (is_start l.act) ≡ 0 = ap one no_start in
        let e : one (is_stop l.act) ≡ 0 = ap one no_stop in
        omega (arith, a, b, d, e)

  turns : (w host : ℕ) (a : Act) → step sys workers s (record { worker = w; host = host; act = a }) ≡ Some v → Turns (record { worker = w; host = host; act = a })
  unfolding step
  turns w host (Admit t) e =
      let i = (if_some (is_none (s.hands w)) (admit sys s host t) v (if_some (nat_lt w workers) _ v e).1).1 in
      let j = then_some (λ j. only_if ((host == 0) && (t == next_ticket s)) (after_admit sys s t j)) (slice_get s.head.known s.admitted) v i in
      let x : full (s.hands w) ≡ full (v.hands w) = ap (λ (z : State A F R J). full (z.hands w)) (only_some _ (after_admit sys s t j.0) v j.2).1 in
      let d : one (is_start (Admit t)) ≡ 0 = refl in
      let u : one (is_stop (Admit t)) ≡ 0 = refl in
      omega (arith, x, d, u)
  turns w host (Commit t) e =
      let i = (if_some (is_none (s.hands w)) (commit sys s host t) v (if_some (nat_lt w workers) _ v e).1).1 in
      let r = then_some (λ r. only_if ((host == 0) && (t == suc (s.before + s.head.done))) (after_commit sys s r)) (s.cells t).result v i in
      let x : full (s.hands w) ≡ full (v.hands w) = ap (λ (z : State A F R J). full (z.hands w)) (only_some _ (after_commit sys s r.0) v r.2).1 in
      let d : one (is_start (Commit t)) ≡ 0 = refl in
      let u : one (is_stop (Commit t)) ≡ 0 = refl in
      omega (arith, x, d, u)
  turns w host (Queue t k p) e =
      let l : Label = record { worker = w; host = host; act = Queue t k p } in
      let left = left_by sys workers s v l refl e in
      let c = queue_found sys host (part_of s t p) left.bench t k p (s.hands w) left.found in
      calm l left refl refl c.idle c.hand
  turns w host (Grant t p) e =
      let l : Label = record { worker = w; host = host; act = Grant t p } in
      let left = left_by sys workers s v l refl e in
      let c = grant_found sys host (part_of s t p) left.bench t 0 p (s.hands w) left.found in
      calm l left refl refl c.idle c.hand
  turns w host (Visit t k p) e =
      let l : Label = record { worker = w; host = host; act = Visit t k p } in
      let left = left_by sys workers s v l refl e in
      let c = visit_found sys host (part_of s t p) left.bench t k p (s.hands w) left.found in
      calm l left refl refl c.idle c.hand
  turns w host (Free t k p) e =
      let l : Label = record { worker = w; host = host; act = Free t k p } in
      let left = left_by sys workers s v l refl e in
      let c = free_found sys host (part_of s t p) left.bench t k p (s.hands w) left.found in
      calm l left refl refl c.idle c.hand
  turns w host (Pass t k p g) e =
      let l : Label = record { worker = w; host = host; act = Pass t k p g } in
      let left = left_by sys workers s v l refl e in
      let c = pass_found sys host (part_of s t p) left.bench t k p g (s.hands w) left.found in
      calm l left refl refl c.idle c.hand
  turns w host (Land t k p) e =
      let l : Label = record { worker = w; host = host; act = Land t k p } in
      let left = left_by sys workers s v l refl e in
      let c = land_found sys host (part_of s t p) left.bench t k p (s.hands w) left.found in
      calm l left refl refl c.idle c.hand
  turns w host (Start t p) e =
      let l : Label = record { worker = w; host = host; act = Start t p } in
      let left = left_by sys workers s v l refl e in
      let c = start_found sys host (part_of s t p) left.bench t p (s.hands w) left.found in
      let x = starts t p host (part_of s t p) left.bench c.found in
      let a : full (s.hands w) ≡ 0 = ap full c.idle in
      let b : full (v.hands w) ≡ 1 = ap full (hand_is l left ∙ ap (λ (z : Bench A F R). z.hand) (sym x.gives)) in
      let d : one (is_start (Start t p)) ≡ 1 = refl in
      let u : one (is_stop (Start t p)) ≡ 0 = refl in
      omega (arith, a, b, d, u)
  turns w host (Stop t p) e =
      let l : Label = record { worker = w; host = host; act = Stop t p } in
      let left = left_by sys workers s v l refl e in
      elim (options (s.hands w)) [
        | inl none ↦ absurd (none_not (subst (λ o. act_bench sys (Stop t p) host (part_of s t p) o ≡ Some left.bench) none left.found))
        | inr some ↦ (let c = stop_found sys host (part_of s t p) left.bench t p (s.hands w) some.0 some.1 left.found in
            let a : full (s.hands w) ≡ 1 = ap full some.1 in
            let b : full (v.hands w) ≡ 0 = ap full (hand_is l left ∙ c.hand) in
            let d : one (is_start (Stop t p)) ≡ 0 = refl in
            let u : one (is_stop (Stop t p)) ≡ 1 = refl in
            omega (arith, a, b, d, u))
      ]

-- what a Start puts into the hand
pub begun : {A F R J : Type 0} (sys : Actors A F R J) (workers : ℕ) (s v : State A F R J) (w host t : ℕ) (p : Path) → step sys workers s (record { worker = w; host = host; act = Start t p }) ≡ Some v → (g : Hand A F) → v.hands w ≡ Some g → (g.ticket ≡ t) × (g.path ≡ p)
begun {A} {F} {R} {J} sys workers s v w host t p e g is =
    let l : Label = record { worker = w; host = host; act = Start t p } in
    let left = left_by sys workers s v l refl e in
    let c = start_found sys host (part_of s t p) left.bench t p (s.hands w) left.found in
    let x = starts t p host (part_of s t p) left.bench c.found in
    let same = sym is ∙ hand_is sys workers s v l left ∙ ap (λ (z : Bench A F R). z.hand) (sym x.gives) in
    (ap (λ (o : Option (Hand A F)). ticket_or t o) same, ap (λ (o : Option (Hand A F)). path_or p o) same)
  where
    ticket_or : ℕ → Option (Hand A F) → ℕ
    ticket_or n None = n
    ticket_or n (Some h) = h.ticket

    path_or : Path → Option (Hand A F) → Path
    path_or q None = q
    path_or q (Some h) = h.path

-- a worker with an empty hand can take no Stop
pub no_stop : {A F R J : Type 0} (sys : Actors A F R J) (workers : ℕ) (s v : State A F R J) (l : Label) → s.hands l.worker ≡ None → step sys workers s l ≡ Some v → is_stop l.act ≡ false
no_stop sys workers s v l idle e = elim (bool_cases (is_stop l.act)) [
  | inl stops ↦ (let t = turns sys workers s v l.worker l.host l.act e in
      let a : full (s.hands l.worker) ≡ 0 = ap full idle in
      let b : one (is_stop l.act) ≡ 1 = ap one stops in
      absurd (by_start (is_start l.act) (is_stop l.act) stops (starts_apart l.act) t a b))
  | inr stays ↦ stays
]
  where
    starts_apart : (a : Act) → is_stop a ≡ true → is_start a ≡ false
    starts_apart (Stop t p) e = refl
    starts_apart (Start t p) e = absurd (grind arith)
    starts_apart (Admit t) e = refl
    starts_apart (Queue t k p) e = refl
    starts_apart (Grant t p) e = refl
    starts_apart (Visit t k p) e = refl
    starts_apart (Free t k p) e = refl
    starts_apart (Pass t k p g) e = refl
    starts_apart (Land t k p) e = refl
    starts_apart (Commit t) e = refl

    by_start : (x y : Bool) → y ≡ true → (y ≡ true → x ≡ false) → full (s.hands l.worker) + one x ≡ one y + full (v.hands l.worker) → full (s.hands l.worker) ≡ 0 → one y ≡ 1 → ⊥
    by_start x y is apart t a b = (let d : one x ≡ 0 = ap one (apart is) in omega (arith, t, a, b, d))

-- so many of the worker's entries pass the test
abbrev pub count : (Trail → Bool) → ℕ → List Trail → ℕ
count p w ts = length (filter p (entries_of owner_of w ts))

module _ (p : Trail → Bool) (w : ℕ) where
  pub count_append : (xs ys : List Trail) → count p w (xs ++ ys) ≡ count p w xs + count p w ys
  count_append xs ys =
      ap (λ z. length (filter p z)) (filter-append (λ e. nat_eq (owner_of e) w) xs ys)
      ∙ ap length (filter-append p (entries_of owner_of w xs) (entries_of owner_of w ys))
      ∙ length-append (filter p (entries_of owner_of w xs)) (filter p (entries_of owner_of w ys))

  -- an entry that is not the worker's, or is
  count_other : (t : Trail) (ts : List Trail) → nat_eq (owner_of t) w ≡ false → count p w (t ∷ ts) ≡ count p w ts
  count_other t ts e = ap (λ (b : Bool). length (filter p (if b then t ∷ entries_of owner_of w ts else entries_of owner_of w ts))) e

  by_pass : (b : Bool) (t : Trail) (n : List Trail) → length (if b then t ∷ n else n) ≡ one b + length n
  by_pass true t n = omega arith
  by_pass false t n = omega arith

  pub count_own : (t : Trail) (ts : List Trail) → nat_eq (owner_of t) w ≡ true → count p w (t ∷ ts) ≡ one (p t) + count p w ts
  count_own t ts e =
      ap (λ (b : Bool). length (filter p (if b then t ∷ entries_of owner_of w ts else entries_of owner_of w ts))) e
      ∙ by_pass (p t) t (filter p (entries_of owner_of w ts))

  -- a Halt is neither
  count_halt : ((x : Worker) (why : StopCause) → p (Halt x why) ≡ false) → (word : Option StopWord) (ts : List Trail) → count p w (with_halt word ts) ≡ count p w ts
  count_halt never None ts = refl
  count_halt never (Some x) ts =
      count_append (take x.place ts) (Halt x.worker x.why ∷ drop x.place ts)
      ∙ ap (λ n. count p w (take x.place ts) + n) (passed (drop x.place ts))
      ∙ sym (count_append (take x.place ts) (drop x.place ts))
      ∙ ap (count p w) (take-append-drop x.place ts)
    where
      passed : (ys : List Trail) → count p w (Halt x.worker x.why ∷ ys) ≡ count p w ys
      passed ys = elim (bool_cases (nat_eq x.worker.0 w)) [
        | inl own ↦ count_own (Halt x.worker x.why) ys own ∙ ap (λ b. one b + count p w ys) (never x.worker x.why) ∙ zero-add (count p w ys)
        | inr other ↦ count_other (Halt x.worker x.why) ys other
      ]

module _ {A F R J : Type 0} (sys : Actors A F R J) (stay : HandsStay sys) (workers w : ℕ) where
  -- Starts fill the hand and Stops empty it
  walk : (js : List declared.Label) (s v : State A F R J) → run sys workers s (map label_of js) ≡ Some v → full (s.hands w) + count begins w (map Step js) ≡ count ends w (map Step js) + full (v.hands w)
  unfolding run
  walk [] s v e = (let x = ap (λ (z : State A F R J). full (z.hands w)) (some_same s v e) in omega (arith, x))
  walk (j ∷ js) s v e =
      let a = then_some (λ z. run sys workers z (map label_of js)) (step sys workers s (label_of j)) v e in
      let more = walk js a.0 v a.2 in
      elim (number_cases j.worker.0 w) [
        | inl own ↦ (let u = subst (λ k. nat_eq j.worker.0 k ≡ true) own (number_self j.worker.0) in
            let b = count_own begins w (Step j) (map Step js) u in
            let d = count_own ends w (Step j) (map Step js) u in
            let t = subst (λ k. full (s.hands k) + one (is_start (act_of j.act)) ≡ one (is_stop (act_of j.act)) + full ((a.0).hands k)) own (turns sys workers s a.0 j.worker.0 j.host.0 (act_of j.act) a.1) in
            omega (arith, more, b, d, t))
        | inr other ↦ (let b = count_other begins w (Step j) (map Step js) other in
            let d = count_other ends w (Step j) (map Step js) other in
            let t = ap full (stay workers s a.0 (label_of j) w a.1 (λ same. not_same j.worker.0 w other (sym same))) in
            omega (arith, more, b, d, t))
      ]

empty_hand : {H : Type 0} (o : Option H) → full o ≡ 0 → o ≡ None
empty_hand None e = refl
empty_hand (Some h) e = absurd (omega (arith, e))

pub idle : (b : Board) (o : Origin) (s : TheState) (w : ℕ) → IsAt b o s → HandsStay (plan_actors b.machine.kept.plan.program) → AreEven (entries_of owner_of w (history_of b)) → s.hands w ≡ None
idle b o s w h stay even =
    let p = b.machine.kept.plan in
    let from = start_state (begin_in p o.start.now) p.script.batches in
    let x : full (from.hands w) + count begins w (map Step b.journal.labels) ≡ count ends w (map Step b.journal.labels) + full (s.hands w) = walk (plan_actors p.program) stay p.workers w b.journal.labels from s h.reached in
    let none : full (from.hands w) ≡ 0 = refl in
    let y : count begins w (history_of b) ≡ count begins w (map Step b.journal.labels) = count_halt begins w (λ u why. refl) b.word (map Step b.journal.labels) in
    let z : count ends w (history_of b) ≡ count ends w (map Step b.journal.labels) = count_halt ends w (λ u why. refl) b.word (map Step b.journal.labels) in
    let e : count begins w (history_of b) ≡ count ends w (history_of b) = even in
    empty_hand (s.hands w) (omega (arith, x, none, y, z, e))

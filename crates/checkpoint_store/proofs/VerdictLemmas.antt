-- What is said of a whole text, from what is known of its front, its snapshot and its tail.
use Rattle.std.proofs.Common.{◌≡◌, ◌≤◌, ◌<◌, ◌+◌, inl, inr, ℕ, List, [], ◌∷◌, ◌++◌, length, Result, Ok, Err, refl, sym, ap, subst, ◌∙◌, append-nil, arith}
use Rattle.std.specs.List.{AllByRecursion}
use Rattle.std.proofs.lemmas.List.Elements.{recursion_from_All}
use Rattle.wave_base.specs.declared.finished.Place.{Place}
use Rattle.wave_base.specs.declared.shape.Shape.{Shape}
use Rattle.wave_base.specs.declared.shot.Shot.{Shot}
use Rattle.wave_base.specs.Names.{HasNames}
use Rattle.wave_base.specs.Shapes.{IsShape}
use Rattle.path_text.specs.Found.{IsPath}
use Rattle.snapshot_text.specs.declared.error.Fault.{Fault as ShotFault}
use Rattle.snapshot_text.specs.declared.error.Fault.TheVariants as snapshot
use Rattle.snapshot_text.specs.declared.error.ShotError.{ShotError}
use Rattle.snapshot_text.specs.declared.error.ShotError.TheVariants as shot
use Rattle.snapshot_text.specs.Refusals.{error_at as refused_shot}
use Rattle.snapshot_text.specs.Shots.{IsShot, paths_of}
use Rattle.snapshot_text.specs.SnapshotTexts.{IsSnapshotText, snapshot_text}
use Rattle.snapshot_text.specs.Verdicts.{IsRefused as IsRefusedSnapshot, IsVerdict as IsSnapshotVerdict, IsOnlyVerdict as IsOnlySnapshot}
use Rattle.checkpoint_store.specs.declared.error.CheckError.{CheckError}
use Rattle.checkpoint_store.specs.declared.error.CheckError.TheVariants as error
use Rattle.checkpoint_store.specs.declared.error.Fault.{Fault}
use Rattle.checkpoint_store.specs.declared.error.Fault.TheVariants as fault
use Rattle.checkpoint_store.specs.declared.numbers.Numbers.{Numbers}
use Rattle.checkpoint_store.specs.declared.point.Checkpoint.{Checkpoint}
use Rattle.checkpoint_store.specs.CheckpointTexts.{front_text, tail_text, checkpoint_text, IsCheckpointText}
use Rattle.checkpoint_store.specs.Dues.{front_dues}
use Rattle.checkpoint_store.specs.Points.{AreInRange, IsPoint, numbers_of}
use Rattle.checkpoint_store.specs.Refusals.{error_at}
use Rattle.checkpoint_store.specs.Verdicts.{StopsAt, snapshot_part, behind_part, fault_of, HasFront, HasTail, IsWrongTail, IsRefusedShot, IsRefusedTail, IsRefused, IsVerdict, IsOnlyVerdict}
use Rattle.checkpoint_store.specs.inner.Steps.{refusal_behind}
use Rattle.checkpoint_store.proofs.FrontLemmas.{one_front, front_goes, one_front_stop}
use Rattle.checkpoint_store.proofs.PartLemmas.{part_whole, written_part, tail_begins}
use Rattle.checkpoint_store.proofs.TailLemmas.{one_tail, tail_goes, one_wrong_tail}

-- the paths of shots are paths
pub shot_paths : (shape : Shape) (ss : List Shot) → AllByRecursion (IsShot shape) ss → AllByRecursion (IsPath shape) (paths_of ss)
shot_paths shape [] h = tt
shot_paths shape (s ∷ ss) h = (h.0.path, shot_paths shape ss h.1)

few_hosts : (n : Numbers) → AreInRange n → n.hosts ≤ 256
few_hosts n h = omega (arith, h.few_hosts)

module _ (shape : Shape) (is : IsShape shape) (names : HasNames shape) (text : List ℕ) where
  abbrev Verdict : Type 0
  Verdict = Result Checkpoint CheckError

  abbrev before : ℕ
  before = 3 + length shape.classes

  -- ---- a verdict that refuses, by its fault and its line

  other_errors : (r : Verdict) → ((f : Fault) (n : ℕ) → IsRefused shape text f n → ◌≡◌ {A = Verdict} (Err (error_at f n)) r) → (e : CheckError) → IsVerdict shape text (Err e) → ◌≡◌ {A = Verdict} (Err e) r
  other_errors r f (error.Syntax n) v = f fault.Syntax n v
  other_errors r f (error.Service n) v = f fault.Service n v
  other_errors r f (error.Tree n) v = f fault.Tree n v
  other_errors r f (error.OutOfMemory w) v = absurd v

  refused_is : (f : Fault) (n : ℕ) → IsRefused shape text f n → ((other : Verdict) → IsVerdict shape text other → other ≡ Err (error_at f n)) → IsOnlyVerdict shape text (Err (error_at f n))
  refused_is fault.Syntax n h only = (h, only)
  refused_is fault.Service n h only = (h, only)
  refused_is fault.Tree n h only = (h, only)

  same_error : (f g : Fault) (n m : ℕ) → f ≡ g → n ≡ m → ◌≡◌ {A = Verdict} (Err (error_at f n)) (Err (error_at g m))
  same_error f g n m e h = λ i. Err (error_at (e i) (h i))

  -- ---- the parts of a text that was written

  record HasParts (p : Checkpoint) : Type 0 where
    rest : List ℕ
    front : HasFront shape (numbers_of p) text rest
    snapshot : IsSnapshotText shape (snapshot_part rest) p.start.shots
    tail : HasTail shape p.hosts (paths_of p.start.shots) p.start.places (behind_part rest) []

  has_parts : (p : Checkpoint) → IsCheckpointText shape text p → HasParts p
  has_parts p h =
      let few : length p.start.shots < 18446744073709551616 = omega (arith, h.point.fits.few) in
      let parts = written_part shape names p.start.shots h.shots.each few (tail_text shape p.start.places) (tail_begins shape names p.start.places) in
      record {
        rest = snapshot_text shape p.start.shots ++ tail_text shape p.start.places;
        front = record { spelled = h.spelled; range = h.point.numbers };
        snapshot = record { spelled = parts.part_is; shots_are = h.shots };
        tail = record { spelled = parts.behind_is ∙ sym (append-nil (tail_text shape p.start.places)); paths_are = h.point.fits.places; below = h.point.fits.hosts };
      }

  -- ---- the front is refused

  pub stops_front : (f : Fault) (n : ℕ) → StopsAt shape 0 (front_dues shape) text f n → IsOnlyVerdict shape text (Err (error_at f n))
  stops_front f n s = refused_is f n (inl s) only
    where
      no_front : (m : Numbers) (rest : List ℕ) → HasFront shape m text rest → ⊥
      no_front m rest h = front_goes shape is names m text rest f n h s

      refusal : (g : Fault) (m : ℕ) → IsRefused shape text g m → ◌≡◌ {A = Verdict} (Err (error_at g m)) (Err (error_at f n))
      refusal g m (inl h) = (let o = one_front_stop shape is names text g f m n h s in same_error g f m n o.0 o.1)
      refusal g m (inr (inl h)) = absurd (no_front h.numbers h.rest h.front)
      refusal g m (inr (inr h)) = absurd (no_front h.numbers h.rest h.front)

      only : (other : Verdict) → IsVerdict shape text other → other ≡ Err (error_at f n)
      only (Ok p) v = (let parts = has_parts p v in absurd (no_front (numbers_of p) parts.rest parts.front))
      only (Err e) v = other_errors (Err (error_at f n)) refusal e v

  -- ---- behind a front

  module _ (numbers : Numbers) (rest : List ℕ) (front : HasFront shape numbers text rest) where
    no_stop : (f : Fault) (n : ℕ) → StopsAt shape 0 (front_dues shape) text f n → ⊥
    no_stop f n s = front_goes shape is names numbers text rest f n front s

    same_front : (m : Numbers) (left : List ℕ) → HasFront shape m text left → (m ≡ numbers) × (left ≡ rest)
    same_front m left h = one_front shape is names m numbers text left rest h front

    -- what a snapshot's verdict is, by its fault and its line
    shot_verdict : (f : ShotFault) (n : ℕ) → IsRefusedSnapshot shape (snapshot_part rest) f n → IsSnapshotVerdict shape (snapshot_part rest) (Err (refused_shot f n))
    shot_verdict snapshot.Syntax n h = h
    shot_verdict snapshot.Class n h = h
    shot_verdict snapshot.Field n h = h
    shot_verdict snapshot.Order n h = h

    moved_is : (f : ShotFault) (n b : ℕ) → refusal_behind (refused_shot f n) b ≡ error_at (fault_of f) (b + n)
    moved_is snapshot.Syntax n b = refl
    moved_is snapshot.Class n b = refl
    moved_is snapshot.Field n b = refl
    moved_is snapshot.Order n b = refl

    -- ---- the snapshot is refused

    module _ (f : ShotFault) (n : ℕ) (wrong : IsRefusedSnapshot shape (snapshot_part rest) f n)
        (sole : (other : Result (List Shot) ShotError) → IsSnapshotVerdict shape (snapshot_part rest) other → other ≡ Err (refused_shot f n)) where
      no_shots : (ss : List Shot) (left : List ℕ) → left ≡ rest → IsSnapshotText shape (snapshot_part left) ss → ⊥
      no_shots ss left e h = (let same = sole (Ok ss) (subst (λ r. IsSnapshotText shape (snapshot_part r) ss) e h) in cc)

      shot_refusal : (g : Fault) (m : ℕ) → IsRefused shape text g m → ◌≡◌ {A = Verdict} (Err (error_at g m)) (Err (error_at (fault_of f) (before + n)))
      shot_refusal g m (inl h) = absurd (no_stop g m h)
      shot_refusal g m (inr (inl h)) =
          let same = same_front h.numbers h.rest h.front in
          let other : ◌≡◌ {A = Result (List Shot) ShotError} (Err (refused_shot h.wrong h.line)) (Err (refused_shot f n)) =
          sole (Err (refused_shot h.wrong h.line)) (shot_verdict h.wrong h.line (subst (λ r. IsRefusedSnapshot shape (snapshot_part r) h.wrong h.line) same.1 h.refused)) in
          let inside : refused_shot h.wrong h.line ≡ refused_shot f n = cc in
          same_error g (fault_of h.wrong) m (before + h.line) h.fault_is h.line_is
          ∙ ap (λ e. Err e) (sym (moved_is h.wrong h.line before) ∙ ap (λ e. refusal_behind e before) inside ∙ moved_is f n before)
      shot_refusal g m (inr (inr h)) = absurd (no_shots h.shots h.rest (same_front h.numbers h.rest h.front).1 h.snapshot)

      stops_shot : IsOnlyVerdict shape text (Err (error_at (fault_of f) (before + n)))
      stops_shot = refused_is (fault_of f) (before + n) (inr (inl here)) only
        where
          here : IsRefusedShot shape text (fault_of f) (before + n)
          here = record { numbers = numbers; rest = rest; front = front; wrong = f; line = n; refused = wrong; fault_is = refl; line_is = refl }

          only : (other : Verdict) → IsVerdict shape text other → other ≡ Err (error_at (fault_of f) (before + n))
          only (Ok p) v = (let parts = has_parts p v in absurd (no_shots p.start.shots parts.rest (same_front (numbers_of p) parts.rest parts.front).1 parts.snapshot))
          only (Err e) v = other_errors (Err (error_at (fault_of f) (before + n))) shot_refusal e v

    pub stops_snapshot : (s : ShotError) → IsOnlySnapshot shape (snapshot_part rest) (Err s) → IsOnlyVerdict shape text (Err (refusal_behind s before))
    stops_snapshot (shot.Syntax n) h = stops_shot snapshot.Syntax n h.0 h.1
    stops_snapshot (shot.Class n) h = stops_shot snapshot.Class n h.0 h.1
    stops_snapshot (shot.Field n) h = stops_shot snapshot.Field n h.0 h.1
    stops_snapshot (shot.Order n) h = stops_shot snapshot.Order n h.0 h.1
    stops_snapshot (shot.OutOfMemory w) h = tt

    -- ---- behind a snapshot

    module _ (shots : List Shot) (read : IsOnlySnapshot shape (snapshot_part rest) (Ok shots)) where
      no_error : (f : ShotFault) (n : ℕ) → IsRefusedSnapshot shape (snapshot_part rest) f n → ⊥
      no_error f n h = (let same = read.1 (Err (refused_shot f n)) (shot_verdict f n h) in cc)

      same_shots : (ss : List Shot) (left : List ℕ) → left ≡ rest → IsSnapshotText shape (snapshot_part left) ss → ss ≡ shots
      same_shots ss left e h = (let same = read.1 (Ok ss) (subst (λ r. IsSnapshotText shape (snapshot_part r) ss) e h) in cc)

      paths : AllByRecursion (IsPath shape) (paths_of shots)
      paths = shot_paths shape shots (recursion_from_All (IsShot shape) shots read.0.shots_are.each)

      few : numbers.hosts ≤ 256
      few = few_hosts numbers front.range

      -- ---- the tail is refused

      module _ (f : Fault) (n : ℕ) (wrong : IsWrongTail shape numbers.hosts (paths_of shots) (behind_part rest) f n) where
        moved_wrong : (g : Fault) (m : ℕ) (hosts : ℕ) (ss : List Shot) (left : List ℕ) → hosts ≡ numbers.hosts → ss ≡ shots → left ≡ rest → IsWrongTail shape hosts (paths_of ss) (behind_part left) g m → IsWrongTail shape numbers.hosts (paths_of shots) (behind_part rest) g m
        moved_wrong g m hosts ss left a b c w =
            subst (λ h. IsWrongTail shape h (paths_of shots) (behind_part rest) g m) a (subst (λ s. IsWrongTail shape hosts (paths_of s) (behind_part rest) g m) b (subst (λ r. IsWrongTail shape hosts (paths_of ss) (behind_part r) g m) c w))

        tail_refusal : (g : Fault) (m : ℕ) → IsRefused shape text g m → ◌≡◌ {A = Verdict} (Err (error_at g m)) (Err (error_at f (before + 1 + length shots + n)))
        tail_refusal g m (inl h) = absurd (no_stop g m h)
        tail_refusal g m (inr (inl h)) = absurd (no_error h.wrong h.line (subst (λ r. IsRefusedSnapshot shape (snapshot_part r) h.wrong h.line) (same_front h.numbers h.rest h.front).1 h.refused))
        tail_refusal g m (inr (inr h)) =
            let same = same_front h.numbers h.rest h.front in
            let ss = same_shots h.shots h.rest same.1 h.snapshot in
            let o = one_wrong_tail shape names numbers.hosts few (paths_of shots) paths is (behind_part rest) g f h.line n (moved_wrong g h.line h.numbers.hosts h.shots h.rest (ap (λ (x : Numbers). x.hosts) same.0) ss same.1 h.wrong) wrong in
            same_error g f m (before + 1 + length shots + n) o.0 (h.line_is ∙ (λ i. before + 1 + length (ss i) + o.1 i))

        pub stops_tail : IsOnlyVerdict shape text (Err (error_at f (before + 1 + length shots + n)))
        stops_tail = refused_is f (before + 1 + length shots + n) (inr (inr here)) only
          where
            here : IsRefusedTail shape text f (before + 1 + length shots + n)
            here = record { numbers = numbers; rest = rest; front = front; shots = shots; snapshot = read.0; line = n; wrong = wrong; line_is = refl }

            only : (other : Verdict) → IsVerdict shape text other → other ≡ Err (error_at f (before + 1 + length shots + n))
            only (Ok p) v =
                let parts = has_parts p v in
                let same = same_front (numbers_of p) parts.rest parts.front in
                let ss = same_shots p.start.shots parts.rest same.1 parts.snapshot in
                let hosts : p.hosts ≡ numbers.hosts = ap (λ (x : Numbers). x.hosts) same.0 in
                let tail : HasTail shape numbers.hosts (paths_of shots) p.start.places (behind_part rest) [] =
                subst (λ h. HasTail shape h (paths_of shots) p.start.places (behind_part rest) []) hosts (subst (λ s. HasTail shape p.hosts (paths_of s) p.start.places (behind_part rest) []) ss (subst (λ r. HasTail shape p.hosts (paths_of p.start.shots) p.start.places (behind_part r) []) same.1 parts.tail)) in
                absurd (tail_goes shape names numbers.hosts few (paths_of shots) paths is p.start.places (behind_part rest) f n tail wrong)
            only (Err e) v = other_errors (Err (error_at f (before + 1 + length shots + n))) tail_refusal e v

      -- ---- all is read

      module _ (places : List Place) (tail : HasTail shape numbers.hosts (paths_of shots) places (behind_part rest) []) where
        abbrev point : Checkpoint
        point = record { hosts = numbers.hosts; lines = numbers.lines; start = record { shots = shots; places = places; next = record { 0 = numbers.next } } }

        spelled : text ≡ checkpoint_text shape point
        spelled =
            front.spelled
            ∙ ap (λ t. front_text shape numbers ++ t) (sym (part_whole rest) ∙ (λ i. read.0.spelled i ++ (tail.spelled ∙ append-nil (tail_text shape places)) i))

        pub is_read : IsPoint shape point → IsOnlyVerdict shape text (Ok point)
        is_read fits = (record { spelled = spelled; point = fits; shots = read.0.shots_are }, only)
          where
            refusal : (g : Fault) (m : ℕ) → IsRefused shape text g m → ◌≡◌ {A = Verdict} (Err (error_at g m)) (Ok point)
            refusal g m (inl h) = absurd (no_stop g m h)
            refusal g m (inr (inl h)) = absurd (no_error h.wrong h.line (subst (λ r. IsRefusedSnapshot shape (snapshot_part r) h.wrong h.line) (same_front h.numbers h.rest h.front).1 h.refused))
            refusal g m (inr (inr h)) =
                let same = same_front h.numbers h.rest h.front in
                let ss = same_shots h.shots h.rest same.1 h.snapshot in
                let hosts : h.numbers.hosts ≡ numbers.hosts = ap (λ (x : Numbers). x.hosts) same.0 in
                let wrong : IsWrongTail shape numbers.hosts (paths_of shots) (behind_part rest) g h.line =
                subst (λ k. IsWrongTail shape k (paths_of shots) (behind_part rest) g h.line) hosts (subst (λ s. IsWrongTail shape h.numbers.hosts (paths_of s) (behind_part rest) g h.line) ss (subst (λ r. IsWrongTail shape h.numbers.hosts (paths_of h.shots) (behind_part r) g h.line) same.1 h.wrong)) in
                absurd (tail_goes shape names numbers.hosts few (paths_of shots) paths is places (behind_part rest) g h.line tail wrong)

            only : (other : Verdict) → IsVerdict shape text other → other ≡ Ok point
            only (Ok p) v =
                let parts = has_parts p v in
                let same = same_front (numbers_of p) parts.rest parts.front in
                let ss = same_shots p.start.shots parts.rest same.1 parts.snapshot in
                let hosts : p.hosts ≡ numbers.hosts = ap (λ (x : Numbers). x.hosts) same.0 in
                let lines : p.lines ≡ numbers.lines = ap (λ (x : Numbers). x.lines) same.0 in
                let next : p.start.next.0 ≡ numbers.next = ap (λ (x : Numbers). x.next) same.0 in
                let moved_tail : HasTail shape numbers.hosts (paths_of shots) p.start.places (behind_part rest) [] =
                subst (λ h. HasTail shape h (paths_of shots) p.start.places (behind_part rest) []) hosts (subst (λ s. HasTail shape p.hosts (paths_of s) p.start.places (behind_part rest) []) ss (subst (λ r. HasTail shape p.hosts (paths_of p.start.shots) p.start.places (behind_part r) []) same.1 parts.tail)) in
                let xs = (one_tail shape names numbers.hosts few (paths_of shots) paths p.start.places places (behind_part rest) [] [] moved_tail tail).0 in
                λ i. Ok (record { hosts = hosts i; lines = lines i; start = record { shots = ss i; places = xs i; next = record { 0 = next i } } })
            only (Err e) v = other_errors (Ok point) refusal e v

-- Entries of a board's history: Halts among them, and one entry more.
use Rattle.std.proofs.Common.{◌≡◌, ◌∙◌, ⊎_elim, ◌<◌, ◌+◌, ℕ, zero, suc, eqb, Bool, true, false, cond, List, [], ◌∷◌, ◌++◌, length, take, drop, filter, Option, Some, None, refl, sym, ap, subst, arith, eq-eqb}
use Rattle.std.specs.Prelude.{Contains, option_map}
use Rattle.std.proofs.lemmas.List.Elements.{Contains-append_cases, Contains-append_right, filter-append}
use Rattle.std.proofs.lemmas.List.{length-append}
use Rattle.wave_base.specs.declared.numbers.Worker.{Worker}
use Rattle.kept_lock.specs.History.{entries_of}
use Rattle.wave_labels.specs.declared.label.Act.{Act}
use Rattle.wave_labels.specs.declared.label.Act.TheVariants.{Admit, Queue, Grant, Visit, Start, Stop, Free, Pass, Land, Commit}
use Rattle.wave_labels.specs.declared.label.Label.{Label}
use Rattle.wave_labels.specs.Labels.{act_of}
use Rattle.wave_states.specs.Labels as theory
use Rattle.wave_effects.specs.Acts.{is_step}
use Rattle.wave_board.specs.declared.board.StopWord.{StopWord}
use Rattle.wave_board.specs.declared.trail.StopCause.{StopCause}
use Rattle.wave_board.specs.declared.trail.Trail.{Trail}
use Rattle.wave_board.specs.declared.trail.Trail.TheVariants.{Step, Halt}
use Rattle.wave_board.specs.Boards.{owner_of, with_halt}
use Rattle.wave_board.specs.Taking.{AreEven, begins, ends}
use Rattle.host_workers.specs.Passes.{NoHalts, OnlyHalts}

pub one_is : (t x : Trail) → Contains (t ∷ []) x → t ≡ x
one_is t x (zero, less, e) = e
one_is t x (suc k, less, e) = absurd (omega (arith, less))

none_in : (x : Trail) → Contains [] x → ⊥
none_in x h = (let less : h.0 < 0 = h.1 in omega (arith, less))

pub no_halts_yet : NoHalts []
no_halts_yet who why h = none_in (Halt who why) h

-- a label is no Halt
pub no_halt_more : (made : List Trail) (l : Label) → NoHalts made → NoHalts (made ++ Step l ∷ [])
no_halt_more made l h who why c = ⊎_elim (λ a. h who why a) (λ b. not_one (one_is (Step l) (Halt who why) b)) (Contains-append_cases made (Step l ∷ []) (Halt who why) c)
  where
    not_one : Step l ≡ Halt who why → ⊥
    not_one e = cc

pub no_more : (made : List Trail) → NoHalts made → NoHalts (made ++ [])
no_more made h who why c = ⊎_elim (λ a. h who why a) (λ b. none_in (Halt who why) b) (Contains-append_cases made [] (Halt who why) c)

-- with one Halt of a cause each has that cause
pub only_more : (made : List Trail) (w : Worker) (cause : StopCause) → NoHalts made → OnlyHalts (made ++ Halt w cause ∷ []) cause
only_more made w cause h who why c = ⊎_elim (λ a. absurd (h who why a)) (λ b. same (one_is (Halt w cause) (Halt who why) b)) (Contains-append_cases made (Halt w cause ∷ []) (Halt who why) c)
  where
    same : Halt w cause ≡ Halt who why → why ≡ cause
    same e = cc

pub only_none : (made : List Trail) (cause : StopCause) → NoHalts made → OnlyHalts (made ++ []) cause
only_none made cause h who why c = absurd (no_more made h who why c)

still_in : (n : ℕ) (x : Trail) (xs : List Trail) (t : Trail) → Contains (entries_of owner_of n xs) t → (b : Bool) → Contains (cond b (x ∷ entries_of owner_of n xs) (entries_of owner_of n xs)) t
still_in n x xs t later true = Contains-append_right (x ∷ []) (entries_of owner_of n xs) t later
still_in n x xs t later false = later

-- an entry is among those of its owner
pub own_contains : (n : ℕ) (xs : List Trail) (t : Trail) → owner_of t ≡ n → Contains xs t → Contains (entries_of owner_of n xs) t
own_contains n [] t o h = absurd (none_in t h)
own_contains n (x ∷ xs) t o (zero, less, e) =
    let test : eqb (owner_of x) n ≡ true = eq-eqb (owner_of x) n (ap owner_of e ∙ o) in
    let P : Bool → Type 0 = λ b. Contains (cond b (x ∷ entries_of owner_of n xs) (entries_of owner_of n xs)) t in
    let some : 0 < length (x ∷ entries_of owner_of n xs) = omega arith in
    subst P (sym test) (0, some, e)
own_contains n (x ∷ xs) t o (suc k, less, e) =
    let within : k < length xs = omega (arith, less) in
    still_in n x xs t (own_contains n xs t o (k, within, e)) (eqb (owner_of x) n)

-- where the stop word is set its Halt stands in the history
pub word_halts : (w : Option StopWord) (x : StopWord) (ts : List Trail) → w ≡ Some x → Contains (with_halt w ts) (Halt x.worker x.why)
word_halts w x ts e =
    let some : 0 < length (Halt x.worker x.why ∷ drop x.place ts) = omega arith in
    subst (λ o. Contains (with_halt o ts) (Halt x.worker x.why)) (sym e)
    (Contains-append_right (take x.place ts) (Halt x.worker x.why ∷ drop x.place ts) (Halt x.worker x.why) (0, some, refl))

pub word_why : (w : Option StopWord) (why : StopCause) → option_map (λ x. x.why) w ≡ Some why → (x : StopWord) × (w ≡ Some x) × (x.why ≡ why)
word_why None why e = absurd cc
word_why (Some x) why e = (let same : x.why ≡ why = cc in (x, refl, same))

-- ---- Starts and Stops

starts_no : (a : Act) → is_step a ≡ true → (theory.is_start (act_of a) ≡ false) × (theory.is_stop (act_of a) ≡ false)
starts_no (Admit t) e = (refl, refl)
starts_no (Queue m p) e = (refl, refl)
starts_no (Grant t p) e = (refl, refl)
starts_no (Visit m p) e = (refl, refl)
starts_no (Start t p) e = absurd cc
starts_no (Stop t p) e = absurd cc
starts_no (Free m p) e = (refl, refl)
starts_no (Pass m p g) e = (refl, refl)
starts_no (Land m p) e = (refl, refl)
starts_no (Commit t) e = (refl, refl)

count_more : (test : Trail → Bool) (made : List Trail) (t : Trail) → length (filter test (made ++ t ∷ [])) ≡ length (filter test made) + length (filter test (t ∷ []))
count_more test made t = ap length (filter-append test made (t ∷ [])) ∙ length-append (filter test made) (filter test (t ∷ []))

one_if : (test : Trail → Bool) (t : Trail) → test t ≡ true → length (filter test (t ∷ [])) ≡ 1
one_if test t e = ap (λ b. length (cond b (t ∷ []) [])) e

none_if : (test : Trail → Bool) (t : Trail) → test t ≡ false → length (filter test (t ∷ [])) ≡ 0
none_if test t e = ap (λ b. length (cond b (t ∷ []) [])) e

pub even_step : (made : List Trail) (l : Label) → is_step l.act ≡ true → AreEven made → AreEven (made ++ Step l ∷ [])
even_step made l e h =
    let no = starts_no l.act e in
    let a = count_more begins made (Step l) in
    let b = count_more ends made (Step l) in
    let c = none_if begins (Step l) no.0 in
    let d = none_if ends (Step l) no.1 in
    omega (arith, a, b, c, d, h)

pub odd_start : (made : List Trail) (l : Label) → theory.is_start (act_of l.act) ≡ true → theory.is_stop (act_of l.act) ≡ false → AreEven made
    → length (filter begins (made ++ Step l ∷ [])) ≡ suc (length (filter ends (made ++ Step l ∷ [])))
odd_start made l e f h =
    let a = count_more begins made (Step l) in
    let b = count_more ends made (Step l) in
    let c = one_if begins (Step l) e in
    let d = none_if ends (Step l) f in
    omega (arith, a, b, c, d, h)

pub even_stop : (made : List Trail) (l : Label) → theory.is_start (act_of l.act) ≡ false → theory.is_stop (act_of l.act) ≡ true → length (filter begins made) ≡ suc (length (filter ends made)) → AreEven (made ++ Step l ∷ [])
even_stop made l e f h =
    let a = count_more begins made (Step l) in
    let b = count_more ends made (Step l) in
    let c = none_if begins (Step l) e in
    let d = one_if ends (Step l) f in
    omega (arith, a, b, c, d, h)

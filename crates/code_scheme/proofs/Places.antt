-- Where lines stand in a function's code.
use Rattle.std.proofs.Common.{◌≡◌, ℕ, suc, ◌+◌, ◌<◌, List, [], ◌∷◌, ◌++◌, length, Bool, true, false, Some, ap, ◌∙◌, subst, arith, append_assoc, length-append}
use Rattle.std.specs.Prelude.{slice_get}
use Rattle.std.proofs.Math.Seq.{get_or-append_seam}
use Rattle.std.proofs.lemmas.Option.{slice_get-get_or}
use Rattle.wave_base.specs.declared.span.Span.{Span}
use Rattle.service_code.specs.declared.program.Program.{Program}
use Rattle.service_verify.specs.Fit.{IsFit}
use Rattle.service_verify.specs.Points.{IsVerified}
use Rattle.code_scheme.specs.Scheme.{Line, behind, else_code, while_code, turn_code}
use Rattle.code_scheme.proofs.Follow.{IsCode, IsLine, line_is}

-- the lines stand in a list from a place on
abbrev pub StandsAt : List Line → ℕ → List Line → Type 0
StandsAt code pc [] = Unit {0}
StandsAt code pc (l ∷ ls) = (slice_get code pc ≡ Some l) × StandsAt code (pc + 1) ls

pub stands_front : (code : List Line) (pc : ℕ) (a b : List Line) → StandsAt code pc (a ++ b) → StandsAt code pc a
stands_front code pc [] b h = tt
stands_front code pc (l ∷ a) b h = (h.0, stands_front code (pc + 1) a b h.1)

pub stands_back : (code : List Line) (pc : ℕ) (a b : List Line) → StandsAt code pc (a ++ b) → StandsAt code (pc + length a) b
stands_back code pc [] b h = let e : pc ≡ pc + 0 = omega arith in subst (λ n. StandsAt code n b) e h
stands_back code pc (l ∷ a) b h =
    let e : pc + 1 + length a ≡ pc + length (l ∷ a) = omega arith in
    subst (λ n. StandsAt code n b) e (stands_back code (pc + 1) a b h.1)

-- a loop's test, and its block
pub while_lines : (code : List Line) (pc : ℕ) (at : Span) (ct : List Line) (b : Bool) (ca : List Line) → StandsAt code pc (while_code pc at ct b ca) → StandsAt code pc ct × StandsAt code (pc + length ct + 1 + 1) ca
while_lines code pc at ct true ca h = (stands_front code pc ct _ h, (stands_back code pc ct _ h).1.1)
while_lines code pc at ct false ca h = (stands_front code pc ct _ h, stands_front code (pc + length ct + 1 + 1) ca _ (stands_back code pc ct _ h).1.1)

-- a choice's test, and its two sides
pub else_lines : (code : List Line) (pc : ℕ) (at : Span) (ct : List Line) (b : Bool) (ca cb : List Line) → StandsAt code pc (else_code pc at ct b ca cb) → StandsAt code pc ct × StandsAt code (pc + length ct + 1) ca × StandsAt code (behind b (pc + length ct + 1 + length ca)) cb
else_lines code pc at ct true ca cb h = let l = stands_back code pc ct _ h in (stands_front code pc ct _ h, stands_front code (pc + length ct + 1) ca cb l.1, stands_back code (pc + length ct + 1) ca cb l.1)
else_lines code pc at ct false ca cb h = let l = stands_back code pc ct _ h in (stands_front code pc ct _ h, stands_front code (pc + length ct + 1) ca _ l.1, (stands_back code (pc + length ct + 1) ca _ l.1).1)

-- the block of a turn
pub turn_lines : (code : List Line) (pc : ℕ) (at : Span) (counter : ℕ) (b : Bool) (cb : List Line) → StandsAt code pc (turn_code counter at b cb) → StandsAt code (pc + 1 + 1) cb
turn_lines code pc at counter true cb h = h.1.1
turn_lines code pc at counter false cb h = stands_front code (pc + 1 + 1) cb _ h.1.1

pub stands_all : (ls pre : List Line) → StandsAt (pre ++ ls) (length pre) ls
stands_all [] pre = tt
stands_all (l ∷ ls) pre =
    let within : length pre < length (pre ++ l ∷ ls) = omega (arith, length-append pre (l ∷ ls)) in
    let here = slice_get-get_or (pre ++ l ∷ ls) (length pre) l within ∙ ap Some (get_or-append_seam pre l ls l) in
    let n : length (pre ++ l ∷ []) ≡ length pre + 1 = omega (arith, length-append pre (l ∷ [])) in
    let rest = stands_all ls (pre ++ l ∷ []) in
    let rest' = subst (λ m. StandsAt m (length (pre ++ l ∷ [])) ls) (append_assoc pre (l ∷ []) ls) rest in
    (here, subst (λ m. StandsAt (pre ++ l ∷ ls) m ls) n rest')

pub next : (n : ℕ) → suc n ≡ n + 1
next n = omega arith

module _ (program : Program) (fit : IsFit program) (verified : IsVerified program) where
  -- they stand in the code of a function
  abbrev pub HasAt : ℕ → ℕ → List Line → Type 0
  HasAt fn pc [] = Unit {0}
  HasAt fn pc (l ∷ ls) = IsLine program fit verified fn pc l.instr l.place × HasAt fn (pc + 1) ls

  pub has_front : (fn pc : ℕ) (a b : List Line) → HasAt fn pc (a ++ b) → HasAt fn pc a
  has_front fn pc [] b h = tt
  has_front fn pc (l ∷ a) b h = (h.0, has_front fn (pc + 1) a b h.1)

  pub has_back : (fn pc : ℕ) (a b : List Line) → HasAt fn pc (a ++ b) → HasAt fn (pc + length a) b
  has_back fn pc [] b h = let e : pc ≡ pc + 0 = omega arith in subst (λ n. HasAt fn n b) e h
  has_back fn pc (l ∷ a) b h =
      let e : pc + 1 + length a ≡ pc + length (l ∷ a) = omega arith in
      subst (λ n. HasAt fn n b) e (has_back fn (pc + 1) a b h.1)

  -- a loop's test, and its block
  pub while_stands : (fn pc : ℕ) (at : Span) (ct : List Line) (b : Bool) (ca : List Line) → HasAt fn pc (while_code pc at ct b ca) → HasAt fn pc ct × HasAt fn (pc + length ct + 1 + 1) ca
  while_stands fn pc at ct true ca h = (has_front fn pc ct _ h, (has_back fn pc ct _ h).1.1)
  while_stands fn pc at ct false ca h = (has_front fn pc ct _ h, has_front fn (pc + length ct + 1 + 1) ca _ (has_back fn pc ct _ h).1.1)

  has_stands : (fn : ℕ) (code : List Line) → IsCode program fit verified fn code → (pc : ℕ) (ls : List Line) → StandsAt code pc ls → HasAt fn pc ls
  has_stands fn code is pc [] h = tt
  has_stands fn code is pc (l ∷ ls) h = (line_is program fit verified fn pc code l.instr l.place is h.0, has_stands fn code is (pc + 1) ls h.1)

  pub has_all : (fn : ℕ) (code : List Line) → IsCode program fit verified fn code → HasAt fn 0 code
  has_all fn code is = has_stands fn code is 0 code (stands_all code [])

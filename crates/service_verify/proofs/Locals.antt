-- The locals of a function that begins, and an event that begins.
use Rattle.std.proofs.Common.{◌≡◌, ℕ, zero, suc, ◌<◌, ◌≤◌, List, [], ◌∷◌, ◌++◌, length, drop, false, Some, refl, ap, sym, subst, ◌∙◌, arith}
use Rattle.std.specs.Prelude.{map, slice_get}
use Rattle.std.proofs.lemmas.List.Elements.{All-nil}
use Rattle.std.proofs.lemmas.Option.{slice_get_within}
use Rattle.wave_base.specs.declared.call.Call.{Call}
use Rattle.wave_base.specs.declared.limits.TheConstants.{GENERATION}
use Rattle.wave_base.specs.declared.value.Kind.{Kind}
use Rattle.wave_base.specs.declared.value.Kind.TheVariants as k
use Rattle.wave_base.specs.declared.value.Value.{Value}
use Rattle.wave_base.specs.Scripts.{IsCall}
use Rattle.wave_base.specs.Values.{kind_of}
use Rattle.service_code.specs.declared.program.Function.{Function}
use Rattle.service_code.specs.declared.program.Program.{Program}
use Rattle.service_verify.specs.Boxes.{Frame, blank_of, first_locals, first_frame, event_frames, first_frames, first_box}
use Rattle.service_verify.specs.Fit.{IsFit, FitsEvent}
use Rattle.service_verify.specs.Points.{IsVerified}
use Rattle.service_verify.specs.Standing.{kinds_of, FrameStands, is_event_in, FramesStand, open_calls, ReadyNext, Stands}
use Rattle.service_verify.proofs.Frames.{fits, stand_first, no_call_first}
use Rattle.service_verify.proofs.Lists.{map-append, map-length, drop_past}

blanks : (ks : List Kind) → map kind_of (map blank_of ks) ≡ ks
blanks [] = refl
blanks (k.Int ∷ ks) = ap (λ ls. k.Int ∷ ls) (blanks ks)
blanks (k.Bool ∷ ks) = ap (λ ls. k.Bool ∷ ls) (blanks ks)
blanks (k.Text ∷ ks) = ap (λ ls. k.Text ∷ ls) (blanks ks)
blanks (k.Map ∷ ks) = ap (λ ls. k.Map ∷ ls) (blanks ks)

-- its locals begin with the arguments, and have their kinds
pub first_kinds : (f : Function) (args : List Value) → kinds_of args ≡ f.args → (more : List Kind) × (f.locals ≡ f.args ++ more) → kinds_of (first_locals f args) ≡ f.locals
first_kinds f args kinds more =
    let long : length args ≡ length f.args = sym (map-length kind_of args) ∙ ap length kinds in
    map-append kind_of args (map blank_of (drop (length args) f.locals))
    ∙ (λ i. kinds i ++ blanks (drop (long i) f.locals) i)
    ∙ ap (λ ls. f.args ++ drop (length f.args) ls) more.1
    ∙ ap (λ ls. f.args ++ ls) (drop_past f.args more.0)
    ∙ sym more.1

module _ (program : Program) (fit : IsFit program) (verified : IsVerified program) where
  -- an event that begins
  pub begins : (call : Call) → IsCall program.shape call → call.generation ≤ GENERATION → Stands program [] 0 (record { box = first_box program call; levels = [] })
  unfolding first_box
  begins call is young =
      let there = within program.events call.event (subst (λ n. call.event < n) (sym fit.events) (slice_get_within program.shape.events call.event is.event is.is_event)) in
      go there.0 there.1 (fit.each call.event is.event there.0 is.is_event there.1)
    where
      within : {A : Type 0} (xs : List A) (n : ℕ) → n < length xs → (x : A) × (slice_get xs n ≡ Some x)
      within [] n h = absurd (omega arith)
      within (x ∷ xs) zero h = (x, refl)
      within (x ∷ xs) (suc n) h = within xs n (omega arith)

      go : (number : ℕ) → slice_get program.events call.event ≡ Some number → FitsEvent program is.event number → Stands program [] 0 (record { box = first_box program call; levels = [] })
      go number at e =
          let f : Frame = first_frame number e.function call.args false in
          let frames_are : first_frames program (slice_get program.events call.event) call.args ≡ f ∷ [] = ap (λ o. first_frames program o call.args) at ∙ ap (λ o. event_frames number o call.args) e.is_there in
          let fitted = fits program fit number e.function e.is_there in
          let stands : FrameStands program 0 [] f = subst (λ c. FrameStands program c [] f) (fitted.root e.is_event) (stand_first program verified f e.function e.is_there fitted.some refl refl (first_kinds e.function call.args (is.kinds ∙ sym e.args) fitted.locals)) in
          record {
            box = record {
              path = refl;
              is_path = refl;
              calls_are = ap open_calls frames_are;
              frames = subst (FramesStand program []) (sym frames_are) (stands, (ap is_event_in e.is_there ∙ e.is_event, refl));
              ticks = omega arith;
              generation = young;
              created = All-nil _;
            };
            ready = subst (ReadyNext program) (sym frames_are) (no_call_first program fit f e.function e.is_there refl);
            levels = record { long = refl; each = λ l n kind lt. absurd (omega arith) };
          }

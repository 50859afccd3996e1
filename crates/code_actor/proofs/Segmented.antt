-- A segment of an event that stands, as the machine has it.
use Rattle.std.proofs.Common.{◌≡◌, ℕ, zero, suc, List, [], ◌∷◌, Option, Some, None, refl, ap, sym, subst, ◌∙◌, true}
use Rattle.std.specs.Prelude.{All, map, slice_get}
use Rattle.std.proofs.lemmas.List.Elements.{All-head, All-tail}
use Rattle.std.proofs.lemmas.Option.{get_or_from_slice_get, slice_get_within}
use Rattle.wave_base.specs.declared.path.Path.{Path}
use Rattle.wave_base.specs.declared.path.Step.{Step}
use Rattle.wave_base.specs.declared.pause.Pause.{Pause as Halt}
use Rattle.wave_base.specs.declared.pause.Pause.TheVariants as halt
use Rattle.wave_base.specs.declared.shape.ClassInfo.{ClassInfo}
use Rattle.wave_base.specs.declared.shape.FieldInfo.{FieldInfo}
use Rattle.wave_base.specs.declared.shape.Shape.{Shape}
use Rattle.wave_base.specs.declared.outcome.EventResult.{EventResult}
use Rattle.wave_base.specs.Shapes.{IsShape, HasInitials, class_of, fields_in, fields_of_class, initial_fields, kinds_of_class}
use Rattle.wave_base.specs.Values.{kind_of}
use Rattle.service_code.specs.declared.program.Program.{Program}
use Rattle.service_verify.specs.Fit.{IsFit}
use Rattle.service_verify.specs.Points.{IsVerified}
use Rattle.service_verify.specs.Looks.{is_peeking}
use Rattle.service_verify.specs.Lawful.{OnlyLooks}
use Rattle.service_verify.specs.Reads.{read_marks}
use Rattle.service_verify.specs.Segments.{Event, Left as Halted, segment, event_segment}
use Rattle.service_verify.specs.Standing.{HasFields, Leaves, Pauses, Stands}
use Rattle.service_verify.proofs.Judged.{some_same}
use Rattle.service_verify.proofs.Peeking.{only_looks_there}
use Rattle.service_verify.proofs.Segmenting.{pauses}
use Rattle.wave_states.specs.Actors.{Left}
use Rattle.wave_states.specs.Owes.{Keeps, Looks, MovesOnly}
use Rattle.code_actor.specs.CodeActors.{code_kind, Fields, pause_of, left_of}
use Rattle.code_actor.proofs.Holding
use Rattle.code_actor.proofs.Holding.{segment_keeps, left_keeps_by}

initial_kinds : (fields : List FieldInfo) → All (λ (f : FieldInfo). kind_of f.initial ≡ f.kind) fields → map kind_of (map (λ f. f.initial) fields) ≡ map (λ f. f.kind) fields
initial_kinds [] h = refl
initial_kinds (f ∷ fields) h = λ i. All-head (λ (f : FieldInfo). kind_of f.initial ≡ f.kind) f fields h i ∷ initial_kinds fields (All-tail (λ (f : FieldInfo). kind_of f.initial ≡ f.kind) f fields h) i

class_kinds : (shape : Shape) → IsShape shape → (c : ℕ) → map kind_of (fields_of_class shape c) ≡ kinds_of_class shape c
class_kinds shape is c = by_class (slice_get shape.classes c) refl
  where
    by_class : (o : Option ClassInfo) → slice_get shape.classes c ≡ o → map kind_of (map (λ f. f.initial) (fields_in o)) ≡ map (λ f. f.kind) (fields_in o)
    by_class None e = refl
    by_class (Some info) e = initial_kinds info.fields (subst HasInitials (get_or_from_slice_get shape.classes c info info e) (is.initials c info (slice_get_within shape.classes c info e)))

-- the values that a context begins with have the kinds of its class
pub initial_has : (shape : Shape) → IsShape shape → (p : Path) → HasFields shape p (initial_fields shape p)
initial_has shape is p = class_kinds shape is (class_of p)

module _ (program : Program) (fit : IsFit program) (verified : IsVerified program) where
  -- what a segment leaves, and what it does to the held paths
  pub record Runs (p : Path) (n : ℕ) (e : Event) (fields : Fields) : Type 0 where
    pub left : Halted
    pub is_left : event_segment program e fields ≡ Some left
    pub has : HasFields program.shape p left.fields
    pub leaves : Leaves program p n left.event left.pause
    pub holds : Holding.Pauses e.box.path e.box.held left.event.box left.pause

  pub segment_runs : (p : Path) (n : ℕ) (e : Event) (fields : Fields) → Stands program p n e → HasFields program.shape p fields → Runs p n e fields
  segment_runs p n e fields stands has =
      let a : Pauses program p n e fields = pauses program fit verified p n e fields stands has in
      record { left = a.left; is_left = a.is_left; has = a.has_fields; leaves = a.leaves; holds = left_keeps_by (read_marks program (class_of e.box.path)) e.levels e.box.path e.box.held (segment program e.levels e.box fields) a.left a.is_left (segment_keeps program e.levels e.box fields) }

  pub segment_kept : (p : Path) (n : ℕ) (e : Event) (fields : Fields) → Stands program p n e → HasFields program.shape p fields → HasFields program.shape p (left_of e fields (event_segment program e fields)).fields
  segment_kept p n e fields stands has =
      let r = segment_runs p n e fields stands has in
      subst (λ o. HasFields program.shape p (left_of e fields o).fields) (sym r.is_left) r.has

  -- one that peeks only looks
  pub segment_looks : (hosts : ℕ) (p : Path) (n : ℕ) (e : Event) (fields : Fields) (children : List Step) → Stands program p n e → HasFields program.shape p fields → is_peeking program e.box ≡ true → Looks (code_kind program hosts) e fields children
  segment_looks hosts p n e fields children stands has peeking =
      let o : OnlyLooks program e fields = only_looks_there program verified fit p n e fields stands has peeking in
      let is = ap (left_of e fields) o.is in
      let r = segment_runs p n e fields stands has in
      let same : r.left ≡ record { event = o.left; fields = fields; pause = halt.Over o.result } = some_same _ _ (sym r.is_left ∙ o.is) in
      record {
        same = ap (λ (l : Left Event Fields EventResult). l.fields) is;
        blind = refl;
        result = o.result;
        over = ap (λ (l : Left Event Fields EventResult). l.pause) is;
        stays = (subst (λ (l : Halted). Holding.Pauses e.box.path e.box.held l.event.box l.pause) same r.holds).2;
      }

  module _ (hosts : ℕ) where
    abbrev Protocol : Event → Path → ℕ → Halt → Type 0
    Protocol e p n why = Keeps (code_kind program hosts) e p n (pause_of why)

    protocol : (e e' : Event) (p : Path) (n : ℕ) (why : Halt) → Leaves program p n e' why → Holding.Pauses e.box.path e.box.held e'.box why → Protocol e' p n why
    protocol e e' p n (halt.Go s) l h = l
    protocol e e' p n (halt.Down s) l h = l
    protocol e e' p zero halt.Back l h = absurd l
    protocol e e' p (suc n) halt.Back l h = l
    protocol e e' p n (halt.Over r) l h = (l, subst (MovesOnly hosts p) (sym h.2) tt)

    pub segment_protocol : (p : Path) (n : ℕ) (e : Event) (fields : Fields) → Stands program p n e → HasFields program.shape p fields → Keeps (code_kind program hosts) (left_of e fields (event_segment program e fields)).actor p n (left_of e fields (event_segment program e fields)).pause
    segment_protocol p n e fields stands has =
        let r = segment_runs p n e fields stands has in
        subst (λ o. Keeps (code_kind program hosts) (left_of e fields o).actor p n (left_of e fields o).pause) (sym r.is_left) (protocol e r.left.event p n r.left.pause r.leaves r.holds)

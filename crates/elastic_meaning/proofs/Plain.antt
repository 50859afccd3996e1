-- A script without policies stands for itself, and is one piece.
use Rattle.std.proofs.Common.{◌≡◌, ◌<◌, ℕ, List, [], ◌∷◌, length, Some, None, refl, ap, arith}
use Rattle.std.proofs.lemmas.List.{append-nil}
use Rattle.std.proofs.lemmas.List.Elements.{All-nil, All-cons}
use Rattle.std.proofs.lemmas.List.Sums.{sum_by-cons}
use Rattle.wave_base.specs.declared.finished.Finished.{Finished}
use Rattle.wave_base.specs.declared.script.Line.{Line}
use Rattle.wave_base.specs.declared.script.Script.{Script}
use Rattle.wave_base.specs.declared.shape.Shape.{Shape}
use Rattle.wave_base.specs.declared.start.Start.{Start}
use Rattle.wave_base.specs.Scripts.{IsScript}
use Rattle.script_fold.specs.Lines.{Meaning}
use Rattle.script_reader.specs.declared.elastic.Part.{Part}
use Rattle.script_reader.specs.Elastics.{IsPart, IsElastic, lines_in, plain_elastic}
use Rattle.elastic_policy.specs.Expansions.{script_of, expansion}
use Rattle.elastic_policy.specs.Stages.{first_staged, stages_left, staged_after, piece_of}

abbrev part_of : List (List Line) → Part
part_of batches = record { policy = None; batches = batches }

pub plain_same : (meaning : Meaning) (shape : Shape) (start : Start) (script : Script) → expansion meaning shape start (plain_elastic script) ≡ script
unfolding expansion
plain_same meaning shape start script = ap (script_of script.hosts) (append-nil script.batches)

pub plain_fits : (shape : Shape) (script : Script) → IsScript shape script → IsElastic shape (plain_elastic script)
plain_fits shape script s =
    let one = sum_by-cons lines_in (part_of script.batches) [] in
    record {
      some_host = s.some_host;
      few_hosts = s.few_hosts;
      parts = All-cons (IsPart shape script.hosts) (part_of script.batches) [] (record { policy = tt; lines = s.lines; full = s.full }) (All-nil (IsPart shape script.hosts));
      few_lines = omega (arith, one, s.few_lines);
    }

module _ (shape : Shape) (hosts : ℕ) where
  some_piece : (batches : List (List Line)) → 0 < length batches → piece_of (first_staged shape (plain_elastic (script_of hosts batches))) ≡ Some (script_of hosts batches)
  some_piece [] some = absurd (omega (arith, some))
  some_piece (b ∷ bs) some = refl

  one_piece : (batches : List (List Line)) (done : Finished) → 0 < length batches → piece_of (staged_after (stages_left (first_staged shape (plain_elastic (script_of hosts batches)))) done) ≡ None
  one_piece [] done some = absurd (omega (arith, some))
  one_piece (b ∷ bs) done some = refl

  no_piece : (batches : List (List Line)) → length batches ≡ 0 → piece_of (first_staged shape (plain_elastic (script_of hosts batches))) ≡ None
  no_piece [] none = refl
  no_piece (b ∷ bs) none = absurd (omega (arith, none))

pub plain_piece : (shape : Shape) (script : Script) → 0 < length script.batches → piece_of (first_staged shape (plain_elastic script)) ≡ Some script
plain_piece shape script some = some_piece shape script.hosts script.batches some

pub plain_one : (shape : Shape) (script : Script) (done : Finished) → 0 < length script.batches → piece_of (staged_after (stages_left (first_staged shape (plain_elastic script))) done) ≡ None
plain_one shape script done some = one_piece shape script.hosts script.batches done some

pub plain_none : (shape : Shape) (script : Script) → length script.batches ≡ 0 → piece_of (first_staged shape (plain_elastic script)) ≡ None
plain_none shape script none = no_piece shape script.hosts script.batches none

-- Lines of a script, computed.
use Rattle.std.proofs.Common.{◌≡◌, ℕ, true, false, Ok, Err, negsuc, List, [], ◌∷◌, ◌++◌, refl}
use Rattle.std.specs.Prelude.{codes}
use Rattle.wave_base.specs.declared.script.Line.TheVariants as line
use Rattle.wave_base.specs.declared.value.Kind.TheVariants as kind
use Rattle.wave_base.specs.declared.value.Value.TheVariants as value
use Rattle.script_reader.specs.declared.error.Fault.TheVariants.{ArgCount, ArgType, HostRange, HostsLate, TooMany}
use Rattle.script_reader.specs.declared.form.Form.TheVariants.{Hosts, Request}
use Rattle.script_reader.specs.declared.form.Literal.TheVariants.{Number, Truth}
use Rattle.script_reader.specs.declared.piece.Piece.TheVariants.{Run}
use Rattle.script_reader.specs.declared.taken.Taken.TheVariants as taken
use Rattle.script_reader.specs.Pieces.{is_run, begins_solid, IsFront}
use Rattle.script_reader.specs.Forms.{is_skipped, HasForm}
use Rattle.script_reader.specs.Judged.{nothing_earlier, call_of, judged_hosts, judged_event}
use Rattle.script_reader.specs.Scripts.{script_of}

remark : is_skipped (9 ∷ codes " # move") ≡ true
remark = refl

abbrev run_front : {text rest : List ℕ} {bs : List ℕ} → text ≡ bs ++ rest → is_run bs ≡ true → begins_solid rest ≡ false → IsFront text (Run bs) rest
run_front e f k = record { spelled = e; form = f; ends = k }

two_hosts : HasForm (codes " hosts  2 ") (Hosts (codes "2"))
two_hosts = record {
  cut = (codes "  2 ", run_front refl refl refl, (codes " ", run_front refl refl refl, refl));
  form_is = refl;
}

no_arguments : HasForm (codes "request one()") (Request (codes "one") [])
no_arguments = record {
  cut = (codes " one()", run_front refl refl refl, (codes "()", run_front refl refl refl, (codes ")", record { spelled = refl; form = tt; ends = tt }, ([], record { spelled = refl; form = tt; ends = tt }, refl))));
  form_is = refl;
}

wrong_length : call_of 0 (kind.Int ∷ []) (Truth true ∷ Truth true ∷ []) ≡ Err ArgCount
wrong_length = refl

wrong_kind : call_of 0 (kind.Int ∷ []) (Truth true ∷ []) ≡ Err ArgType
wrong_kind = refl

least_key : call_of 3 (kind.Int ∷ []) (Number (codes "-9223372036854775808") ∷ []) ≡ Ok (line.Request (record { event = 3; args = value.Int (negsuc 9223372036854775807) ∷ []; generation = 0 }))
least_key = refl

late_and_out_of_range : judged_hosts true 9 ≡ Err HostsLate
late_and_out_of_range = refl

out_of_range : judged_hosts false 9 ≡ Err HostRange
out_of_range = refl

one_too_many : judged_event 4000 (Err ArgCount) ≡ Err TooMany
one_too_many = refl

-- an empty batch is left out
batches : script_of nothing_earlier (taken.Event line.Snapshot ∷ taken.Settle ∷ taken.Settle ∷ taken.Event line.Snapshot ∷ taken.Hosts 2 ∷ [])
    ≡ record { hosts = 2; batches = (line.Snapshot ∷ []) ∷ (line.Snapshot ∷ []) ∷ [] }
batches = refl

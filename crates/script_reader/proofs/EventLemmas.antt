-- A table of event names, one event more after the other.
use Rattle.std.proofs.Common.{◌≡◌, ◌+◌, ◌<◌, ◌≤◌, ℕ, List, [], ◌∷◌, ◌++◌, length, get_or, take, refl, sym, ap, subst, ◌∙◌, arith}
use Rattle.std.proofs.lemmas.List.{take_more, take_all, length-take-le}
use Rattle.wave_base.specs.declared.shape.EventInfo.{EventInfo}
use Rattle.name_table.specs.Numbers.{numbers_with, TellsFirst}
use Rattle.name_table.proofs.Noting.{noted_more}
use Rattle.script_reader.specs.Judged.{has_name}

pub event_told : (events : List EventInfo) (i : ℕ) (info : EventInfo) (table new : List (List ℕ × ℕ)) → i < length events → info ≡ get_or events i info
    → TellsFirst has_name (take i events) table → new ≡ numbers_with table info.name i → TellsFirst has_name (take (i + 1) events) new
event_told events i info table new l at tell e =
    let more : take (i + 1) events ≡ take i events ++ info ∷ [] = take_more events i info l ∙ ap (λ x. take i events ++ x ∷ []) (sym at) in
    let count : length (take i events) ≡ i = length-take-le i events (omega arith) in
    let made : numbers_with table info.name (length (take i events)) ≡ new = ap (numbers_with table info.name) count ∙ sym e in
    subst (λ xs. TellsFirst has_name xs new) (sym more) (subst (TellsFirst has_name (take i events ++ info ∷ [])) made (noted_more has_name (take i events) info info.name (λ q. refl) table tell))

pub all_told : (events : List EventInfo) (i : ℕ) (table : List (List ℕ × ℕ)) → length events ≤ i → TellsFirst has_name (take i events) table → TellsFirst has_name events table
all_told events i table l tell = subst (λ xs. TellsFirst has_name xs table) (take_all i events l) tell

-- A script with policies is listed piece by piece.
use Rattle.std.proofs.Common.{◌≡◌, ◌∙◌, ◌≤◌, ◌<◌, ◌+◌, ◌-◌, ◌^◌, ℕ, Bool, true, false, cond, is_some, sum_by, List, [], ◌∷◌, ◌++◌, length, Option, Some, None, refl, sym, ap, subst, arith, append_assoc}
use Rattle.std.specs.Prelude.{◌||◌, drop, take}
use Rattle.std.specs.List.{concat, zip}
use Rattle.std.proofs.lemmas.List.{take-append-drop, take_at}
use Rattle.std.proofs.lemmas.List.Folds.{list_any-append}
use Rattle.std.proofs.lemmas.List.Sums.{sum_by-cons}
use Rattle.wave_base.specs.declared.finished.Finished.{Finished}
use Rattle.wave_base.specs.declared.finished.Place.{Place}
use Rattle.wave_base.specs.declared.limits.TheConstants.{WORKERS}
use Rattle.wave_base.specs.declared.policy.Policy.{Policy}
use Rattle.wave_base.specs.declared.outcome.EventResult.{EventResult}
use Rattle.wave_base.specs.declared.script.Line.{Line}
use Rattle.wave_base.specs.declared.script.Script.{Script}
use Rattle.wave_base.specs.declared.start.Start.{Start}
use Rattle.wave_base.specs.Starts.{first_start}
use Rattle.resolved_service.specs.declared.service.Resolved.{Resolved}
use Rattle.script_reader.specs.declared.elastic.Elastic.{Elastic}
use Rattle.script_reader.specs.declared.elastic.Part.{Part}
use Rattle.script_reader.specs.Elastics.{IsElastic}
use Rattle.service_code.specs.declared.program.Program.{Program}
use Rattle.wave_meaning.specs.Meaning.{call_ran, results_at, results_of}
use Rattle.code_runner.specs.Coded.{IsCode}
use Rattle.code_runner.proofs.Meant.{code_fit, code_verified}
use Rattle.code_meaning.proofs.Meaning.{plan_means}
use Rattle.plan_actors.specs.Plans.{Fits}
use Rattle.fold_laws.specs.Cuts.{AreJoined}
use Rattle.listing_out.specs.Listing.{end_lines, last_ticket, lines_from, listing, places_of, shown_from}
use Rattle.listing_out.proofs.ListingLemmas.{whole_listing}
use Rattle.command_words.specs.declared.command.Places.{Places}
use Rattle.command_words.specs.declared.command.Places.TheVariants.{Unlisted, Listed}
use Rattle.elastic_policy.specs.Expansions.{script_of}
use Rattle.elastic_policy.specs.Moves.{policy_moves}
use Rattle.elastic_policy.specs.Stages.{Staged, Turn, batches_alone, batches_turn, first_staged, next_of, no_loads, part_turn, stages_left, piece_of, staged_after, MayFollow}
use Rattle.elastic_meaning.specs.Walks.{AreAt, IsDone, IsFront, IsPiece, IsUntold, expanded_script, told_of}
use Rattle.due_parts.specs.Told.{any_trap, is_listed, is_trap}
use Rattle.due_stages.specs.declared.work.StagedWork.{StagedWork}
use Rattle.due_stages.specs.Accepted.{CanStage}
use Rattle.due_stages.specs.Elastic.{listed_of}
use Rattle.due_stages.specs.Listed.{end_from, events_from, listed_places, ran_by, told_as, turns_left, turns_of, IsFrontListed, IsListedTo, IsPieceListed, IsWholeListed}
use Rattle.due_stages.proofs.ListedLemmas.{as_many_made, as_many_names, lines_joined}

-- ---- what is known of pieces

abbrev pub FirstIsAt : Type 0
FirstIsAt = (service : Resolved) (program : Program) (elastic : Elastic) → IsCode service program → IsElastic program.shape elastic → AreAt service program elastic [] (first_staged program.shape elastic)

abbrev pub NothingIsTold : Type 0
NothingIsTold = (service : Resolved) (program : Program) (elastic : Elastic) → IsUntold (first_start program.shape) (told_of service program elastic [])

abbrev pub PiecesGoOn : Type 0
PiecesGoOn = (service : Resolved) (program : Program) (elastic : Elastic) (done : List (List Line)) (s : Staged) (script : Script) → AreAt service program elastic done s → piece_of s ≡ Some script → IsPiece service program elastic done s script

abbrev pub PiecesEnd : Type 0
PiecesEnd = (service : Resolved) (program : Program) (elastic : Elastic) (done : List (List Line)) (s : Staged) → AreAt service program elastic done s → piece_of s ≡ None → IsDone service program elastic done

abbrev pub PiecesAreFronts : Type 0
PiecesAreFronts = (service : Resolved) (program : Program) (elastic : Elastic) (done : List (List Line)) (s : Staged) → AreAt service program elastic done s → IsFront service program elastic done

-- ---- fewer turns are left behind a piece

abbrev IsFewer : Option Script → ℕ → ℕ → Type 0
IsFewer None fewer turns = Unit {0}
IsFewer (Some script) fewer turns = fewer < turns

abbrev turns : List Part → ℕ
turns parts = sum_by turns_of parts

fewer_still : (o : Option Script) (n m k : ℕ) → IsFewer o n m → m ≤ k → IsFewer o n k
fewer_still None n m k h le = tt
fewer_still (Some script) n m k h le = omega (arith, h, le)

no_moves : (hosts : ℕ) (policy : Option Policy) (xs : List (Place × ℕ)) → is_some policy ≡ false → policy_moves hosts policy xs ≡ []
no_moves hosts None xs e = refl
no_moves hosts (Some p) xs e = cc

some_policy : (m : Line) (ms : List Line) (b : Bool) → (b ≡ false → m ∷ ms ≡ []) → ◌≡◌ {A = ℕ} (cond b 1 0) 1
some_policy m ms true h = refl
some_policy m ms false h = let none : m ∷ ms ≡ [] = h refl in cc

module _ (hosts : ℕ) (loads : List ℕ) (part : Part) (left : List Part) (next : Turn) (fewer : IsFewer next.0 (turns next.2) (turns left)) where
  all_turns : turns (part ∷ left) ≡ turns_of part + turns left
  all_turns = sum_by-cons turns_of part left

  batches_fewer : (batches : List (List Line)) → IsFewer (batches_turn hosts loads left next batches).0 (turns (batches_turn hosts loads left next batches).2) (turns (part ∷ left))
  batches_fewer [] = fewer_still next.0 (turns next.2) (turns left) (turns (part ∷ left)) fewer (omega (arith, all_turns))
  batches_fewer (b ∷ bs) = omega (arith, all_turns)

  part_fewer : (ms : List Line) → (is_some part.policy ≡ false → ms ≡ []) → IsFewer (part_turn hosts loads part left next ms).0 (turns (part_turn hosts loads part left next ms).2) (turns (part ∷ left))
  part_fewer [] none = batches_fewer part.batches
  part_fewer (m ∷ ms) none =
      let one = some_policy m ms (is_some part.policy) none in
      let alone : turns (batches_alone part ∷ left) ≡ turns_of (batches_alone part) + turns left = sum_by-cons turns_of (batches_alone part) left in
      omega (arith, one, alone, all_turns)

turn_fewer : (hosts : ℕ) (places : List Place) (loads : List ℕ) (left : List Part) → IsFewer (next_of hosts places loads left).0 (turns (next_of hosts places loads left).2) (turns left)
turn_fewer hosts places loads [] = tt
turn_fewer hosts places loads (part ∷ left) =
    part_fewer hosts loads part left (next_of hosts places (no_loads (length places)) left) (turn_fewer hosts places (no_loads (length places)) left) (policy_moves hosts part.policy (zip places loads)) (no_moves hosts part.policy (zip places loads))

piece_fewer : (s : Staged) (script : Script) → piece_of s ≡ Some script → turns_left (stages_left s) < turns_left s
piece_fewer s script e = subst (λ o. IsFewer o (turns_left (stages_left s)) (turns_left s)) e (turn_fewer s.hosts s.start.places s.loads s.left)

-- ---- along the pieces

any_more : (xs ys : List EventResult) → any_trap (xs ++ ys) ≡ (any_trap xs || any_trap ys)
any_more xs ys = list_any-append (λ (r : EventResult). is_trap r.outcome) xs ys

module _ (service : Resolved) (program : Program) (elastic : Elastic) where
  abbrev told : List (List Line) → Finished
  told done = told_of service program elastic done

  abbrev whole : Finished
  whole = results_of program.shape service (expanded_script program.shape service elastic)

  -- before the first piece
  listed_first : (s : Staged) → AreAt service program elastic [] s → IsUntold (first_start program.shape) (told []) → IsListedTo service program elastic s [] false
  listed_first s at none = record {
    done = [];
    at = at;
    text_is = ap (λ rs. concat (lines_from program.shape 1 (shown_from (told []) 0 rs))) (sym none.results);
    trapped_is = ap any_trap (sym none.results);
  }

  module _ (s : Staged) (text : List ℕ) (trapped : Bool) (l : IsListedTo service program elastic s text trapped) where
    abbrev done : List (List Line)
    done = l.done

    abbrev one : Finished
    one = told done

    next_ticket : s.start.next.0 ≡ 1 + length one.results
    next_ticket = ap (λ (t : Start). t.next.0) l.at.start

    named : length one.names ≡ length one.results
    named = as_many_names (call_ran service) program.shape (first_start program.shape) (script_of elastic.hosts done) l.at.comes

    made : length one.made ≡ length one.results
    made = as_many_made (call_ran service) program.shape (first_start program.shape) (script_of elastic.hosts done) l.at.comes

    -- with what is told behind it
    lines_more : (other all : Finished) → AreJoined one other all → events_from program.shape 1 all ≡ text ++ events_from program.shape s.start.next.0 other
    lines_more other all joined =
        lines_joined program.shape 1 one other all joined named made
        ∙ ap (λ n. events_from program.shape 1 one ++ events_from program.shape n other) (sym next_ticket)
        ∙ ap (λ z. z ++ events_from program.shape s.start.next.0 other) (sym l.text_is)

    -- ---- a piece

    module _ (script : Script) (p : IsPiece service program elastic done s script) where
      record IsRunListed (f : Finished) : Type 0 where
        few : s.start.next.0 + length f.results ≤ 2 ^ 32
        follows : MayFollow (stages_left s) f
        next : IsListedTo service program elastic (staged_after (stages_left s) f) (text ++ events_from program.shape s.start.next.0 f) (trapped || any_trap f.results)

      abbrev meant : Finished
      meant = results_at program.shape service s.start script

      meant_listed : IsRunListed meant
      meant_listed = record {
        few = p.few;
        follows = p.follows;
        next = record {
          done = done ++ script.batches;
          at = p.next;
          text_is = sym (lines_more meant (told (done ++ script.batches)) p.joined);
          trapped_is = ap (λ t. t || any_trap meant.results) l.trapped_is ∙ sym (any_more one.results meant.results) ∙ ap any_trap (sym p.joined.results);
        };
      }

      ran_listed : IsRunListed (ran_by program s.start script)
      ran_listed = subst IsRunListed (sym (plan_means service program l.at.code s.start script p.start p.fits)) meant_listed

      plan_fits : (workers : ℕ) → 1 ≤ workers → workers ≤ WORKERS → Fits (record { program = program; script = script; workers = workers })
      plan_fits workers some few = record { fit = code_fit service program l.at.code; verified = code_verified service program l.at.code; script = p.fits; some_worker = some; few_workers = few }

    listed_piece : (script : Script) → piece_of s ≡ Some script → IsPiece service program elastic done s script → IsPieceListed service program elastic s text trapped script
    listed_piece script e p =
        let ran = ran_listed script p in
        record {
          code = l.at.code;
          fits = plan_fits script p;
          begins = p.start;
          few = ran.few;
          follows = ran.follows;
          next = ran.next;
          less = piece_fewer s script e;
        }

    -- ---- however far it has come

    listed_more : IsFront service program elastic done → (places : Places) → (rest : List ℕ) × ((listed_of program.shape service elastic places).text ≡ text ++ rest)
    listed_more front places =
        let rest : List ℕ = events_from program.shape s.start.next.0 front.more in
        let end : List ℕ = concat (end_lines program.shape (places_of whole (is_listed places)) (last_ticket 1 whole)) in
        (rest ++ end, sym (whole_listing program.shape 1 whole (is_listed places)) ∙ ap (λ z. z ++ end) (lines_more front.more whole front.joined) ∙ append_assoc text rest end)

    -- ---- where no piece is left

    placed_same : (places : Places) → places_of one (is_listed places) ≡ listed_places places s.start
    placed_same Unlisted = refl
    placed_same Listed = ap (λ (t : Start). Some t.places) (sym l.at.start)

    end_same : (places : Places) → concat (end_lines program.shape (places_of one (is_listed places)) (last_ticket 1 one)) ≡ end_from program.shape places s.start
    end_same places =
        ap (λ n. concat (end_lines program.shape (places_of one (is_listed places)) (n - 1))) (sym next_ticket)
        ∙ ap (λ o. concat (end_lines program.shape o (s.start.next.0 - 1))) (placed_same places)

    text_same : (places : Places) → listing program.shape 1 one (is_listed places) ≡ text ++ end_from program.shape places s.start
    text_same places =
        sym (whole_listing program.shape 1 one (is_listed places))
        ∙ ap (λ z. z ++ concat (end_lines program.shape (places_of one (is_listed places)) (last_ticket 1 one))) (sym l.text_is)
        ∙ ap (λ z. text ++ z) (end_same places)

    all_listed : IsDone service program elastic done → (places : Places) → listed_of program.shape service elastic places ≡ told_as (any_trap one.results) (listing program.shape 1 one (is_listed places))
    all_listed d places = ap (λ t. told_as (any_trap (results_of program.shape service t).results) (listing program.shape 1 (results_of program.shape service t) (is_listed places))) d.all

    listed_whole : IsDone service program elastic done → IsWholeListed service program elastic s.start text trapped
    listed_whole d = record {
      some = omega (arith, next_ticket);
      due_is = λ places. all_listed d places ∙ ap (λ t. told_as t (listing program.shape 1 one (is_listed places))) (sym l.trapped_is) ∙ ap (told_as trapped) (text_same places);
    }

-- ---- as laws

front_of : (xs rest all : List ℕ) → all ≡ xs ++ rest → (n : ℕ) × (xs ≡ take n all)
front_of xs rest all e = (length xs, sym (ap (take (length xs)) e ∙ take_at xs rest (length xs) refl))

pub is_first : FirstIsAt → NothingIsTold → (elastic : Elastic) (work : StagedWork) → CanStage elastic work → IsListedTo work.service work.program elastic work.stages [] false
is_first first none elastic work can =
    listed_first work.service work.program elastic work.stages (subst (AreAt work.service work.program elastic []) (sym can.first) (first work.service work.program elastic can.code can.fits)) (none work.service work.program elastic)

module _ (service : Resolved) (program : Program) (elastic : Elastic) (s : Staged) (text : List ℕ) (trapped : Bool) where
  pub is_piece : PiecesGoOn → (script : Script) → IsListedTo service program elastic s text trapped → piece_of s ≡ Some script → IsPieceListed service program elastic s text trapped script
  is_piece go script l e = listed_piece service program elastic s text trapped l script e (go service program elastic l.done s script l.at e)

  -- what is listed and a rest
  with_rest : PiecesAreFronts → IsListedTo service program elastic s text trapped → (places : Places) → (rest : List ℕ) × ((listed_of program.shape service elastic places).text ≡ text ++ rest)
  with_rest fronts l = listed_more service program elastic s text trapped l (fronts service program elastic l.done s l.at)

  pub is_front : PiecesAreFronts → IsListedTo service program elastic s text trapped → IsFrontListed service program elastic text
  is_front fronts l places = let w = with_rest fronts l places in front_of text w.0 (listed_of program.shape service elastic places).text w.1

  pub is_whole : PiecesEnd → IsListedTo service program elastic s text trapped → piece_of s ≡ None → IsWholeListed service program elastic s.start text trapped
  is_whole end l e = listed_whole service program elastic s text trapped l (end service program elastic l.done s l.at e)

-- within a piece
pub is_within : PiecesAreFronts → (service : Resolved) (program : Program) (elastic : Elastic) (s : Staged) (text : List ℕ) (trapped : Bool) (script : Script) (n : ℕ) → IsPieceListed service program elastic s text trapped script
    → IsFrontListed service program elastic (text ++ take n (events_from program.shape s.start.next.0 (ran_by program s.start script)))
is_within fronts service program elastic s text trapped script n p places =
    let ran : Finished = ran_by program s.start script in
    let more : List ℕ = events_from program.shape s.start.next.0 ran in
    let w = with_rest service program elastic (staged_after (stages_left s) ran) (text ++ more) (trapped || any_trap ran.results) fronts p.next places in
    let cut : text ++ more ≡ (text ++ take n more) ++ drop n more = ap (λ z. text ++ z) (sym (take-append-drop n more)) ∙ sym (append_assoc text (take n more) (drop n more)) in
    front_of (text ++ take n more) (drop n more ++ w.0) (listed_of program.shape service elastic places).text (w.1 ∙ ap (λ z. z ++ w.0) cut ∙ append_assoc (text ++ take n more) (drop n more) w.0)

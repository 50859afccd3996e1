-- A script with policies, run piece by piece, comes to the run of what it stands for.
use Rattle.std.proofs.Common.{◌≡◌, ◌≤◌, ◌<◌, ◌+◌, ◌-◌, ◌*◌, ◌^◌, ℕ, zero, suc, true, List, [], ◌∷◌, ◌++◌, length, map, get_or, sum, sum_by, Option, Some, None, All, refl, sym, ap, subst, ◌∙◌, arith, append_assoc, length-append, mul-le-mul_left, mul-le-mul_right}
use Rattle.std.specs.List.{zip, list_any}
use Rattle.std.specs.List.Sorted.{IsStrictlySortedBy}
use Rattle.std.proofs.lemmas.List.{append-nil, length-map}
use Rattle.std.proofs.lemmas.List.Elements.{All-nil}
use Rattle.std.proofs.lemmas.List.Sums.{sum_by-append, sum_by-le, sum-map, count_by-le-length}
use Rattle.wave_base.specs.declared.finished.Finished.{Finished}
use Rattle.wave_base.specs.declared.finished.Place.{Place}
use Rattle.wave_base.specs.declared.path.Path.{Path}
use Rattle.wave_base.specs.declared.script.Line.{Line}
use Rattle.wave_base.specs.declared.script.Script.{Script}
use Rattle.wave_base.specs.declared.shape.Shape.{Shape}
use Rattle.wave_base.specs.declared.start.Start.{Start}
use Rattle.wave_base.specs.Paths.{path_cmp, path_eq}
use Rattle.wave_base.specs.Places.{load_of}
use Rattle.wave_base.specs.Scripts.{IsScript}
use Rattle.wave_base.specs.Shapes.{is_path}
use Rattle.wave_base.specs.Starts.{IsStart, first_start}
use Rattle.wave_base.specs.Tree.{Tree, shots}
use Rattle.resolved_service.specs.declared.service.Resolved.{Resolved}
use Rattle.script_fold.specs.Lines.{most_of, most_jobs}
use Rattle.script_fold.specs.Runs.{whole_run, hosts_after, place_of, start_after, IsFew}
use Rattle.script_reader.specs.declared.elastic.Elastic.{Elastic}
use Rattle.script_reader.specs.declared.elastic.Part.{Part}
use Rattle.script_reader.specs.Elastics.{IsElastic, lines_in}
use Rattle.service_code.specs.declared.program.Program.{Program}
use Rattle.wave_meaning.specs.Meaning.{call_ran, results_at, results_of, IsWhole}
use Rattle.code_runner.specs.Coded.{IsCode}
use Rattle.fold_laws.specs.Cuts.{AreJoined, start_behind, IsCut, Comes}
use Rattle.fold_laws.specs.Growth.{most_added, most_contexts, StaysFew}
use Rattle.elastic_policy.specs.Expansions.{script_of, loads_of, entries_in, expand, expansion}
use Rattle.elastic_policy.specs.Stages.{Staged, first_staged, next_of, piece_of, stages_left, staged_after, ArePlaced}
use Rattle.elastic_meaning.specs.Walks.{expanded_script, IsUntold, IsFront, AreAt, IsPiece, IsDone}
use Rattle.elastic_meaning.proofs.Serving.{first_comes, first_few, is_cut, both_come, both_few, entered_each}
use Rattle.elastic_meaning.proofs.Turning.{Goes, IsNext, turns}

-- ---- contexts with their loads, as a run tells them

told_loads : (fields load : Path → ℕ) (count : Path → ℕ) → ((p : Path) → count p ≡ load p) → (ps : List Path) → zip (map place_of (map (λ p. (p, fields p)) ps)) (map count ps) ≡ loads_of load (map place_of (map (λ p. (p, fields p)) ps))
told_loads fields load count same [] = refl
told_loads fields load count same (p ∷ ps) = λ i. (place_of (p, fields p), same p i) ∷ told_loads fields load count same ps i

told_paired : (t : Tree ℕ) (count : Path → ℕ) → length (map place_of (shots t)) ≡ length (map count t.paths)
told_paired t count = length-map (shots t) place_of ∙ length-map t.paths (λ p. (p, t.fields p)) ∙ sym (length-map t.paths count)

-- no context is entered by more jobs than there are
loads_small : (entered : List (List Path)) (ps : List Path) → sum (map (load_of entered) ps) ≤ length ps * length entered
loads_small entered ps =
    let each : All (λ p. load_of entered p ≤ length entered) ps = λ k d h. count_by-le-length (list_any (path_eq (get_or ps k d))) entered in
    let all = sum_by-le (load_of entered) (length entered) ps each in
    omega (arith, all, sum-map (load_of entered) ps)

module _ (service : Resolved) (program : Program) (elastic : Elastic) where
  abbrev shape : Shape
  shape = program.shape

  abbrev first : Start
  first = first_start program.shape

  abbrev over : List (List Line) → Script
  over done = script_of elastic.hosts done

  abbrev told : List (List Line) → Finished
  told done = results_of program.shape service (over done)

  abbrev behind : List (List Line) → Start
  behind done = start_behind (call_ran service) program.shape first (over done)

  -- ---- before the first piece

  first_same : behind [] ≡ first
  unfolding whole_run
  first_same = refl

  pub untold : IsUntold first (told [])
  unfolding whole_run
  untold = record { results = refl; made = refl; names = refl; places = refl; shots = refl }

  empty_fits : IsElastic shape elastic → IsScript shape (over [])
  empty_fits fits = record { some_host = fits.some_host; few_hosts = fits.few_hosts; lines = All-nil _; full = All-nil _; few_lines = omega arith }

  first_rest : (expanded_script shape service elastic).batches ≡ [] ++ expand (call_ran service) shape first elastic.hosts elastic.parts [] (λ p. 0)
  unfolding expansion
  first_rest = refl

  pub at_first : IsCode service program → IsElastic shape elastic → AreAt service program elastic [] (first_staged shape elastic)
  at_first code fits =
      let few : IsFew first = (omega arith, omega arith) in
      record {
        code = code;
        fits = fits;
        comes = first_comes service program code (over []) (empty_fits fits) (subst IsFew (sym first_same) few);
        hosts = refl;
        start = sym first_same;
        load = λ p. 0;
        paired = refl;
        loads = refl;
        rest = first_rest;
        left = fits.parts;
        few = first_few service program code (over []) (empty_fits fits);
        jobs = omega (arith, fits.few_lines);
        contexts = omega (arith, fits.few_lines);
      }

  -- ---- a piece

  module _ (done : List (List Line)) (code : IsCode service program) (fits : IsElastic shape elastic) (known : Comes (call_ran service) shape first (over done)) where
    -- a script behind the batches that are done
    module _ (b : Script) (s : IsScript shape b) (hosts : b.hosts ≡ elastic.hosts) (few : StaysFew first done (told done))
        (jobs : most_jobs done + most_jobs b.batches ≤ 16000000) (contexts : most_contexts done + most_contexts b.batches ≤ 349184000) where
      abbrev f : Finished
      f = results_at shape service (behind done) b

      the_cut : IsCut (call_ran service) shape first (over done) b
      the_cut = is_cut service program code (over done) b known s (sym hosts)

      stays : StaysFew first (done ++ b.batches) (told (done ++ b.batches))
      stays = both_few service program code (over done) b known s (sym hosts) few

      all_jobs : most_jobs (done ++ b.batches) ≡ most_jobs done + most_jobs b.batches
      all_jobs = sum_by-append (sum_by most_of) done b.batches

      all_contexts : most_contexts (done ++ b.batches) ≡ most_contexts done + most_contexts b.batches
      all_contexts = sum_by-append (sum_by most_added) done b.batches

      results_few : length (told (done ++ b.batches)).results ≤ 16000000
      results_few = omega (arith, stays.results, all_jobs, jobs)

      shots_few : length (told (done ++ b.batches)).shots ≤ 349184001
      shots_few = omega (arith, stays.contexts, all_contexts, contexts)

      is_few : IsFew (behind (done ++ b.batches))
      is_few = (omega (arith, shots_few), omega (arith, results_few))

      known_then : Comes (call_ran service) shape first (over (done ++ b.batches))
      known_then = both_come service program code (over done) b known s (sym hosts) is_few

      -- the results of the piece are among them
      parts_of : length (told (done ++ b.batches)).results ≡ length (told done).results + length f.results
      parts_of = ap length the_cut.joined.results ∙ length-append (told done).results f.results

      then_is : behind (done ++ b.batches) ≡ start_after (behind done) f
      then_is = the_cut.next

      begins_then : IsStart shape elastic.hosts (start_after (behind done) f)
      begins_then = subst (IsStart shape elastic.hosts) then_is known_then.begins

      shots_then : length f.shots ≤ 349184001
      shots_then = let same = ap length the_cut.joined.shots in omega (arith, shots_few, same)

      places_count : length (map (λ x. x.path) f.places) ≡ length (map (λ x. x.path) f.shots)
      places_count = ap length begins_then.places

      abbrev tree : Tree ℕ
      tree = hosts_after (behind done) (whole_run (call_ran service) shape (behind done) b)

      abbrev entered : List (List Path)
      entered = (whole_run (call_ran service) shape (behind done) b).entered

      paths_few : length tree.paths ≤ 349184001
      paths_few =
          let one = length-map f.places (λ (x : Place). x.path) in
          let two = length-map f.shots (λ x. x.path) in
          let three = length-map (shots tree) place_of ∙ length-map tree.paths (λ p. (p, tree.fields p)) in
          omega (arith, one, two, three, places_count, shots_then)

      entered_few : length entered ≤ 16000000
      entered_few = let each = entered_each service program code (behind done) b s in omega (arith, each, parts_of, results_few)

      loads_few : sum f.loads ≤ 2 ^ 60
      loads_few =
          let all = loads_small entered tree.paths in
          let one = mul-le-mul_right (length entered) paths_few in
          let two = mul-le-mul_left 349184001 entered_few in
          omega (arith, all, one, two)

      placed_then : ArePlaced elastic.hosts f.places f.loads
      placed_then = record {
        paired = told_paired tree (load_of entered);
        ordered = subst (IsStrictlySortedBy path_cmp) (sym begins_then.places) begins_then.tree.ordered;
        below = begins_then.hosts;
        small = loads_few;
      }

      ticket_few : (behind done).next.0 + length f.results < 2 ^ 32
      ticket_few = omega (arith, parts_of, results_few)

      entries_same : (p : Path) → load_of entered p ≡ entries_in (call_ran service) shape first elastic.hosts done b.batches p
      entries_same p = let both_loads = the_cut.loads p in omega (arith, both_loads)

      loads_then : zip f.places f.loads ≡ loads_of (entries_in (call_ran service) shape first elastic.hosts done b.batches) f.places
      loads_then = told_loads tree.fields (entries_in (call_ran service) shape first elastic.hosts done b.batches) (load_of entered) entries_same tree.paths

      -- where it is the next piece, and these parts are left
      module _ (loads : List ℕ) (left : List Part) (load : Path → ℕ)
          (all : (expanded_script shape service elastic).batches ≡ done ++ expand (call_ran service) shape first elastic.hosts left done load)
          (goes : Goes (call_ran service) shape first elastic.hosts done load left (next_of elastic.hosts (behind done).places loads left).2 b)
          (jobs_left : most_jobs done + 4000 * sum_by lines_in left ≤ 16000000) (contexts_left : most_contexts done + 87296 * sum_by lines_in left ≤ 349184000) where
        abbrev rest : List Part
        rest = (next_of elastic.hosts (behind done).places loads left).2

        rest_then : (expanded_script shape service elastic).batches
            ≡ (done ++ b.batches) ++ expand (call_ran service) shape first elastic.hosts rest (done ++ b.batches) (entries_in (call_ran service) shape first elastic.hosts done b.batches)
        rest_then = all ∙ ap (λ bs. done ++ bs) goes.batches ∙ sym (append_assoc done b.batches _)

        at_then : AreAt service program elastic (done ++ b.batches) (record { hosts = elastic.hosts; start = start_after (behind done) f; loads = f.loads; left = rest })
        at_then = record {
          code = code;
          fits = fits;
          comes = known_then;
          hosts = refl;
          start = sym then_is;
          load = entries_in (call_ran service) shape first elastic.hosts done b.batches;
          paired = placed_then.paired;
          loads = loads_then;
          rest = rest_then;
          left = goes.parts;
          few = stays;
          jobs = omega (arith, all_jobs, goes.jobs, jobs_left);
          contexts = omega (arith, all_contexts, goes.contexts, contexts_left);
        }

        piece_then : IsPiece service program elastic done (record { hosts = elastic.hosts; start = behind done; loads = loads; left = left }) b
        piece_then = record {
          hosts = hosts;
          fits = s;
          start = subst (λ n. IsStart shape n (behind done)) (sym hosts) known.begins;
          few = omega (arith, ticket_few);
          follows = record { placed = placed_then; few = ticket_few };
          next = at_then;
          cut = the_cut;
          joined = the_cut.joined;
        }

  -- ---- what comes next

  abbrev stage : List (List Line) → List ℕ → List Part → Staged
  stage done loads left = record { hosts = elastic.hosts; start = behind done; loads = loads; left = left }

  stage_is : (done : List (List Line)) (s : Staged) → AreAt service program elastic done s → s ≡ stage done s.loads s.left
  stage_is done s at i = record { hosts = at.hosts i; start = at.start i; loads = s.loads; left = s.left }

  -- a piece, behind which fewer lines are left
  record GoesOn (done : List (List Line)) (s : Staged) (script : Script) : Type 0 where
    piece : IsPiece service program elastic done s script
    less : sum_by lines_in (stages_left s).left < sum_by lines_in s.left

  module _ (done : List (List Line)) (loads : List ℕ) (left : List Part) (at : AreAt service program elastic done (stage done loads left)) where
    paths_fit : All (λ p. is_path shape p ≡ true) (map (λ x. x.path) (behind done).places)
    paths_fit = subst (All (λ p. is_path shape p ≡ true)) (sym at.comes.begins.places) at.comes.begins.tree.paths

    next_is : IsNext (call_ran service) shape first elastic.hosts done at.load left (next_of elastic.hosts (behind done).places loads left).0 (next_of elastic.hosts (behind done).places loads left).2
    next_is = turns (call_ran service) shape first elastic.hosts done at.fits.some_host at.fits.few_hosts paths_fit left loads at.load at.paired at.loads at.left (omega (arith, at.jobs))

    stage_goes : (script : Script) → piece_of (stage done loads left) ≡ Some script → GoesOn done (stage done loads left) script
    stage_goes script e =
        let goes : Goes (call_ran service) shape first elastic.hosts done at.load left (next_of elastic.hosts (behind done).places loads left).2 script =
        subst (λ o. IsNext (call_ran service) shape first elastic.hosts done at.load left o (next_of elastic.hosts (behind done).places loads left).2) e next_is in
        record {
          piece = piece_then done at.code at.fits at.comes script goes.fits goes.over at.few (omega (arith, goes.jobs, at.jobs)) (omega (arith, goes.contexts, at.contexts)) loads left at.load at.rest goes at.jobs at.contexts;
          less = goes.less;
        }

    stage_ends : piece_of (stage done loads left) ≡ None → (expanded_script shape service elastic).batches ≡ done
    stage_ends e =
        let none : expand (call_ran service) shape first elastic.hosts left done at.load ≡ [] =
        subst (λ o. IsNext (call_ran service) shape first elastic.hosts done at.load left o (next_of elastic.hosts (behind done).places loads left).2) e next_is in
        at.rest ∙ ap (λ bs. done ++ bs) none ∙ append-nil done

  module _ (done : List (List Line)) (s : Staged) (at : AreAt service program elastic done s) where
    at_stage : AreAt service program elastic done (stage done s.loads s.left)
    at_stage = subst (AreAt service program elastic done) (stage_is done s at) at

    goes_on : (script : Script) → piece_of s ≡ Some script → GoesOn done s script
    goes_on script e = subst (λ t. piece_of t ≡ Some script → GoesOn done t script) (sym (stage_is done s at)) (stage_goes done s.loads s.left at_stage script) e

    pub is_piece : (script : Script) → piece_of s ≡ Some script → IsPiece service program elastic done s script
    is_piece script e = (goes_on script e).piece

    all_done : piece_of s ≡ None → (expanded_script shape service elastic).batches ≡ done
    all_done e = subst (λ t. piece_of t ≡ None → (expanded_script shape service elastic).batches ≡ done) (sym (stage_is done s at)) (stage_ends done s.loads s.left at_stage) e

    expanded_over : expanded_script shape service elastic ≡ over (expanded_script shape service elastic).batches
    unfolding expansion
    expanded_over = refl

    pub is_done : piece_of s ≡ None → IsDone service program elastic done
    is_done e =
        let all : expanded_script shape service elastic ≡ over done = expanded_over ∙ ap over (all_done e) in
        record {
          all = all;
          over = subst (λ t. IsWhole shape service t) (sym all) at.comes.over;
          few = omega (arith, at.few.results, at.jobs);
        }

  -- ---- to the end

  -- a front of what is told, and a front of the rest
  joined_more : (one two three : Finished) (more last : Finished) → AreJoined one more two → AreJoined two last three
      → AreJoined one (record { results = more.results ++ last.results; made = more.made ++ last.made; names = more.names ++ last.names; places = last.places; shots = last.shots; loads = last.loads }) three
  joined_more one two three more last a b = record {
    results = b.results ∙ ap (λ xs. xs ++ last.results) a.results ∙ append_assoc one.results more.results last.results;
    made = b.made ∙ ap (λ xs. xs ++ last.made) a.made ∙ append_assoc one.made more.made last.made;
    names = b.names ∙ ap (λ xs. xs ++ last.names) a.names ∙ append_assoc one.names more.names last.names;
    places = b.places;
    shots = b.shots;
  }

  pub record Ends (done : List (List Line)) : Type 0 where
    pub front : IsFront service program elastic done
    pub over : IsWhole shape service (expanded_script shape service elastic)
    pub few : length (results_of shape service (expanded_script shape service elastic)).results ≤ 2 ^ 32 - 1

  ends_here : (done : List (List Line)) → IsDone service program elastic done → Ends done
  ends_here done d =
      let all = told done in
      let none : Finished = record { results = []; made = []; names = []; places = all.places; shots = all.shots; loads = [] } in
      let same : results_of shape service (expanded_script shape service elastic) ≡ all = ap (results_of shape service) d.all in
      record {
        front = record {
          rest = [];
          batches = ap (λ t. t.batches) d.all ∙ sym (append-nil done);
          more = none;
          joined = subst (AreJoined all none) (sym same) (record {
            results = sym (append-nil all.results);
            made = sym (append-nil all.made);
            names = sym (append-nil all.names);
            places = refl;
            shots = refl;
          });
        };
        over = d.over;
        few = subst (λ (t : Finished). length t.results ≤ 2 ^ 32 - 1) (sym same) d.few;
      }

  ends_later : (done : List (List Line)) (s : Staged) (script : Script) → IsPiece service program elastic done s script → Ends (done ++ script.batches) → Ends done
  ends_later done s script p later =
      let piece = results_at shape service s.start script in
      let last = later.front.more in
      record {
        front = record {
          rest = script.batches ++ later.front.rest;
          batches = later.front.batches ∙ append_assoc done script.batches later.front.rest;
          more = record { results = piece.results ++ last.results; made = piece.made ++ last.made; names = piece.names ++ last.names; places = last.places; shots = last.shots; loads = last.loads };
          joined = joined_more (told done) (told (done ++ script.batches)) (results_of shape service (expanded_script shape service elastic)) piece last p.joined later.front.joined;
        };
        over = later.over;
        few = later.few;
      }

  one_more : (n : ℕ) → ((done : List (List Line)) (s : Staged) → AreAt service program elastic done s → sum_by lines_in s.left < n → Ends done)
      → (done : List (List Line)) (s : Staged) → AreAt service program elastic done s → sum_by lines_in s.left < suc n → Ends done
  one_more n to_end done s at short = by_piece (piece_of s) refl
    where
      by_piece : (o : Option Script) → piece_of s ≡ o → Ends done
      by_piece None e = ends_here done (is_done done s at e)
      by_piece (Some script) e =
          let g = goes_on done s at script e in
          ends_later done s script g.piece (to_end (done ++ script.batches) (staged_after (stages_left s) (results_at shape service s.start script)) g.piece.next (omega (arith, g.less, short)))

  to_end : (n : ℕ) (done : List (List Line)) (s : Staged) → AreAt service program elastic done s → sum_by lines_in s.left < n → Ends done
  to_end zero done s at short = absurd (omega (arith, short))
  to_end (suc n) done s at short = one_more n (to_end n) done s at short

  pub ends : (done : List (List Line)) (s : Staged) → AreAt service program elastic done s → Ends done
  ends done s at = to_end (suc (sum_by lines_in s.left)) done s at (omega arith)

  pub ends_from_first : IsCode service program → IsElastic shape elastic → Ends []
  ends_from_first code fits = ends [] (first_staged shape elastic) (at_first code fits)

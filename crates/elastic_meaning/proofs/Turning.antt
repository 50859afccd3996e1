-- One turn: what comes next of the parts that are left, and what is left behind it.
use Rattle.std.proofs.Common.{◌≡◌, ◌≤◌, ◌<◌, ◌+◌, ◌*◌, ℕ, suc, true, List, [], ◌∷◌, ◌++◌, length, map, sum_by, Option, Some, None, All, is_some, if◌then◌else◌, refl, sym, ap, subst, ◌∙◌, arith}
use Rattle.std.specs.Prelude.{IfSome}
use Rattle.std.specs.List.{zip}
use Rattle.std.proofs.lemmas.List.{append_assoc, append-nil}
use Rattle.std.proofs.lemmas.List.Elements.{All-nil, All-cons, All-head, All-tail, All-weaker, All-contains}
use Rattle.std.proofs.lemmas.List.Sums.{sum_by-cons, sum_by-le}
use Rattle.wave_base.specs.declared.finished.Place.{Place}
use Rattle.wave_base.specs.declared.limits.TheConstants.{EVENT_LINES, HOSTS}
use Rattle.wave_base.specs.declared.path.Path.{Path}
use Rattle.wave_base.specs.declared.policy.Policy.{Policy}
use Rattle.wave_base.specs.declared.policy.Policy.TheVariants.{Balance, Drain}
use Rattle.wave_base.specs.declared.script.Line.{Line}
use Rattle.wave_base.specs.declared.script.Line.TheVariants.{Request, Move, Snapshot}
use Rattle.wave_base.specs.declared.script.Script.{Script}
use Rattle.wave_base.specs.declared.shape.Shape.{Shape}
use Rattle.wave_base.specs.declared.start.Start.{Start}
use Rattle.wave_base.specs.Scripts.{FitsLine, IsPolicy, IsScript}
use Rattle.wave_base.specs.Shapes.{is_path}
use Rattle.script_fold.specs.Lines.{Meaning, most_of, most_jobs}
use Rattle.script_fold.specs.Moves.{with_batch}
use Rattle.script_fold.proofs.LeftLemmas.{most_lines}
use Rattle.script_reader.specs.declared.elastic.Part.{Part}
use Rattle.script_reader.specs.Elastics.{IsPart, lines_in}
use Rattle.fold_laws.specs.Growth.{most_added, most_contexts}
use Rattle.fold_laws.proofs.Growing.{most_lines_add}
use Rattle.elastic_policy.specs.Expansions.{loads_of, places_behind, entries, entries_in, expand}
use Rattle.elastic_policy.specs.MoveFacts.{IsMoveOf, FitsScript}
use Rattle.elastic_policy.specs.Moves.{policy_moves}
use Rattle.elastic_policy.specs.Stages.{Turn, no_loads, batches_alone, batches_turn, part_turn, next_of}
use Rattle.elastic_policy.proofs.Fits.{balance_fits, drain_fits}

-- ---- moves as a script

moves_fit : (hosts : ℕ) (places : List Place) (loads : List ℕ) → 1 ≤ hosts → length places ≡ length loads → (policy : Option Policy) → IfSome policy (IsPolicy hosts) → FitsScript hosts places (policy_moves hosts policy (zip places loads))
moves_fit hosts places loads some paired None h = record { moves = All-nil (IsMoveOf hosts places); few = omega arith }
moves_fit hosts places loads some paired (Some (Balance most)) h = balance_fits hosts most places loads paired some h.1
moves_fit hosts places loads some paired (Some (Drain from to)) h = drain_fits hosts from.0 to.0 places loads paired h.1

-- a policy stands where there is a move
has_policy : (hosts : ℕ) (policy : Option Policy) (xs : List (Place × ℕ)) (m : Line) (ms : List Line) → m ∷ ms ≡ policy_moves hosts policy xs → is_some policy ≡ true
has_policy hosts None xs m ms e = cc
has_policy hosts (Some p) xs m ms e = refl

module _ (hosts : ℕ) (places : List Place) where
  one_job : (l : Line) → IsMoveOf hosts places l → most_of l ≤ 1
  one_job (Request call) h = absurd h
  one_job (Move path to) h = omega arith
  one_job Snapshot h = omega arith

  none_added : (l : Line) → IsMoveOf hosts places l → most_added l ≤ 0
  none_added (Request call) h = absurd h
  none_added (Move path to) h = omega arith
  none_added Snapshot h = omega arith

  module _ (ms : List Line) (fits : FitsScript hosts places ms) where
    moves_jobs : most_jobs (ms ∷ []) ≤ EVENT_LINES
    moves_jobs =
        let each = sum_by-le most_of 1 ms (All-weaker (IsMoveOf hosts places) (λ l. most_of l ≤ 1) one_job ms fits.moves) in
        let one = sum_by-cons (sum_by most_of) ms [] in
        omega (arith, each, one, fits.few)

    moves_contexts : most_contexts (ms ∷ []) ≤ 0
    moves_contexts =
        let each = sum_by-le most_added 0 ms (All-weaker (IsMoveOf hosts places) (λ l. most_added l ≤ 0) none_added ms fits.moves) in
        let one = sum_by-cons (sum_by most_added) ms [] in
        omega (arith, each, one)

-- contexts that nothing entered
pub unloaded : (load : Path → ℕ) → ((p : Path) → load p ≡ 0) → (places : List Place) → zip places (no_loads (length places)) ≡ loads_of load places
unloaded load none [] = refl
unloaded load none (x ∷ places) = λ i. (x, sym (none x.path) i) ∷ unloaded load none places i

pub length_unloaded : {A : Type 0} (xs : List A) → length xs ≡ length (no_loads (length xs))
length_unloaded [] = refl
length_unloaded (x ∷ xs) = ap suc (length_unloaded xs)

-- ---- a turn

module _ (meaning : Meaning) (shape : Shape) (start : Start) (hosts : ℕ) where
  abbrev batches_of : List Part → List (List Line) → (Path → ℕ) → List (List Line)
  batches_of = expand meaning shape start hosts

  -- a script that may be run behind the batches that are done, with the parts that are left then
  pub record Goes (done : List (List Line)) (load : Path → ℕ) (left rest : List Part) (script : Script) : Type 0 where
    pub over : script.hosts ≡ hosts
    pub fits : IsScript shape script
    pub batches : expand meaning shape start hosts left done load
        ≡ script.batches ++ expand meaning shape start hosts rest (done ++ script.batches) (entries_in meaning shape start hosts done script.batches)
    pub parts : All (IsPart shape hosts) rest
    pub less : sum_by lines_in rest < sum_by lines_in left
    pub jobs : most_jobs script.batches + 4000 * sum_by lines_in rest ≤ 4000 * sum_by lines_in left
    pub contexts : most_contexts script.batches + 87296 * sum_by lines_in rest ≤ 87296 * sum_by lines_in left

  abbrev pub IsNext : List (List Line) → (Path → ℕ) → List Part → Option Script → List Part → Type 0
  IsNext done load left None rest = expand meaning shape start hosts left done load ≡ []
  IsNext done load left (Some script) rest = Goes done load left rest script

  -- the same of more lines
  next_alike : (done : List (List Line)) (load other : Path → ℕ) (left more : List Part) → expand meaning shape start hosts more done other ≡ expand meaning shape start hosts left done load → sum_by lines_in left ≤ sum_by lines_in more
      → (o : Option Script) (rest : List Part) → IsNext done load left o rest → IsNext done other more o rest
  next_alike done load other left more e fewer None rest h = e ∙ h
  next_alike done load other left more e fewer (Some script) rest h = record {
    over = h.over;
    fits = h.fits;
    batches = e ∙ h.batches;
    parts = h.parts;
    less = omega (arith, h.less, fewer);
    jobs = omega (arith, h.jobs, fewer);
    contexts = omega (arith, h.contexts, fewer);
  }

  module _ (done : List (List Line)) (some : 1 ≤ hosts) (few : hosts ≤ HOSTS)
      (paths : All (λ p. is_path shape p ≡ true) (map (λ x. x.path) (places_behind meaning shape start hosts done))) where
    abbrev places : List Place
    places = places_behind meaning shape start hosts done

    line_fits : (l : Line) → IsMoveOf hosts places l → FitsLine shape hosts l
    line_fits (Request call) h = absurd h
    line_fits (Move path to) h = (All-contains (λ p. is_path shape p ≡ true) (map (λ x. x.path) places) path paths h.0, h.1)
    line_fits Snapshot h = tt

    -- behind the part's own moves
    abbrev behind_moves : Part → List Part → List (List Line) → List (List Line)
    behind_moves part left d = part.batches ++ expand meaning shape start hosts left (d ++ part.batches) (entries_in meaning shape start hosts d part.batches)

    -- a part's moves first
    module _ (part : Part) (left : List Part) (loads : List ℕ) (load : Path → ℕ) (paired : length places ≡ length loads) (same : zip places loads ≡ loads_of load places)
        (fit : IsPart shape hosts part) (parts : All (IsPart shape hosts) left) (short : sum_by lines_in (part ∷ left) ≤ EVENT_LINES) where
      opens : (ms : List Line) → ms ≡ policy_moves hosts part.policy (zip places loads)
          → expand meaning shape start hosts (part ∷ left) done load ≡ with_batch ms [] ++ behind_moves part left (done ++ with_batch ms [])
      opens ms e =
          append_assoc (with_batch (policy_moves hosts part.policy (loads_of load places)) []) part.batches _
          ∙ ap (λ xs. with_batch (policy_moves hosts part.policy xs) [] ++ behind_moves part left (done ++ with_batch (policy_moves hosts part.policy xs) [])) (sym same)
          ∙ ap (λ ns. with_batch ns [] ++ behind_moves part left (done ++ with_batch ns [])) (sym e)

      count : sum_by lines_in (part ∷ left) ≡ lines_in part + sum_by lines_in left
      count = sum_by-cons lines_in part left

      moves_go : (m : Line) (ms : List Line) → m ∷ ms ≡ policy_moves hosts part.policy (zip places loads)
          → Goes done load (part ∷ left) (batches_alone part ∷ left) (record { hosts = hosts; batches = (m ∷ ms) ∷ [] })
      moves_go m ms e =
          let fits : FitsScript hosts places (m ∷ ms) = subst (FitsScript hosts places) (sym e) (moves_fit hosts places loads some paired part.policy fit.policy) in
          let one : lines_in part ≡ 1 + sum_by length part.batches = ap (λ t. (if t then 1 else 0) + sum_by length part.batches) (has_policy hosts part.policy (zip places loads) m ms e) in
          let alone = sum_by-cons lines_in (batches_alone part) left in
          let long = sum_by-cons length (m ∷ ms) [] in
          record {
            over = refl;
            fits = record {
              some_host = some;
              few_hosts = few;
              lines = All-cons (All (FitsLine shape hosts)) (m ∷ ms) [] (All-weaker (IsMoveOf hosts places) (FitsLine shape hosts) line_fits (m ∷ ms) fits.moves) (All-nil (All (FitsLine shape hosts)));
              full = All-cons (λ b. 0 < length b) (m ∷ ms) [] (omega arith) (All-nil (λ b. 0 < length b));
              few_lines = omega (arith, long, fits.few);
            };
            batches = opens (m ∷ ms) e ∙ ap (λ d. (m ∷ ms) ∷ behind_moves part left d) (sym (append-nil (done ++ (m ∷ ms) ∷ [])));
            parts = All-cons (IsPart shape hosts) (batches_alone part) left (record { policy = tt; lines = fit.lines; full = fit.full }) parts;
            less = omega (arith, count, one, alone);
            jobs = omega (arith, count, one, alone, moves_jobs hosts places (m ∷ ms) fits);
            contexts = omega (arith, count, one, alone, moves_contexts hosts places (m ∷ ms) fits);
          }

      -- where it has none its batches
      module _ (none : [] ≡ policy_moves hosts part.policy (zip places loads)) where
        only_batches : (bs : List (List Line)) → part.batches ≡ bs
            → expand meaning shape start hosts (part ∷ left) done load ≡ bs ++ expand meaning shape start hosts left (done ++ bs) (entries_in meaning shape start hosts done bs)
        only_batches bs e =
            opens [] none ∙ ap (behind_moves part left) (append-nil done)
            ∙ ap (λ cs. cs ++ expand meaning shape start hosts left (done ++ cs) (entries_in meaning shape start hosts done cs)) e

        batches_go : (b : List Line) (bs : List (List Line)) → part.batches ≡ b ∷ bs → Goes done load (part ∷ left) left (record { hosts = hosts; batches = b ∷ bs })
        batches_go b bs e =
            let lines : All (All (FitsLine shape hosts)) (b ∷ bs) = subst (All (All (FitsLine shape hosts))) e fit.lines in
            let full : All (λ c. 0 < length c) (b ∷ bs) = subst (All (λ c. 0 < length c)) e fit.full in
            let all : sum_by length part.batches ≡ sum_by length (b ∷ bs) = ap (sum_by length) e in
            let one : 0 < length b = All-head (λ c. 0 < length c) b bs full in
            let long = sum_by-cons length b bs in
            let within : sum_by length part.batches ≤ lines_in part = omega arith in
            record {
              over = refl;
              fits = record { some_host = some; few_hosts = few; lines = lines; full = full; few_lines = omega (arith, all, within, count, short) };
              batches = only_batches (b ∷ bs) e;
              parts = parts;
              less = omega (arith, count, all, within, one, long);
              jobs = omega (arith, count, all, within, most_lines (b ∷ bs));
              contexts = omega (arith, count, all, within, most_lines_add (b ∷ bs));
            }

      no_entries : (p : Path) → entries_in meaning shape start hosts done [] p ≡ 0
      no_entries p =
          let same_done : entries meaning shape start hosts (done ++ []) p ≡ entries meaning shape start hosts done p = ap (λ d. entries meaning shape start hosts d p) (append-nil done) in
          omega (arith, same_done)

      -- whatever comes behind it
      module _ (others : IsNext done (entries_in meaning shape start hosts done []) left (next_of hosts places (no_loads (length places)) left).0 (next_of hosts places (no_loads (length places)) left).2) where
        abbrev behind : Turn
        behind = next_of hosts places (no_loads (length places)) left

        by_batches : [] ≡ policy_moves hosts part.policy (zip places loads) → (bs : List (List Line)) → part.batches ≡ bs
            → IsNext done load (part ∷ left) (batches_turn hosts loads left behind bs).0 (batches_turn hosts loads left behind bs).2
        by_batches none [] e =
            next_alike done (entries_in meaning shape start hosts done []) load left (part ∷ left)
            (only_batches none [] e ∙ ap (λ d. expand meaning shape start hosts left d (entries_in meaning shape start hosts done [])) (append-nil done))
            (omega (arith, count)) behind.0 behind.2 others
        by_batches none (b ∷ bs) e = batches_go none b bs e

        by_moves : (ms : List Line) → ms ≡ policy_moves hosts part.policy (zip places loads)
            → IsNext done load (part ∷ left) (part_turn hosts loads part left behind ms).0 (part_turn hosts loads part left behind ms).2
        by_moves [] e = by_batches e part.batches refl
        by_moves (m ∷ ms) e = moves_go m ms e

    pub turns : (left : List Part) (loads : List ℕ) (load : Path → ℕ) → length places ≡ length loads → zip places loads ≡ loads_of load places → All (IsPart shape hosts) left → sum_by lines_in left ≤ EVENT_LINES
        → IsNext done load left (next_of hosts places loads left).0 (next_of hosts places loads left).2
    turns [] loads load paired same parts short = refl
    turns (part ∷ left) loads load paired same parts short =
        let count = sum_by-cons lines_in part left in
        let fit = All-head (IsPart shape hosts) part left parts in
        let others = All-tail (IsPart shape hosts) part left parts in
        let none : (p : Path) → entries_in meaning shape start hosts done [] p ≡ 0 = no_entries part left loads load paired same fit others short in
        by_moves part left loads load paired same fit others short
        (turns left (no_loads (length places)) (entries_in meaning shape start hosts done []) (length_unloaded places) (unloaded (entries_in meaning shape start hosts done []) none places) others (omega (arith, count, short)))
        (policy_moves hosts part.policy (zip places loads)) refl

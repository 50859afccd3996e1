-- One event alone on one tree: its segments one after the other, without hosts, lines, entry numbers or mails. And the fold
-- of a script's jobs by it.
use Rattle.std.specs.Prelude.{ℕ, zero, suc, Bool, true, false, if◌then◌else◌, List, [], ◌∷◌, ◌++◌, Option, Some, None, is_some, unwrap_or}
use Rattle.std.specs.List.{list_any, filter}
use Rattle.wave_base.specs.declared.path.Path.{Path}
use Rattle.wave_base.specs.Paths.{path_eq, is_above, parent_of}
use Rattle.wave_base.specs.Tree.{Tree, enter, put, children_of}
use Rattle.wave_base.specs.Fold.{Ran, Progress, first_progress, fold_jobs, next_job}
use Rattle.wave_base.specs.Places.{places_after}
use Rattle.wave_states.specs.Actors.{Actors, Left, Pause, Go, Down, Back, Over}
use Rattle.wave_states.specs.Begins.{Begin}

-- where the event is; whether it enters that context now, and whether it only looks there; what it holds; what it entered, in
-- order; the tree; and its result once it is over
pub record Alone (A F R : Type 0) : Type 0 where
  pub actor : A
  pub at : Path
  pub fresh : Bool
  pub peek : Bool
  pub held : List Path
  pub entered : List Path
  pub tree : Tree F
  pub result : Option R

abbrev pub has : List Path → Path → Bool
has ps p = list_any (path_eq p) ps

module _ {A F R : Type 0} where
  -- the context's fields after a segment there
  abbrev pub tree_with : Alone A F R → F → Tree F
  tree_with x f = put x.tree x.at f

  -- into a child that is held, or that is entered now; `kept` is what is held of the rest
  abbrev pub into : Alone A F R → A → F → Path → Bool → List Path → Bool → Alone A F R
  into x a f q peek kept true = record { actor = a; at = q; fresh = false; peek = false; held = kept; entered = x.entered; tree = tree_with x f; result = None }
  into x a f q peek kept false = record { actor = a; at = q; fresh = true; peek = peek; held = kept ++ q ∷ []; entered = x.entered ++ q ∷ []; tree = enter (tree_with x f) q; result = None }

  abbrev pub back : Alone A F R → A → F → Alone A F R
  back x a f = record { actor = a; at = parent_of x.at; fresh = false; peek = false; held = x.held; entered = x.entered; tree = tree_with x f; result = None }

  abbrev pub over : Alone A F R → A → F → R → Alone A F R
  over x a f r = record { actor = a; at = x.at; fresh = false; peek = false; held = []; entered = x.entered; tree = tree_with x f; result = Some r }

module _ {A F R J : Type 0} (sys : Actors A F R J) where
  -- by the pause
  abbrev pub goes_on : Alone A F R → A → F → Pause R → Alone A F R
  goes_on x a f (Go s) = into x a f (x.at ++ s ∷ []) (sys.peeks a) (filter (is_above (x.at ++ s ∷ [])) x.held) (has x.held (x.at ++ s ∷ []))
  goes_on x a f (Down s) = into x a f (x.at ++ s ∷ []) false x.held (has x.held (x.at ++ s ∷ []))
  goes_on x a f Back = back x a f
  goes_on x a f (Over r) = over x a f r

  abbrev pub segment_alone : Alone A F R → Left A F R
  segment_alone x = sys.segment x.actor (x.tree.fields x.at) (children_of x.tree x.at)

  abbrev pub segment_if : Alone A F R → Option R → Alone A F R
  segment_if x (Some r) = x
  segment_if x None = goes_on x (segment_alone x).actor (segment_alone x).fields (segment_alone x).pause

  -- one segment more, unless it is over
  abbrev pub next_alone : Alone A F R → Alone A F R
  next_alone x = segment_if x x.result

  -- before its first segment it enters the root
  abbrev pub first_alone : J → ℕ → Tree F → Alone A F R
  first_alone j t tree = record { actor = sys.make j t; at = []; fresh = true; peek = sys.peeks (sys.make j t); held = [] ∷ []; entered = [] ∷ []; tree = enter tree []; result = None }

  unfoldable pub after_segments : ℕ → Alone A F R → Alone A F R
  after_segments zero x = x
  after_segments (suc k) x = next_alone (after_segments k x)

  -- the job's whole run
  abbrev pub ended_alone : ℕ → Tree F → J → Alone A F R
  ended_alone t tree j = after_segments (sys.enough j t tree) (first_alone j t tree)

  abbrev pub run_alone : ℕ → Tree F → J → Ran F R
  run_alone t tree j = let x = ended_alone t tree j in record { tree = x.tree; result = unwrap_or x.result sys.unended; entered = x.entered }

  -- how many segments it has
  abbrev pub count_from : ℕ → Alone A F R → ℕ
  count_from zero x = 0
  count_from (suc n) x = if is_some x.result then 0 else suc (count_from n (next_alone x))

  abbrev pub segments_of : ℕ → Tree F → J → ℕ
  segments_of t tree j = count_from (sys.enough j t tree) (first_alone j t tree)

  -- the fold of all jobs, each alone, in the order of their tickets
  module _ (b : Begin F) (batches : List (List J)) where
    abbrev pub fold_alone : ℕ → Progress F R J
    fold_alone n = fold_jobs (suc b.before) run_alone sys.created n (first_progress b.tree batches)

    -- the job of the ticket that comes after n of them
    abbrev pub job_after : ℕ → Option J
    job_after n = next_job (fold_alone n).head

    abbrev pub moves_in : List (List Path) → List R → List (List Path × Option (Path × ℕ))
    moves_in (e ∷ es) (r ∷ rs) = (e, sys.moved r) ∷ moves_in es rs
    moves_in _ _ = []

    -- the hosts of the contexts after n jobs
    abbrev pub places_alone : ℕ → Tree ℕ
    places_alone n = places_after b.places (moves_in (fold_alone n).entered (fold_alone n).results)

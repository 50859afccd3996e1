-- The fold's words on small scripts, computed.
use Rattle.std.proofs.Common.{◌≡◌, ℕ, ◌+◌, ◌==◌, if◌then◌else◌, true, false, List, [], ◌∷◌, Some, None, pos, refl}
use Rattle.wave_base.specs.declared.path.Step.{Step}
use Rattle.wave_base.specs.declared.path.Path.{Path}
use Rattle.wave_base.specs.Fold.{Ran, Progress, first_head, jobs, created_tickets, first_progress, fold_jobs, is_over}
use Rattle.wave_base.specs.Places.{after_job}
use Rattle.wave_base.specs.Tree.{Tree, bare, put, shots}

-- two lines in one batch, the first of which creates two jobs: these get tickets 3 and 4
one_batch : jobs {J = ℕ} ((10 ∷ 20 ∷ []) ∷ []) ((30 ∷ 40 ∷ []) ∷ [] ∷ []) ≡ 10 ∷ 20 ∷ 30 ∷ 40 ∷ []
one_batch = refl

one_batch_tickets : created_tickets {J = ℕ} 1 (first_head ((10 ∷ 20 ∷ []) ∷ [])) ((30 ∷ 40 ∷ []) ∷ [] ∷ [] ∷ [] ∷ []) ≡ (3 ∷ 4 ∷ []) ∷ [] ∷ [] ∷ [] ∷ []
one_batch_tickets = refl

-- in batches of their own, what the first one creates comes before the second
two_batches : jobs {J = ℕ} ((10 ∷ []) ∷ (20 ∷ []) ∷ []) ((30 ∷ 40 ∷ []) ∷ [] ∷ [] ∷ []) ≡ 10 ∷ 30 ∷ 40 ∷ 20 ∷ []
two_batches = refl

-- the second batch isn't known before all of the first one is done
waits : jobs {J = ℕ} ((10 ∷ []) ∷ (20 ∷ []) ∷ []) ((30 ∷ 40 ∷ []) ∷ [] ∷ []) ≡ 10 ∷ 30 ∷ 40 ∷ []
waits = refl

-- from ticket 8 on
later_tickets : created_tickets {J = ℕ} 8 (first_head ((10 ∷ []) ∷ (20 ∷ []) ∷ [])) ((30 ∷ []) ∷ [] ∷ (50 ∷ []) ∷ []) ≡ (9 ∷ []) ∷ [] ∷ (11 ∷ []) ∷ []
later_tickets = refl

-- a counter at the root: each job adds its number and replies; 7 creates 1
abbrev add : ℕ → Tree ℕ → ℕ → Ran ℕ ℕ
add t tree j = record { tree = put tree [] (tree.fields [] + j); result = tree.fields [] + j; entered = [] ∷ [] }

abbrev again : ℕ → List ℕ
again r = if r == 7 then 1 ∷ [] else []

abbrev counted : ℕ → Progress ℕ ℕ ℕ
counted n = fold_jobs 1 add again n (first_progress (bare (λ p. 0)) ((3 ∷ 4 ∷ []) ∷ (5 ∷ []) ∷ []))

all_results : (counted 4).results ≡ 3 ∷ 7 ∷ 8 ∷ 13 ∷ []
all_results = refl

then_over : is_over (counted 4) ≡ true
then_over = refl

not_before : is_over (counted 3) ≡ false
not_before = refl

stays : counted 9 ≡ counted 4
stays = refl

-- a move of a context between the joining of two of its children
abbrev step : ℕ → ℕ → Step
step c k = record { class = record { 0 = c }; key = pos k }

abbrev hall : Path
hall = step 1 1 ∷ []

abbrev stall : ℕ → Path
stall k = step 1 1 ∷ step 2 k ∷ []

abbrev moved_once : Tree ℕ
moved_once =
    let t = after_job (bare (λ p. 0)) ([] ∷ hall ∷ stall 1 ∷ []) None in
    let u = after_job t ([] ∷ hall ∷ []) (Some (hall, 1)) in
    after_job u ([] ∷ hall ∷ stall 2 ∷ []) None

hosts_after : shots moved_once ≡ ([], 0) ∷ (hall, 1) ∷ (stall 1, 0) ∷ (stall 2, 1) ∷ []
hosts_after = refl

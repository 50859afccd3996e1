-- What a policy asks for are moves of the contexts that are there, and a drain leaves nothing where it drains.
use Rattle.std.proofs.Common.{◌≡◌, ◌≢◌, ◌≤◌, ◌<◌, ℕ, zero, suc, Bool, true, false, cond, ◌||◌, ◌==◌, List, [], ◌∷◌, map, length, take, All, count_by, Some, None, refl, ap, sym, subst, ◌∙◌, arith}
use Rattle.std.specs.List.{AllByRecursion, Contains, zip, filter, list_any}
use Rattle.std.proofs.lemmas.Bool.{ne_eqb, true≢false, false≢true, false_from_ne_true}
use Rattle.std.proofs.lemmas.List.{take_all, length-take, length-map}
use Rattle.std.proofs.lemmas.List.Elements.{All-from_recursion, recursion_from_All, All-take, Contains-get_or}
use Rattle.std.proofs.lemmas.List.Sums.{length-filter}
use Rattle.wave_base.specs.declared.finished.Place.{Place}
use Rattle.wave_base.specs.declared.limits.TheConstants.{EVENT_LINES}
use Rattle.wave_base.specs.declared.path.Path.{Path}
use Rattle.wave_base.specs.declared.script.Line.{Line}
use Rattle.wave_base.specs.declared.script.Line.TheVariants.{Move}
use Rattle.wave_base.specs.Paths.{path_eq}
use Rattle.wave_base.specs.PathLaws.{path_eq_equiv}
use Rattle.elastic_policy.specs.Moves.{is_on, load_on, lightest, mover, may_go, heaviest, spread, on_host, places_with, move_to, balance, drain, places_moved}
use Rattle.elastic_policy.specs.MoveFacts.{IsMoveOf, FitsScript}
use Rattle.elastic_policy.specs.inner.Turns.{drained_moves}
use Rattle.elastic_policy.proofs.Firsts.{least_below}
use Rattle.elastic_policy.proofs.Sent.{paths_of, found_path, paths_sent}
use Rattle.elastic_policy.proofs.Even.{balance-none, balance-some}
use Rattle.elastic_policy.proofs.Turns.{Paired, paths_under, under_start}

abbrev pub path_list : List Place → List Path
path_list ps = map (λ (x : Place). x.path) ps

-- ---- the contexts with their loads
paired_start : (ps : List Place) (ls : List ℕ) → length ps ≡ length ls → Paired ps (map (λ (x : Place). x.host) ps) ls
paired_start ps ls e = record { hosts = length-map ps (λ (x : Place). x.host); loads = sym e }

pub paths_zip : (ps : List Place) (ls : List ℕ) → length ps ≡ length ls → paths_of (zip ps ls) ≡ path_list ps
paths_zip ps ls e = ap paths_of (sym (under_start ps ls)) ∙ paths_under ps (map (λ (x : Place). x.host) ps) ls (paired_start ps ls e)

own_paths : (ps : List Place) (ls : List ℕ) → length ps ≡ length ls → AllByRecursion (Contains (path_list ps)) (paths_of (zip ps ls))
own_paths ps ls e =
    subst (AllByRecursion (Contains (path_list ps))) (sym (paths_zip ps ls e))
    (recursion_from_All (Contains (path_list ps)) (path_list ps) (λ k d h. Contains-get_or (path_list ps) k d h))

-- ---- a balance
balance_moves : (hosts n : ℕ) (ps : List Place) (xs : List (Place × ℕ)) → 1 ≤ hosts → AllByRecursion (Contains (path_list ps)) (paths_of xs) → AllByRecursion (IsMoveOf hosts ps) (balance hosts n xs)
balance_moves hosts zero ps xs some own = tt
balance_moves hosts (suc n) ps xs some own =
    elim (mover hosts xs) as (λ m. mover hosts xs ≡ m → AllByRecursion (IsMoveOf hosts ps) (balance hosts (suc n) xs)) [
      | None ↦ λ e. subst (AllByRecursion (IsMoveOf hosts ps)) (sym (balance-none hosts (suc n) xs e)) tt
      | Some x ↦ λ e.
          let path = found_path (Contains (path_list ps)) (may_go (heaviest hosts xs) (spread hosts xs)) xs x e own in
          let below = least_below (load_on xs) hosts some in
          let kept : AllByRecursion (Contains (path_list ps)) (paths_of (places_with xs x.0.path (lightest hosts xs))) =
          subst (AllByRecursion (Contains (path_list ps))) (sym (paths_sent xs x.0.path (lightest hosts xs))) own in
          subst (AllByRecursion (IsMoveOf hosts ps)) (sym (balance-some hosts n xs x e))
          ((path, below), balance_moves hosts n ps (places_with xs x.0.path (lightest hosts xs)) some kept)
    ] refl

balance_few : (hosts n : ℕ) (xs : List (Place × ℕ)) → length (balance hosts n xs) ≤ n
balance_few hosts zero xs = omega arith
balance_few hosts (suc n) xs =
    elim (mover hosts xs) as (λ m. mover hosts xs ≡ m → length (balance hosts (suc n) xs) ≤ suc n) [
      | None ↦ λ e. let none : length (balance hosts (suc n) xs) ≡ 0 = ap length (balance-none hosts (suc n) xs e) in omega (arith, none)
      | Some x ↦ λ e.
          let one : length (balance hosts (suc n) xs) ≡ suc (length (balance hosts n (places_with xs x.0.path (lightest hosts xs)))) = ap length (balance-some hosts n xs x e) in
          let more = balance_few hosts n (places_with xs x.0.path (lightest hosts xs)) in
          omega (arith, one, more)
    ] refl

pub balance_fits : (hosts n : ℕ) (ps : List Place) (ls : List ℕ) → length ps ≡ length ls → 1 ≤ hosts → n ≤ EVENT_LINES → FitsScript hosts ps (balance hosts n (zip ps ls))
balance_fits hosts n ps ls e some few =
    let short = balance_few hosts n (zip ps ls) in
    record {
      moves = All-from_recursion (IsMoveOf hosts ps) (balance hosts n (zip ps ls)) (balance_moves hosts n ps (zip ps ls) some (own_paths ps ls e));
      few = omega arith;
    }

-- ---- a drain
pub drain_places : (h g : ℕ) (ps : List Place) (ls : List ℕ) → length ps ≡ length ls →
    map (λ (x : Place). Move x.path (record { 0 = g })) (filter (λ (x : Place). x.host.0 == h) ps) ≡ map (move_to g) (filter (is_on h) (zip ps ls))
drain_places h g [] ls e = refl
drain_places h g (p ∷ ps) [] e = absurd (omega arith)
drain_places h g (p ∷ ps) (l ∷ ls) e =
    let more = drain_places h g ps ls (omega arith) in
    elim (p.host.0 == h) as (λ t. map (λ (x : Place). Move x.path (record { 0 = g })) (cond t (p ∷ filter (λ (x : Place). x.host.0 == h) ps) (filter (λ (x : Place). x.host.0 == h) ps))
    ≡ map (move_to g) (cond t ((p, l) ∷ filter (is_on h) (zip ps ls)) (filter (is_on h) (zip ps ls)))) [
      | true ↦ ap (λ (ms : List Line). Move p.path (record { 0 = g }) ∷ ms) more
      | false ↦ more
    ]

pub drained_is : (h g : ℕ) (ps : List Place) (ls : List ℕ) → length ps ≡ length ls → drained_moves h g ps ≡ drain h g (zip ps ls)
drained_is h g ps ls e = ap (take EVENT_LINES) (drain_places h g ps ls e)

drain_moves : (hosts h g : ℕ) (ps : List Place) (xs : List (Place × ℕ)) → g < hosts → AllByRecursion (Contains (path_list ps)) (paths_of xs) →
    AllByRecursion (IsMoveOf hosts ps) (map (move_to g) (filter (is_on h) xs))
drain_moves hosts h g ps [] b own = tt
drain_moves hosts h g ps (x ∷ xs) b own =
    let more = drain_moves hosts h g ps xs b own.1 in
    elim (is_on h x) as (λ t. AllByRecursion (IsMoveOf hosts ps) (map (move_to g) (cond t (x ∷ filter (is_on h) xs) (filter (is_on h) xs)))) [
      | true ↦ ((own.0, b), more)
      | false ↦ more
    ]

pub drain_fits : (hosts h g : ℕ) (ps : List Place) (ls : List ℕ) → length ps ≡ length ls → g < hosts → FitsScript hosts ps (drain h g (zip ps ls))
drain_fits hosts h g ps ls e b =
    let all = map (move_to g) (filter (is_on h) (zip ps ls)) in
    record {
      moves = All-take (IsMoveOf hosts ps) EVENT_LINES all (All-from_recursion (IsMoveOf hosts ps) all (drain_moves hosts h g ps (zip ps ls) b (own_paths ps ls e)));
      few = let short = length-take EVENT_LINES all in omega arith;
    }

-- a context that is on the host is one of those that will be moved
abbrev pub IsListed : ℕ → List (Place × ℕ) → Place × ℕ → Type 0
IsListed h ys x = is_on h x ≡ true → list_any (λ (y : Place × ℕ). path_eq y.0.path x.0.path) ys ≡ true

all_weaker : {X : Type 0} (P Q : X → Type 0) → ((x : X) → P x → Q x) → (xs : List X) → AllByRecursion P xs → AllByRecursion Q xs
all_weaker P Q f [] h = tt
all_weaker P Q f (x ∷ xs) h = (f x h.0, all_weaker P Q f xs h.1)

listed_more : (h : ℕ) (t : Bool) (y : Place × ℕ) (ys : List (Place × ℕ)) (x : Place × ℕ) → IsListed h ys x → IsListed h (cond t (y ∷ ys) ys) x
listed_more h true y ys x listed on =
    elim (path_eq y.0.path x.0.path) as (λ b. (b || list_any (λ (z : Place × ℕ). path_eq z.0.path x.0.path) ys) ≡ true) [
      | true ↦ refl
      | false ↦ listed on
    ]
listed_more h false y ys x listed on = listed on

all_listed : (h : ℕ) (xs : List (Place × ℕ)) → AllByRecursion (IsListed h (filter (is_on h) xs)) xs
all_listed h [] = tt
all_listed h (x ∷ xs) =
    let first : IsListed h (cond (is_on h x) (x ∷ filter (is_on h) xs) (filter (is_on h) xs)) x = λ on.
    subst (λ (t : Bool). list_any (λ (y : Place × ℕ). path_eq y.0.path x.0.path) (cond t (x ∷ filter (is_on h) xs) (filter (is_on h) xs)) ≡ true) (sym on)
    (ap (λ (b : Bool). b || list_any (λ (y : Place × ℕ). path_eq y.0.path x.0.path) (filter (is_on h) xs)) (path_eq_equiv.refl x.0.path)) in
    (first, all_weaker (IsListed h (filter (is_on h) xs)) (IsListed h (filter (is_on h) (x ∷ xs))) (listed_more h (is_on h x) x (filter (is_on h) xs)) xs (all_listed h xs))

-- after a move those that are still on the host are among the others
listed_after : (h g : ℕ) (y : Place × ℕ) (ys : List (Place × ℕ)) (x : Place × ℕ) → (g == h) ≡ false → IsListed h (y ∷ ys) x → IsListed h ys (cond (path_eq y.0.path x.0.path) (on_host g x) x)
listed_after h g y ys x other listed =
    elim (path_eq y.0.path x.0.path) as (λ t. (is_on h x ≡ true → (t || list_any (λ (z : Place × ℕ). path_eq z.0.path x.0.path) ys) ≡ true) → IsListed h ys (cond t (on_host g x) x)) [
      | true ↦ λ f on. absurd (true≢false (sym on ∙ other))
      | false ↦ λ f. f
    ] listed

all_after : (h g : ℕ) (y : Place × ℕ) (ys xs : List (Place × ℕ)) → (g == h) ≡ false → AllByRecursion (IsListed h (y ∷ ys)) xs → AllByRecursion (IsListed h ys) (places_with xs y.0.path g)
all_after h g y ys [] other listed = tt
all_after h g y ys (x ∷ xs) other listed = (listed_after h g y ys x other listed.0, all_after h g y ys xs other listed.1)

none_listed : (h : ℕ) (x : Place × ℕ) → IsListed h [] x → is_on h x ≡ false
none_listed h x listed = false_from_ne_true (is_on h x) (λ on. false≢true (listed on))

cleared : (h g : ℕ) (ys xs : List (Place × ℕ)) → (g == h) ≡ false → AllByRecursion (IsListed h ys) xs → AllByRecursion (λ (x : Place × ℕ). is_on h x ≡ false) (places_moved xs (map (move_to g) ys))
cleared h g [] xs other listed = all_weaker (IsListed h []) (λ (x : Place × ℕ). is_on h x ≡ false) (none_listed h) xs listed
cleared h g (y ∷ ys) xs other listed = cleared h g ys (places_with xs y.0.path g) other (all_after h g y ys xs other listed)

pub drain_clears : (h g : ℕ) (xs : List (Place × ℕ)) → h ≢ g → count_by (is_on h) xs ≤ EVENT_LINES → All (λ (x : Place × ℕ). is_on h x ≡ false) (places_moved xs (drain h g xs))
drain_clears h g xs other few =
    let all = map (move_to g) (filter (is_on h) xs) in
    let long : length all ≡ length (filter (is_on h) xs) = length-map (filter (is_on h) xs) (move_to g) in
    let count = length-filter (is_on h) xs in
    let whole : drain h g xs ≡ all = take_all EVENT_LINES all (omega (arith, long, count)) in
    All-from_recursion (λ (x : Place × ℕ). is_on h x ≡ false) (places_moved xs (drain h g xs))
    (subst (λ (ms : List Line). AllByRecursion (λ (x : Place × ℕ). is_on h x ≡ false) (places_moved xs ms)) (sym whole)
    (cleared h g (filter (is_on h) xs) xs (ne_eqb g h (λ e. other (sym e))) (all_listed h xs)))

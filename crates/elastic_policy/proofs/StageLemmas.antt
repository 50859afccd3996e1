-- Scripts with policies, as they are run.
use Rattle.std.proofs.Common.{◌≡◌, ◌<◌, ◌≤◌, ℕ, List, [], ◌∷◌, length, map, Some, None, refl, sym, ap, subst, ◌∙◌, arith}
use Rattle.std.specs.Prelude.{All}
use Rattle.std.specs.List.{zip}
use Rattle.std.specs.List.Sorted.{IsStrictlySortedBy}
use Rattle.std.proofs.lemmas.List.{length-replicate}
use Rattle.std.proofs.lemmas.List.Elements.{All-cons, All-nil, All-rest, All-same, All-weaker}
use Rattle.std.proofs.lemmas.List.Folds.{sum_by-replicate}
use Rattle.wave_base.specs.declared.finished.Place.{Place}
use Rattle.wave_base.specs.declared.script.Line.{Line}
use Rattle.wave_base.specs.declared.shape.Shape.{Shape}
use Rattle.wave_base.specs.declared.start.Start.{Start}
use Rattle.wave_base.specs.Paths.{path_cmp}
use Rattle.wave_base.specs.Starts.{first_start}
use Rattle.script_reader.specs.declared.elastic.Elastic.{Elastic}
use Rattle.script_reader.specs.declared.elastic.Part.{Part}
use Rattle.script_reader.specs.Elastics.{IsPart, IsElastic}
use Rattle.elastic_policy.specs.Moves.{policy_moves}
use Rattle.elastic_policy.specs.Stages.{Staged, Turn, no_loads, first_staged, batches_alone, part_turn, batches_turn, next_of, with_no_loads, ArePlaced, FitsHosts, IsStaged}

-- ---- contexts that nothing entered

pub unloaded : (hosts : ℕ) (places : List Place) (loads : List ℕ) → ArePlaced hosts places loads → ArePlaced hosts places (no_loads (length places))
unloaded hosts places loads h = record {
  paired = sym (length-replicate (length places) 0);
  ordered = h.ordered;
  below = h.below;
  small = omega (arith, sum_by-replicate (λ (x : ℕ). x) (length places) 0);
}

root_alone : (shape : Shape) → IsStrictlySortedBy path_cmp (map (λ x. x.path) (first_start shape).places)
unfolding IsStrictlySortedBy
root_alone shape = (tt, tt)

pub first_placed : (shape : Shape) (hosts : ℕ) → 1 ≤ hosts → ArePlaced hosts (first_start shape).places (no_loads (length (first_start shape).places))
first_placed shape hosts some = record {
  paired = refl;
  ordered = root_alone shape;
  below = All-cons (λ (x : Place). x.host.0 < hosts) (record { path = []; host = record { 0 = 0 } }) [] some (All-nil (λ (x : Place). x.host.0 < hosts));
  small = omega arith;
}

first_fits : (shape : Shape) (elastic : Elastic) → IsElastic shape elastic → IsStaged (first_staged shape elastic)
first_fits shape elastic h = record {
  some_host = h.some_host;
  few_hosts = h.few_hosts;
  placed = first_placed shape elastic.hosts h.some_host;
  policies = All-weaker (IsPart shape elastic.hosts) (λ part. FitsHosts elastic.hosts part.policy) (λ part k. k.policy) elastic.parts h.parts;
}

pub first_is : (shape : Shape) (elastic : Elastic) (start : Start) (loads : List ℕ) (left : List Part) (n : ℕ) → start ≡ first_start shape → n ≡ length start.places → loads ≡ no_loads n → left ≡ elastic.parts → IsElastic shape elastic
    → IsStaged (record { hosts = elastic.hosts; start = start; loads = loads; left = left })
first_is shape elastic start loads left n s k l p h =
    let count : loads ≡ no_loads (length (first_start shape).places) = l ∙ ap no_loads (k ∙ ap (λ x. length x.places) s) in
    subst IsStaged (sym (λ i. record { hosts = elastic.hosts; start = s i; loads = count i; left = p i })) (first_fits shape elastic h)

pub fits_unloaded : (s : Staged) → IsStaged s → IsStaged (with_no_loads s)
fits_unloaded s h = record { some_host = h.some_host; few_hosts = h.few_hosts; placed = unloaded s.hosts s.start.places s.loads h.placed; policies = h.policies }

-- ---- one part's turn

no_batches : (hosts : ℕ) (loads : List ℕ) (left : List Part) (next : Turn) (bs : List (List Line)) → (bs ≡ [] → ⊥) → batches_turn hosts loads left next bs ≡ (Some (record { hosts = hosts; batches = bs }), loads, left)
no_batches hosts loads left next [] some = absurd (some refl)
no_batches hosts loads left next (b ∷ bs) some = refl

some_moves : (hosts : ℕ) (loads : List ℕ) (part : Part) (left : List Part) (next : Turn) (ms : List Line) → (ms ≡ [] → ⊥) → part_turn hosts loads part left next ms ≡ (Some (record { hosts = hosts; batches = ms ∷ [] }), loads, batches_alone part ∷ left)
some_moves hosts loads part left next [] some = absurd (some refl)
some_moves hosts loads part left next (m ∷ ms) some = refl

module _ (hosts : ℕ) (places : List Place) (loads : List ℕ) (all : List Part) (part : Part) (left : List Part) (moves : List Line) where
  abbrev behind : Turn
  behind = next_of hosts places (no_loads (length places)) left

  turn : all ≡ part ∷ left → moves ≡ policy_moves hosts part.policy (zip places loads) → next_of hosts places loads all ≡ part_turn hosts loads part left behind moves
  turn e m = ap (next_of hosts places loads) e ∙ ap (part_turn hosts loads part left behind) (sym m)

  pub gives_moves : all ≡ part ∷ left → moves ≡ policy_moves hosts part.policy (zip places loads) → (moves ≡ [] → ⊥) → next_of hosts places loads all ≡ (Some (record { hosts = hosts; batches = moves ∷ [] }), loads, batches_alone part ∷ left)
  gives_moves e m some = turn e m ∙ some_moves hosts loads part left behind moves some

  pub gives_batches : all ≡ part ∷ left → moves ≡ policy_moves hosts part.policy (zip places loads) → moves ≡ [] → (part.batches ≡ [] → ⊥) → next_of hosts places loads all ≡ (Some (record { hosts = hosts; batches = part.batches }), loads, left)
  gives_batches e m none some = turn e m ∙ ap (part_turn hosts loads part left behind) none ∙ no_batches hosts loads left behind part.batches some

  pub gives_none : all ≡ part ∷ left → moves ≡ policy_moves hosts part.policy (zip places loads) → moves ≡ [] → part.batches ≡ [] → next_of hosts places loads all ≡ behind
  gives_none e m none empty = turn e m ∙ ap (part_turn hosts loads part left behind) none ∙ ap (batches_turn hosts loads left behind) empty

-- ---- what stays from one part to the next

pub staged_is : (s : Staged) (hosts : ℕ) (start : Start) (loads : List ℕ) (left : List Part) → IsStaged s → hosts ≡ s.hosts → start ≡ s.start → ArePlaced s.hosts s.start.places loads → All (λ part. FitsHosts s.hosts part.policy) left
    → IsStaged (record { hosts = hosts; start = start; loads = loads; left = left })
staged_is s hosts start loads left h e k placed policies =
    subst IsStaged (sym (λ i. record { hosts = e i; start = k i; loads = loads; left = left })) (record { some_host = h.some_host; few_hosts = h.few_hosts; placed = placed; policies = policies })

pub others_fit : (hosts : ℕ) (all : List Part) (part : Part) (left : List Part) → all ≡ part ∷ left → All (λ x. FitsHosts hosts x.policy) all → All (λ x. FitsHosts hosts x.policy) left
others_fit hosts all part left e h = All-rest (λ (x : Part). FitsHosts hosts x.policy) part left all e h

pub rest_fits : (hosts : ℕ) (new : List Part) (part : Part) (left : List Part) → new ≡ part ∷ left → part.policy ≡ None → All (λ x. FitsHosts hosts x.policy) left → All (λ x. FitsHosts hosts x.policy) new
rest_fits hosts new part left e none h =
    All-same (λ (x : Part). FitsHosts hosts x.policy) new (part ∷ left) e (All-cons (λ (x : Part). FitsHosts hosts x.policy) part left (subst (FitsHosts hosts) (sym none) tt) h)

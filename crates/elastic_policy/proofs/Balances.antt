-- A turn of a balance, by the hosts of the contexts under way and the sums of their loads.
use Rattle.std.proofs.Common.{◌≡◌, ◌≤◌, ◌<◌, ◌+◌, ◌-◌, ℕ, suc, cond, ◌==◌, List, [], ◌∷◌, ◌++◌, map, length, get_or, sum, Some, None, ap, sym, subst, ◌∙◌, arith, append_assoc}
use Rattle.std.proofs.lemmas.List.{append-nil}
use Rattle.std.proofs.Math.ListN.{set}
use Rattle.std.specs.List.{zip, position}
use Rattle.std.specs.List.Sorted.{IsStrictlySortedBy}
use Rattle.wave_base.specs.declared.finished.Place.{Place}
use Rattle.wave_base.specs.declared.numbers.Host.{Host}
use Rattle.wave_base.specs.declared.script.Line.{Line}
use Rattle.wave_base.specs.declared.script.Line.TheVariants.{Move}
use Rattle.wave_base.specs.Paths.{path_cmp}
use Rattle.elastic_policy.specs.Moves.{is_on, load_on, heaviest, lightest, spread, may_go, mover, places_with, move_to, balance}
use Rattle.elastic_policy.specs.inner.Turns.{goes, under_way, IsShifted, top_of, bottom_of, apart_by, next_index}
use Rattle.elastic_policy.proofs.Firsts.{greatest_same, least_same, greatest_below, least_below}
use Rattle.elastic_policy.proofs.Loads.{load_on-le-sum}
use Rattle.elastic_policy.proofs.Sent.{paths_of, AreApart, apart, load_sent}
use Rattle.elastic_policy.proofs.Even.{mover_goes, balance-none, balance-some}
use Rattle.elastic_policy.proofs.Turns.{Paired, paths_under, under_start, loads_under, found_under, none_under, sent_under}

pub record IsUnderWay (hosts : ℕ) (ps : List Place) (hs : List Host) (ls sums : List ℕ) : Type 0 where
  pub paired : Paired ps hs ls
  pub apart : AreApart (map (λ (x : Place). x.path) ps)
  pub some : 1 ≤ hosts
  pub few : hosts ≤ 8
  pub eight : length sums ≡ 8
  pub so : (h : ℕ) → h < 8 → get_or sums h 0 ≡ load_on (under_way ps hs ls) h

pub is_under_way : (hosts : ℕ) (ps : List Place) (hs : List Host) (ls sums : List ℕ) → length ps ≡ length ls → IsStrictlySortedBy path_cmp (map (λ (x : Place). x.path) ps) → 1 ≤ hosts → hosts ≤ 8 →
    length hs ≡ length ps → length sums ≡ 8 → ((h : ℕ) → h < 8 → get_or sums h 0 ≡ load_on (under_way ps hs ls) h) → IsUnderWay hosts ps hs ls sums
is_under_way hosts ps hs ls sums e sorted some few long eight so = record {
  paired = record { hosts = long; loads = sym e };
  apart = apart (map (λ (x : Place). x.path) ps) sorted;
  some = some;
  few = few;
  eight = eight;
  so = so;
}

-- before the first turn
pub start_is : (ps : List Place) (hs : List Host) (ls : List ℕ) → hs ≡ map (λ (x : Place). x.host) ps → under_way ps hs ls ≡ zip ps ls
start_is ps hs ls e = ap (λ (gs : List Host). under_way ps gs ls) e ∙ under_start ps ls

pub start_rest : (hosts most : ℕ) (ps : List Place) (hs : List Host) (ls : List ℕ) (moves : List Line) → hs ≡ map (λ (x : Place). x.host) ps → moves ≡ [] →
    balance hosts most (zip ps ls) ≡ moves ++ balance hosts (most - 0) (under_way ps hs ls)
start_rest hosts most ps hs ls moves e none =
    let same : most - 0 ≡ most = omega arith in
    ap (λ (xs : List (Place × ℕ)). balance hosts most xs) (sym (start_is ps hs ls e))
    ∙ ap (λ (n : ℕ). balance hosts n (under_way ps hs ls)) (sym same)
    ∙ ap (λ (ms : List Line). ms ++ balance hosts (most - 0) (under_way ps hs ls)) (sym none)

-- the context that moves in a turn
abbrev pub goer : List Place → List Host → List ℕ → ℕ → Place → Host → Place × ℕ
goer ps hs ls i p g = (record { path = (get_or ps i p).path; host = get_or hs i g }, get_or ls i 0)

module _ {hosts : ℕ} {ps : List Place} {hs : List Host} {ls sums : List ℕ} (w : IsUnderWay hosts ps hs ls sums) where
  pub top_is : top_of hosts sums ≡ heaviest hosts (under_way ps hs ls)
  top_is = let few = w.few in greatest_same (λ h. get_or sums h 0) (load_on (under_way ps hs ls)) hosts (λ h b. w.so h (omega arith))

  pub bottom_is : bottom_of hosts sums ≡ lightest hosts (under_way ps hs ls)
  bottom_is = let few = w.few in least_same (λ h. get_or sums h 0) (load_on (under_way ps hs ls)) hosts (λ h b. w.so h (omega arith))

  pub top_below : top_of hosts sums < hosts
  top_below = greatest_below (λ h. get_or sums h 0) hosts w.some

  pub bottom_below : bottom_of hosts sums < hosts
  bottom_below = least_below (λ h. get_or sums h 0) hosts w.some

  pub top_load : get_or sums (top_of hosts sums) 0 ≡ load_on (under_way ps hs ls) (heaviest hosts (under_way ps hs ls))
  top_load = let few = w.few in let below = top_below in w.so (top_of hosts sums) (omega arith) ∙ ap (load_on (under_way ps hs ls)) top_is

  pub bottom_load : get_or sums (bottom_of hosts sums) 0 ≡ load_on (under_way ps hs ls) (lightest hosts (under_way ps hs ls))
  bottom_load = let few = w.few in let below = bottom_below in w.so (bottom_of hosts sums) (omega arith) ∙ ap (load_on (under_way ps hs ls)) bottom_is

  pub apart_is : apart_by hosts sums ≡ spread hosts (under_way ps hs ls)
  apart_is = ap (λ (n : ℕ). n - get_or sums (bottom_of hosts sums) 0) top_load ∙ ap (λ (n : ℕ). load_on (under_way ps hs ls) (heaviest hosts (under_way ps hs ls)) - n) bottom_load

  index_is : next_index hosts sums (zip hs ls) ≡ position (goes (heaviest hosts (under_way ps hs ls)) (spread hosts (under_way ps hs ls))) (zip hs ls)
  index_is =
      ap (λ (h : ℕ). position (goes h (apart_by hosts sums)) (zip hs ls)) top_is
      ∙ ap (λ (d : ℕ). position (goes (heaviest hosts (under_way ps hs ls)) d) (zip hs ls)) apart_is

  pub turn_none : next_index hosts sums (zip hs ls) ≡ None → mover hosts (under_way ps hs ls) ≡ None
  turn_none e = none_under _ _ ps hs ls w.paired (sym index_is ∙ e)

  pub turn_some : (i : ℕ) (p : Place) (g : Host) → next_index hosts sums (zip hs ls) ≡ Some i → (i < length ps) × (mover hosts (under_way ps hs ls) ≡ Some (goer ps hs ls i p g))
  turn_some i p g e = found_under _ _ ps hs ls i p g w.paired (sym index_is ∙ e)

  -- the load that goes is on the host that it leaves
  pub turn_leaves : (i : ℕ) (p : Place) (g : Host) → next_index hosts sums (zip hs ls) ≡ Some i → get_or ls i 0 ≤ get_or sums (top_of hosts sums) 0
  turn_leaves i p g e =
      let found = turn_some i p g e in
      let ok = mover_goes hosts (under_way ps hs ls) (goer ps hs ls i p g) found.1 in
      let less = ok.less in
      let top = top_load in
      omega (arith, less, top)

  -- and has room on the one where it goes
  pub turn_fits : (i : ℕ) (p : Place) (g : Host) → next_index hosts sums (zip hs ls) ≡ Some i → get_or sums (bottom_of hosts sums) 0 + get_or ls i 0 ≤ sum ls
  turn_fits i p g e =
      let found = turn_some i p g e in
      let ok = mover_goes hosts (under_way ps hs ls) (goer ps hs ls i p g) found.1 in
      let less = ok.less in
      let bottom = bottom_load in
      let all = load_on-le-sum (under_way ps hs ls) (heaviest hosts (under_way ps hs ls)) in
      let same : sum (map (λ (x : Place × ℕ). x.1) (under_way ps hs ls)) ≡ sum ls = ap sum (loads_under ps hs ls w.paired) in
      omega (arith, less, bottom, all, same)

  sent_is : (i : ℕ) (p : Place) (to : Host) → to.0 ≡ bottom_of hosts sums → i < length ps →
      places_with (under_way ps hs ls) (get_or ps i p).path (lightest hosts (under_way ps hs ls)) ≡ under_way ps (set hs i to) ls
  sent_is i p to t b =
      ap (λ (h : ℕ). places_with (under_way ps hs ls) (get_or ps i p).path h) (sym (t ∙ bottom_is)) ∙ sent_under ps hs ls i p to w.paired w.apart b

  -- the sums are those of the contexts after the move
  pub turn_sums : (new : List ℕ) (i from : ℕ) (p : Place) (g to : Host) → next_index hosts sums (zip hs ls) ≡ Some i → from ≡ top_of hosts sums → to.0 ≡ bottom_of hosts sums →
      IsShifted sums new from to.0 (get_or ls i 0) → (h : ℕ) → h < 8 → get_or new h 0 ≡ load_on (under_way ps (set hs i to) ls) h
  turn_sums new i from p g to e f t shifted h b =
      let xs = under_way ps hs ls in
      let found = turn_some i p g e in
      let x = goer ps hs ls i p g in
      let ok = mover_goes hosts xs x found.1 in
      let eight = w.eight in
      let apart : AreApart (paths_of xs) = subst AreApart (sym (paths_under ps hs ls w.paired)) w.apart in
      let moved = load_sent (may_go (heaviest hosts xs) (spread hosts xs)) (lightest hosts xs) h xs x apart found.1 in
      let there : load_on (places_with xs x.0.path (lightest hosts xs)) h ≡ load_on (under_way ps (set hs i to) ls) h = ap (λ (ys : List (Place × ℕ)). load_on ys h) (sent_is i p to t found.0) in
      let so = w.so h b in
      let one = shifted h (omega arith) in
      let left : cond (is_on h x) (get_or ls i 0) 0 ≡ cond (from == h) (get_or ls i 0) 0 = ap (λ (n : ℕ). cond (n == h) (get_or ls i 0) 0) (ok.here ∙ sym top_is ∙ sym f) in
      let came : cond (lightest hosts xs == h) (get_or ls i 0) 0 ≡ cond (to.0 == h) (get_or ls i 0) 0 = ap (λ (n : ℕ). cond (n == h) (get_or ls i 0) 0) (sym bottom_is ∙ sym t) in
      omega (arith, moved, there, so, one, left, came)

  -- the moves so far and those that are left
  pub turn_rest : (moves all : List Line) (most done i : ℕ) (p : Place) (g to : Host) → next_index hosts sums (zip hs ls) ≡ Some i → to.0 ≡ bottom_of hosts sums → done < most →
      all ≡ moves ++ balance hosts (most - done) (under_way ps hs ls) →
      all ≡ (moves ++ Move (get_or ps i p).path to ∷ []) ++ balance hosts (most - (done + 1)) (under_way ps (set hs i to) ls)
  turn_rest moves all most done i p g to e t b rest =
      let xs = under_way ps hs ls in
      let found = turn_some i p g e in
      let n = most - (done + 1) in
      let more : most - done ≡ suc n = omega arith in
      let line : move_to (lightest hosts xs) (goer ps hs ls i p g) ≡ Move (get_or ps i p).path to = ap (λ (h : ℕ). Move (get_or ps i p).path (record { 0 = h })) (sym bottom_is ∙ sym t) in
      let turn : balance hosts (most - done) xs ≡ Move (get_or ps i p).path to ∷ balance hosts n (under_way ps (set hs i to) ls) =
      ap (λ (k : ℕ). balance hosts k xs) more
      ∙ balance-some hosts n xs (goer ps hs ls i p g) found.1
      ∙ ap (λ (l : Line). l ∷ balance hosts n (places_with xs (get_or ps i p).path (lightest hosts xs))) line
      ∙ ap (λ (ys : List (Place × ℕ)). Move (get_or ps i p).path to ∷ balance hosts n ys) (sent_is i p to t found.0) in
      rest ∙ ap (λ (ms : List Line). moves ++ ms) turn ∙ sym (append_assoc moves (Move (get_or ps i p).path to ∷ []) (balance hosts n (under_way ps (set hs i to) ls)))

  -- the same, with the line as it is written
  pub turn_written : (moves all new : List Line) (most done i : ℕ) (p : Place) (to : Host) → next_index hosts sums (zip hs ls) ≡ Some i → to.0 ≡ bottom_of hosts sums → done < most →
      all ≡ moves ++ balance hosts (most - done) (under_way ps hs ls) → new ≡ moves ++ Move (get_or ps i p).path to ∷ [] →
      all ≡ new ++ balance hosts (most - (done + 1)) (under_way ps (set hs i to) ls)
  turn_written moves all new most done i p to e t b rest written =
      turn_rest moves all most done i p to to e t b rest
      ∙ ap (λ (ms : List Line). ms ++ balance hosts (most - (done + 1)) (under_way ps (set hs i to) ls)) (sym written)

  -- where nothing moves all is said
  pub turn_over : (moves all : List Line) (most done : ℕ) → next_index hosts sums (zip hs ls) ≡ None → all ≡ moves ++ balance hosts (most - done) (under_way ps hs ls) → moves ≡ all
  turn_over moves all most done e rest =
      sym (rest ∙ ap (λ (ms : List Line). moves ++ ms) (balance-none hosts (most - done) (under_way ps hs ls) (turn_none e)) ∙ append-nil moves)

-- Contexts under way: what is searched among their hosts and loads is what is searched among them, and a host that is written is a move.
use Rattle.std.proofs.Common.{◌≡◌, ◌≤◌, ◌<◌, ◌+◌, ℕ, zero, suc, Bool, true, false, cond, not, nat_lt, List, [], ◌∷◌, map, length, get_or, Some, None, refl, ap, sym, subst, ◌∙◌, arith}
use Rattle.std.proofs.Math.ListN.{set}
use Rattle.std.specs.List.{AllByRecursion, zip, find, slice_get, position, position_or_len}
use Rattle.std.proofs.lemmas.Bool.{ltb-true, ltb-false}
use Rattle.std.proofs.lemmas.List.Folds.{find_at}
use Rattle.std.proofs.lemmas.Option.{slice_get_past}
use Rattle.std.proofs.lemmas.Slice.Zip.{length-zip}
use Rattle.wave_base.specs.declared.finished.Place.{Place}
use Rattle.wave_base.specs.declared.numbers.Host.{Host}
use Rattle.wave_base.specs.declared.path.Path.{Path}
use Rattle.wave_base.specs.Paths.{path_eq}
use Rattle.wave_base.specs.PathLaws.{path_eq_equiv}
use Rattle.elastic_policy.specs.Moves.{may_go, on_host, places_with}
use Rattle.elastic_policy.specs.inner.Turns.{goes, under_way}
use Rattle.elastic_policy.proofs.Sent.{paths_of, AreApart, sent_other}

-- the lists are of one length
pub record Paired (ps : List Place) (hs : List Host) (ls : List ℕ) : Type 0 where
  pub hosts : length hs ≡ length ps
  pub loads : length ls ≡ length ps

tails : (p : Place) (ps : List Place) (h : Host) (hs : List Host) (l : ℕ) (ls : List ℕ) → Paired (p ∷ ps) (h ∷ hs) (l ∷ ls) → Paired ps hs ls
tails p ps h hs l ls e = let a = e.hosts in let b = e.loads in record { hosts = omega arith; loads = omega arith }

no_hosts : {A : Type 0} (p : Place) (ps : List Place) (ls : List ℕ) → Paired (p ∷ ps) [] ls → A
no_hosts p ps ls e = let a = e.hosts in absurd (omega arith)

no_loads : {A : Type 0} (p : Place) (ps : List Place) (hs : List Host) → Paired (p ∷ ps) hs [] → A
no_loads p ps hs e = let a = e.loads in absurd (omega arith)

pub length_under : (ps : List Place) (hs : List Host) (ls : List ℕ) → Paired ps hs ls → length (under_way ps hs ls) ≡ length ps
length_under [] hs ls e = refl
length_under (p ∷ ps) [] ls e = no_hosts p ps ls e
length_under (p ∷ ps) (h ∷ hs) [] e = no_loads p ps (h ∷ hs) e
length_under (p ∷ ps) (h ∷ hs) (l ∷ ls) e = let more = length_under ps hs ls (tails p ps h hs l ls e) in omega arith

pub paths_under : (ps : List Place) (hs : List Host) (ls : List ℕ) → Paired ps hs ls → paths_of (under_way ps hs ls) ≡ map (λ (x : Place). x.path) ps
paths_under [] hs ls e = refl
paths_under (p ∷ ps) [] ls e = no_hosts p ps ls e
paths_under (p ∷ ps) (h ∷ hs) [] e = no_loads p ps (h ∷ hs) e
paths_under (p ∷ ps) (h ∷ hs) (l ∷ ls) e = ap (λ (qs : List Path). p.path ∷ qs) (paths_under ps hs ls (tails p ps h hs l ls e))

pub loads_under : (ps : List Place) (hs : List Host) (ls : List ℕ) → Paired ps hs ls → map (λ (x : Place × ℕ). x.1) (under_way ps hs ls) ≡ ls
loads_under [] hs [] e = refl
loads_under [] hs (l ∷ ls) e = let b = e.loads in absurd (omega arith)
loads_under (p ∷ ps) [] ls e = no_hosts p ps ls e
loads_under (p ∷ ps) (h ∷ hs) [] e = no_loads p ps (h ∷ hs) e
loads_under (p ∷ ps) (h ∷ hs) (l ∷ ls) e = ap (λ (ns : List ℕ). l ∷ ns) (loads_under ps hs ls (tails p ps h hs l ls e))

-- each context where it is
pub under_start : (ps : List Place) (ls : List ℕ) → under_way ps (map (λ (x : Place). x.host) ps) ls ≡ zip ps ls
under_start [] ls = refl
under_start (p ∷ ps) [] = refl
under_start (p ∷ ps) (l ∷ ls) = ap (λ (xs : List (Place × ℕ)). (p, l) ∷ xs) (under_start ps ls)

position_under : (a d : ℕ) (ps : List Place) (hs : List Host) (ls : List ℕ) → Paired ps hs ls → position_or_len (may_go a d) (under_way ps hs ls) ≡ position_or_len (goes a d) (zip hs ls)
position_under a d [] [] ls e = refl
position_under a d [] (h ∷ hs) ls e = let b = e.hosts in absurd (omega arith)
position_under a d (p ∷ ps) [] ls e = no_hosts p ps ls e
position_under a d (p ∷ ps) (h ∷ hs) [] e = no_loads p ps (h ∷ hs) e
position_under a d (p ∷ ps) (h ∷ hs) (l ∷ ls) e = ap (λ (n : ℕ). cond (not (goes a d (h, l))) (1 + n) 0) (position_under a d ps hs ls (tails p ps h hs l ls e))

pub get_under : (ps : List Place) (hs : List Host) (ls : List ℕ) (i : ℕ) (d : Place) (g : Host) → Paired ps hs ls → i < length ps →
    slice_get (under_way ps hs ls) i ≡ Some (record { path = (get_or ps i d).path; host = get_or hs i g }, get_or ls i 0)
get_under [] hs ls i d g e b = absurd (omega arith)
get_under (p ∷ ps) [] ls i d g e b = no_hosts p ps ls e
get_under (p ∷ ps) (h ∷ hs) [] i d g e b = no_loads p ps (h ∷ hs) e
get_under (p ∷ ps) (h ∷ hs) (l ∷ ls) zero d g e b = refl
get_under (p ∷ ps) (h ∷ hs) (l ∷ ls) (suc i) d g e b = get_under ps hs ls i d g (tails p ps h hs l ls e) (omega arith)

-- what a search by place finds
pub position_some : {X : Type 0} (q : X → Bool) (xs : List X) (i : ℕ) → position q xs ≡ Some i → (position_or_len q xs ≡ i) × (i < length xs)
position_some q xs i e =
    elim (nat_lt (position_or_len q xs) (length xs)) as (λ t. nat_lt (position_or_len q xs) (length xs) ≡ t → cond t (Some (position_or_len q xs)) None ≡ Some i → (position_or_len q xs ≡ i) × (i < length xs)) [
      | true ↦ λ t f. let same : position_or_len q xs ≡ i = cc in let below = ltb-true _ _ t in (same, omega arith)
      | false ↦ λ t f. cc
    ] refl e

pub position_none : {X : Type 0} (q : X → Bool) (xs : List X) → position q xs ≡ None → length xs ≤ position_or_len q xs
position_none q xs e =
    elim (nat_lt (position_or_len q xs) (length xs)) as (λ t. nat_lt (position_or_len q xs) (length xs) ≡ t → cond t (Some (position_or_len q xs)) None ≡ None → length xs ≤ position_or_len q xs) [
      | true ↦ λ t f. cc
      | false ↦ λ t f. ltb-false _ _ t
    ] refl e

pub found_under : (a d : ℕ) (ps : List Place) (hs : List Host) (ls : List ℕ) (i : ℕ) (p : Place) (g : Host) → Paired ps hs ls → position (goes a d) (zip hs ls) ≡ Some i →
    (i < length ps) × (find (may_go a d) (under_way ps hs ls) ≡ Some (record { path = (get_or ps i p).path; host = get_or hs i g }, get_or ls i 0))
found_under a d ps hs ls i p g e f =
    let at = position_some (goes a d) (zip hs ls) i f in
    let long = length-zip hs ls in
    let same_hosts = e.hosts in
    let same_loads = e.loads in
    let within : i < length ps = omega (arith, at.1) in (
      within,
      find_at (may_go a d) (under_way ps hs ls)
          ∙ ap (λ (n : ℕ). slice_get (under_way ps hs ls) n) (position_under a d ps hs ls e ∙ at.0)
          ∙ get_under ps hs ls i p g e within,
    )

pub none_under : (a d : ℕ) (ps : List Place) (hs : List Host) (ls : List ℕ) → Paired ps hs ls → position (goes a d) (zip hs ls) ≡ None → find (may_go a d) (under_way ps hs ls) ≡ None
none_under a d ps hs ls e f =
    let past = position_none (goes a d) (zip hs ls) f in
    let long = length-zip hs ls in
    let there = length_under ps hs ls e in
    let same = position_under a d ps hs ls e in
    let same_hosts = e.hosts in
    let same_loads = e.loads in
    find_at (may_go a d) (under_way ps hs ls) ∙ slice_get_past (under_way ps hs ls) _ (omega (arith, past, same))

other_path : (p : Path) (ps : List Place) (i : ℕ) (d : Place) → AllByRecursion (λ (q : Path). path_eq p q ≡ false) (map (λ (x : Place). x.path) ps) → i < length ps → path_eq (get_or ps i d).path p ≡ false
other_path p [] i d h b = absurd (omega arith)
other_path p (q ∷ ps) zero d h b = path_eq_equiv.symm q.path p ∙ h.0
other_path p (q ∷ ps) (suc i) d h b = other_path p ps i d h.1 (omega arith)

-- the host of the context at a place is written
pub sent_under : (ps : List Place) (hs : List Host) (ls : List ℕ) (i : ℕ) (d : Place) (to : Host) → Paired ps hs ls → AreApart (map (λ (x : Place). x.path) ps) → i < length ps →
    places_with (under_way ps hs ls) (get_or ps i d).path to.0 ≡ under_way ps (set hs i to) ls
sent_under [] hs ls i d to e a b = absurd (omega arith)
sent_under (p ∷ ps) [] ls i d to e a b = no_hosts p ps ls e
sent_under (p ∷ ps) (h ∷ hs) [] i d to e a b = no_loads p ps (h ∷ hs) e
sent_under (p ∷ ps) (h ∷ hs) (l ∷ ls) zero d to e a b =
    let x : Place × ℕ = (record { path = p.path; host = h }, l) in
    let rest = under_way ps hs ls in
    let apart : AllByRecursion (λ (q : Path). path_eq p.path q ≡ false) (paths_of rest) =
    subst (AllByRecursion (λ (q : Path). path_eq p.path q ≡ false)) (sym (paths_under ps hs ls (tails p ps h hs l ls e))) a.0 in
    ap (λ (t : Bool). cond t (on_host to.0 x) x ∷ places_with rest p.path to.0) (path_eq_equiv.refl p.path)
    ∙ ap (λ (ys : List (Place × ℕ)). on_host to.0 x ∷ ys) (sent_other rest p.path to.0 apart)
sent_under (p ∷ ps) (h ∷ hs) (l ∷ ls) (suc i) d to e a b =
    let x : Place × ℕ = (record { path = p.path; host = h }, l) in
    let path = (get_or ps i d).path in
    ap (λ (t : Bool). cond t (on_host to.0 x) x ∷ places_with (under_way ps hs ls) path to.0) (other_path p.path ps i d a.0 (omega arith))
    ∙ ap (λ (ys : List (Place × ℕ)). x ∷ ys) (sent_under ps hs ls i d to (tails p ps h hs l ls e) a.1 (omega arith))

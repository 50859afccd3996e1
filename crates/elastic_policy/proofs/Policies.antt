-- What holds of the moves of each policy.
use Rattle.std.proofs.Common.{◌≡◌, ◌≤◌, ℕ, List, length, map, sym, subst, ◌∙◌}
use Rattle.std.specs.List.{zip}
use Rattle.std.specs.List.Sorted.{IsStrictlySortedBy}
use Rattle.wave_base.specs.declared.finished.Place.{Place}
use Rattle.wave_base.specs.declared.numbers.Host.{Host}
use Rattle.wave_base.specs.declared.policy.Policy.{Policy}
use Rattle.wave_base.specs.declared.policy.Policy.TheVariants.{Balance, Drain}
use Rattle.wave_base.specs.declared.script.Line.{Line}
use Rattle.wave_base.specs.Paths.{path_cmp}
use Rattle.wave_base.specs.Scripts.{IsPolicy}
use Rattle.elastic_policy.specs.Moves.{balance, moves_of}
use Rattle.elastic_policy.specs.MoveFacts.{FitsScript, IsEven, IsDrained}
use Rattle.elastic_policy.specs.inner.Turns.{drained_moves}
use Rattle.elastic_policy.proofs.Even.{balance_even}
use Rattle.elastic_policy.proofs.Fits.{paths_zip, balance_fits, drain_fits, drained_is, drain_clears}
use Rattle.elastic_policy.proofs.Sent.{paths_of, AreApart, apart}

pub balanced_fits : (hosts most : ℕ) (policy : Policy) (ps : List Place) (ls : List ℕ) (ms : List Line) → policy ≡ Balance most → length ps ≡ length ls → 1 ≤ hosts → IsPolicy hosts policy →
    ms ≡ balance hosts most (zip ps ls) → FitsScript hosts ps ms
balanced_fits hosts most policy ps ls ms e paired some may m =
    let most_few : IsPolicy hosts (Balance most) = subst (IsPolicy hosts) e may in
    subst (FitsScript hosts ps) (sym m) (balance_fits hosts most ps ls paired some most_few.1)

pub balanced_even : (hosts most : ℕ) (policy : Policy) (ps : List Place) (ls : List ℕ) (ms : List Line) → policy ≡ Balance most → length ps ≡ length ls → 1 ≤ hosts →
    IsStrictlySortedBy path_cmp (map (λ (x : Place). x.path) ps) → ms ≡ balance hosts most (zip ps ls) → IsEven hosts policy (zip ps ls) ms
balanced_even hosts most policy ps ls ms e paired some sorted m =
    let paths : AreApart (paths_of (zip ps ls)) = subst AreApart (sym (paths_zip ps ls paired)) (apart (map (λ (x : Place). x.path) ps) sorted) in
    let even : IsEven hosts (Balance most) (zip ps ls) ms = subst (IsEven hosts (Balance most) (zip ps ls)) (sym m) (balance_even hosts most (zip ps ls) some paths) in
    subst (λ (p : Policy). IsEven hosts p (zip ps ls) ms) (sym e) even

pub drained_moves_of : (hosts : ℕ) (from to : Host) (policy : Policy) (ps : List Place) (ls : List ℕ) (ms : List Line) → policy ≡ Drain from to → length ps ≡ length ls →
    ms ≡ drained_moves from.0 to.0 ps → ms ≡ moves_of hosts policy (zip ps ls)
drained_moves_of hosts from to policy ps ls ms e paired m =
    let is : ms ≡ moves_of hosts (Drain from to) (zip ps ls) = m ∙ drained_is from.0 to.0 ps ls paired in
    subst (λ (p : Policy). ms ≡ moves_of hosts p (zip ps ls)) (sym e) is

pub drained_fits : (hosts : ℕ) (from to : Host) (policy : Policy) (ps : List Place) (ls : List ℕ) (ms : List Line) → policy ≡ Drain from to → length ps ≡ length ls → IsPolicy hosts policy →
    ms ≡ drained_moves from.0 to.0 ps → FitsScript hosts ps ms
drained_fits hosts from to policy ps ls ms e paired may m =
    let hosts_are : IsPolicy hosts (Drain from to) = subst (IsPolicy hosts) e may in
    subst (FitsScript hosts ps) (sym (m ∙ drained_is from.0 to.0 ps ls paired)) (drain_fits hosts from.0 to.0 ps ls paired hosts_are.1)

pub drained_clears : (hosts : ℕ) (from to : Host) (policy : Policy) (ps : List Place) (ls : List ℕ) (ms : List Line) → policy ≡ Drain from to → length ps ≡ length ls → IsPolicy hosts policy →
    ms ≡ drained_moves from.0 to.0 ps → IsDrained policy (zip ps ls) ms
drained_clears hosts from to policy ps ls ms e paired may m =
    let hosts_are : IsPolicy hosts (Drain from to) = subst (IsPolicy hosts) e may in
    let clears : IsDrained (Drain from to) (zip ps ls) ms =
    subst (IsDrained (Drain from to) (zip ps ls)) (sym (m ∙ drained_is from.0 to.0 ps ls paired)) (drain_clears from.0 to.0 (zip ps ls) hosts_are.2) in
    subst (λ (p : Policy). IsDrained p (zip ps ls) ms) (sym e) clears

use Rattle.std.proofs.Common.{[], ◌∷◌, ◌≡◌, ◌+◌, ◌≤◌, ◌<◌, ◌^◌, ℕ, sym, ap, subst, ◌∙◌, length, arith}
use Rattle.std.specs.Prelude.{nat_eq}
use Rattle.std.specs.HashMap.{spare}
use Rattle.std.specs.Map.{lookup}
use Rattle.std.specs.Ordering.{nat_cmp}
use Rattle.std.specs.FinMap as table
use Rattle.context_queue.specs.inner.Kept.{entries_in, line_in}
use Rattle.context_queue.proofs.QueueMaps.{get_is_lookup, len_is_length, none_distinct, one_distinct, same_entries}
use Rattle.context_queue.proofs.waiting.Waiting.reserve.Goals.{in-Many-1, in-Nobody-1, in-Many-2, in-Nobody-2}
use Rattle.context_queue.proofs.waiting.Waiting.reserve.Goals as goal

-- the one that waits is under a number of 64 bits, and is all that the table has
pub invariant_of-self-in_ok-claims-in-One-2 : goal.invariant_of-self-in_ok-claims-in-One-2
invariant_of-self-in_ok-claims-in-One-2 c =
    let top : ℕ = 18446744073709551616 in
    sym (get_is_lookup top c.in_ok-claims-in-One.claims.value.entries)
    ∙ ap (λ m. table.get m top) c.in_ok-claims-in-One.ensures.one
    ∙ get_is_lookup top ((c.in-One.number, c.in-One.claim) ∷ [])
    ∙ ap (λ o. lookup (nat_eq top) (entries_in o)) (sym c.in-One.is)
    ∙ c.self.invariant

none_yet : (n more : ℕ) → n ≡ 0 → more < 18446744073709551616 → n + more < 18446744073709551616
none_yet n more e l = omega (arith, e, l)

one_yet : (n more : ℕ) → n ≡ 1 → 1 + more < 18446744073709551616 → n + more < 18446744073709551616
one_yet n more e l = omega (arith, e, l)

within : (n len more spare places : ℕ) → n ≡ len → more ≤ spare → places ≡ len + spare → places < 2 ^ 64 → n + more < 2 ^ 64
within n len more spare places e h p b = omega arith

pub returns-in_ok-new_claims-in-Nobody-clause-counted : goal.returns-in_ok-new_claims-in-Nobody-clause-counted
returns-in_ok-new_claims-in-Nobody-clause-counted c =
    let none = ap (λ es. table.len (table.from_entries {R = nat_cmp} es)) c.in_ok-new_claims-in-Nobody.ensures.none ∙ len_is_length [] none_distinct in
    elim c.match-self-2.branch [
      | in-Many-1 w ↦ none_yet _ c.args.more (ap (λ v. table.len v.claims) w.self-is ∙ none) c.ranges.more.fits
      | in-Nobody-1 w ↦ none_yet _ c.args.more (ap (λ v. table.len v.claims) w.self-is ∙ none) c.ranges.more.fits
    ]

pub returns-else-more-gt1-clause-counted : goal.returns-else-more-gt1-clause-counted
returns-else-more-gt1-clause-counted c = none_yet _ c.args.more (ap (λ o. table.len (line_in o).claims) c.in-Nobody.is ∙ len_is_length [] none_distinct) c.ranges.more.fits

pub returns-in_ok-claims-in-One-clause-counted : goal.returns-in_ok-claims-in-One-clause-counted
returns-in_ok-claims-in-One-clause-counted c =
    let n = c.in-One.number in
    let one = ap table.len c.in_ok-claims-in-One.ensures.one ∙ len_is_length ((n, c.in-One.claim) ∷ []) (one_distinct n) in
    elim c.match-self-3.branch [
      | in-Many-2 w ↦ one_yet _ c.args.more (ap (λ v. table.len v.claims) w.self-is ∙ one) c.in_ok-claims-in-One.ensures.counted
      | in-Nobody-2 w ↦ one_yet _ c.args.more (ap (λ v. table.len v.claims) w.self-is ∙ one) c.in_ok-claims-in-One.ensures.counted
    ]

pub returns-else-more-gt0-clause-counted : goal.returns-else-more-gt0-clause-counted
returns-else-more-gt0-clause-counted c =
    let n = c.in-One.number in
    let few = c.if-more-gt0.false in
    one_yet _ c.args.more (len_is_length ((n, c.in-One.claim) ∷ []) (one_distinct n)) (omega (arith, few))

pub returns-in_ok-reserve-in-Many-clause-counted : goal.returns-in_ok-reserve-in-Many-clause-counted
returns-in_ok-reserve-in-Many-clause-counted c =
    let entries = c.reserve.new.self.entries in
    within _ (length entries) c.args.more _ c.capacity-places.result (len_is_length entries c.reserve.ensures.unique) c.in_ok-reserve-in-Many.ensures.ok
    (subst (λ t. c.capacity-places.result ≡ length t.entries + spare t) c.deref.ensures c.capacity-places.ensures) c.capacity-places.type_inv

pub returns-in_ok-reserve-in-Many-clause-claims : goal.returns-in_ok-reserve-in-Many-clause-claims
returns-in_ok-reserve-in-Many-clause-claims c =
    same_entries c.deref_mut.result.now.entries c.reserve.new.self.entries c.reserve.ensures.entries.2
    ∙ ap (λ t. table.from_entries {R = nat_cmp} t.entries) c.deref_mut.ensures.value
    ∙ ap (λ v. v.claims) (ap line_in (sym c.in-Many.is) ∙ c.self.view_is)

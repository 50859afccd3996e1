use Rattle.std.proofs.Common.{◌≡◌, ◌∙◌, ◌⊎◌, ◌<◌, ◌≤◌, ◌+◌, inl, inr, ℕ, true, Some, ap, refl, sym, subst, arith}
use Rattle.std.specs.List.{list_any, AllByRecursion}
use Rattle.std.specs.Map.{keys_of}
use Rattle.std.specs.Prelude.{slice_get}
use Rattle.std.proofs.lemmas.Bool.{cases_lt}
use Rattle.std.proofs.lemmas.Option.{slice_get_read, slice_get_within}
use Rattle.wave_base.specs.declared.finished.Place.{Place}
use Rattle.wave_base.specs.declared.numbers.Host.{Host}
use Rattle.wave_base.specs.declared.path.Path.{Path}
use Rattle.wave_base.specs.Paths.{path_eq}
use Rattle.wave_theory.proofs.Basics.{some_same}
use Rattle.event_cells.specs.declared.outbox.Envelope.{Envelope}
use Rattle.wave_effects.specs.inner.Owned.{IsCarried, IsOldOr, carried_in, with_place}
use Rattle.wave_effects.proofs.Glancing.{all_old, all_placed, carried_at, is_carried, now_there, still_there}
use Rattle.wave_effects.proofs.glance.add_carried.Goals as goal

pub loop-mail-init : goal.loop-mail-init
loop-mail-init c = record { there = all_old c.args.hosts.now.entries c.args.cell.now.outbox.mails; more = λ j x p h l. absurd (omega (arith, l)); kept = λ p e. e }

pub loop-mail-preserved : goal.loop-mail-preserved
loop-mail-preserved c = record {
  there = subst (AllByRecursion (λ (e : Path × Host). IsOldOr c.args.hosts.now.entries c.args.cell.now.outbox.mails e.0 e.1)) (sym c.in_ok-add_one.ensures)
      (all_placed (IsOldOr c.args.hosts.now.entries c.args.cell.now.outbox.mails) c.loop-mail.hosts.entries (carried_in c.mail-item.result.1) c.loop-mail.invariant.there
      (λ x e. inr (subst (λ ms. IsCarried ms x.path x.host) c.mails-mails.ensures.mails (is_carried c.mails-mails.result.now c.loop-mail.mail-index c.mail-item.result c.mails-mails.ensures.ordered at x e))));
  more = λ j x p h l e k. by_place j x p h l e k (cases_lt j c.loop-mail.mail-index);
  kept = λ p e. there p (still_there p c.loop-mail.hosts.entries (carried_in c.mail-item.result.1) (c.loop-mail.invariant.kept p e));
}
  where
    at : slice_get c.mails-mails.result.now c.loop-mail.mail-index ≡ Some c.mail-item.result
    at = slice_get_read c.mails-mails.result.now _ c.loop-mail.mail-index c.mail-item.result refl c.loop-mail-test.true c.mail-item.is

    there : (p : Path) → list_any (path_eq p) (keys_of (with_place c.loop-mail.hosts.entries (carried_in c.mail-item.result.1))) ≡ true → list_any (path_eq p) (keys_of c.add_one.new.hosts.entries) ≡ true
    there p e = ap (λ es. list_any (path_eq p) (keys_of es)) c.in_ok-add_one.ensures ∙ e

    by_place : (j : ℕ) (x : ℕ × Envelope) (p : Path) (h : Host) → j < c.loop-mail.mail-index + 1 → slice_get c.mails-mails.result.now j ≡ Some x → carried_in x.1 ≡ Some (record { path = p; host = h })
        → (j < c.loop-mail.mail-index) ⊎ (c.loop-mail.mail-index ≤ j) → list_any (path_eq p) (keys_of c.add_one.new.hosts.entries) ≡ true
    by_place j x p h l e k (inl less) = there p (still_there p c.loop-mail.hosts.entries (carried_in c.mail-item.result.1) (c.loop-mail.invariant.more j x p h less e k))
    by_place j x p h l e k (inr most) =
        let here : j ≡ c.loop-mail.mail-index = omega (arith, l, most) in
        let same : x ≡ c.mail-item.result = some_same x c.mail-item.result (sym e ∙ ap (slice_get c.mails-mails.result.now) here ∙ at) in
        there p (now_there p h c.loop-mail.hosts.entries (carried_in c.mail-item.result.1) (ap (λ (z : ℕ × Envelope). carried_in z.1) (sym same) ∙ k))

pub returns-clause-more : goal.returns-clause-more
returns-clause-more c = λ p h k.
    let ms = c.mails-mails.result.now in
    let at = carried_at ms p h (subst (λ xs. IsCarried xs p h) (sym c.mails-mails.ensures.mails) k) in
    c.loop-mail.invariant.more at.0 at.1 p h (omega (arith, slice_get_within ms at.0 at.1 at.2, c.loop-mail-test.false)) at.2 at.3

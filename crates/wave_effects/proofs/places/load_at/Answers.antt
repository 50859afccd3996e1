use Rattle.std.proofs.Common.{◌≡◌, ◌≤◌, ◌-◌, ◌∙◌, [], ◌∷◌, Bool, true, false, refl, ap, sym, true≢false, arith}
use Rattle.std.specs.FinMap as table
use Rattle.std.specs.Prelude.{if◌then◌else◌}
use Rattle.wave_base.specs.declared.path.Path.{Path}
use Rattle.wave_states.specs.Begins.{is_root}
use Rattle.wave_effects.proofs.places.load_at.Goals as goal

root_is : (p : Path) → is_root p ≡ true → p ≡ []
root_is [] e = refl
root_is (s ∷ p) e = absurd (true≢false (sym e))

pub returns : goal.returns
returns c = record {
  entry = c.entry_at.result.now;
  there = c.entry_at.ensures;
  served = let less = by_root (is_root c.args.place.now.path) refl in omega (arith, c.served_before.ensures, less);
}
  where
    by_root : (r : Bool) → is_root c.args.place.now.path ≡ r → (if r then c.args.first.0 - 1 else 0) ≤ c.entry_at.result.now.served
    by_root true e = let at = c.entry_at.ensures in c.requires.served c.args.place.now.host.0 at.store c.entry_at.result.now at.stored (ap (table.get at.store.store) (sym (root_is c.args.place.now.path e)) ∙ at.entry)
    by_root false e = omega arith

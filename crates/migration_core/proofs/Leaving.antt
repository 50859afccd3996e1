-- What departs and lands, in the two maps.
use Rattle.std.proofs.Common.{◌≡◌, ◌≢◌, ℕ, Bool, true, false, List, Option, Some, None, cond, refl, sym, ap, subst, ◌∙◌}
use Rattle.std.specs.Prelude.{nat_eq, option_map, if◌then◌else◌}
use Rattle.std.specs.Ordering.{eq_by_cmp}
use Rattle.std.specs.FinMap as table
use Rattle.std.proofs.lemmas.Cmp.{nat_eq_equiv}
use Rattle.wave_base.specs.declared.path.Path.{Path}
use Rattle.wave_base.specs.declared.value.Value.{Value}
use Rattle.wave_base.specs.Paths.{path_eq, path_cmp}
use Rattle.wave_base.specs.PathLaws.{path_cmp_total, path_eq_equiv, path_eq_ties, path_eq_decides}
use Rattle.context_queue.specs.declared.entry.Entry.{Entry}
use Rattle.context_queue.specs.Entries.{StandsFor}
use Rattle.host_map.specs.declared.store.Mark.{Mark}
use Rattle.host_map.specs.Stores.{Stores, Matches, IsAt, mark_of}
use Rattle.wave_states.specs.States as theory
use Rattle.wave_states.specs.Steps.{column_left, column_joined}

apart : (q k : Path) → q ≢ k → eq_by_cmp path_cmp q k ≡ false
apart q k h = by_test (path_eq q k) refl
  where
    by_test : (b : Bool) → path_eq q k ≡ b → eq_by_cmp path_cmp q k ≡ false
    by_test true e = absurd (h ((path_eq_decides q k).0 e))
    by_test false e = sym (path_eq_ties q k) ∙ e

same : (k : Path) → eq_by_cmp path_cmp k k ≡ true
same k = sym (path_eq_ties k k) ∙ path_eq_equiv.refl k

module _ {X : Type 0} (m : table.FinMap path_cmp X) where
  pub inserted_at : (k : Path) (v : X) → table.get (table.insert m k v) k ≡ Some v
  inserted_at k v = table.get-insert path_cmp_total m k v k ∙ ap (λ b. cond b (Some v) (table.get m k)) (same k)

  pub inserted_apart : (k : Path) (v : X) (q : Path) → q ≢ k → table.get (table.insert m k v) q ≡ table.get m q
  inserted_apart k v q h = table.get-insert path_cmp_total m k v q ∙ ap (λ b. cond b (Some v) (table.get m q)) (apart q k h)

  pub removed_at : (k : Path) → table.get (table.remove m k) k ≡ None
  removed_at k = table.get-remove path_cmp_total m k k ∙ ap (λ b. cond b None (table.get m k)) (same k)

  pub removed_apart : (k : Path) (q : Path) → q ≢ k → table.get (table.remove m k) q ≡ table.get m q
  removed_apart k q h = table.get-remove path_cmp_total m k q ∙ ap (λ b. cond b None (table.get m q)) (apart q k h)

set_here : {X : Type 0} (f : ℕ → Option X) (host : ℕ) (x : Option X) → theory.set nat_eq f host x host ≡ x
set_here f host x = ap (λ b. if b then x else f host) (nat_eq_equiv.refl host)

module _ (new : Stores) (p : Path) (c : theory.Column (List Value)) (host : ℕ) where
  -- nothing is there but a mark
  pub gone_away : (m : Mark) → table.get new.store p ≡ None → table.get new.gone p ≡ Some m → IsAt new p (column_left c host m.to.0 m.number) host
  gone_away m e g = record {
    entry = subst (λ o. Matches o (theory.set nat_eq c.store host None host)) (sym e) (subst (Matches None) (sym (set_here c.store host None)) tt);
    mark = set_here c.gone host (Some (mark_of m)) ∙ ap (option_map mark_of) (sym g);
  }

  -- an entry is there and no mark
  pub come_here : (e : Entry) (en : theory.Entry (List Value)) → StandsFor e en → table.get new.store p ≡ Some e → table.get new.gone p ≡ None → IsAt new p (column_joined c host en) host
  come_here e en h s g = record {
    entry = subst (λ o. Matches o (theory.set nat_eq c.store host (Some en) host)) (sym s) (subst (Matches (Some e)) (sym (set_here c.store host (Some en))) h);
    mark = set_here c.gone host None ∙ ap (option_map mark_of) (sym g);
  }

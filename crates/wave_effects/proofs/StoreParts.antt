-- A host's store once its entry of a context is another one.
use Rattle.std.proofs.Common.{◌≡◌, ◌≢◌, ◌∙◌, ℕ, Bool, true, false, List, Option, Some, None, refl, sym, ap, subst, cond}
use Rattle.std.specs.Prelude.{nat_eq, option_map, slice_get, slice_set}
use Rattle.std.specs.FinMap as table
use Rattle.std.proofs.lemmas.Bool.{eqb-true}
use Rattle.std.proofs.lemmas.Cmp.{nat_eq_equiv}
use Rattle.wave_base.specs.declared.path.Path.{Path}
use Rattle.wave_base.specs.Paths.{path_eq, path_cmp}
use Rattle.wave_base.specs.PathLaws.{path_cmp_total, path_eq_ties, path_eq_decides, path_eq_equiv}
use Rattle.context_queue.specs.declared.entry.Entry.{Entry}
use Rattle.context_queue.specs.Entries.{StandsFor}
use Rattle.host_map.specs.Stores.{Stores, IsAt, Matches, mark_of}
use Rattle.wave_states.specs.States as theory
use Rattle.wave_states.specs.States.{Column, set}
use Rattle.wave_states.specs.Steps.{with_entry, column_joined}
use Rattle.code_actor.specs.CodeActors.{Fields}
use Rattle.wave_effects.proofs.Parts.{each_store}

abbrev pub TheEntry : Type 0
TheEntry = theory.Entry Fields

unlike_path : (q p : Path) → q ≢ p → path_eq q p ≡ false
unlike_path q p n = by_test (path_eq q p) refl
  where
    by_test : (b : Bool) → path_eq q p ≡ b → path_eq q p ≡ false
    by_test true h = absurd (n ((path_eq_decides q p).0 h))
    by_test false h = h

module _ {X : Type 0} (m : table.FinMap path_cmp X) (p : Path) (v : X) where
  pub get_here : table.get (table.insert m p v) p ≡ Some v
  get_here = table.get-insert path_cmp_total m p v p ∙ ap (λ b. cond b (Some v) (table.get m p)) (sym (path_eq_ties p p) ∙ path_eq_equiv.refl p)

  pub get_there : (q : Path) → q ≢ p → table.get (table.insert m p v) q ≡ table.get m q
  get_there q n = table.get-insert path_cmp_total m p v q ∙ ap (λ b. cond b (Some v) (table.get m q)) (sym (path_eq_ties q p) ∙ unlike_path q p n)

-- what is there stands for what the theory has there
pub stands_there : (o : Option Entry) (r : Option TheEntry) (e : Entry) (en : TheEntry) → Matches o r → o ≡ Some e → r ≡ Some en → StandsFor e en
stands_there o r e en m a b = subst (λ x. Matches (Some e) x) b (subst (λ x. Matches x r) a m)

-- another entry at a host of a column
pub at_host : (c : Column Fields) (h : ℕ) (en : TheEntry) → (with_entry c h (Some en)).store h ≡ Some en
at_host c h en = ap (λ b. cond b (Some en) (c.store h)) (nat_eq_equiv.refl h)

pub landed_here : (c : Column Fields) (h : ℕ) (en : TheEntry) → (column_joined c h en).store h ≡ Some en
landed_here c h en = ap (λ b. cond b (Some en) (c.store h)) (nat_eq_equiv.refl h)

-- an entry is written
pub record Writes (st st' : Stores) (p : Path) (e : Entry) : Type 0 where
  pub store : st'.store ≡ table.insert st.store p e
  pub gone : st'.gone ≡ st.gone

module _ (st st' : Stores) (p : Path) (e : Entry) (h : ℕ) (w : Writes st st' p e) where
  pub written_here : (c : Column Fields) (en : TheEntry) → IsAt st p c h → StandsFor e en → IsAt st' p (with_entry c h (Some en)) h
  written_here c en at s = record {
    entry = subst (λ o. Matches o ((with_entry c h (Some en)).store h)) (sym (ap (λ m. table.get m p) w.store ∙ get_here st.store p e)) (subst (Matches (Some e)) (sym (at_host c h en)) s);
    mark = at.mark ∙ ap (λ m. option_map mark_of (table.get m p)) (sym w.gone);
  }

  pub written_there : (q : Path) (c : Column Fields) → q ≢ p → IsAt st q c h → IsAt st' q c h
  written_there q c n at = record {
    entry = subst (λ o. Matches o (c.store h)) (sym (ap (λ m. table.get m q) w.store ∙ get_there st.store p e q n)) at.entry;
    mark = at.mark ∙ ap (λ m. option_map mark_of (table.get m q)) (sym w.gone);
  }

apart_from : (h g : ℕ) → g ≢ h → nat_eq h g ≡ false
apart_from h g n = by_test (nat_eq h g) refl
  where
    by_test : (b : Bool) → nat_eq h g ≡ b → nat_eq h g ≡ false
    by_test true e = absurd (n (sym (eqb-true h g e)))
    by_test false e = e

-- at other hosts a column is as it was
pub elsewhere_entry : (c : Column Fields) (h : ℕ) (o : Option TheEntry) (g : ℕ) → g ≢ h → (c.store g ≡ (with_entry c h o).store g) × (c.gone g ≡ (with_entry c h o).gone g)
elsewhere_entry c h o g n = (sym (ap (λ b. cond b o (c.store g)) (apart_from h g n)), refl)

module _ (xs : List Stores) (f : Path → Column Fields) (h : ℕ) (p : Path) (st st' : Stores) (all : (g : ℕ) (x : Stores) → slice_get xs g ≡ Some x → (q : Path) → IsAt x q (f q) g) (there : slice_get xs h ≡ Some st) where
  -- the stores once an entry is written at one host
  pub stores_written : (e : Entry) (en : TheEntry) (c : Column Fields) → Writes st st' p e → StandsFor e en → with_entry (f p) h (Some en) ≡ c
      → (g : ℕ) (y : Stores) → slice_get (slice_set xs h st') g ≡ Some y → (q : Path) → IsAt y q (set path_eq f p c q) g
  stores_written e en c w stands is =
      each_store xs f h st' p c all (subst (λ d. IsAt st' p d h) is (written_here st st' p e h w (f p) en (all h st there p) stands))
      (λ q n. written_there st st' p e h w q (f q) n (all h st there q))
      (λ g n. subst (λ (d : Column Fields). ((f p).store g ≡ d.store g) × ((f p).gone g ≡ d.gone g)) is (elsewhere_entry (f p) h (Some en) g n))

  -- once a context landed there: its entry joins the store, where a mark is cleared
  pub stores_landed : (en : TheEntry) (c : Column Fields) → IsAt st' p (column_joined (f p) h en) h → ((q : Path) → q ≢ p → table.get st'.store q ≡ table.get st.store q) → ((q : Path) → q ≢ p → table.get st'.gone q ≡ table.get st.gone q) → column_joined (f p) h en ≡ c
      → (g : ℕ) (y : Stores) → slice_get (slice_set xs h st') g ≡ Some y → (q : Path) → IsAt y q (set path_eq f p c q) g
  stores_landed en c here stores marks is =
      each_store xs f h st' p c all (subst (λ d. IsAt st' p d h) is here)
      (λ q n. record { entry = subst (λ o. Matches o ((f q).store h)) (sym (stores q n)) (all h st there q).entry; mark = (all h st there q).mark ∙ ap (option_map mark_of) (sym (marks q n)) })
      (λ g n. subst (λ (d : Column Fields). ((f p).store g ≡ d.store g) × ((f p).gone g ≡ d.gone g)) is
      (sym (ap (λ b. cond b (Some en) ((f p).store g)) (apart_from h g n)), sym (ap (λ b. cond b None ((f p).gone g)) (apart_from h g n))))

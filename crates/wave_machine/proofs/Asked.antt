-- What is made beforehand changes nothing of the list.
use Rattle.std.proofs.Common.{◌≡◌, ◌∙◌, ℕ, suc, ◌+◌, ◌<◌, ◌≤◌, false, List, [], ◌∷◌, ◌++◌, length, None, refl, sym, ap, subst, arith}
use Rattle.std.specs.Prelude.{flat_map, option_map, slice_get, vec_len, vec_capacity}
use Rattle.std.proofs.lemmas.Option.{slice_get_within}
use Rattle.wave_base.specs.declared.numbers.Ticket.{Ticket}
use Rattle.wave_base.specs.declared.outcome.EventResult.{EventResult}
use Rattle.wave_base.specs.Fold.{tickets_from}
use Rattle.wave_states.specs.Labels.{Label, Admit, Commit}
use Rattle.wave_theory.proofs.Basics.{none_not}
use Rattle.wave_machine.specs.declared.ready.Ready.{Ready}
use Rattle.wave_effects.specs.declared.engine.Engine.{Engine}
use Rattle.wave_effects.specs.Machines.{Kept, Keeps, IsStood}
use Rattle.wave_effects.specs.Apart.{AsksTheSame, Moves}
use Rattle.wave_machine.specs.inner.Asking.{in_order, label_at}
use Rattle.wave_machine.specs.inner.Index.{IsIndex, asked_at, by_part, head_in, HasRoom, IsListed, weight_of}
use Rattle.wave_machine.specs.inner.Updating.{has_at, next_at, SameList}
use Rattle.wave_machine.specs.declared.listed.Listed.{Listed}
use Rattle.wave_effects.specs.Keeping.{kept_of}
use Rattle.wave_machine.specs.inner.Done.{AreDone}
use Rattle.wave_machine.proofs.Elsewhere.{others_ask}
use Rattle.wave_machine.proofs.Ways.{ways_here}
use Rattle.wave_machine.proofs.Untouched.{kept_done}
use Rattle.wave_machine.proofs.Weighing.{weight_asks}
use Rattle.wave_machine.proofs.Ordering.{same_numbered}

past_none : {X : Type 0} (xs : List X) → slice_get xs (length xs) ≡ None
past_none [] = refl
past_none (x ∷ xs) = past_none xs

module _ (m m' : Kept) (a : AsksTheSame m m') where
  -- as if a label of another ticket had been taken, on a host that there isn't
  abbrev idle_label : ℕ → Label
  idle_label t = record { worker = 0; host = length m.stores; act = Commit t }

  moves_of : (t : ℕ) → Moves m m' (idle_label t) 0
  moves_of t = record {
    others = record {
      first = a.others.first;
      cells = λ i c c' apart e e'. a.others.cells i c c' (λ x. x) e e';
      as_many_stores = a.others.as_many_stores;
      stores = λ h q st st' apart e e'. a.others.stores h q st st' (λ x. x) e e';
    };
    as_many = (let many = a.as_many in omega (arith, many));
    mails = λ i c c' e e'. let same = ap length (a.others.cells i c c' (λ x. x) e e').mails in omega (arith, same);
    new = λ c' e. let within = slice_get_within m'.cells (length m.cells) c' e in let many = a.as_many in absurd (omega (arith, within, many));
    mark = λ st st' e e' n n'. (a.others.stores (length m.stores) [] st st' (λ x. x) e e').mark;
    head = λ off. record { next = a.next; ready = a.ready; settled = a.settled };
  }

  no_old : slice_get m.stores (length m.stores) ≡ None
  no_old = past_none m.stores

  no_new : slice_get m'.stores (length m.stores) ≡ None
  no_new = ap (slice_get m'.stores) (sym a.others.as_many_stores) ∙ past_none m'.stores

  asks_same : (u : ℕ) → m'.first ≤ u → u < m'.first + length m'.cells → asked_at m u ≡ asked_at m' u
  asks_same u low high =
      others_ask m m' (idle_label (suc u)) 0 (moves_of (suc u)) false (ways_here m m' (idle_label (suc u)) 0 (moves_of (suc u)) (ap (has_at []) no_new ∙ sym (ap (has_at []) no_old))) u
      (λ e. none_not (sym (ap (next_at []) no_old) ∙ e)) (λ e. none_not (sym (ap (next_at []) no_new) ∙ e)) refl (λ e. absurd (omega (arith, e))) low high (omega arith)

  head_same : head_in m' ≡ head_in m
  head_same =
      let ticket : m'.first + length m'.settled.results ≡ m.first + length m.settled.results = λ i. a.others.first i + a.settled i in
      λ i. label_at 0 0 (option_map (λ (t : Ticket). Admit t.0) (a.next i)) ++ label_at 0 0 (option_map (λ (r : EventResult). Commit (ticket i)) (a.ready i))

  parts_same : by_part m' (asked_at m') ≡ by_part m (asked_at m)
  parts_same =
      sym (same_numbered (asked_at m) (asked_at m') m'.first (length m'.cells) (λ u low high. asks_same u low high))
      ∙ (λ i. flat_map (asked_at m) (tickets_from (a.others.first i) (a.as_many i)))

  pub index_same : (index : List Ready) → IsIndex m index → IsIndex m' index
  index_same index e = e ∙ ap in_order (λ i. sym head_same i ++ sym parts_same i)

pub listed_same : (x y : Listed) → IsListed x → IsStood (kept_of x.engine) → Keeps (kept_of x.engine) (kept_of y.engine) → AsksTheSame (kept_of x.engine) (kept_of y.engine) → y.index.items ≡ x.index.items → y.done ≡ x.done → y.weight ≡ x.weight → IsListed y
listed_same x y listed stood keeps asks items done weight =
    let m = kept_of x.engine in
    let m' = kept_of y.engine in
    let heavy : weight_of m'.cells ≡ weight_of m.cells = weight_asks m m' asks in
    let was = listed.weight in
    record {
      index = subst (IsIndex m') (sym items) (index_same m m' asks x.index.items listed.index);
      done = subst (AreDone m') (sym done) (kept_done m m' x.done stood keeps listed.done);
      weight = omega (arith, heavy, was, weight);
    }

-- more room is no other list
pub listed_still : (x y : Listed) → SameList x y → IsListed x → IsListed y
listed_still x y same listed = record {
  index = subst (λ (e : Engine). IsIndex (kept_of e) y.index.items) (sym same.engine) (subst (IsIndex (kept_of x.engine)) (sym same.items) listed.index);
  done = subst (λ (e : Engine). AreDone (kept_of e) y.done) (sym same.engine) (subst (AreDone (kept_of x.engine)) (sym same.done) listed.done);
  weight = subst (λ (e : Engine). weight_of (kept_of e).cells ≤ y.weight) (sym same.engine) (subst (λ n. weight_of (kept_of x.engine).cells ≤ n) (sym same.weight) listed.weight);
}

pub room_same : (x y : Listed) (more : ℕ) → HasRoom x more → y.weight ≡ x.weight → vec_len y.index ≡ vec_len x.index → vec_capacity x.index ≤ vec_capacity y.index → HasRoom y more
room_same x y more h weight len capacity =
    let room = h.room in
    let fits = h.fits in
    record { room = omega (arith, room, weight, len, capacity); fits = omega (arith, fits, weight) }

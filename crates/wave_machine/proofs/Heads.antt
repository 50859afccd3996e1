-- What the head asks for is the first kind, and the last.
use Rattle.std.proofs.Common.{◌≡◌, ◌∙◌, ◌+◌, ◌&&◌, ◌==◌, ℕ, Bool, true, false, List, [], ◌++◌, length, map, Option, Some, None, refl, sym, ap, arith, true≢false}
use Rattle.std.specs.Prelude.{option_map, slice_get}
use Rattle.std.specs.List.{AllByRecursion}
use Rattle.wave_base.specs.declared.numbers.Ticket.{Ticket}
use Rattle.wave_base.specs.Fold.{tickets_from}
use Rattle.wave_base.specs.declared.outcome.EventResult.{EventResult}
use Rattle.commit_order.specs.Commits.{ready_result}
use Rattle.head_tickets.specs.Heads.{Heading, next_ticket}
use Rattle.wave_states.specs.Labels.{Label, Admit, Commit, ticket_of}
use Rattle.wave_theory.specs.Listed.{kind_rank}
use Rattle.wave_theory.proofs.Basics.{and_first, differ, number_is}
use Rattle.wave_machine.specs.declared.ready.Ready.{Ready}
use Rattle.wave_effects.specs.Apart.{Moves, on_head}
use Rattle.wave_effects.specs.Machines.{Kept}
use Rattle.wave_machine.specs.inner.Asking.{admit_labels, commit_labels, in_order, label_at, of_kind}
use Rattle.wave_machine.specs.inner.Index.{Goes, High, IsHead, IsInner, Low, by_none, head_in, head_of, is_admit, act_number}
use Rattle.wave_machine.proofs.Ordering.{all_filter, all_flat, all_map}
use Rattle.wave_machine.proofs.Parting.{at_place, first_none, is_slot}
use Rattle.wave_machine.proofs.Relisted.{IsFirst, IsLast}

pub admits_first : (h : Heading) → AllByRecursion IsFirst (admit_labels 0 h)
admits_first h = by_next (next_ticket h)
  where
    by_next : (o : Option Ticket) → AllByRecursion IsFirst (label_at 0 0 (option_map (λ t. Admit t.0) o))
    by_next None = tt
    by_next (Some t) = (refl, tt)

pub admit_goes : (h : Heading) (b : List Label) → AllByRecursion IsInner b → Goes (admit_labels 0 h) [] b
admit_goes h b inner = by_next (next_ticket h)
  where
    by_next : (o : Option Ticket) → Goes (label_at 0 0 (option_map (λ t. Admit t.0) o)) [] b
    by_next None = tt
    by_next (Some t) = (refl, (tt, all_map (High 0 t.0 0) IsInner (λ l x e. absurd (omega (arith, x.0, e))) b inner))

pub commit_goes : (m : Kept) (a : List Label) → AllByRecursion IsFirst a → (b : List Label) → AllByRecursion IsInner b → Goes (commit_labels 0 (m.first + length m.settled.results) m.commits) a b
commit_goes m a firsts b inner = by_ready (ready_result m.commits)
  where
    by_ready : (o : Option EventResult) → Goes (label_at 0 0 (option_map (λ r. Commit (m.first + length m.settled.results)) o)) a b
    by_ready None = tt
    by_ready (Some r) = (refl, (all_map (Low 9 (m.first + length m.settled.results) 0) IsFirst (λ l x e. absurd (omega (arith, x, e))) a firsts, all_map (High 9 (m.first + length m.settled.results) 0) IsInner (λ l x e. absurd (omega (arith, x.1, e))) b inner))

-- what a head asks for, by its ticket and by that of its result
pub admits_are : (o : Option ℕ) → AllByRecursion IsFirst (label_at 0 0 (option_map (λ t. Admit t) o))
admits_are None = tt
admits_are (Some t) = (refl, tt)

pub commits_are : (o : Option ℕ) → AllByRecursion IsLast (label_at 0 0 (option_map (λ t. Commit t) o))
commits_are None = tt
commits_are (Some t) = (refl, tt)

pub head_is : (m : Kept) → IsHead (head_in m)
head_is m = record {
  admit = option_map (λ (t : Ticket). t.0) (next_ticket m.head);
  commit = option_map (λ (r : EventResult). m.first + length m.settled.results) (ready_result m.commits);
  are = by_two (next_ticket m.head) (ready_result m.commits);
}
  where
    by_two : (o : Option Ticket) (p : Option EventResult) → label_at 0 0 (option_map (λ t. Admit t.0) o) ++ label_at 0 0 (option_map (λ r. Commit (m.first + length m.settled.results)) p)
        ≡ head_of (option_map (λ (t : Ticket). t.0) o) (option_map (λ (r : EventResult). m.first + length m.settled.results) p)
    by_two None None = refl
    by_two None (Some r) = refl
    by_two (Some t) None = refl
    by_two (Some t) (Some r) = refl

pub no_head : IsHead []
no_head = record { admit = None; commit = None; are = refl }

-- where the label is none that changes it, the head asks for the same
pub still : (changed : Bool) (m m' : Kept) (l : Label) → changed ≡ on_head l.act → {more : ℕ} → Moves m m' l more → changed ≡ false → head_in m ≡ head_in m'
still changed m m' l is moves off =
    let same = moves.head (sym is ∙ off) in
    let ticket : m.first + length m.settled.results ≡ m'.first + length m'.settled.results = λ i. sym moves.others.first i + sym same.settled i in
    λ i. label_at 0 0 (option_map (λ (t : Ticket). Admit t.0) (sym same.next i)) ++ label_at 0 0 (option_map (λ (r : EventResult). Commit (ticket i)) (sym same.ready i))

-- where the Admit of the next ticket stands first, it is the one that is asked for
pub admit_stands : (old : List Ready) (n : Option Ticket) (o : Option ℕ) (b : List Label) → AllByRecursion IsInner b → map by_none old ≡ in_order (label_at 0 0 (option_map (λ t. Admit t) o) ++ b) → is_admit n (slice_get old 0) ≡ true
    → label_at 0 0 (option_map (λ t. Admit t) o) ≡ label_at 0 0 (option_map (λ t. Admit t.0) n)
admit_stands old None o b inner e y = absurd (true≢false (sym y))
admit_stands old (Some t) None b inner e y = absurd (true≢false (sym y ∙ at_place 0 t.0 0 old [] (in_order b) e ∙ first_none 0 t.0 0 (in_order b) none))
  where
    none : AllByRecursion (λ (l : Label). is_slot 0 t.0 0 l.act ≡ false) (in_order b)
    none = all_flat (λ (l : Label). is_slot 0 t.0 0 l.act ≡ false) (λ k. of_kind k b) (λ k.
        all_filter (λ (l : Label). is_slot 0 t.0 0 l.act ≡ false) IsInner (λ (l : Label). kind_rank l.act == k) (λ l e h. ap (λ c. c && ((ticket_of l.act == t.0) && (act_number l.act == 0))) (differ (kind_rank l.act) 0 (λ is. let low = h.0 in omega (arith, is, low)))) b inner) (tickets_from 0 10)
admit_stands old (Some t) (Some u) b inner e y =
    let here : ((u == t.0) && (0 == 0)) ≡ true = sym (at_place 0 t.0 0 old [] (in_order (label_at 0 0 (Some (Admit u)) ++ b)) e) ∙ y in
    let same : u ≡ t.0 = number_is u t.0 (and_first (u == t.0) (0 == 0) here) in
    ap (λ k. label_at 0 0 (Some (Admit k))) same

-- Heads as they are kept, and the fold's.
use Rattle.std.proofs.Common.{◌≡◌, ◌<◌, ◌↔◌, ℕ, Bool, true, false, if◌then◌else◌, List, [], ◌∷◌, ◌++◌, length, None, IsSome, IsTrue, option_map, slice_get, All, refl, sym, ap, subst, ◌∙◌, arith, append-nil, le_refl, nat_lt}
use Rattle.std.proofs.lemmas.List.{append_cancel_left}
use Rattle.std.proofs.lemmas.List.Elements.{All-head, All-tail}
use Rattle.std.proofs.lemmas.Option.{slice_get_past}
use Rattle.wave_base.specs.declared.numbers.Ticket.{Ticket}
use Rattle.wave_base.specs.declared.script.Line.{Line}
use Rattle.wave_base.specs.Fold.{Head, next_batch, begun, next_job}
use Rattle.head_tickets.proofs.TicketLists.{begins}
use Rattle.head_tickets.specs.Heads.{Heading, head_of}
use Rattle.script_fold.specs.inner.Standing.{IsWaiting, IsReady}

pub ready_begun : (first : ℕ) (done : List Line) (w : Head Line) (h k : Heading) → IsWaiting first done w h → h.waiting ≡ [] → 0 < length h.later → head_of done k ≡ next_batch (head_of done h)
    → k.first ≡ h.first → k.admitted ≡ h.admitted → k.done ≡ h.done → IsReady first done w k
ready_begun first done w h k s none some fold same admitted done_is = by_later h.later refl
  where
    by_later : (l : List (List Line)) → h.later ≡ l → IsReady first done w k
    by_later [] e = let no : 0 < 0 = subst (λ (l : List (List Line)). 0 < length l) e some in absurd (omega arith)
    by_later (b ∷ bs) e =
        let begun_is : head_of done k ≡ record { known = done ++ b; later = bs; done = h.done } = fold ∙ sym (begins done b h.waiting bs h.later h.done none e s.done_is) in
        let waiting_is : k.waiting ≡ b = append_cancel_left done k.waiting b (ap (λ (h : Head Line). h.known) begun_is) in
        let later_is : k.later ≡ bs = ap (λ (h : Head Line). h.later) begun_is in
        let full : All (λ b. 0 < length b) (b ∷ bs) = subst (All (λ (b : List Line). 0 < length b)) e s.full in
        record {
          first_is = same ∙ s.first_is;
          admitted = admitted ∙ s.admitted;
          done_is = done_is ∙ s.done_is;
          head = fold ∙ s.head;
          waiting = subst (λ (b : List Line). 0 < length b) (sym waiting_is) (All-head (λ (b : List Line). 0 < length b) b bs full);
          full = subst (All (λ (b : List Line). 0 < length b)) (sym later_is) (All-tail (λ (b : List Line). 0 < length b) b bs full);
        }

last_is : (done : List Line) → next_batch (record { known = done; later = []; done = length done }) ≡ record { known = done; later = []; done = length done }
last_is done = by_test (nat_lt (length done) (length done))
  where
    by_test : (b : Bool) → (if b then record { known = done; later = []; done = length done } else begun (record { known = done; later = []; done = length done }) []) ≡ record { known = done; later = []; done = length done }
    by_test true = refl
    by_test false = refl

pub over_when : (first : ℕ) (done : List Line) (w : Head Line) (h : Heading) → IsWaiting first done w h → h.waiting ≡ [] → h.later ≡ [] → (w.known ≡ done) × (next_job w ≡ None)
over_when first done w h s none last =
    let head : head_of done h ≡ record { known = done; later = []; done = length done } = λ i. record { known = (ap (λ xs. done ++ xs) none ∙ append-nil done) i; later = last i; done = s.done_is i } in
    let w_is : w ≡ record { known = done; later = []; done = length done } = sym s.head ∙ ap next_batch head ∙ last_is done in
    (ap (λ (w : Head Line). w.known) w_is, ap next_job w_is ∙ slice_get_past done (length done) (le_refl (length done)))

pub none_later : (r : Bool) (l : List (List Line)) → IsTrue r ↔ (0 < length l) → r ≡ false → l ≡ []
none_later r [] h e = refl
none_later r (b ∷ bs) h e = let yes : r ≡ true = h.1 (omega arith) in cc

pub some_waits : (f : Line → Ticket) (w : List Line) → 0 < length w → IsSome (option_map f (slice_get w 0))
some_waits f [] h = absurd (omega arith)
some_waits f (x ∷ w) h = refl

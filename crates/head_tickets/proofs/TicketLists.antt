-- Tickets and jobs at the ends of lists.
use Rattle.std.proofs.Common.{IsNone, slice_get, false, cond, nat_lt, append-nil, ◌≡◌, ◌+◌, ℕ, zero, suc, List, [], ◌∷◌, ◌++◌, map, length, refl, sym, ap, ◌∙◌, arith, append_assoc, length-append}
use Rattle.std.proofs.lemmas.Bool.Decides.{nat_tests}
use Rattle.std.specs.Prelude.{option_map}
use Rattle.wave_base.specs.Fold.{Head, next_batch, tickets_from}
use Rattle.wave_base.specs.declared.numbers.Ticket.{Ticket}
use Rattle.wave_base.specs.declared.script.Line.{Line}
use Rattle.wave_base.specs.declared.script.Line.TheVariants.{Request}
use Rattle.wave_base.specs.declared.call.Call.{Call}
use Rattle.head_tickets.specs.Heads.{requests}

-- one ticket more
pub tickets_more : (t n : ℕ) → tickets_from t (suc n) ≡ tickets_from t n ++ (t + n) ∷ []
tickets_more t zero = ap (λ k. k ∷ []) (omega arith)
tickets_more t (suc n) =
    let next : suc t + n ≡ t + suc n = omega arith in
    ap (λ ts. t ∷ ts) (tickets_more (suc t) n ∙ ap (λ k. tickets_from (suc t) n ++ k ∷ []) next)

pub requests-append : (xs ys : List Call) → requests (xs ++ ys) ≡ requests xs ++ requests ys
requests-append [] ys = refl
requests-append (x ∷ xs) ys = ap (λ r. Request x ∷ r) (requests-append xs ys)

pub numbers-append : (xs ys : List Ticket) → map (λ t. t.0) (xs ++ ys) ≡ map (λ t. t.0) xs ++ map (λ t. t.0) ys
numbers-append [] ys = refl
numbers-append (x ∷ xs) ys = ap (λ r. x.0 ∷ r) (numbers-append xs ys)

-- the tickets of one call more, behind those that were there
pub one_ticket_more : (front : List ℕ) (ts us : List Ticket) (next t : ℕ) (ys : List Call) (c : Call) → us ≡ ts ++ (record { 0 = t }) ∷ [] → t ≡ next + length ys
    → map (λ t. t.0) ts ≡ front ++ tickets_from next (length ys) → map (λ t. t.0) us ≡ front ++ tickets_from next (length (ys ++ c ∷ []))
one_ticket_more front ts us next t ys c e at h =
    let n : length (ys ++ c ∷ []) ≡ suc (length ys) = omega (arith, length-append ys (c ∷ [])) in
    ap (λ us. map (λ t. t.0) us) e ∙ numbers-append ts (record { 0 = t } ∷ []) ∙ ap (λ ns. ns ++ t ∷ []) h
    ∙ append_assoc front (tickets_from next (length ys)) (t ∷ []) ∙ ap (λ k. front ++ (tickets_from next (length ys) ++ k ∷ [])) at
    ∙ ap (λ ns. front ++ ns) (sym (tickets_more next (length ys))) ∙ ap (λ k. front ++ tickets_from next k) (sym n)

pub one_request_more : (front all ws : List Line) (ys : List Call) (c : Call) → all ≡ ws ++ Request c ∷ [] → ws ≡ front ++ requests ys → all ≡ front ++ requests (ys ++ c ∷ [])
one_request_more front all ws ys c e h =
    e ∙ ap (λ x. x ++ Request c ∷ []) h ∙ append_assoc front (requests ys) (Request c ∷ []) ∙ ap (λ r. front ++ r) (sym (requests-append ys (c ∷ [])))

-- where all known jobs are done the fold begins the next batch
pub begins : (js b w : List Line) (bs l : List (List Line)) (d : ℕ) → w ≡ [] → l ≡ b ∷ bs → d ≡ length js
    → record { known = js ++ b; later = bs; done = d } ≡ next_batch (record { known = js ++ w; later = l; done = d })
begins js b w bs l d none some all =
    let full : nat_lt d (length (js ++ [])) ≡ false = grind (arith, nat_tests, append-nil js) in
    let h : Head Line = record { known = js ++ []; later = b ∷ bs; done = d } in
    let begun : Head Line = record { known = (js ++ []) ++ b; later = bs; done = d } in
    ap (λ k. record { known = k ++ b; later = bs; done = d }) (sym (append-nil js)) ∙ ap (λ t. cond t h begun) (sym full)
    ∙ (λ i. next_batch (record { known = js ++ sym none i; later = sym some i; done = d }))

-- where no job has the next ticket, none waits
pub none_waits : {A : Type 0} (f : Line → A) (w : List Line) → IsNone (option_map f (slice_get w 0)) → w ≡ []
none_waits f [] e = refl
none_waits f (x ∷ w) e = cc

use Rattle.std.proofs.Common.{◌≡◌, ◌∙◌, ℕ, suc, ◌<◌, List, [], ◌∷◌, length, slice_index_or, refl, sym, subst, rules, arith}
use Rattle.std.specs.List.{AllZip}
use Rattle.lock_counter.specs.Jobs.{IsDone}
use Rattle.lock_counter.proofs.many.run_all.Goals as goal

each_zip : {A B : Type 0} → (R : A → B → Type 0) (xs : List A) (ys : List B) → length ys ≡ length xs
    → ((i : ℕ) (x : A) (d : B) → i < length xs → x ≡ slice_index_or xs i x → R x (slice_index_or ys i d)) → AllZip R xs ys
each_zip R [] [] same each = tt
each_zip R [] (y ∷ ys) same each = absurd (omega arith)
each_zip R (x ∷ xs) [] same each = absurd (omega arith)
each_zip R (x ∷ xs) (y ∷ ys) same each = (each 0 x y (omega arith) refl, each_zip R xs ys (omega arith) (λ i z d lt is. each (suc i) z d (omega arith) is))

pub returns : goal.returns
returns g c =
    let v = c.in_ok-map_vec.field-0 in
    let same : length v.items ≡ length c.args.turns.items = search rules in
    each_zip (λ turn done. IsDone turn.job done) c.args.turns.items v.items same (λ i x d lt is.
    let e = (c.in_ok-map_vec.ensures.each i d lt).1 in
    subst (λ t. IsDone t.job (slice_index_or v.items i d)) (sym (is ∙ e.job_is x)) e.call.met)

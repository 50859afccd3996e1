-- Names with numbers, as an index map keeps them.
use Rattle.std.proofs.Common.{◌≡◌, ℕ, Bool, cond, nat_eq, List, [], ◌∷◌, ◌++◌, Some, None, is_some, if◌then◌else◌, Vec, Global, refl, sym, ap, ◌∙◌}
use Rattle.std.specs.Cmp.Lexicographic.{pointwise, nat_list_eq_equiv}
use Rattle.std.specs.Map.{lookup}
use Rattle.wave_base.specs.Names.{same_bytes}
use Rattle.indexmap.specs.IndexMap.{IndexMap, insert_entry}
use Rattle.indexmap.proofs.CallerLemmas.{insert_entry-new}
use Rattle.name_table.specs.Numbers.{pairs_of, first_number, numbers_with}

pub same_symm : (a b : List ℕ) → same_bytes a b ≡ same_bytes b a
same_symm a b = nat_list_eq_equiv.symm a b

pub lookup_first : (es : List (Vec ℕ Global × ℕ)) (name : List ℕ) → lookup (λ k. pointwise nat_eq name k.items) es ≡ first_number (pairs_of es) name
lookup_first [] name = refl
lookup_first (e ∷ es) name =
    ap (λ b. cond b (Some e.1) (lookup (λ k. pointwise nat_eq name k.items) es)) (same_symm name e.0.items)
    ∙ ap (λ o. cond (same_bytes e.0.items name) (Some e.1) o) (lookup_first es name)

pub pairs_push : (es : List (Vec ℕ Global × ℕ)) (k : Vec ℕ Global) (v : ℕ) → pairs_of (es ++ (k, v) ∷ []) ≡ pairs_of es ++ (k.items, v) ∷ []
pairs_push [] k v = refl
pairs_push (e ∷ es) k v = ap (λ l. (e.0.items, e.1) ∷ l) (pairs_push es k v)

abbrev pub same_items : Vec ℕ Global → Vec ℕ Global → Bool
same_items x y = pointwise nat_eq x.items y.items

-- a name that wasn't there goes last
pub pairs_noted : {S : Type 0} (m : IndexMap (Vec ℕ Global) ℕ S) (new : List (Vec ℕ Global × ℕ)) (k : Vec ℕ Global) (ps : List (List ℕ × ℕ)) (name : List ℕ) (number : ℕ)
    → pairs_of m.entries ≡ ps → k.items ≡ name → first_number ps name ≡ None → new ≡ insert_entry same_items m.entries k number → pairs_of new ≡ numbers_with ps name number
pairs_noted m new k ps name number view items none made =
    let absent : lookup (λ e. pointwise nat_eq k.items e.items) m.entries ≡ None = lookup_first m.entries k.items ∙ ap (first_number (pairs_of m.entries)) items ∙ ap (λ l. first_number l name) view ∙ none in
    let pushed : pairs_of new ≡ ps ++ (name, number) ∷ [] = ap pairs_of (made ∙ insert_entry-new same_items m k number absent) ∙ pairs_push m.entries k number ∙ (λ i. view i ++ (items i, number) ∷ []) in
    pushed ∙ sym (ap (λ o. if is_some o then ps else ps ++ (name, number) ∷ []) none)

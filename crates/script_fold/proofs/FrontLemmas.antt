-- The paths above a path.
use Rattle.std.proofs.Common.{◌≡◌, ◌<◌, ◌+◌, ℕ, Bool, List, [], ◌∷◌, ◌++◌, length, map, filter, take, get_or, refl, sym, ap, ◌∙◌}
use Rattle.std.proofs.lemmas.List.{map-append, take_more}
use Rattle.std.proofs.lemmas.List.Elements.{filter-append}
use Rattle.wave_base.specs.declared.path.Path.{Path}
use Rattle.wave_base.specs.declared.path.Step.{Step}
use Rattle.resolved_service.specs.Jobs.{fronts}

fronts_push : (p : List Step) (s : Step) → fronts (p ++ s ∷ []) ≡ fronts p ++ (p ++ s ∷ []) ∷ []
fronts_push [] s = refl
fronts_push (t ∷ p) s = ap (λ qs. [] ∷ qs) (ap (map (λ q. t ∷ q)) (fronts_push p s) ∙ map-append (λ (q : Path). t ∷ q) (fronts p) ((p ++ s ∷ []) ∷ []))

-- one front more
pub fronts_more : (test : Path → Bool) (p q : Path) (s : Step) (entered more : List Path) → q ≡ p ++ s ∷ [] → entered ≡ filter test (fronts p) → more ≡ entered ++ filter test (q ∷ []) → more ≡ filter test (fronts q)
fronts_more test p q s entered more q_is so_far e =
    e ∙ (λ i. so_far i ++ filter test (q_is i ∷ [])) ∙ sym (filter-append test (fronts p) ((p ++ s ∷ []) ∷ [])) ∙ ap (filter test) (sym (fronts_push p s) ∙ ap fronts (sym q_is))

pub front_turn : (items : List Step) (i : ℕ) (d : Step) (front q : Path) → i < length items → front ≡ take i items → q ≡ front ++ get_or items i d ∷ [] → q ≡ take (i + 1) items
front_turn items i d front q l front_is e = e ∙ ap (λ f. f ++ get_or items i d ∷ []) front_is ∙ sym (take_more items i d l)

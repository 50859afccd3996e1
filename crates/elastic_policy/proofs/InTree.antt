-- Moves of contexts and the tree of their hosts.
use Rattle.std.proofs.Common.{◌≡◌, ℕ, Bool, true, false, cond, ◌||◌, List, [], ◌∷◌, map, refl, ap, sym, subst, ◌∙◌}
use Rattle.std.specs.List.{AllByRecursion, filter, list_any}
use Rattle.wave_base.specs.declared.finished.Place.{Place}
use Rattle.wave_base.specs.declared.path.Path.{Path}
use Rattle.wave_base.specs.declared.script.Line.{Line}
use Rattle.wave_base.specs.declared.script.Line.TheVariants.{Request, Move, Snapshot}
use Rattle.wave_base.specs.Paths.{path_eq, is_above, parent_of}
use Rattle.wave_base.specs.PathLaws.{path_eq_equiv}
use Rattle.wave_base.specs.Places.{with_context, with_contexts, places_after}
use Rattle.wave_base.specs.Tree.{Tree, there, enter, put, at, shots}
use Rattle.elastic_policy.specs.Moves.{on_host, places_with, places_moved}
use Rattle.elastic_policy.specs.MoveFacts.{job_of, hosts_in, FollowsInTree}

-- ---- what is there is not entered again
or_more : (b c : Bool) → c ≡ true → (b || c) ≡ true
or_more true c e = refl
or_more false c e = e

any_more : (x : Path) (ps qs : List Path) → AllByRecursion (λ (q : Path). list_any (path_eq q) ps ≡ true) qs → AllByRecursion (λ (q : Path). list_any (path_eq q) (x ∷ ps) ≡ true) qs
any_more x ps [] h = tt
any_more x ps (q ∷ qs) h = (or_more (path_eq q x) (list_any (path_eq q) ps) h.0, any_more x ps qs h.1)

all_any : (ps : List Path) → AllByRecursion (λ (q : Path). list_any (path_eq q) ps ≡ true) ps
all_any [] = tt
all_any (p ∷ ps) = (ap (λ (b : Bool). b || list_any (path_eq p) ps) (path_eq_equiv.refl p), any_more p ps ps (all_any ps))

some_of : (f : Path → Bool) (P : Path → Type 0) (ps : List Path) → AllByRecursion P ps → AllByRecursion P (filter f ps)
some_of f P [] h = tt
some_of f P (p ∷ ps) h =
    elim (f p) as (λ t. AllByRecursion P (cond t (p ∷ filter f ps) (filter f ps))) [
      | true ↦ (h.0, some_of f P ps h.1)
      | false ↦ some_of f P ps h.1
    ]

stays : (t : Tree ℕ) (qs : List Path) → AllByRecursion (λ (q : Path). there t q ≡ true) qs → with_contexts t qs ≡ t
stays t [] h = refl
stays t (q ∷ qs) h =
    let one : with_context t q ≡ t = ap (λ (b : Bool). cond b t (put (enter t q) q (t.fields (parent_of q)))) h.0 in
    ap (λ (u : Tree ℕ). with_contexts u qs) one ∙ stays t qs h.1

-- ---- a move in the tree is a move of its context
abbrev set_host : Path → ℕ → Path × ℕ → Path × ℕ
set_host p h z = (z.0, cond (path_eq p z.0) h z.1)

shots_put : (f : Path → ℕ) (p : Path) (h : ℕ) (ps : List Path) → map (λ (q : Path). (q, at f p h q)) ps ≡ map (set_host p h) (map (λ (q : Path). (q, f q)) ps)
shots_put f p h [] = refl
shots_put f p h (q ∷ ps) = ap (λ (zs : List (Path × ℕ)). (q, at f p h q) ∷ zs) (shots_put f p h ps)

one_sent : (b : Bool) (h : ℕ) (x : Place × ℕ) → ◌≡◌ {A = Path × ℕ} (x.0.path, cond b h x.0.host.0) ((cond b (on_host h x) x).0.path, (cond b (on_host h x) x).0.host.0)
one_sent true h x = refl
one_sent false h x = refl

hosts_sent : (p : Path) (h : ℕ) (xs : List (Place × ℕ)) → map (set_host p h) (hosts_in xs) ≡ hosts_in (places_with xs p h)
hosts_sent p h [] = refl
hosts_sent p h (x ∷ xs) =
    ap (λ (z : Path × ℕ). z ∷ map (set_host p h) (hosts_in xs)) (one_sent (path_eq p x.0.path) h x)
    ∙ ap (λ (zs : List (Path × ℕ)). ((cond (path_eq p x.0.path) (on_host h x) x).0.path, (cond (path_eq p x.0.path) (on_host h x) x).0.host.0) ∷ zs) (hosts_sent p h xs)

put_sent : (t : Tree ℕ) (p : Path) (h : ℕ) (xs : List (Place × ℕ)) → shots t ≡ hosts_in xs → shots (put t p h) ≡ hosts_in (places_with xs p h)
put_sent t p h xs e = shots_put t.fields p h t.paths ∙ ap (map (set_host p h)) e ∙ hosts_sent p h xs

follows : (ps : List Path) (lines : List Line) (t : Tree ℕ) (xs : List (Place × ℕ)) → t.paths ≡ ps → shots t ≡ hosts_in xs →
    shots (places_after t (map (job_of ps) lines)) ≡ hosts_in (places_moved xs lines)
follows ps [] t xs e s = s
follows ps (Request call ∷ ms) t xs e s = follows ps ms t xs e s
follows ps (Snapshot ∷ ms) t xs e s = follows ps ms t xs e s
follows ps (Move p h ∷ ms) t xs e s =
    let entered = filter (λ (q : Path). is_above q p) ps in
    let own : AllByRecursion (λ (q : Path). list_any (path_eq q) ps ≡ true) entered = some_of (λ (q : Path). is_above q p) (λ (q : Path). list_any (path_eq q) ps ≡ true) ps (all_any ps) in
    let here : AllByRecursion (λ (q : Path). there t q ≡ true) entered = subst (λ (rs : List Path). AllByRecursion (λ (q : Path). list_any (path_eq q) rs ≡ true) entered) (sym e) own in
    let same : put (with_contexts t entered) p h.0 ≡ put t p h.0 = ap (λ (u : Tree ℕ). put u p h.0) (stays t entered here) in
    ap (λ (u : Tree ℕ). shots (places_after u (map (job_of ps) ms))) same
    ∙ follows ps ms (put t p h.0) (places_with xs p h.0) e (put_sent t p h.0 xs s)

pub follows_in_tree : (xs : List (Place × ℕ)) (lines : List Line) → FollowsInTree xs lines
follows_in_tree xs lines = λ t s. follows t.paths lines t xs refl s

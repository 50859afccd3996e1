-- What is kept of hosts and loads after a change.
use Rattle.std.proofs.Common.{◌≡◌, ◌≤◌, ℕ, suc, Bool, true, false, cond, if◌then◌else◌, ◌||◌, List, [], ◌∷◌, ◌++◌, length, Option, Some, None, is_some, unwrap_or, true≢false, refl, sym, ap, subst, subst₂, ◌∙◌}
use Rattle.std.proofs.lemmas.Map.Made.{is_some-lookup}
use Rattle.std.specs.BTreeMap.{is_at, insert_entry}
use Rattle.std.specs.BTreeSet.{insert_key}
use Rattle.std.specs.List.{list_any}
use Rattle.std.specs.Map.{keys_of}
use Rattle.std.specs.Ordering.{match_ordering}
use Rattle.std.specs.declared.cmp.Ordering.TheVariants.{Less, Equal, Greater}
use Rattle.wave_base.proofs.Trees.{enter_there, enter_sorted, there-enter}
use Rattle.wave_base.specs.declared.numbers.Host.{Host}
use Rattle.wave_base.specs.declared.path.Path.{Path}
use Rattle.wave_base.specs.declared.path.Step.{Step}
use Rattle.wave_base.specs.Paths.{path_eq, path_cmp, parent_of}
use Rattle.wave_base.specs.PathLaws.{path_eq_ties, path_eq_equiv, path_eq_decides}
use Rattle.wave_base.specs.Places.{with_context, with_contexts, load_of}
use Rattle.wave_base.specs.Tree.{Tree, there, enter, put}
use Rattle.script_fold.specs.declared.visits.Load.{Load}
use Rattle.script_fold.specs.declared.visits.Visits.{Visits}
use Rattle.script_fold.specs.inner.Visiting.{IsSeen, IsVisited, value_at, host_at, load_at, with_job, no_load}
use Rattle.script_fold.proofs.SeenLemmas.{seen_counted, some_counted}

pub parent_last : (p : List Step) (s : Step) → parent_of (p ++ s ∷ []) ≡ p
parent_last [] s = refl
parent_last (t ∷ []) s = refl
parent_last (t ∷ u ∷ p) s = ap (λ q. t ∷ q) (parent_last (u ∷ p) s)

-- a key is found where the paths are equal
pub at_path : (p k : Path) → is_at (path_cmp p) k ≡ path_eq k p
at_path p k = sym (path_eq_ties p k) ∙ path_eq_equiv.symm p k

-- something is kept at a path where the path is among the keys
pub found_is : {V : Type 0} (es : List (Path × V)) (p : Path) → is_some (value_at es p) ≡ list_any (path_eq p) (keys_of es)
found_is es p = is_some-lookup (is_at (path_cmp p)) es ∙ (λ i. list_any (λ k. sym (path_eq_ties p k) i) (keys_of es))

pub there_is : (hosts : Tree ℕ) (es : List (Path × Host)) (p : Path) → keys_of es ≡ hosts.paths → is_some (value_at es p) ≡ there hosts p
there_is hosts es p e = found_is es p ∙ ap (list_any (path_eq p)) e

or_true : (a : Bool) → (a || true) ≡ true
or_true true = refl
or_true false = refl

any_push_yes : (test : Path → Bool) (ps : List Path) (p : Path) → test p ≡ true → list_any test (ps ++ p ∷ []) ≡ true
any_push_yes test [] p h = ap (λ b. b || false) h
any_push_yes test (q ∷ ps) p h = ap (λ b. test q || b) (any_push_yes test ps p h) ∙ or_true (test q)

any_push_no : (test : Path → Bool) (ps : List Path) (p : Path) → test p ≡ false → list_any test (ps ++ p ∷ []) ≡ list_any test ps
any_push_no test [] p h = ap (λ b. b || false) h
any_push_no test (q ∷ ps) p h = ap (λ b. test q || b) (any_push_no test ps p h)

keys_joined : {V : Type 0} (p : Path) (v : V) (es : List (Path × V)) → keys_of (insert_entry path_cmp es p v) ≡ insert_key path_cmp (keys_of es) p
keys_joined p v [] = refl
keys_joined p v (e ∷ es) =
    elim (path_cmp p e.0) as (λ o. keys_of (match_ordering o ((p, v) ∷ e ∷ es) ((e.0, v) ∷ es) (e ∷ insert_entry path_cmp es p v)) ≡ match_ordering o (p ∷ e.0 ∷ keys_of es) (e.0 ∷ keys_of es) (e.0 ∷ insert_key path_cmp (keys_of es) p)) [
      | Less ↦ refl
      | Equal ↦ refl
      | Greater ↦ ap (λ ks. e.0 ∷ ks) (keys_joined p v es)
    ]

-- where one entry was set
abbrev pub Sets : {V : Type 0} → List (Path × V) → List (Path × V) → Path → V → Type 0
Sets es after p v = (q : Path) → value_at after q ≡ cond (is_at (path_cmp p) q) (Some v) (value_at es q)

module _ {V : Type 0} (es after : List (Path × V)) (p : Path) (v : V) (set : Sets es after p v) where
  found_after : (q : Path) → value_at after q ≡ (if path_eq q p then Some v else value_at es q)
  found_after q = set q ∙ ap (λ b. cond b (Some v) (value_at es q)) (at_path p q) ∙ by_test (path_eq q p)
    where
      by_test : (b : Bool) → cond b (Some v) (value_at es q) ≡ (if b then Some v else value_at es q)
      by_test true = refl
      by_test false = refl

  changed_by : (P : Path → Option V → Type 0) → P p (Some v) → ((q : Path) → path_eq q p ≡ false → P q (value_at es q)) → (q : Path) → P q (value_at after q)
  changed_by P here other q = subst (P q) (sym (found_after q)) (by_test (path_eq q p) refl)
    where
      by_test : (b : Bool) → path_eq q p ≡ b → P q (if b then Some v else value_at es q)
      by_test true e = subst (λ r. P r (Some v)) (sym ((path_eq_decides q p).0 e)) here
      by_test false e = other q e

-- ---- a context is there

same_context : (hosts : Tree ℕ) (p : Path) → there hosts p ≡ true → with_context hosts p ≡ hosts
same_context hosts p t = ap (λ b. if b then hosts else put (enter hosts p) p (hosts.fields (parent_of p))) t

new_context : (hosts : Tree ℕ) (p : Path) → there hosts p ≡ false → with_context hosts p ≡ put (enter hosts p) p (hosts.fields (parent_of p))
new_context hosts p t = ap (λ b. if b then hosts else put (enter hosts p) p (hosts.fields (parent_of p))) t

pub context_there : (hosts : Tree ℕ) (p : Path) → there (with_context hosts p) p ≡ true
context_there hosts p = by_there (there hosts p) refl
  where
    by_there : (b : Bool) → there hosts p ≡ b → there (with_context hosts p) p ≡ true
    by_there true t = ap (λ (h : Tree ℕ). there h p) (same_context hosts p t) ∙ t
    by_there false t = ap (λ (h : Tree ℕ). there h p) (new_context hosts p t) ∙ there-enter hosts p p ∙ ap (λ b. b || there hosts p) (path_eq_equiv.refl p)

-- what was there is there
still_there : (hosts : Tree ℕ) (p q : Path) → there hosts q ≡ true → there (put (enter hosts p) p (hosts.fields (parent_of p))) q ≡ true
still_there hosts p q t = there-enter hosts p q ∙ ap (λ b. path_eq q p || b) t ∙ or_true (path_eq q p)

-- one that is there
pub joined_known : (hosts : Tree ℕ) (earlier : List (List Path)) (now : List Path) (v after : Visits) (p : Path) → IsVisited hosts earlier now v → after.hosts ≡ v.hosts → after.loads ≡ v.loads → there hosts p ≡ true
    → IsVisited (with_context hosts p) earlier now after
joined_known hosts earlier now v after p h same same_loads t =
    subst₂ (λ (t : Tree ℕ) (v : Visits). IsVisited t earlier now v) (sym (same_context hosts p t)) (λ i. record { hosts = sym same i; loads = sym same_loads i }) h

-- a new one
pub joined_new : (hosts : Tree ℕ) (earlier : List (List Path)) (now : List Path) (v after : Visits) (p : Path) → IsVisited hosts earlier now v → after.loads ≡ v.loads → value_at v.hosts.entries p ≡ None
    → after.hosts.entries ≡ insert_entry path_cmp v.hosts.entries p (host_at v.hosts.entries (parent_of p)) → Sets v.hosts.entries after.hosts.entries p (host_at v.hosts.entries (parent_of p))
    → IsVisited (with_context hosts p) earlier now after
joined_new hosts earlier now v after p h same f ins set =
    let t : there hosts p ≡ false = sym (there_is hosts v.hosts.entries p h.paths) ∙ ap is_some f in
    let above = hosts.fields (parent_of p) in
    let host = host_at v.hosts.entries (parent_of p) in
    let loads : after.loads.entries ≡ v.loads.entries = λ i. (same i).entries in
    let visited : IsVisited (put (enter hosts p) p above) earlier now after = record {
      paths = ap keys_of ins ∙ keys_joined p host v.hosts.entries ∙ ap (λ ks. insert_key path_cmp ks p) h.paths;
      sorted = enter_sorted hosts p h.sorted;
      host = changed_by v.hosts.entries after.hosts.entries p host set (λ q o. (unwrap_or o (record { 0 = 0 })).0 ≡ (put (enter hosts p) p above).fields q)
          (h.host (parent_of p) ∙ sym (ap (λ b. if b then above else hosts.fields p) (path_eq_equiv.refl p)))
          (λ q e. h.host q ∙ sym (ap (λ b. if b then above else hosts.fields q) (path_eq_equiv.symm p q ∙ e)));
      seen = λ q. subst (λ ls. IsSeen (length earlier) (load_of earlier q) (list_any (path_eq q) now) (load_at ls q)) (sym loads) (h.seen q);
      within = λ q s. still_there hosts p q (h.within q (ap (λ ls. is_some (value_at ls q)) (sym loads) ∙ s));
      entered = λ q s. subst (λ ls. 1 ≤ (load_at ls q).count) (sym loads) (h.entered q (ap (λ ls. is_some (value_at ls q)) (sym loads) ∙ s));
    } in
    subst (λ (t : Tree ℕ). IsVisited t earlier now after) (sym (new_context hosts p t)) visited

-- ---- a job enters a context that is there

pub counted_visited : (hosts : Tree ℕ) (earlier : List (List Path)) (now : List Path) (v after : Visits) (job : ℕ) (p : Path) → job ≡ suc (length earlier) → IsVisited hosts earlier now v → there hosts p ≡ true → after.hosts ≡ v.hosts
    → Sets v.loads.entries after.loads.entries p (with_job job (load_at v.loads.entries p)) → IsVisited hosts earlier (now ++ p ∷ []) after
counted_visited hosts earlier now v after job p at h t same set =
    let l = load_at v.loads.entries p in
    let hosts_are : after.hosts.entries ≡ v.hosts.entries = λ i. (same i).entries in
    let counted : IsSeen (length earlier) (load_of earlier p) true (with_job job l) =
    subst (λ j. IsSeen (length earlier) (load_of earlier p) true (with_job j l)) (sym at) (seen_counted (length earlier) (load_of earlier p) (list_any (path_eq p) now) l (h.seen p)) in
    record {
      paths = ap keys_of hosts_are ∙ h.paths;
      sorted = h.sorted;
      host = λ q. ap (λ hs. (host_at hs q).0) hosts_are ∙ h.host q;
      seen = changed_by v.loads.entries after.loads.entries p (with_job job l) set (λ q o. IsSeen (length earlier) (load_of earlier q) (list_any (path_eq q) (now ++ p ∷ [])) (unwrap_or o no_load))
          (subst (λ m. IsSeen (length earlier) (load_of earlier p) m (with_job job l)) (sym (any_push_yes (path_eq p) now p (path_eq_equiv.refl p))) counted)
          (λ q e. subst (λ m. IsSeen (length earlier) (load_of earlier q) m (load_at v.loads.entries q)) (sym (any_push_no (path_eq q) now p e)) (h.seen q));
      within = changed_by v.loads.entries after.loads.entries p (with_job job l) set (λ q o. is_some o ≡ true → there hosts q ≡ true) (λ s. t) (λ q e. h.within q);
      entered = changed_by v.loads.entries after.loads.entries p (with_job job l) set (λ q o. is_some o ≡ true → 1 ≤ (unwrap_or o no_load).count)
          (λ s. some_counted (length earlier) (load_of earlier p) (with_job job l) counted) (λ q e. h.entered q);
    }

-- ---- a context moves

pub moved_visited : (hosts : Tree ℕ) (earlier : List (List Path)) (v after : Visits) (p : Path) (host : Host) → IsVisited hosts earlier [] v → after.loads ≡ v.loads → keys_of after.hosts.entries ≡ keys_of v.hosts.entries
    → Sets v.hosts.entries after.hosts.entries p host → IsVisited (put hosts p host.0) earlier [] after
moved_visited hosts earlier v after p host h same keys set =
    let loads : after.loads.entries ≡ v.loads.entries = λ i. (same i).entries in
    record {
      paths = keys ∙ h.paths;
      sorted = h.sorted;
      host = changed_by v.hosts.entries after.hosts.entries p host set (λ q o. (unwrap_or o (record { 0 = 0 })).0 ≡ (put hosts p host.0).fields q)
          (sym (ap (λ b. if b then host.0 else hosts.fields p) (path_eq_equiv.refl p)))
          (λ q e. h.host q ∙ sym (ap (λ b. if b then host.0 else hosts.fields q) (path_eq_equiv.symm p q ∙ e)));
      seen = λ q. subst (λ ls. IsSeen (length earlier) (load_of earlier q) false (load_at ls q)) (sym loads) (h.seen q);
      within = λ q s. h.within q (ap (λ ls. is_some (value_at ls q)) (sym loads) ∙ s);
      entered = λ q s. subst (λ ls. 1 ≤ (load_at ls q).count) (sym loads) (h.entered q (ap (λ ls. is_some (value_at ls q)) (sym loads) ∙ s));
    }

pub not_found : (hosts : Tree ℕ) (earlier : List (List Path)) (v : Visits) (p : Path) → IsVisited hosts earlier [] v → there hosts p ≡ true → value_at v.hosts.entries p ≡ None → ⊥
not_found hosts earlier v p h t f = let no : false ≡ true = ap is_some (sym f) ∙ there_is hosts v.hosts.entries p h.paths ∙ t in cc

pub no_entry : {V : Type 0} (es : List (Path × V)) (p : Path) → is_some (value_at es p) ≡ false → value_at es p ≡ None
no_entry {V} es p none = by_found (value_at es p) refl
  where
    by_found : (o : Option V) → value_at es p ≡ o → value_at es p ≡ None
    by_found (Some v) e = absurd (true≢false (sym (ap is_some e) ∙ none))
    by_found None e = e

pub contexts_push : (t : Tree ℕ) (ps : List Path) (p : Path) → with_contexts t (ps ++ p ∷ []) ≡ with_context (with_contexts t ps) p
contexts_push t [] p = refl
contexts_push t (q ∷ ps) p = contexts_push (with_context t q) ps p

-- One kind of actors within another: its runs are the same under other names; and how many segments a run has.
use Rattle.std.proofs.Common.{◌≡◌, ℕ, zero, suc, ◌+◌, if◌then◌else◌, inl, inr, Bool, true, false, List, [], ◌∷◌, ◌++◌, Option, Some, None, refl, sym, ◌∙◌, ap, ap₂, arith}
use Rattle.std.specs.Prelude.{All, option_map, is_some, unwrap_or}
use Rattle.std.specs.List.{filter}
use Rattle.wave_base.specs.declared.path.Step.{Step}
use Rattle.wave_base.specs.declared.path.Path.{Path}
use Rattle.wave_base.specs.Fold.{Ran}
use Rattle.wave_base.specs.Paths.{is_above, parent_of}
use Rattle.wave_base.specs.Tree.{Tree, enter}
use Rattle.wave_states.specs.Actors.{Actors, Left, Pause, Go, Down, Back, Over}
use Rattle.wave_states.specs.Alone.{Alone, has, into, goes_on, segment_alone, segment_if, next_alone, first_alone, after_segments, ended_alone, run_alone, count_from, segments_of}
use Rattle.wave_states.specs.Kinds.{Kind}
use Rattle.wave_states.specs.Owes.{Keeps, Looks, MovesOnly}
use Rattle.wave_states.proofs.Segments.{after_first, after_none, after_over}
use Rattle.wave_theory.proofs.Basics.{options, none_not}
use Rattle.plan_actors.specs.Renamed.{pause_as, left_as}

module _ {A F R J : Type 0} (sys : Actors A F R J) where
  -- as long as it is not over, the segments so far are counted, and then the rest
  pub count_both : (m k : ℕ) (x : Alone A F R) → (after_segments sys m x).result ≡ None → count_from sys (m + k) x ≡ m + count_from sys k (after_segments sys m x)
  count_both zero k x e = ap (λ n. count_from sys n x) (none k) ∙ ap (λ y. count_from sys k y) (sym (after_none sys x)) ∙ sym (none (count_from sys k (after_segments sys 0 x)))
    where
      none : (a : ℕ) → 0 + a ≡ a
      none a = omega arith
  count_both (suc m) k x e = elim (options x.result) [
    | inl z ↦ ap (λ n. count_from sys n x) (one m k)
        ∙ ap (λ o. if is_some o then 0 else suc (count_from sys (m + k) (next_alone sys x))) z
        ∙ ap suc (count_both m k (next_alone sys x) (ap (λ (y : Alone A F R). y.result) (sym (after_first sys m x)) ∙ e) ∙ ap (λ y. m + count_from sys k y) (sym (after_first sys m x)))
        ∙ sym (one m (count_from sys k (after_segments sys (suc m) x)))
    | inr z ↦ absurd (none_not (sym e ∙ after_over sys (suc m) x z.0 z.1))
  ]
    where
      one : (a b : ℕ) → suc a + b ≡ suc (a + b)
      one a b = omega arith

  -- the last segment counts
  pub count_last : (x : Alone A F R) → x.result ≡ None → count_from sys 1 x ≡ 1
  count_last x e = ap (λ o. if is_some o then 0 else 1) e

-- a run whose result has another name
abbrev pub ran_as : {F R S : Type 0} → (R → S) → Ran F R → Ran F S
ran_as say x = record { tree = x.tree; result = say x.result; entered = x.entered }

module _ {A B F R S J K : Type 0} (small : Actors A F R J) (big : Actors B F S K) (wrap : A → B) (say : R → S)
    (segments : (a : A) (f : F) (cs : List Step) → big.segment (wrap a) f cs ≡ left_as wrap say (small.segment a f cs)) (peeks : (a : A) → big.peeks (wrap a) ≡ small.peeks a) where
  abbrev pub image : Alone A F R → Alone B F S
  image x = record { actor = wrap x.actor; at = x.at; fresh = x.fresh; peek = x.peek; held = x.held; entered = x.entered; tree = x.tree; result = option_map say x.result }

  into_same : (x : Alone A F R) (a : A) (f : F) (q : Path) (peek : Bool) (kept : List Path) (was : Bool) → into (image x) (wrap a) f q peek kept was ≡ image (into x a f q peek kept was)
  into_same x a f q peek kept true = refl
  into_same x a f q peek kept false = refl

  goes_same : (x : Alone A F R) (a : A) (f : F) (why : Pause R) → goes_on big (image x) (wrap a) f (pause_as say why) ≡ image (goes_on small x a f why)
  goes_same x a f (Go s) = ap (λ peek. into (image x) (wrap a) f (x.at ++ s ∷ []) peek (filter (is_above (x.at ++ s ∷ [])) x.held) (has x.held (x.at ++ s ∷ []))) (peeks a)
      ∙ into_same x a f (x.at ++ s ∷ []) (small.peeks a) (filter (is_above (x.at ++ s ∷ [])) x.held) (has x.held (x.at ++ s ∷ []))
  goes_same x a f (Down s) = into_same x a f (x.at ++ s ∷ []) false x.held (has x.held (x.at ++ s ∷ []))
  goes_same x a f Back = refl
  goes_same x a f (Over r) = refl

  next_same : (x : Alone A F R) → next_alone big (image x) ≡ image (next_alone small x)
  next_same x = by x.result
    where
      by : (o : Option R) → segment_if big (image x) (option_map say o) ≡ image (segment_if small x o)
      by None = ap (λ (l : Left B F S). goes_on big (image x) l.actor l.fields l.pause) (segments x.actor (x.tree.fields x.at) _) ∙ goes_same x (segment_alone small x).actor (segment_alone small x).fields (segment_alone small x).pause
      by (Some r) = refl

  pub after_same : (k : ℕ) (x : Alone A F R) → after_segments big k (image x) ≡ image (after_segments small k x)
  unfolding after_segments
  after_same zero x = refl
  after_same (suc k) x = ap (next_alone big) (after_same k x) ∙ next_same (after_segments small k x)

  pub count_same : (k : ℕ) (x : Alone A F R) → count_from big k (image x) ≡ count_from small k x
  count_same zero x = refl
  count_same (suc k) x = by (count_same k (next_alone small x)) x.result
    where
      by : count_from big k (image (next_alone small x)) ≡ count_from small k (next_alone small x) → (o : Option R) → ◌≡◌ {A = ℕ} (if is_some (option_map say o) then 0 else suc (count_from big k (next_alone big (image x)))) (if is_some o then 0 else suc (count_from small k (next_alone small x)))
      by h None = ap suc (ap (count_from big k) (next_same x) ∙ h)
      by h (Some r) = refl

  module _ (j : J) (k : K) (t : ℕ) (tree : Tree F) (make : big.make k t ≡ wrap (small.make j t)) (enough : big.enough k t tree ≡ small.enough j t tree) where
    pub first_same : first_alone big k t tree ≡ image (first_alone small j t tree)
    first_same = ap (λ b. record { actor = b; at = []; fresh = true; peek = big.peeks b; held = [] ∷ []; entered = [] ∷ []; tree = enter tree []; result = None }) make
        ∙ ap (λ p. record { actor = wrap (small.make j t); at = []; fresh = true; peek = p; held = [] ∷ []; entered = [] ∷ []; tree = enter tree []; result = None }) (peeks (small.make j t))

    pub ended_same : ended_alone big t tree k ≡ image (ended_alone small t tree j)
    ended_same = ap₂ (λ n x. after_segments big n x) enough first_same ∙ after_same (small.enough j t tree) (first_alone small j t tree)

    pub ends_same : (r : R) → (ended_alone small t tree j).result ≡ Some r → (ended_alone big t tree k).result ≡ Some (say r)
    ends_same r e = ap (λ (y : Alone B F S). y.result) ended_same ∙ ap (option_map say) e

    -- the whole run, once it is over
    pub run_same : (r : R) → (ended_alone small t tree j).result ≡ Some r → run_alone big t tree k ≡ ran_as say (run_alone small t tree j)
    run_same r e =
        ap (λ (y : Alone B F S). record { tree = y.tree; result = unwrap_or y.result big.unended; entered = y.entered }) ended_same
        ∙ ap (λ o. record { tree = (ended_alone small t tree j).tree; result = unwrap_or (option_map say o) big.unended; entered = (ended_alone small t tree j).entered }) e
        ∙ ap (λ o. record { tree = (ended_alone small t tree j).tree; result = say (unwrap_or o small.unended); entered = (ended_alone small t tree j).entered }) (sym e)

    pub segments_same : segments_of big t tree k ≡ segments_of small t tree j
    segments_same = ap₂ (λ n x. count_from big n x) enough first_same ∙ count_same (small.enough j t tree) (first_alone small j t tree)

-- it keeps the protocol under other names too
module _ {A B F R S J K : Type 0} (small : Kind A F R J) (big : Kind B F S K) (wrap : A → B) (say : R → S)
    (segments : (a : A) (f : F) (cs : List Step) → big.system.segment (wrap a) f cs ≡ left_as wrap say (small.system.segment a f cs))
    (may_run : (a : A) (p : Path) (n : ℕ) → small.may_run a p n → big.may_run (wrap a) p n)
    (over : (p : Path) (r : R) → All small.is_job (small.system.created r) × MovesOnly small.hosts p (small.system.moved r) → All big.is_job (big.system.created (say r)) × MovesOnly big.hosts p (big.system.moved (say r))) where
  pub keeps_same : (a : A) (p : Path) (n : ℕ) (why : Pause R) → Keeps small a p n why → Keeps big (wrap a) p n (pause_as say why)
  keeps_same a p n (Go s) k = (k.0, may_run a (p ++ s ∷ []) 0 k.1)
  keeps_same a p n (Down s) k = may_run a (p ++ s ∷ []) (suc n) k
  keeps_same a p zero Back k = k
  keeps_same a p (suc n) Back k = may_run a (parent_of p) n k
  keeps_same a p zero (Over r) k = over p r k
  keeps_same a p (suc n) (Over r) k = over p r k

  -- and looks as it did
  pub looks_same : (a : A) (f : F) (cs : List Step) → ((r : R) → small.system.moved r ≡ None → big.system.moved (say r) ≡ None) → Looks small a f cs → Looks big (wrap a) f cs
  looks_same a f cs moved l = record {
    same = ap (λ (x : Left B F S). x.fields) (segments a f cs) ∙ l.same;
    blind = segments a f cs ∙ ap (left_as wrap say) l.blind ∙ sym (segments a f []);
    result = say l.result;
    over = ap (λ (x : Left B F S). x.pause) (segments a f cs) ∙ ap (pause_as say) l.over;
    stays = moved l.result l.stays;
  }

-- What a segment's end does to a ticket's mails and held paths.
use Rattle.std.proofs.Common.{◌≡◌, ℕ, suc, ◌<◌, ◌&&◌, not, inl, inr, nat_eq, Bool, true, false, Option, Some, None, is_some, List, [], ◌∷◌, refl, sym, ◌∙◌, ap, subst, arith, ◌≤◌, ◌⊎◌}
use Rattle.std.specs.Prelude.{cond, if◌then◌else◌}
use Rattle.wave_base.specs.declared.path.Path.{Path}
use Rattle.wave_base.specs.Paths.{path_eq}
use Rattle.wave_states.specs.Actors.{Actors}
use Rattle.wave_states.specs.States.{Hold, Release, Mail, Status, set, hold_at}
use Rattle.wave_states.specs.Desks.{Desk, send, release, give_up, kept_of, left_of, with_held}
use Rattle.wave_theory.proofs.Basics.{some_same, none_not, number_cases, path_self, path_cases, set_at, set_there, differ}
use Rattle.wave_theory.proofs.Order.{Way}
use Rattle.wave_theory.proofs.Leaves.{Course}
use Rattle.wave_theory.proofs.Tracks.{owner}
use Rattle.wave_theory.proofs.Maps.{hold_filter}
use Rattle.wave_theory.proofs.Frames.{not_is, option_some}
use Rattle.wave_theory.proofs.Alive
use Rattle.wave_theory.proofs.Shows
use Rattle.wave_theory.proofs.Held.{once_filter, number_in, hold_cons, number_out}

cond_some : {X : Type 0} (b : Bool) (o : Option X) (x : X) → cond b o None ≡ Some x → (b ≡ true) × (o ≡ Some x)
cond_some true o x e = (refl, e)
cond_some false o x e = absurd (none_not e)

is_cond : {X : Type 0} (b : Bool) (o : Option X) → is_some (cond b o None) ≡ (b && is_some o)
is_cond true o = refl
is_cond false o = refl

module _ {A F R J : Type 0} (sys : Actors A F R J) (w : Way) (course : Course sys) (low : ℕ) (is_real : ℕ → Type 0) (g' : Shows.Ghost F) (t : ℕ) where
  pub record DeskShows (d : Desk A F) (now : Path → Bool) (a : Option A) (st : Status) : Type 0 where
    pub actor : d.event.actor ≡ a
    pub status : d.event.status ≡ st
    pub held : (r : Path) → is_some (hold_at d.event.held r) ≡ now r
    pub where_held : (r : Path) (x : Hold) → hold_at d.event.held r ≡ Some x → (x.host ≡ owner (g'.trail r)) × ((g'.trail r).stored ≡ true) × (x.peek ≡ w.looks t r)
    pub once : Shows.Once d.event.held
    pub mails : (k : ℕ) (m : Mail F) → d.mails k ≡ Some m → Shows.MailShows sys w course low is_real g' t k m.host m.path m.letter
    pub unused : (k : ℕ) → d.event.sent < k → d.mails k ≡ None

  -- one more mail
  pub send_desk : (d : Desk A F) (now : Path → Bool) (a : Option A) (st : Status) (m : Mail F) → DeskShows d now a st → Shows.MailShows sys w course low is_real g' t (suc d.event.sent) m.host m.path m.letter → DeskShows (send d m) now a st
  send_desk d now a st m x new = record {
    actor = x.actor;
    status = x.status;
    held = x.held;
    where_held = x.where_held;
    once = x.once;
    mails = λ k n e. elim (number_cases (suc d.event.sent) k) [
      | inr z ↦ x.mails k n (sym (set_there nat_eq d.mails (suc d.event.sent) (Some m) k z) ∙ e)
      | inl z ↦ (let i : m ≡ n = some_same m n (sym (set_at d.mails (suc d.event.sent) (Some m)) ∙ subst (λ j. set nat_eq d.mails (suc d.event.sent) (Some m) j ≡ Some n) (sym z) e) in
          subst (λ j. Shows.MailShows sys w course low is_real g' t j n.host n.path n.letter) z (subst (λ (j : Mail F). Shows.MailShows sys w course low is_real g' t (suc d.event.sent) j.host j.path j.letter) i new))
    ];
    unused = λ k l. set_there nat_eq d.mails (suc d.event.sent) (Some m) k (differ (suc d.event.sent) k (λ e. omega arith)) ∙ x.unused k (omega arith);
  }

  -- what is known of a path that is released
  pub record Released (r : Path) (x : Hold) (n : ℕ) : Type 0 where
    pub host_is : x.host ≡ owner (g'.trail r)
    pub stored : (g'.trail r).stored ≡ true
    pub holds : g'.lines.holds r t ≡ true
    pub not_held : w.held t (g'.lines.pos t) r ≡ false
    pub number_is : n ≡ g'.parting t r

  pub release_desk : (xs : List (Path × Hold)) (d : Desk A F) (now : Path → Bool) (a : Option A) (st : Status) (old : Path → ℕ) → DeskShows d now a st → Shows.Once xs →
      ((r : Path) (x : Hold) → hold_at xs r ≡ Some x → Released r x (number_in xs d.event.sent (old r) r)) → DeskShows (release xs d) now a st
  release_desk [] d now a st old x o f = x
  release_desk (y ∷ xs) d now a st old x o f =
      release_desk xs (send d (record { host = y.1.host; path = y.0; letter = Release })) now a st old
      (send_desk d now a st (record { host = y.1.host; path = y.0; letter = Release }) x (let b = first in (record { holds = b.holds; not_held = b.not_held; number_is = sym number_first ∙ b.number_is; host_is = b.host_is }, b.stored))) o.1
      (λ r z e. let d : path_eq r y.0 ≡ false = apart r z e in
      let b = f r z (hold_cons y xs r ∙ ap (λ i. cond i (Some y.1) (hold_at xs r)) d ∙ e) in
      record { host_is = b.host_is; stored = b.stored; holds = b.holds; not_held = b.not_held; number_is = sym (number_later r d) ∙ b.number_is })
    where
      first : Released y.0 y.1 (number_in (y ∷ xs) d.event.sent (old y.0) y.0)
      first = f y.0 y.1 (hold_cons y xs y.0 ∙ ap (λ i. cond i (Some y.1) (hold_at xs y.0)) (path_self y.0))

      number_first : number_in (y ∷ xs) d.event.sent (old y.0) y.0 ≡ suc d.event.sent
      number_first = rw (path_self y.0) refl

      number_later : (r : Path) → path_eq r y.0 ≡ false → number_in (y ∷ xs) d.event.sent (old r) r ≡ number_in xs (suc d.event.sent) (old r) r
      number_later r d = rw d refl

      apart : (r : Path) (z : Hold) → hold_at xs r ≡ Some z → path_eq r y.0 ≡ false
      apart r z e = elim (path_cases r y.0) [ inr i ↦ i | inl i ↦ absurd (none_not (sym o.0 ∙ ap (hold_at xs) (sym i) ∙ e)) ]

  -- releases of what isn't kept
  pub give_up_desk : (keep : Path → Bool) (d : Desk A F) (now : Path → Bool) (a : Option A) (st : Status) (old : Path → ℕ) → DeskShows d now a st →
      ((r : Path) → keep r ≡ false → now r ≡ true → (g'.lines.holds r t ≡ true) × (w.held t (g'.lines.pos t) r ≡ false) × (number_in (left_of keep d.event.held) d.event.sent (old r) r ≡ g'.parting t r)) →
      DeskShows (give_up keep d) (λ r. keep r && now r) a st
  give_up_desk keep d now a st old x f = release_desk (left_of keep d.event.held) (record { event = with_held d.event (kept_of keep d.event.held); mails = d.mails }) (λ r. keep r && now r) a st old
      (record {
        actor = x.actor;
        status = x.status;
        held = λ r. ap is_some (hold_filter keep d.event.held r) ∙ is_cond (keep r) (hold_at d.event.held r) ∙ ap (λ b. keep r && b) (x.held r);
        where_held = λ r z e. x.where_held r z (cond_some (keep r) (hold_at d.event.held r) z (sym (hold_filter keep d.event.held r) ∙ e)).1;
        once = once_filter keep d.event.held x.once;
        mails = x.mails;
        unused = x.unused;
      })
      (once_filter (λ r. not (keep r)) d.event.held x.once)
      (λ r z e. let c = cond_some (not (keep r)) (hold_at d.event.held r) z (sym (hold_filter (λ i. not (keep i)) d.event.held r) ∙ e) in
      let h = x.where_held r z c.1 in
      let b = f r (not_is (keep r) c.0) (sym (x.held r) ∙ ap is_some c.1) in
      record { host_is = h.0; stored = h.1; holds = b.0; not_held = b.1; number_is = b.2 })

-- releases leave the earlier mails
pub keep_release : {A F : Type 0} (xs : List (Path × Hold)) (d : Desk A F) (k : ℕ) → k ≤ d.event.sent → (release xs d).mails k ≡ d.mails k
keep_release [] d k l = refl
keep_release (x ∷ xs) d k l = keep_release xs (send d (record { host = x.1.host; path = x.0; letter = Release })) k (omega arith) ∙ set_there nat_eq d.mails (suc d.event.sent) _ k (differ (suc d.event.sent) k (λ e. omega arith))

-- and each of them is there
pub found_release : {A F : Type 0} (xs : List (Path × Hold)) (d : Desk A F) (old : ℕ) (r : Path) (x : Hold) → hold_at xs r ≡ Some x → Alive.PartingThere (release xs d).mails (number_in xs d.event.sent old r) r
found_release [] d old r x e = absurd (none_not e)
found_release {A} {F} (y ∷ xs) d old r x e = elim (path_cases r y.0) [
  | inl z ↦ record {
    mail = m;
    there = ap (release xs (send d m)).mails (ap (λ j. if j then suc d.event.sent else number_in xs (suc d.event.sent) old r) (subst (λ q. path_eq r q ≡ true) z (path_self r))) ∙ keep_release xs (send d m) (suc d.event.sent) (omega arith) ∙ set_at d.mails (suc d.event.sent) (Some m);
    path_is = sym z;
    letter = inl refl;
  }
  | inr z ↦ (let i = found_release xs (send d m) old r x (ap (λ j. cond j (Some y.1) (hold_at xs r)) (sym z) ∙ sym (hold_cons y xs r) ∙ e) in
      record { mail = i.mail; there = ap (release xs (send d m)).mails (ap (λ j. if j then suc d.event.sent else number_in xs (suc d.event.sent) old r) z) ∙ i.there; path_is = i.path_is; letter = i.letter })
]
  where
    m : Mail F
    m = record { host = y.1.host; path = y.0; letter = Release }

-- what a desk gives up is released, and what it gave up before is still there
pub give_up_there : {A F : Type 0} (keep : Path → Bool) (d : Desk A F) (old : Path → ℕ) (r : Path) → ((keep r ≡ false) × (is_some (hold_at d.event.held r) ≡ true)) ⊎ ((hold_at d.event.held r ≡ None) × Alive.PartingThere d.mails (old r) r × (old r ≤ d.event.sent)) →
    Alive.PartingThere (give_up keep d).mails (number_in (left_of keep d.event.held) d.event.sent (old r) r) r
give_up_there keep d old r (inl e) = (let o = option_some (hold_at d.event.held r) e.1 in
    found_release (left_of keep d.event.held) (record { event = with_held d.event (kept_of keep d.event.held); mails = d.mails }) (old r) r o.0 (hold_filter (λ i. not (keep i)) d.event.held r ∙ ap (λ j. cond (not j) (hold_at d.event.held r) None) e.0 ∙ o.1))
give_up_there keep d old r (inr e) = record {
  mail = e.1.mail;
  there = ap (give_up keep d).mails (number_out (left_of keep d.event.held) d.event.sent (old r) r (hold_filter (λ i. not (keep i)) d.event.held r ∙ ap (λ o. cond (not (keep r)) o None) e.0 ∙ cond_none (not (keep r)))) ∙ keep_release (left_of keep d.event.held) (record { event = with_held d.event (kept_of keep d.event.held); mails = d.mails }) (old r) e.2 ∙ e.1.there;
  path_is = e.1.path_is;
  letter = e.1.letter;
}
  where
    cond_none : (i : Bool) → ◌≡◌ {A = Option Hold} (cond i None None) None
    cond_none true = refl
    cond_none false = refl

-- an earlier mail after one more
pub sent_there : {A F : Type 0} (d : Desk A F) (m : Mail F) (i : ℕ) (r : Path) → Alive.PartingThere d.mails i r → i ≤ d.event.sent → Alive.PartingThere (send d m).mails i r
sent_there d m i r o l = record { mail = o.mail; there = set_there nat_eq d.mails (suc d.event.sent) (Some m) i (differ (suc d.event.sent) i (λ e. omega arith)) ∙ o.there; path_is = o.path_is; letter = o.letter }

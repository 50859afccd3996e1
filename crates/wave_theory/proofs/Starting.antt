-- Starts keep what the state shows.
use Rattle.std.proofs.Common.{◌≡◌, ℕ, ◌<◌, ◌≤◌, ◌&&◌, not, inl, inr, nat_eq, Bool, true, false, Some, None, is_some, [], refl, sym, ◌∙◌, ap, subst, arith, suc, ap₂}
use Rattle.std.specs.List.{AllByRecursion}
use Rattle.wave_base.specs.declared.path.Path.{Path}
use Rattle.wave_base.specs.Paths.{path_eq}
use Rattle.wave_states.specs.Actors.{Actors}
use Rattle.wave_states.specs.States.{State, Entry, Event, Record, Ready, Running, set, hold_at, holds_as_peek, is_peek_in}
use Rattle.wave_states.specs.Steps.{Bench, with_bench, after_start, with_body, left_by, seen_by, part_of}
use Rattle.wave_theory.proofs.Basics.{clash, some_same, none_not, some_not, path_cases, set_at, set_there, set_at_path}
use Rattle.wave_theory.proofs.Order.{Way, IsWay, Stage, Entering, Lined, Coming, There, Done, is_pending, here, rank}
use Rattle.wave_theory.proofs.Leaves.{Course, IsCourse}
use Rattle.wave_theory.proofs.Opened.{Starts}
use Rattle.wave_theory.proofs.Own.{mail_own}
use Rattle.wave_theory.proofs.Found.{Found, found, changed}
use Rattle.wave_theory.proofs.Frames.{update, at_spot, holds_spot, option_some}
use Rattle.wave_theory.proofs.Alive
use Rattle.wave_theory.proofs.Tallies
use Rattle.wave_theory.proofs.Deeds
use Rattle.wave_states.specs.Labels
use Rattle.wave_theory.proofs.Shows
use Rattle.wave_theory.proofs.Stages.{there_coming, there_done, there_entering, there_lined}

-- who is ready is at its context, with no segment out
pub ready_now : (v : Stage) (o : Bool) (p q : Path) → Shows.StatusShows (Ready p) v o q → (v ≡ There) × (p ≡ q) × (o ≡ false)
ready_now There o p q z = (refl, z.0, z.1)
ready_now Entering o p q z = absurd z
ready_now Lined o p q z = absurd z
ready_now Coming o p q z = absurd z
ready_now Done o p q z = absurd z

module _ {A F R J : Type 0} (sys : Actors A F R J) (w : Way) (law : IsWay w) (course : Course sys) (low : ℕ) (is_real : ℕ → Type 0) (courses : IsCourse sys w course low is_real) where
  abbrev sent_out : Shows.Ghost F → ℕ → Path → ℕ → Bool → Record F → Shows.Ghost F
  sent_out g t p v peek b = record { lines = g.lines; out = set nat_eq g.out t true; worker = set nat_eq g.worker t v; main = g.main; parting = g.parting; entry = set path_eq g.entry p (with_body (g.entry p) (left_by peek b)); body = g.body; born = g.born; trail = g.trail }

  module _ (s : State A F R J) (g : Shows.Ghost F) (x : Shows.Shows sys w course low is_real s g) (t : ℕ) (p : Path) (h v : ℕ) (y : Bench A F R) (q : Starts t p h (part_of s t p) y) (lt : low < t) (la : t ≤ g.lines.admitted) where
    f : Found sys w course low is_real g p (s.columns p) h q.entry
    f = found sys w course low is_real g p (s.columns p) h q.entry (x.columns p) q.entry_is

    en : Shows.EntryShows sys w course low is_real g p
    en = x.entries p

    c : Shows.CellShows sys w course low is_real g t (s.cells t)
    c = x.cells t lt la

    same : q.event ≡ c.event
    same = some_same _ _ (sym q.event_is ∙ c.event_is)

    at_it : (g.lines.stage t ≡ There) × (p ≡ here w g.lines t) × (g.out t ≡ false)
    at_it = ready_now (g.lines.stage t) (g.out t) p (here w g.lines t) (subst (λ u. Shows.StatusShows u (g.lines.stage t) (g.out t) (here w g.lines t)) (sym (ap (λ u. u.status) same) ∙ q.ready) c.status)

    holds_p : g.lines.holds p t ≡ true
    holds_p = subst (λ r. g.lines.holds r t ≡ true) (sym at_it.1) (holds_spot sys w law course low is_real g x.good t (omega arith) la (λ e. there_done (sym at_it.0 ∙ e)) (ap is_pending at_it.0))

    in_hand_p : Shows.in_hand sys w course low is_real g t p ≡ true
    in_hand_p = ap (λ u. w.held t (g.lines.pos t) p && not (is_pending u && path_eq (here w g.lines t) p)) at_it.0 ∙ and_true _ (subst (λ r. w.held t (g.lines.pos t) r ≡ true) (sym at_it.1) (at_spot sys w law course low is_real g x.good t la (λ e. there_done (sym at_it.0 ∙ e))))
      where
        and_true : (a : Bool) → a ≡ true → (a && true) ≡ true
        and_true a e = grind arith

    -- it holds the context as a peek exactly where it only looks there
    peek_is : holds_as_peek q.event.held p ≡ w.looks t p
    peek_is = (let o = option_some (hold_at c.event.held p) (c.held p ∙ in_hand_p) in ap (λ (u : Event A). holds_as_peek u.held p) same ∙ ap is_peek_in o.1 ∙ (c.where_held p o.0 o.1).2)

    abbrev gs : Shows.Ghost F
    gs = sent_out g t p v (holds_as_peek q.event.held p) q.body

    out_s : (gs).out t ≡ true
    out_s = set_at g.out t true

    body_is : q.body ≡ g.body p
    body_is = en.body q.body (ap (λ (u : Entry F). u.body) (sym f.entry_is) ∙ q.body_is)

    entry_now : (gs).entry p ≡ with_body (g.entry p) (left_by (holds_as_peek q.event.held p) q.body)
    entry_now = set_at_path g.entry p _

    pub frame : Shows.Frame sys w course low is_real g gs t p v
    frame = record {
      admitted = omega arith;
      stage = λ b n. refl;
      pos = λ b n. refl;
      out = λ b n. set_there nat_eq g.out t true b n;
      worker = λ b n. set_there nat_eq g.worker t v b n;
      main = λ b n. refl;
      parting = λ b r n. refl;
      holds = λ b r n. refl;
      holds_there = λ b r n. refl;
      entry = λ r d. set_there path_eq g.entry p _ r d;
      body = λ r d. refl;
      born = λ r d. refl;
      served = λ r d. refl;
      given = λ r i d. refl;
      trail = λ r d. inl refl;
      birth = refl;
      longer = λ b n. inl refl;
      entry_moving = λ b n m u. absurd (clash _ f.stored u);
      body_shared = λ b n m. refl;
      born_known = λ r i z u. subst (λ a. g.born a ≡ false) z ((x.entries r).strangers i u);
      lined = λ r d z u. absurd (there_lined (sym at_it.0 ∙ z));
      away = λ r d z u. absurd (clash _ z at_it.2);
      hand = λ u n z i. absurd (clash _ z at_it.2);
    }

    cell : Shows.CellShows sys w course low is_real gs t (after_start t p h (part_of s t p) q.event q.entry q.actor q.body).part.cell
    cell = record {
      event = record { actor = None; held = q.event.held; sent = q.event.sent; status = Running p };
      event_is = refl;
      status = subst (λ z. Shows.StatusShows (Running p) z ((gs).out t) (here w g.lines t)) (sym at_it.0) (at_it.1, out_s);
      actor = λ z. absurd (clash _ out_s z);
      held = λ r. ap (λ u. is_some (hold_at u.held r)) same ∙ c.held r;
      where_held = λ r i z. c.where_held r i (ap (λ a. hold_at a.held r) (sym same) ∙ z);
      once = subst (λ u. Shows.Once u.held) (sym same) c.once;
      result = c.result;
      mails = λ i m z. mail_own sys w course low is_real g gs t i m.host m.path m.letter (record { no_enter = λ a u. there_entering (sym at_it.0 ∙ u.stage); no_coming = λ u. there_coming (sym at_it.0 ∙ u.stage) })
          (λ u. record {
            not_held = λ a. a;
            parting = refl;
            holds = u.holds;
            trail = refl;
            entry = λ a. elim (path_cases p m.path) [
              | inr d ↦ set_there path_eq g.entry p _ m.path d
              | inl d ↦ absurd (clash _ (subst (λ b. (g.trail b).stored ≡ true) d f.stored) a)
            ];
          }) (c.mails i m z);
      unused = λ i l. c.unused i (subst (λ u. u.sent < i) same l);
      real = c.real;
    }

    left_none : (i : Bool) (b : Record F) → left_by i b ≡ None → i ≡ false
    left_none true b e = absurd (some_not e)
    left_none false b e = refl

    left_some : (i : Bool) (b r : Record F) → left_by i b ≡ Some r → b ≡ r
    left_some true b r e = some_same b r e
    left_some false b r e = absurd (none_not e)

    entry : Shows.EntryShows sys w course low is_real gs p
    entry = record {
      served = ap (λ z. z.served) entry_now ∙ en.served;
      holders = λ b. ap (λ z. Shows.holds_claim z.holders b) entry_now ∙ en.holders b;
      peeks = subst (λ z. AllByRecursion (λ c. c.peek ≡ w.looks c.ticket p) z.holders) (sym entry_now) en.peeks;
      later = en.later;
      waits = λ j cl z. let i = en.waits j cl (ap (λ u. u.waiting j) (sym entry_now) ∙ z) in record { known = i.known; later = i.later; stage = i.stage; place = i.place; number = i.number; peek = i.peek };
      away = λ z. record { ticket = t; holds = holds_p; looks = sym peek_is ∙ left_none _ q.body (ap (λ u. u.body) (sym entry_now) ∙ z); out = out_s; place = sym at_it.1 };
      body = λ r z. sym (left_some _ q.body r (ap (λ u. u.body) (sym entry_now) ∙ z)) ∙ body_is;
      given = en.given;
      births = en.births;
      strangers = en.strangers;
      unborn = λ z. absurd (clash _ f.born z);
      moves = ap (λ z. z.moves) entry_now ∙ en.moves;
    }

    column : Shows.ColumnShows sys w course low is_real (g.born p) gs p (after_start t p h (part_of s t p) q.event q.entry q.actor q.body).part.column
    column = changed sys w course low is_real g gs p (s.columns p) h q.entry (with_body q.entry (left_by (holds_as_peek q.event.held p) q.body)) f refl refl (entry_now ∙ ap (λ z. with_body z (left_by (holds_as_peek q.event.held p) q.body)) (sym f.entry_is))

    seen_fields : (i : Bool) (b : Record F) → (seen_by i b).fields ≡ b.fields
    seen_fields true b = refl
    seen_fields false b = refl

    seen_whole : (i : Bool) (b : Record F) → i ≡ false → seen_by i b ≡ b
    seen_whole i b e = ap (λ u. seen_by u b) e

    seen_bare : (i : Bool) (b : Record F) → i ≡ true → (seen_by i b).children ≡ []
    seen_bare i b e = ap (λ u. (seen_by u b).children) e

    hand : Shows.HandShows sys w course low is_real gs v (record { ticket = t; path = p; actor = q.actor; body = seen_by (holds_as_peek q.event.held p) q.body })
    hand = record {
      known = la;
      later = lt;
      out = out_s;
      worker = sym (set_at g.worker t v);
      stage = at_it.0;
      place = at_it.1;
      actor = sym q.actor_is ∙ ap (λ u. u.actor) same ∙ c.actor at_it.2;
      fields = seen_fields _ q.body ∙ ap (λ u. u.fields) body_is;
      whole = λ e. seen_whole _ q.body (peek_is ∙ e) ∙ body_is;
      bare = λ e. seen_bare _ q.body (peek_is ∙ e);
    }

    pub start_shows : Shows.Shows sys w course low is_real (with_bench s t p v y) gs
    start_shows = subst (λ z. Shows.Shows sys w course low is_real (with_bench s t p v z) gs) q.gives (update sys w law course low is_real s g gs t p v (after_start t p h (part_of s t p) q.event q.entry q.actor q.body) x frame
        (record { within = x.good.within; going = x.good.going; ended = x.good.ended; is_fresh = x.good.is_fresh; sends = x.good.sends; grants = x.good.grants; first = x.good.first; let_in = x.good.let_in; keeps = x.good.keeps; alone = x.good.alone; latest = x.good.latest })
        (record { held = x.kept.held; calm = x.kept.calm }) refl lt la cell entry column (λ hd z. subst (Shows.HandShows sys w course low is_real gs v) (some_same _ hd z) hand) x.root)

    pub start_turn : Deeds.Turn sys w course low is_real s g gs (Labels.Start t p)
    start_turn = record { deed = Deeds.Rests; suits = tt; is = refl; fits = tt; kids = λ r i a z. inl z }

    pub start_tally : (n : ℕ → ℕ) → Tallies.Tally sys w course low is_real g n → Tallies.Tally sys w course low is_real gs (set nat_eq n t (suc (n t)))
    start_tally n y = Tallies.tally_update sys w course low is_real g gs t p v n frame refl lt la y
        (Tallies.stage_more sys w course low is_real g gs t refl (λ i l. refl) (ap₂ (λ u o. Tallies.stage_part (w.fresh t (g.lines.pos t)) u o) at_it.0 (set_at g.out t true) ∙ by (w.fresh t (g.lines.pos t)) ∙ sym (ap₂ (λ u o. suc (Tallies.stage_part (w.fresh t (g.lines.pos t)) u o)) at_it.0 at_it.2)))
        (λ z. absurd (there_coming (sym at_it.0 ∙ z)))
      where
        by : (f : Bool) → Tallies.stage_part f There true ≡ suc (Tallies.stage_part f There false)
        by true = refl
        by false = refl

    pub start_alive : Alive.Alive sys w course low is_real s g → s.hands v ≡ None → Alive.Alive sys w course low is_real (with_bench s t p v y) gs
    start_alive a idle = subst (λ z. Alive.Alive sys w course low is_real (with_bench s t p v z) gs) q.gives (Alive.alive_update sys w course low is_real s g gs t p v (after_start t p h (part_of s t p) q.event q.entry q.actor q.body) x frame refl la lt a
        (λ b cl n z vb. ap (λ (u : Entry F). u.waiting (rank w p b)) entry_now ∙ z)
        (λ hd z. absurd (none_not (sym idle ∙ z)))
        (record {
          entering = λ z. absurd (there_entering (sym at_it.0 ∙ z));
          coming = λ z. absurd (there_coming (sym at_it.0 ∙ z));
          parting = λ r hd n. (a.one t lt la).parting r hd n;
          lined = λ z. absurd (there_lined (sym at_it.0 ∙ z));
        })
        (λ z. record { hand = record { ticket = t; path = p; actor = q.actor; body = seen_by (holds_as_peek q.event.held p) q.body }; there = ap (set nat_eq s.hands v (Some (record { ticket = t; path = p; actor = q.actor; body = seen_by (holds_as_peek q.event.held p) q.body }))) (set_at g.worker t v) ∙ set_at s.hands v (Some (record { ticket = t; path = p; actor = q.actor; body = seen_by (holds_as_peek q.event.held p) q.body })); ticket_is = refl }) (λ r d hd n. n) (λ b e. let o = a.away p b e in record { ticket = o.ticket; holds = o.holds; not_held = o.not_held }) (a.few p) (λ e. e) (Alive.kids_same sys w course low is_real g gs p refl (λ st e. e) refl (a.kids p)) a.housed (a.no_zero t) law)

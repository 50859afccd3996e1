-- In what the parts of a state agree.
use Rattle.std.proofs.Common.{◌≡◌, ℕ, suc, ◌<◌, ◌≤◌, ◌⊎◌, ◌&&◌, ◌||◌, not, inl, inr, nat_eq, Bool, true, false, Some, None, is_some, List, [], ◌∷◌, refl, sym, ◌∙◌, ap, ap₂, subst, arith}
use Rattle.std.specs.Prelude.{All}
use Rattle.std.specs.List.{AllByRecursion}
use Rattle.wave_base.specs.declared.path.Path.{Path}
use Rattle.wave_base.specs.Paths.{path_eq}
use Rattle.wave_states.specs.States.{State, Ask, Cell, Claim, Entry, Event, Hand, Mail, Status, Travelling, Ended, Waiting, Ready, Running, Letter, Enter, Visit, Back, Release, Transfer, hold_at}
use Rattle.wave_states.specs.Alone.{Alone, after_segments}
use Rattle.wave_states.specs.Begins.{Begin}
use Rattle.wave_states.specs.Kinds.{Kind}
use Rattle.wave_states.specs.Owes.{Owes, IsBegin}
use Rattle.wave_theory.proofs.Basics.{clash, some_same, none_not, bool_cases, options, number_self}
use Rattle.wave_theory.proofs.Order.{Way, IsWay, visits, Stage, Entering, Lined, Coming, There, Done, is_pending, here}
use Rattle.wave_theory.proofs.Ranks.{rank_same}
use Rattle.wave_theory.proofs.Leaves.{Course}
use Rattle.wave_theory.proofs.Tracks.{owner}
use Rattle.wave_theory.proofs.Frames.{option_some, holds_spot, entered_spot, visits_of}
use Rattle.wave_theory.proofs.Found.{found}
use Rattle.wave_theory.proofs.Plans
use Rattle.wave_theory.proofs.Courses.{View, view, view_real}
use Rattle.wave_theory.proofs.Courses
use Rattle.wave_theory.proofs.Shows
use Rattle.wave_theory.proofs.Told
use Rattle.wave_theory.proofs.AsAlone.{claim_in, in_claims}
use Rattle.wave_theory.proofs.Spent.{OnceIn}
use Rattle.wave_theory.proofs.Spent
use Rattle.wave_theory.proofs.GoodStates.{Good_state}
use Rattle.wave_theory.proofs.GoodStates
use Rattle.wave_theory.specs.Numbers.{HasEntry}
use Rattle.wave_theory.specs.Listed.{IsIn}
use Rattle.wave_theory.specs.Agree.{Agree, IsHolder, IsAway}
use Rattle.wave_theory.proofs.Stages.{coming_done, entering_done, lined_done, lined_entering, there_done}

-- the only claim
one_claim : (hs : List Claim) (c : Claim) → OnceIn hs → IsIn hs c → ((d : Claim) → IsIn hs d → d.ticket ≡ c.ticket) → hs ≡ c ∷ []
one_claim [] c o i f = absurd i
one_claim (d ∷ []) c o (inl e) f = ap (λ x. x ∷ []) e
one_claim (d ∷ []) c o (inr e) f = absurd e
one_claim (d ∷ e ∷ hs) c o i f = absurd (clash _ (ap (λ j. j || Shows.holds_claim hs d.ticket) (subst (λ n. nat_eq e.ticket n ≡ true) (f e (inr (inl refl)) ∙ sym (f d (inl refl))) (number_self e.ticket))) o.0)

-- the end of an event and its status
pub ended_done : (st : Status) (v : Stage) (o : Bool) (p : Path) → Shows.StatusShows st v o p → st ≡ Ended → v ≡ Done
ended_done Ended Done o p z e = refl
ended_done Ended Entering o p z e = absurd z
ended_done Ended Lined o p z e = absurd z
ended_done Ended Coming o p z e = absurd z
ended_done Ended There o p z e = absurd z
ended_done Travelling v o p z e = absurd (not_ended e)
  where
    not_ended : Travelling ≡ Ended → ⊥
    not_ended e = grind arith
ended_done (Waiting q) v o p z e = absurd (not_ended e)
  where
    not_ended : Waiting q ≡ Ended → ⊥
    not_ended e = grind arith
ended_done (Ready q) v o p z e = absurd (not_ended e)
  where
    not_ended : Ready q ≡ Ended → ⊥
    not_ended e = grind arith
ended_done (Running q) v o p z e = absurd (not_ended e)
  where
    not_ended : Running q ≡ Ended → ⊥
    not_ended e = grind arith

pub done_ended : (st : Status) (v : Stage) (o : Bool) (p : Path) → Shows.StatusShows st v o p → v ≡ Done → st ≡ Ended
done_ended st Done o p z e = by st z
  where
    by : (st : Status) → Shows.StatusShows st Done o p → st ≡ Ended
    by Ended z = refl
    by Travelling z = absurd z
    by (Waiting q) z = absurd z
    by (Ready q) z = absurd z
    by (Running q) z = absurd z
done_ended st Entering o p z e = absurd (entering_done e)
done_ended st Lined o p z e = absurd (lined_done e)
done_ended st Coming o p z e = absurd (coming_done e)
done_ended st There o p z e = absurd (there_done e)

pub stage_cases : (v : Stage) → (v ≡ Done) ⊎ (v ≡ Done → ⊥)
stage_cases Done = inl refl
stage_cases Entering = inr entering_done
stage_cases Lined = inr lined_done
stage_cases Coming = inr coming_done
stage_cases There = inr there_done

module _ {A F R J : Type 0} (kind : Kind A F R J) (owes : Owes kind) (b : Begin F) (batches : List (List J)) (begins : IsBegin kind b) (jobs : All (All kind.is_job) batches) where
  abbrev w : Way
  w = Courses.w kind owes b batches begins jobs

  abbrev course : Course kind.system
  course = Courses.course kind owes b batches begins jobs

  abbrev Is_real : ℕ → Type 0
  Is_real = Courses.Real kind owes b batches begins jobs

  law : IsWay w
  law = Courses.law kind owes b batches begins jobs

  module _ (s : State A F R J) (k : Good_state kind owes b batches begins jobs s) where
    x : Shows.Shows kind.system w course b.before Is_real s k.ghost
    x = k.shows

    abbrev g : Shows.Ghost F
    g = k.ghost

    first : (a t : ℕ) → a < t → 1 ≤ t
    first a t l = omega (arith, l)

    mail_known : (t i : ℕ) (m : Mail F) → (s.cells t).mails i ≡ Some m → (b.before < t) × (t ≤ (g).lines.admitted)
    mail_known t i m e = GoodStates.known kind owes b batches begins jobs s k.ghost x t (λ q. none_not (sym (ap (λ (u : Cell A F R). u.mails i) q) ∙ e))

    shown : (t i : ℕ) (m : Mail F) → (s.cells t).mails i ≡ Some m → (l : Letter F) → m.letter ≡ l → Shows.MailShows kind.system w course b.before Is_real k.ghost t i m.host m.path l
    shown t i m e l z = (let n = mail_known t i m e in subst (Shows.MailShows kind.system w course b.before Is_real k.ghost t i m.host m.path) z ((x.cells t n.0 n.1).mails i m e))

    comes_to : (t : ℕ) (p : Path) → t ≤ (g).lines.admitted → ((g).lines.stage t ≡ Done → ⊥) → here w (g).lines t ≡ p → visits w t p ≡ true
    comes_to t p l n e = subst (λ r. visits w t r ≡ true) e (visits_of kind.system w law course b.before Is_real k.ghost x.good t (here w (g).lines t) l (entered_spot kind.system w law course b.before Is_real k.ghost x.good t l n))

    entry_is : (p : Path) (en : Entry F) → HasEntry s p en → en ≡ (g).entry p
    entry_is p en h = Told.entry_same kind owes b batches begins jobs s k p en h

    enters : (t i : ℕ) (m : Mail F) (a : Ask) (en : Entry F) → (s.cells t).mails i ≡ Some m → m.letter ≡ Enter a → HasEntry s m.path en → (en.served < a.number) × (en.waiting a.number ≡ None)
    enters t i m a en e l h = (above _ _ not_served, elim (options (en.waiting a.number)) [ inl z ↦ z | inr z ↦ absurd (waits z.0 (ap (λ (u : Entry F). u.waiting a.number) (sym same) ∙ z.1)) ])
      where
        n : (b.before < t) × (t ≤ (g).lines.admitted)
        n = mail_known t i m e

        y : Shows.EnterShows kind.system w course b.before Is_real k.ghost t i m.host m.path a
        y = shown t i m e (Enter a) l

        same : en ≡ (g).entry m.path
        same = entry_is m.path en h

        comes : visits w t m.path ≡ true
        comes = comes_to t m.path n.1 (λ d. entering_done (sym y.stage ∙ d)) (sym y.place)

        above : (a c : ℕ) → (c ≤ a → ⊥) → a < c
        above a c f = grind arith

        not_served : a.number ≤ en.served → ⊥
        not_served z = ((x.good.grants t m.path (first _ _ n.0) comes).1 (subst (λ c. c ≤ (g).lines.served m.path) y.number (subst (λ c. a.number ≤ c) (ap (λ (u : Entry F). u.served) same ∙ (x.entries m.path).served) z))).past (ap is_pending y.stage) (sym y.place)

        waits : (c : Claim) → ((g).entry m.path).waiting a.number ≡ Some c → ⊥
        waits c z = (let v = (x.entries m.path).waits a.number c z in
            let ct = rank_same w m.path c.ticket t (comes_to c.ticket m.path v.known (λ d. lined_done (sym v.stage ∙ d)) v.place) comes (sym v.number ∙ y.number) in
            lined_entering (sym v.stage ∙ ap (g).lines.stage ct ∙ y.stage))

    holder : (p : Path) (t : ℕ) → (g).lines.holds p t ≡ true → IsIn ((g).entry p).holders (record { ticket = t; peek = w.looks t p })
    holder p t h = claim_in (λ u. w.looks u p) ((g).entry p).holders t (x.entries p).peeks ((x.entries p).holders t ∙ h)

    in_store : (p : Path) (t h : ℕ) → (g).lines.holds p t ≡ true → ((g).trail p).stored ≡ true → h ≡ owner ((g).trail p) → (en : Entry F) × ((s.columns p).store h ≡ Some en) × IsHolder en t
    in_store p t h holds st e = ((g).entry p, ap (s.columns p).store e ∙ store_is, (w.looks t p, holder p t holds))
      where
        store_is : (s.columns p).store (owner ((g).trail p)) ≡ Some ((g).entry p)
        store_is = elim (bool_cases ((g).born p)) [
          | inl u ↦ (subst (λ i. Shows.ColumnShows kind.system w course b.before Is_real i k.ghost p (s.columns p)) u (x.columns p)).there st
          | inr u ↦ absurd (clash _ holds (sym ((x.entries p).holders t) ∙ ap (λ (y : Entry F). Shows.holds_claim y.holders t) ((x.entries p).unborn u)))
        ]

    coming : (t i : ℕ) (m : Mail F) → (s.cells t).mails i ≡ Some m → Shows.ComingShows kind.system w course b.before Is_real k.ghost t i m.host m.path → (en : Entry F) × ((s.columns m.path).store m.host ≡ Some en) × IsHolder en t
    coming t i m e y = in_store m.path t m.host (subst (λ r. (g).lines.holds r t ≡ true) (sym y.place) (holds_spot kind.system w law course b.before Is_real k.ghost x.good t (first _ _ n.0) n.1 (λ d. coming_done (sym y.stage ∙ d)) (ap is_pending y.stage))) (c.where_held m.path held.0 held.1).1 y.host_is
      where
        n : (b.before < t) × (t ≤ (g).lines.admitted)
        n = mail_known t i m e

        c : Shows.CellShows kind.system w course b.before Is_real k.ghost t (s.cells t)
        c = x.cells t (n).0 (n).1

        held : (o : _) × (hold_at (c).event.held m.path ≡ Some o)
        held = option_some (hold_at (c).event.held m.path) (c.held m.path ∙ ap₂ (λ i j. i && not (is_pending j && path_eq (here w (g).lines t) m.path)) (subst (λ r. w.held t ((g).lines.pos t) r ≡ true) (sym y.place) (law.at_held t ((g).lines.pos t) (x.good.going t n.1 (λ d. coming_done (sym y.stage ∙ d))))) y.stage)

    pub releases : (t i : ℕ) (m : Mail F) → (s.cells t).mails i ≡ Some m → m.letter ≡ Release → (en : Entry F) × ((s.columns m.path).store m.host ≡ Some en) × IsHolder en t
    releases t i m e l = (let y = shown t i m e Release l in in_store m.path t m.host y.0.holds y.1 y.0.host_is)

    -- where a record is away
    away : (p : Path) → ((g).entry p).body ≡ None → (v : ℕ) × (h : Hand A F) × (s.hands v ≡ Some h) × (h.path ≡ p) × ((g).lines.holds p h.ticket ≡ true) × (w.looks h.ticket p ≡ false) × ((g).lines.stage h.ticket ≡ There) × (h.ticket ≤ (g).lines.admitted)
    away p e = (let a = (x.entries p).away e in let o = (k.alive).out a.ticket a.out in let hs = x.hands ((g).worker a.ticket) o.hand o.there in (
      (g).worker a.ticket,
      o.hand,
      o.there,
      hs.place ∙ ap (here w (g).lines) o.ticket_is ∙ a.place,
      ap ((g).lines.holds p) o.ticket_is ∙ a.holds,
      ap (λ t. w.looks t p) o.ticket_is ∙ a.looks,
      hs.stage,
      hs.known,
    ))

    module _ (single : Spent.Single kind owes b batches begins jobs s) where
      alone_in : (p : Path) (en : Entry F) (c : Claim) → HasEntry s p en → IsIn en.holders c → c.peek ≡ false → en.holders ≡ c ∷ []
      alone_in p en c h i e = one_claim en.holders c (single p en h) i (λ d j. (let v = claims c i in let u = claims d j in x.good.alone c.ticket p v.0 (sym v.1 ∙ e) d.ticket u.0))
        where
          claims : (d : Claim) → IsIn en.holders d → ((g).lines.holds p d.ticket ≡ true) × (d.peek ≡ w.looks d.ticket p)
          claims d j = (let z = in_claims (λ u. w.looks u p) en.holders d (subst (λ (u : Entry F). AllByRecursion (λ c. c.peek ≡ w.looks c.ticket p) u.holders) (sym (entry_is p en h)) (x.entries p).peeks) j in
              (sym ((x.entries p).holders d.ticket) ∙ ap (λ (u : Entry F). Shows.holds_claim u.holders d.ticket) (sym (entry_is p en h)) ∙ z.0, z.1))

      moving : (t i : ℕ) (m : Mail F) (en : Entry F) → (s.cells t).mails i ≡ Some m → m.letter ≡ Transfer en → ((h : ℕ) → (s.columns m.path).store h ≡ None) × (is_some en.body ≡ true) × (en.holders ≡ record { ticket = t; peek = false } ∷ [])
      moving t i m en e l = (
        no_store,
        has_body,
        subst (λ j. en.holders ≡ record { ticket = t; peek = j } ∷ []) y.3
            (alone_in m.path en (record { ticket = t; peek = w.looks t m.path }) (inr (t, i, m.host, e ∙ ap Some (same_mail m l))) (subst (λ (u : Entry F). IsIn u.holders (record { ticket = t; peek = w.looks t m.path })) (sym y.2) (holder m.path t y.0.holds)) y.3),
      )
        where
          same_mail : (m : Mail F) {l : Letter F} → m.letter ≡ l → m ≡ record { host = m.host; path = m.path; letter = l }
          same_mail m k = λ i. record { host = m.host; path = m.path; letter = k i }

          y : Shows.Leaving kind.system w course b.before Is_real k.ghost t i m.host m.path × (((g).trail m.path).stored ≡ false) × (en ≡ (g).entry m.path) × (w.looks t m.path ≡ false)
          y = shown t i m e (Transfer en) l

          no_store : (h : ℕ) → (s.columns m.path).store h ≡ None
          no_store h = elim (options ((s.columns m.path).store h)) [
            | inl z ↦ z
            | inr z ↦ absurd (clash _ (found kind.system w course b.before Is_real k.ghost m.path (s.columns m.path) h z.0 (x.columns m.path) z.1).stored y.1)
          ]

          has_body : is_some en.body ≡ true
          has_body = elim (options en.body) [
            | inr z ↦ ap is_some z.1
            | inl z ↦ absurd (let a = away m.path (ap (λ (u : Entry F). u.body) (sym y.2) ∙ z) in
                let same : a.1.ticket ≡ t = x.good.alone t m.path y.0.holds y.3 a.1.ticket a.4 in
                let hs = x.hands a.0 a.1 a.2 in
                clash _ (subst (λ u. w.held u ((g).lines.pos u) m.path ≡ true) same (subst (λ r. w.held a.1.ticket ((g).lines.pos a.1.ticket) r ≡ true) (sym hs.place ∙ a.3) (law.at_held a.1.ticket ((g).lines.pos a.1.ticket) (x.good.going a.1.ticket a.7 (λ d. there_done (sym a.6 ∙ d)))))) y.0.not_held)
          ]

      ended : (t : ℕ) (event : Event A) → (s.cells t).event ≡ Some event → (is_some (s.cells t).result ≡ true → event.status ≡ Ended) × (event.status ≡ Ended → is_some (s.cells t).result ≡ true)
      ended t event e = (
        λ z. elim (stage_cases ((g).lines.stage t)) [
          | inl d ↦ done_ended event.status _ _ _ status d
          | inr d ↦ absurd (clash false (sym (ap is_some (result_is ∙ (before d))) ∙ z) refl)
        ],
        λ z. ap is_some (result_is ∙ ends (ended_done event.status _ _ _ status z)),
      )
        where
          n : (b.before < t) × (t ≤ (g).lines.admitted)
          n = GoodStates.known kind owes b batches begins jobs s k.ghost x t (λ q. none_not (sym (ap (λ (u : Cell A F R). u.event) q) ∙ e))

          c : Shows.CellShows kind.system w course b.before Is_real k.ghost t (s.cells t)
          c = x.cells t (n).0 (n).1

          status : Shows.StatusShows event.status ((g).lines.stage t) ((g).out t) (here w (g).lines t)
          status = subst (λ (u : Event A). Shows.StatusShows u.status ((g).lines.stage t) ((g).out t) (here w (g).lines t)) (some_same _ event (sym c.event_is ∙ e)) c.status

          r : Courses.Real kind owes b batches begins jobs t
          r = c.real

          x₀ : Alone A F R
          x₀ = Plans.first_of kind owes b batches begins jobs (r).index (r).job

          view_is : view kind owes b batches begins jobs t ≡ Courses.view_at kind owes b batches begins jobs (r).index (Some (r).job)
          view_is = ap (view kind owes b batches begins jobs) r.ticket_is ∙ view_real kind owes b batches begins jobs r.index r.job r.job_is

          result_is : (s.cells t).result ≡ (after_segments kind.system ((g).lines.pos t) (x₀)).result
          result_is = c.result ∙ ap (λ (u : View A F R). u.result ((g).lines.pos t)) view_is

          before : ((g).lines.stage t ≡ Done → ⊥) → (after_segments kind.system ((g).lines.pos t) (x₀)).result ≡ None
          before d = (Plans.counts kind owes b batches begins jobs r.index r.job r.job_is).under ((g).lines.pos t) (less_suc _ _ (subst (λ (u : View A F R). (g).lines.pos t ≤ u.one.last) view_is (x.good.going t n.1 d)))
            where
              less_suc : (a m : ℕ) → a ≤ m → a < suc m
              less_suc a m l = omega (arith, l)

          ends : (g).lines.stage t ≡ Done → (after_segments kind.system ((g).lines.pos t) (x₀)).result ≡ Some (Plans.counts kind owes b batches begins jobs (r).index (r).job (r).job_is).result
          ends d = ap (λ m. (after_segments kind.system m (x₀)).result) (x.good.ended t n.1 d ∙ ap (λ (u : View A F R). suc u.one.last) view_is) ∙ (Plans.counts kind owes b batches begins jobs r.index r.job r.job_is).ends

      away_is : (p : Path) (en : Entry F) → HasEntry s p en → en.body ≡ None → IsAway s p en
      away_is p en h e = (let a = away p (ap (λ (u : Entry F). u.body) (sym (entry_is p en h)) ∙ e) in record {
        worker = a.0;
        hand = a.1;
        there = a.2;
        path_is = a.3;
        holds = subst (λ (u : Entry F). IsIn u.holders (record { ticket = a.1.ticket; peek = false })) (sym (entry_is p en h)) (subst (λ j. IsIn ((g).entry p).holders (record { ticket = a.1.ticket; peek = j })) a.5 (holder p a.1.ticket a.4));
      })

      pub agree : Agree kind b batches s
      agree = record {
        enters = enters;
        comings = λ t i m e l. elim l [ inl z ↦ coming t i m e (shown t i m e Visit z) | inr z ↦ coming t i m e (shown t i m e Back z) ];
        releases = releases;
        transfers = moving;
        ended = ended;
        away = away_is;
        at_home = λ p en h e. elim (options en.body) [ inr z ↦ ap is_some z.1 | inl z ↦ absurd (subst (λ hs. IsIn hs (record { ticket = (away_is p en h z).hand.ticket; peek = false })) e (away_is p en h z).holds) ];
        alone = alone_in;
      }

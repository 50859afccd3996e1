-- Admit and Commit, taken: the machine stands for what each leads to.
use Rattle.std.proofs.Common.{◌≡◌, ◌∙◌, ◌⊎◌, inl, inr, ◌≤◌, ◌<◌, ℕ, suc, ◌+◌, ◌^◌, Bool, true, false, List, [], ◌∷◌, ◌++◌, length, map, Option, Some, None, refl, sym, ap, subst, cond, arith}
use Rattle.std.specs.FinMap as table
use Rattle.std.specs.Prelude.{nat_lt, slice_get, sum_by}
use Rattle.std.proofs.lemmas.List.{length-append, length-map}
use Rattle.std.proofs.lemmas.List.Sums.{sum_by-cons}
use Rattle.std.proofs.lemmas.Bool.{cases_lt}
use Rattle.wave_base.specs.declared.outcome.EventResult.{EventResult}
use Rattle.wave_base.specs.declared.script.Line.{Line}
use Rattle.wave_base.specs.declared.script.Line.TheVariants.{Request}
use Rattle.wave_base.specs.declared.start.Start.{Start}
use Rattle.wave_base.specs.Fold.{Head, begun, created_lines, next_batch, tickets_of, with_done}
use Rattle.script_fold.specs.Lines.{FitsJob}
use Rattle.wave_effects.specs.Kinds.{job_kind}
use Rattle.script_fold.proofs.LeftLemmas.{All-drop_head}
use Rattle.head_tickets.specs.Heads.{Heading, head_of, last_known, line_count, next_line}
use Rattle.commit_order.specs.Commits.{Committing, ready_result}
use Rattle.event_cells.specs.declared.cell.Cell.{Cell}
use Rattle.event_cells.specs.declared.cell.JobKind.{JobKind}
use Rattle.wave_states.specs.Labels.{Label, Admit, Commit}
use Rattle.wave_states.specs.States as theory
use Rattle.wave_states.specs.Steps.{after_admit, after_commit, step}
use Rattle.code_actor.specs.CodeActors as code
use Rattle.code_actor.specs.CodeActors.{Fields}
use Rattle.plan_actors.specs.PlanActors as actors
use Rattle.plan_actors.specs.PlanActors.{plan_actors}
use Rattle.plan_actors.specs.Plans.{Plan, Fits, FitsStart}
use Rattle.wave_effects.specs.declared.actor.Actor.{Actor}
use Rattle.wave_effects.specs.declared.kept.Settled.{Settled}
use Rattle.wave_effects.specs.Heading.{IsMade, IsNext, KnownHead}
use Rattle.wave_effects.specs.Machines.{TheState, Kept, IsEnabled, IsReached, Shows, Stands, Takes}
use Rattle.wave_effects.proofs.Admitting.{TakesLine, admitted_shows, with_admitted}
use Rattle.wave_effects.proofs.Committing.{DoesOne, TakesResult, committed_shows, with_committed}
use Rattle.wave_effects.proofs.Headed.{Admits, Commits, admits, commits}
use Rattle.wave_effects.proofs.Pushing.{slice_past}
use Rattle.wave_effects.proofs.Taking.{Laws, after, now}

-- the law of heads, as it is given
abbrev pub Heads : Type 0
Heads = (plan : Plan) (start : Start) (labels : List Label) (s : TheState) → Fits plan → FitsStart plan start → IsReached plan start labels s → KnownHead plan start s

nothing_is : {X : Type 0} (o : Option X) (x : X) → o ≡ None → o ≡ Some x → ⊥
nothing_is o x a b = cc

same_some : {X : Type 0} (a b : X) (o : Option X) → o ≡ Some a → o ≡ Some b → a ≡ b
same_some a b o e f = cc

-- a batch that begins takes no tickets but those of its lines
next_total : (x : Head Line) → length (next_batch x).known + sum_by length (next_batch x).later ≡ length x.known + sum_by length x.later
next_total x = by_test (nat_lt x.done (length x.known))
  where
    by_later : (bs : List (List Line)) → x.later ≡ bs → length (begun x bs).known + sum_by length (begun x bs).later ≡ length x.known + sum_by length x.later
    by_later [] e = refl
    by_later (b ∷ bs) e = omega (arith, length-append x.known b, sum_by-cons length b bs, ap (sum_by length) e)

    by_test : (c : Bool) → length (cond c x (begun x x.later)).known + sum_by length (cond c x (begun x x.later)).later ≡ length x.known + sum_by length x.later
    by_test true = refl
    by_test false = by_later x.later refl

module _ (m : Kept) (s : TheState) (h : Shows m s) where
  pub known_is : s.head.known ≡ h.head.lines ++ m.head.waiting
  known_is = ap (λ (z : Head Line). z.known) h.head.head

  -- the job of an Admit is the line that comes next
  pub next_is : (j : Line) → slice_get s.head.known s.admitted ≡ Some j → next_line m.head ≡ Some j
  next_is j e = sym (ap (λ xs. slice_get xs s.admitted) known_is ∙ ap (slice_get (h.head.lines ++ m.head.waiting)) (h.head.admitted ∙ sym h.head.as_many) ∙ slice_past h.head.lines m.head.waiting) ∙ e

  done_is : s.head.done ≡ m.head.done
  done_is = ap (λ (z : Head Line). z.done) h.head.head

-- what an Admit finds
module _ (m : Kept) (w host t : ℕ) (on : IsEnabled m (record { worker = w; host = host; act = Admit t })) where
  abbrev pub found : Admits (plan_actors m.plan.program) m.plan.workers on.state on.next w host t
  found = admits (plan_actors m.plan.program) m.plan.workers on.state on.next w host t on.enabled

  -- a line is next, and it is a job
  pub admit_next : next_line m.head ≡ Some found.job
  admit_next = next_is m on.state on.stands.shows found.job found.known

module _ (laws : Laws) (m : Kept) (w host t : ℕ) where
  pub admit_taken : (line : Line) (c : Cell Actor) (head : Heading) (kind : JobKind) → TakesLine m.head head line → kind ≡ job_kind line → IsNext m c → Takes m (with_admitted m head kind c) (record { worker = w; host = host; act = Admit t })
  admit_taken line c head kind takes named next start s s' stands e =
      let l : Label = record { worker = w; host = host; act = Admit t } in
      let sys = plan_actors m.plan.program in
      let h = stands.shows in
      let a = admits sys m.plan.workers s s' w host t e in
      let job : a.job ≡ line = same_some a.job line (next_line m.head) (next_is m s h a.job a.known) takes.line_is in
      let at : t ≡ m.first + m.head.admitted = omega (arith, a.ticket, h.head.before, h.head.admitted) in
      let bounds = (now laws m start s stands).bounds in
      let fresh : (s.cells t).result ≡ None = ap (λ (x : theory.Cell actors.Actor Fields EventResult). x.result) (bounds.cells t (λ low high. omega (arith, high, a.ticket))) in
      let made : IsMade m.plan.program line t c = subst (λ n. IsMade m.plan.program line n c) (sym at) (next line takes.line_is) in
      record {
        fits = stands.fits;
        begins = stands.begins;
        labels = stands.labels ++ l ∷ [];
        reached = after laws m start s stands l s' e;
        shows = subst (Shows (with_admitted m head kind c)) (ap (after_admit sys s t) (sym job) ∙ a.gives) (admitted_shows m s h t line c head kind at fresh takes named made);
      }

module _ (heads : Heads) (m : Kept) (w host t : ℕ) (on : IsEnabled m (record { worker = w; host = host; act = Admit t })) where
  pub admit_job : (line : Line) → next_line m.head ≡ Some line → FitsJob (code.IsJob m.plan.program) line
  admit_job line is =
      let known = heads m.plan on.start on.stands.labels on.state on.stands.fits on.stands.begins on.stands.reached in
      let there = found m w host t on in
      let job : there.job ≡ line = same_some there.job line (next_line m.head) (admit_next m w host t on) is in
      subst (FitsJob (code.IsJob m.plan.program)) job (All-drop_head (FitsJob (code.IsJob m.plan.program)) on.state.head.known on.state.admitted there.job there.known known.jobs)

-- what a Commit finds
module _ (laws : Laws) (m : Kept) (w host t : ℕ) (start : Start) (s s' : TheState) (stands : Stands m start s) (e : step (plan_actors m.plan.program) m.plan.workers s (record { worker = w; host = host; act = Commit t }) ≡ Some s') where
  abbrev pub the_commit : Commits (plan_actors m.plan.program) m.plan.workers s s' w host t
  the_commit = commits (plan_actors m.plan.program) m.plan.workers s s' w host t e

  pub commit_at : t ≡ m.first + m.head.done
  commit_at = omega (arith, the_commit.ticket, stands.shows.head.before, done_is m s stands.shows)

  pub commit_ready : ready_result m.commits ≡ Some the_commit.result
  commit_ready =
      let next = stands.shows.results.next in
      let place : m.commits.committed + 1 ≡ t = omega (arith, next, commit_at) in
      ap (table.get m.commits.results) place ∙ sym (stands.shows.results.ended t (omega (arith, place))) ∙ the_commit.result_is

  -- a ticket that has a result was admitted
  pub commit_order : m.head.done < m.head.admitted
  commit_order = by_order (cases_lt m.head.done m.head.admitted)
    where
      by_order : (m.head.done < m.head.admitted) ⊎ (m.head.admitted ≤ m.head.done) → m.head.done < m.head.admitted
      by_order (inl within) = within
      by_order (inr past) =
          let bounds = (now laws m start s stands).bounds in
          let many = stands.shows.head.admitted in
          let before = stands.shows.head.before in
          let place = commit_at in
          absurd (nothing_is (s.cells t).result the_commit.result (ap (λ (x : theory.Cell actors.Actor Fields EventResult). x.result) (bounds.cells t (λ low high. omega (arith, high, place, past, many, before)))) the_commit.result_is)

  pub commit_room : Heads → (calls : ℕ) → calls ≡ length (the_commit.result.created) → last_known m.head + calls + line_count m.head.later < 2 ^ 32
  commit_room heads calls n =
      let c = the_commit in
      let known = heads m.plan start (stands.labels ++ record { worker = w; host = host; act = Commit t } ∷ []) s' stands.fits stands.begins (after laws m start s stands (record { worker = w; host = host; act = Commit t }) s' e) in
      let created : List Line = created_lines c.result in
      let h = stands.shows.head in
      let head : s'.head ≡ with_done s.head created = ap (λ (x : TheState). x.head) (sym c.gives) in
      let many : length s'.head.known + sum_by length s'.head.later ≡ length (s.head.known ++ created) + sum_by length s.head.later =
      ap (λ (x : Head Line). length x.known + sum_by length x.later) head ∙ next_total (record { known = s.head.known ++ created; later = s.head.later; done = suc s.head.done }) in
      let before : s'.before ≡ s.before = ap (λ (x : TheState). x.before) (sym c.gives) in
      let old : length s.head.known ≡ m.head.admitted + length m.head.waiting = ap length (known_is m s stands.shows) ∙ length-append h.lines m.head.waiting ∙ ap (λ k. k + length m.head.waiting) h.as_many in
      let later : sum_by length s.head.later ≡ sum_by length m.head.later = ap (λ (x : Head Line). sum_by length x.later) h.head in
      let lines : length created ≡ calls = length-map c.result.created (λ x. Request x) ∙ sym n in
      omega (arith, known.room, known.first, before, h.before, h.first, many, old, later, lines, length-append s.head.known created)

module _ (laws : Laws) (m : Kept) (w host t : ℕ) where
  pub commit_taken : (x : Settled) (created : List Line) (head : Heading) (commits : Committing) (r : EventResult) → created ≡ created_lines r → TakesResult m.commits commits r → DoesOne m.head head created → x.result ≡ r
      → ((admitted : List Line) → length admitted ≡ m.head.admitted → map (λ k. k.0) x.made ≡ tickets_of m.head.first (head_of admitted m.head) created)
      → Takes m (with_committed m head commits x) (record { worker = w; host = host; act = Commit t })
  commit_taken x created head commits r are takes does result tickets start s s' stands e =
      let l : Label = record { worker = w; host = host; act = Commit t } in
      let sys = plan_actors m.plan.program in
      let c = the_commit laws m w host t start s s' stands e in
      let job : c.result ≡ r = same_some c.result r (ready_result m.commits) (commit_ready laws m w host t start s s' stands e) takes.result_is in
      let is : (s.cells (m.first + m.head.done)).result ≡ Some r = ap (λ n. (s.cells n).result) (sym (commit_at laws m w host t start s s' stands e)) ∙ c.result_is ∙ ap Some job in
      record {
        fits = stands.fits;
        begins = stands.begins;
        labels = stands.labels ++ l ∷ [];
        reached = after laws m start s stands l s' e;
        shows = subst (Shows (with_committed m head commits x)) (ap (after_commit sys s) (sym job) ∙ c.gives)
            (committed_shows m s stands.shows r x head commits is takes (subst (DoesOne m.head head) are does) result (λ xs n. tickets xs n ∙ ap (tickets_of m.head.first (head_of xs m.head)) are));
      }

module _ (laws : Laws) (m : Kept) (w host t : ℕ) where
  -- the same where kinds and cells are given by what they are
  pub admit_pushed : (line : Line) (c : Cell Actor) (head : Heading) (kind : JobKind) (kinds : List JobKind) (cells : List (Cell Actor)) → TakesLine m.head head line → kind ≡ job_kind line → IsNext m c → kinds ≡ m.settled.kinds ++ kind ∷ [] → cells ≡ m.cells ++ c ∷ []
      → Takes m (record { plan = m.plan; first = m.first; head = head; commits = m.commits; settled = record { kinds = kinds; results = m.settled.results }; cells = cells; stores = m.stores; hands = m.hands }) (record { worker = w; host = host; act = Admit t })
  admit_pushed line c head kind kinds cells takes named next ns cs =
      subst (λ ds. Takes m (record { plan = m.plan; first = m.first; head = head; commits = m.commits; settled = record { kinds = kinds; results = m.settled.results }; cells = ds; stores = m.stores; hands = m.hands }) (record { worker = w; host = host; act = Admit t })) (sym cs)
      (subst (λ ms. Takes m (record { plan = m.plan; first = m.first; head = head; commits = m.commits; settled = record { kinds = ms; results = m.settled.results }; cells = m.cells ++ c ∷ []; stores = m.stores; hands = m.hands }) (record { worker = w; host = host; act = Admit t })) (sym ns)
      (admit_taken laws m w host t line c head kind takes named next))

  pub commit_pushed : (x : Settled) (created : List Line) (head : Heading) (commits : Committing) (results : List Settled) (r : EventResult) → created ≡ created_lines r → TakesResult m.commits commits r → DoesOne m.head head created → x.result ≡ r
      → ((admitted : List Line) → length admitted ≡ m.head.admitted → map (λ k. k.0) x.made ≡ tickets_of m.head.first (head_of admitted m.head) created) → results ≡ m.settled.results ++ x ∷ []
      → Takes m (record { plan = m.plan; first = m.first; head = head; commits = commits; settled = record { kinds = m.settled.kinds; results = results }; cells = m.cells; stores = m.stores; hands = m.hands }) (record { worker = w; host = host; act = Commit t })
  commit_pushed x created head commits results r are takes does result tickets rs =
      subst (λ ys. Takes m (record { plan = m.plan; first = m.first; head = head; commits = commits; settled = record { kinds = m.settled.kinds; results = ys }; cells = m.cells; stores = m.stores; hands = m.hands }) (record { worker = w; host = host; act = Commit t })) (sym rs)
      (commit_taken laws m w host t x created head commits r are takes does result tickets)

-- The record of a context is the one that the state shows, also while a worker has it in hand.
use Rattle.std.proofs.Common.{◌≡◌, ℕ, ◌+◌, ◌<◌, ◌≤◌, inl, inr, false, Some, List, [], ◌∷◌, ◌++◌, length, refl, sym, ◌∙◌, ap, subst, arith}
use Rattle.std.specs.Prelude.{All, if◌then◌else◌}
use Rattle.std.specs.List.{AllByRecursion}
use Rattle.wave_base.specs.declared.path.Step.{Step}
use Rattle.wave_base.specs.declared.path.Path.{Path}
use Rattle.wave_base.specs.Kids.{child_at}
use Rattle.wave_states.specs.States.{State, Claim, Entry, Record}
use Rattle.wave_states.specs.Labels.{Label}
use Rattle.wave_states.specs.Runs.{run}
use Rattle.wave_states.specs.Kinds.{Kind}
use Rattle.wave_states.specs.Owes.{Owes, IsBegin}
use Rattle.wave_states.specs.Begins.{Begin, start_state, is_root}
use Rattle.wave_theory.specs.Agree.{Agree, IsAway}
use Rattle.wave_theory.specs.Came.{senders_from}
use Rattle.wave_theory.specs.Listed.{IsIn}
use Rattle.wave_theory.specs.Numbers.{HasEntry}
use Rattle.wave_theory.specs.Trails.{EntersLie, IsUnborn}
use Rattle.wave_theory.proofs.Basics.{bool_cases, options}
use Rattle.wave_theory.proofs.Order.{Way}
use Rattle.wave_theory.proofs.Leaves.{Course}
use Rattle.wave_theory.proofs.Shows
use Rattle.wave_theory.proofs.Courses
use Rattle.wave_theory.proofs.Told
use Rattle.wave_theory.proofs.Arrivals
use Rattle.wave_theory.proofs.Noted
use Rattle.wave_theory.proofs.GoodStates.{Good_state}
use Rattle.wave_theory.proofs.GoodStates
use Rattle.serial_runs.specs.Recorded.{HasRecord, IsBornOn, Recorded}

one_of : {X : Type 0} (P : X → Type 0) (xs : List X) (x : X) → AllByRecursion P xs → IsIn xs x → P x
one_of P [] x h i = absurd i
one_of P (y ∷ xs) x h (inl e) = subst P e h.0
one_of P (y ∷ xs) x h (inr i) = one_of P xs x h.1 i

not_root : (p : Path) (st : Step) → is_root (p ++ st ∷ []) ≡ false
not_root [] st = refl
not_root (u ∷ p) st = refl

module _ {A F R J : Type 0} (kind : Kind A F R J) (owes : Owes kind) (b : Begin F) (batches : List (List J)) (begins : IsBegin kind b) (jobs : All (All kind.is_job) batches) (some_host : 0 < kind.hosts) (workers : ℕ) (ls : List Label) (s : State A F R J)
    (e : run kind.system workers (start_state b batches) ls ≡ Some s) (agree : Agree kind b batches s) where
  abbrev w : Way
  w = Courses.w kind owes b batches begins jobs

  abbrev course : Course kind.system
  course = Courses.course kind owes b batches begins jobs

  abbrev Is_real : ℕ → Type 0
  Is_real = Courses.Real kind owes b batches begins jobs

  abbrev note : Noted.Note kind owes b batches begins jobs some_host workers ls s
  note = Noted.noting kind owes b batches begins jobs some_host workers ls s e

  abbrev k : Good_state kind owes b batches begins jobs s
  k = (note).good

  abbrev g : Shows.Ghost F
  g = (note).good.ghost

  x : Shows.Shows kind.system w course b.before Is_real s ((note).good.ghost)
  x = (note).good.shows

  -- in a hand
  out_body : (p : Path) (en : Entry F) → HasEntry s p en → (a : IsAway s p en) → a.hand.body ≡ (g).body p
  out_body p en h a = (let y = x.hands a.worker a.hand a.there in
      let c : Claim = record { ticket = (a.hand).ticket; peek = false } in
      let l : false ≡ w.looks (a.hand).ticket p = one_of (λ (u : Claim). u.peek ≡ w.looks u.ticket p) en.holders c (subst (λ (u : Entry F). AllByRecursion (λ (v : Claim). v.peek ≡ w.looks v.ticket p) u.holders) (sym (Told.entry_same kind owes b batches begins jobs s k p en h)) (x.entries p).peeks) a.holds in
      y.whole (ap (w.looks (a.hand).ticket) a.path_is ∙ sym l) ∙ ap (g).body a.path_is)

  body_is : (p : Path) (r : Record F) → HasRecord s p r → r ≡ (g).body p
  body_is p r h = elim h.lies [
    | inl q ↦ (x.entries p).body r (ap (λ (u : Entry F). u.body) (sym (Told.entry_same kind owes b batches begins jobs s k p h.entry h.there)) ∙ q)
    | inr q ↦ sym q.2 ∙ out_body p h.entry h.there q.1
  ]

  has_one : (p : Path) (en : Entry F) → HasEntry s p en → (r : Record F) × HasRecord s p r
  has_one p en h = elim (options en.body) [
    | inr r ↦ (r.0, record { entry = en; there = h; lies = inl r.1 })
    | inl n ↦ (let a = agree.away p en h n in ((a.hand).body, record { entry = en; there = h; lies = inr (n, a, refl) }))
  ]

  given_is : (p : Path) (st : Step) (r : Record F) → HasRecord s p r → Shows.given_of r st ≡ length (senders_from kind.system workers (p ++ st ∷ []) (Some (start_state b batches)) ls)
  given_is p st r h = ap (λ (u : Record F). Shows.given_of u st) (body_is p r h) ∙ (x.entries p).given st ∙ ((note).noted.sent (p ++ st ∷ [])).many
      ∙ ap (λ i. (if i then b.before else 0) + length (senders_from kind.system workers (p ++ st ∷ []) (Some (start_state b batches)) ls)) (not_root p st) ∙ none_before _
    where
      none_before : (a : ℕ) → 0 + a ≡ a
      none_before a = omega arith

  born_on : (p : Path) → IsBornOn s p (((g).trail p).at 0)
  born_on p q st r c z h f = (x.entries q).births st c (subst (λ (u : Record F). child_at u.children st ≡ Some c) (body_is q r h) f) ∙ ap (λ i. ((g).trail i).at 0) z

  -- an unborn context's Enters lie at the first place of its trail
  enters_lie : (p : Path) → ((g).trail p).last ≡ 0 → EntersLie s p (record { at = λ i. ((g).trail p).at 0; last = 0 })
  enters_lie p z t i m a f q l =
      let n = GoodStates.known kind owes b batches begins jobs s (g) x t (GoodStates.mail_there kind owes b batches begins jobs (s.cells t) i m f) in
      let y : Shows.EnterShows kind.system w course b.before Is_real (g) t i m.host m.path a = subst (Shows.MailShows kind.system w course b.before Is_real (g) t i m.host m.path) l ((x.cells t n.0 n.1).mails i m f) in
      let few : a.followed ≤ 0 = subst (λ c. a.followed ≤ c) z (subst (λ r. a.followed ≤ ((g).trail r).last) q y.followed) in
      (few, y.host_is ∙ ap (λ r. ((g).trail r).at a.followed) q ∙ ap ((g).trail p).at (none _ few))
    where
      none : (n : ℕ) → n ≤ 0 → n ≡ 0
      none n l = omega (arith, l)

  unborn_at : (p : Path) → (g).born p ≡ false → (unborn : IsUnborn s p) × IsBornOn s p unborn.birth
  unborn_at p u = by (subst (λ i. Shows.ColumnShows kind.system w course b.before Is_real i (g) p (s.columns p)) u (x.columns p)) (Told.unborn_is kind owes b batches begins jobs s k p u)
    where
      by : Shows.Unborn kind.system w course b.before Is_real (g) p (s.columns p) → IsUnborn s p → (unborn : IsUnborn s p) × IsBornOn s p unborn.birth
      by c o = (
        record {
          no_entry = o.no_entry;
          no_mark = o.no_mark;
          not_coming = o.not_coming;
          birth = ((g).trail p).at 0;
          enters = enters_lie p c.last;
          birth_is = λ q st en r c z h be ce. born_on p q st r c z (record { entry = en; there = h; lies = inl be }) ce;
        },
        born_on p,
      )

  pub recorded : Recorded kind workers b batches ls s
  recorded = record {
    one = has_one;
    only = λ p r r' h h'. body_is p r h ∙ sym (body_is p r' h');
    given = given_is;
    births = λ p. elim (bool_cases ((g).born p)) [
      | inr u ↦ inl ((note).noted.trace p ∙ ap (λ i. Arrivals.list_of i ((g).trail p)) u, (unborn_at p u).0, (unborn_at p u).1)
      | inl u ↦ inr (record { at = ((g).trail p).at; last = ((g).trail p).last }, Told.trail_is kind owes b batches begins jobs s k p u, (note).noted.trace p ∙ ap (λ i. Arrivals.list_of i ((g).trail p)) u, born_on p)
    ];
  }

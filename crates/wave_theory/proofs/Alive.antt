-- What is under way is there: the mails, the claims in line, and the hands of segments that are out.
use Rattle.std.proofs.Common.{◌≡◌, ℕ, ◌<◌, ◌≤◌, ◌⊎◌, inl, inr, nat_eq, true, false, Option, Some, None, [], ◌∷◌, ◌++◌, refl, sym, ◌∙◌, ap, subst, arith}
use Rattle.wave_base.specs.declared.path.Step.{Step}
use Rattle.wave_base.specs.declared.path.Path.{Path}
use Rattle.wave_base.specs.declared.children.Child.{Child}
use Rattle.wave_base.specs.Paths.{path_eq}
use Rattle.wave_base.specs.Kids.{child_at}
use Rattle.wave_states.specs.Actors.{Actors}
use Rattle.wave_states.specs.States.{State, Cell, Claim, Entry, Hand, Record, Letter, Enter, Visit, Back, Release, Transfer, Mail, Ask, set}
use Rattle.wave_states.specs.Steps.{Bench, with_bench}
use Rattle.wave_theory.proofs.Basics.{clash, number_cases, not_same, path_cases, set_at, set_there}
use Rattle.wave_theory.proofs.Order.{Way, IsWay, visits, rank, Entering, Lined, Coming, here}
use Rattle.wave_theory.proofs.Leaves.{Course}
use Rattle.wave_theory.proofs.Frames.{entered_spot, visits_of}
use Rattle.wave_theory.proofs.Shows
use Rattle.wave_states.specs.States.{is_coming}
use Rattle.wave_theory.proofs.Stages.{lined_done}

module _ {F : Type 0} where
  pub record EnterThere (mails : ℕ → Option (Mail F)) (k : ℕ) : Type 0 where
    pub mail : Mail F
    pub there : mails k ≡ Some mail
    pub ask : Ask
    pub letter : mail.letter ≡ Enter ask

  pub record ComingThere (mails : ℕ → Option (Mail F)) (k : ℕ) : Type 0 where
    pub mail : Mail F
    pub there : mails k ≡ Some mail
    pub coming : (mail.letter ≡ Visit) ⊎ (mail.letter ≡ Back)

  pub record PartingThere (mails : ℕ → Option (Mail F)) (k : ℕ) (p : Path) : Type 0 where
    pub mail : Mail F
    pub there : mails k ≡ Some mail
    pub path_is : mail.path ≡ p
    pub letter : (mail.letter ≡ Release) ⊎ ((en : Entry F) × (mail.letter ≡ Transfer en))

pub record ClaimThere (waiting : ℕ → Option Claim) (j t : ℕ) : Type 0 where
  pub claim : Claim
  pub there : waiting j ≡ Some claim
  pub ticket_is : claim.ticket ≡ t

pub record HandThere {A F : Type 0} (hands : ℕ → Option (Hand A F)) (v t : ℕ) : Type 0 where
  pub hand : Hand A F
  pub there : hands v ≡ Some hand
  pub ticket_is : hand.ticket ≡ t

module _ {A F R J : Type 0} (sys : Actors A F R J) (w : Way) (course : Course sys) (low : ℕ) (is_real : ℕ → Type 0) where
  -- of one ticket
  pub record AliveOne (g : Shows.Ghost F) (t : ℕ) (mails : ℕ → Option (Mail F)) : Type 0 where
    pub entering : g.lines.stage t ≡ Entering → EnterThere mails (g.main t)
    pub coming : g.lines.stage t ≡ Coming → ComingThere mails (g.main t)
    pub parting : (p : Path) → g.lines.holds p t ≡ true → w.held t (g.lines.pos t) p ≡ false → PartingThere mails (g.parting t p) p
    pub lined : g.lines.stage t ≡ Lined → ClaimThere (g.entry (here w g.lines t)).waiting (rank w (here w g.lines t) t) t

  -- it has left the context, which is on its way to another host
  pub record AwayBy (g : Shows.Ghost F) (p : Path) : Type 0 where
    pub ticket : ℕ
    pub holds : g.lines.holds p ticket ≡ true
    pub not_held : w.held ticket (g.lines.pos ticket) p ≡ false

  -- a ticket comes to the context
  pub record Comer (g : Shows.Ghost F) (p : Path) : Type 0 where
    pub ticket : ℕ
    pub first : 1 ≤ ticket
    pub known : ticket ≤ g.lines.admitted
    pub comes : visits w ticket p ≡ true

  -- each child in the record of a context is there, or a ticket comes to it
  abbrev pub Kids : Shows.Ghost F → Path → Type 0
  Kids g q = (st : Step) (c : Child) → child_at (g.body q).children st ≡ Some c → (g.born (q ++ st ∷ []) ≡ true) ⊎ Comer g (q ++ st ∷ [])

  pub record Alive (s : State A F R J) (g : Shows.Ghost F) : Type 0 where
    pub one : (t : ℕ) → low < t → t ≤ g.lines.admitted → AliveOne g t (s.cells t).mails
    pub out : (t : ℕ) → g.out t ≡ true → HandThere s.hands (g.worker t) t
    pub away : (p : Path) → g.born p ≡ true → (g.trail p).stored ≡ false → AwayBy g p
    pub few : (p : Path) → g.lines.served p ≤ rank w p g.lines.admitted
    pub kids : (q : Path) → Kids g q
    pub housed : (r : Path) (i : ℕ) → i ≤ (g.trail r).last → (g.trail r).at i < course.hosts
    pub no_zero : (t : ℕ) → (s.cells t).mails 0 ≡ None

  -- where as many are admitted
  pub kids_same : (g g' : Shows.Ghost F) (q : Path) → g'.lines.admitted ≡ g.lines.admitted → ((st : Step) → g.born (q ++ st ∷ []) ≡ true → g'.born (q ++ st ∷ []) ≡ true) → g'.body q ≡ g.body q → Kids g q → Kids g' q
  kids_same g g' q same grows bd k st c e = elim (k st c (ap (λ (u : Record F). child_at u.children st) (sym bd) ∙ e)) [
    | inl u ↦ inl (grows st u)
    | inr u ↦ inr (record { ticket = u.ticket; first = u.first; known = subst (λ i. u.ticket ≤ i) (sym same) u.known; comes = u.comes })
  ]

  -- a label of t at p by v keeps the rest
  pub alive_update : (s : State A F R J) (g g' : Shows.Ghost F) (t : ℕ) (p : Path) (v : ℕ) (y : Bench A F R) → Shows.Shows sys w course low is_real s g → Shows.Frame sys w course low is_real g g' t p v → g'.lines.admitted ≡ g.lines.admitted → t ≤ g.lines.admitted → low < t → Alive s g →
      ((b : ℕ) (c : Claim) → nat_eq t b ≡ false → (g.entry p).waiting (rank w p b) ≡ Some c → visits w b p ≡ true → (g'.entry p).waiting (rank w p b) ≡ Some c) →
      ((h : Hand A F) → s.hands v ≡ Some h → h.ticket ≡ t) → AliveOne g' t y.part.cell.mails → (g'.out t ≡ true → HandThere (set nat_eq s.hands v y.hand) (g'.worker t) t) →
      ((r : Path) → path_eq p r ≡ false → g.lines.holds r t ≡ true → w.held t (g.lines.pos t) r ≡ false → w.held t (g'.lines.pos t) r ≡ false) → (g'.born p ≡ true → (g'.trail p).stored ≡ false → AwayBy g' p) →
      g'.lines.served p ≤ rank w p g.lines.admitted → (g.born p ≡ true → g'.born p ≡ true) → Kids g' p →
      ((r : Path) (i : ℕ) → i ≤ (g'.trail r).last → (g'.trail r).at i < course.hosts) → y.part.cell.mails 0 ≡ None → (law : IsWay w) → Alive (with_bench s t p v y) g'
  alive_update s g g' t p v y x f same la lt a wait mine one own later at_p few_p grows kids_p housed' zero_p law = record {
    one = λ b lb l. elim (number_cases t b) [
      | inl z ↦ subst (λ i. AliveOne g' i (set nat_eq s.cells t y.part.cell i).mails) z (subst (λ (c : Cell A F R). AliveOne g' t c.mails) (sym (set_at s.cells t y.part.cell)) one)
      | inr z ↦ subst (λ (c : Cell A F R). AliveOne g' b c.mails) (sym (set_there nat_eq s.cells t y.part.cell b z)) (others b z lb (subst (λ i. b ≤ i) same l))
    ];
    out = λ b e. elim (number_cases t b) [
      | inl z ↦ subst (λ i. HandThere (set nat_eq s.hands v y.hand) (g'.worker i) i) z (own (ap g'.out z ∙ e))
      | inr z ↦ (let o = a.out b (sym (f.out b z) ∙ e) in record {
        hand = o.hand;
        there = ap (set nat_eq s.hands v y.hand) (f.worker b z) ∙ set_there nat_eq s.hands v y.hand (g.worker b) (elim (number_cases v (g.worker b)) [ inr n ↦ n | inl n ↦ absurd (not_same t b z (sym (mine o.hand (ap s.hands n ∙ o.there)) ∙ o.ticket_is)) ]) ∙ o.there;
        ticket_is = o.ticket_is;
      })
    ];
    away = λ r b e. elim (path_cases p r) [
      | inl d ↦ subst (AwayBy g') d (at_p (subst (λ i. g'.born i ≡ true) (sym d) b) (subst (λ i. (g'.trail i).stored ≡ false) (sym d) e))
      | inr d ↦ elim (f.trail r d) [
        | inr u ↦ absurd (clash _ (sym (f.born r d) ∙ b) u.1)
        | inl u ↦ away_there r d (a.away r (sym (f.born r d) ∙ b) (ap (λ i. i.stored) (sym u) ∙ e))
      ]
    ];
    housed = housed';
    no_zero = λ b. elim (number_cases t b) [
      | inl z ↦ subst (λ i. (set nat_eq s.cells t y.part.cell i).mails 0 ≡ None) z (ap (λ (c : Cell A F R). c.mails 0) (set_at s.cells t y.part.cell) ∙ zero_p)
      | inr z ↦ ap (λ (c : Cell A F R). c.mails 0) (set_there nat_eq s.cells t y.part.cell b z) ∙ a.no_zero b
    ];
    few = λ r. subst (λ i. g'.lines.served r ≤ rank w r i) (sym same) (elim (path_cases p r) [
      | inl d ↦ subst (λ q. g'.lines.served q ≤ rank w q g.lines.admitted) d few_p
      | inr d ↦ subst (λ i. i ≤ rank w r g.lines.admitted) (sym (f.served r d)) (a.few r)
    ]);
    kids = λ q. elim (path_cases p q) [
      | inl d ↦ subst (Kids g') d kids_p
      | inr d ↦ kids_same g g' q same (λ st. born_grows (q ++ st ∷ [])) (f.body q d) (a.kids q)
    ];
  }
    where
      born_grows : (r : Path) → g.born r ≡ true → g'.born r ≡ true
      born_grows r e = elim (path_cases p r) [
        | inl d ↦ subst (λ i. g'.born i ≡ true) d (grows (subst (λ i. g.born i ≡ true) (sym d) e))
        | inr d ↦ f.born r d ∙ e
      ]

      away_there : (r : Path) → path_eq p r ≡ false → AwayBy g r → AwayBy g' r
      away_there r d o = record {
        ticket = o.ticket;
        holds = f.holds_there o.ticket r d ∙ o.holds;
        not_held = elim (number_cases t o.ticket) [
          | inr z ↦ ap (λ k. w.held o.ticket k r) (f.pos o.ticket z) ∙ o.not_held
          | inl z ↦ subst (λ b. w.held b (g'.lines.pos b) r ≡ false) z (later r d (subst (λ b. g.lines.holds r b ≡ true) (sym z) o.holds) (subst (λ b. w.held b (g.lines.pos b) r ≡ false) (sym z) o.not_held))
        ];
      }

      others : (b : ℕ) → nat_eq t b ≡ false → low < b → b ≤ g.lines.admitted → AliveOne g' b (s.cells b).mails
      others b z lb l = (let o = a.one b lb l in record {
        entering = λ e. let i = o.entering (sym (f.stage b z) ∙ e) in record { mail = i.mail; there = ap (s.cells b).mails (f.main b z) ∙ i.there; ask = i.ask; letter = i.letter };
        coming = λ e. let i = o.coming (sym (f.stage b z) ∙ e) in record { mail = i.mail; there = ap (s.cells b).mails (f.main b z) ∙ i.there; coming = i.coming };
        parting = λ r h n. let i = o.parting r (sym (f.holds b r z) ∙ h) (ap (λ k. w.held b k r) (sym (f.pos b z)) ∙ n) in record { mail = i.mail; there = ap (s.cells b).mails (f.parting b r z) ∙ i.there; path_is = i.path_is; letter = i.letter };
        lined = λ e. let i = o.lined (sym (f.stage b z) ∙ e) in lined_now b z l (sym (f.stage b z) ∙ e) i;
      })
        where
          lined_now : (b : ℕ) → nat_eq t b ≡ false → b ≤ g.lines.admitted → g.lines.stage b ≡ Lined → ClaimThere (g.entry (here w g.lines b)).waiting (rank w (here w g.lines b) b) b → ClaimThere (g'.entry (here w g'.lines b)).waiting (rank w (here w g'.lines b) b) b
          lined_now b z l e i = subst (λ r. ClaimThere (g'.entry r).waiting (rank w r b) b) (sym (ap (w.place b) (f.pos b z))) (elim (path_cases p (here w g.lines b)) [
            | inr d ↦ record { claim = i.claim; there = ap (λ (u : Entry F). u.waiting (rank w (here w g.lines b) b)) (f.entry (here w g.lines b) d) ∙ i.there; ticket_is = i.ticket_is }
            | inl d ↦ record { claim = i.claim; there = subst (λ r. (g'.entry r).waiting (rank w r b) ≡ Some i.claim) d (wait b i.claim z (subst (λ r. (g.entry r).waiting (rank w r b) ≡ Some i.claim) (sym d) i.there) (subst (λ r. visits w b r ≡ true) (sym d) (visits_of sys w law course low is_real g x.good b (here w g.lines b) l (entered_spot sys w law course low is_real g x.good b l (λ n. lined_done (sym e ∙ n)))))); ticket_is = i.ticket_is }
          ])

module _ {F : Type 0} where
  -- a mail but the one that is taken
  pub parting_but : (mails : ℕ → Option (Mail F)) (k i : ℕ) (p : Path) → PartingThere mails i p → ((m : Mail F) → mails k ≡ Some m → m.path ≡ p → (m.letter ≡ Release) ⊎ ((en : Entry F) × (m.letter ≡ Transfer en)) → ⊥) → PartingThere (set nat_eq mails k None) i p
  parting_but mails k i p o n = record {
    mail = o.mail;
    there = set_there nat_eq mails k None i (elim (number_cases k i) [ inr z ↦ z | inl z ↦ absurd (n o.mail (ap mails z ∙ o.there) o.path_is o.letter) ]) ∙ o.there;
    path_is = o.path_is;
    letter = o.letter;
  }

  pub enter_not : (a : Ask) (m : Letter F) → m ≡ Enter a → (m ≡ Release) ⊎ ((en : Entry F) × (m ≡ Transfer en)) → ⊥
  enter_not a m e (inl z) = release_not (sym e ∙ z)
    where
      release_not : ◌≡◌ {A = Letter F} (Enter a) Release → ⊥
      release_not e = grind arith
  enter_not a m e (inr z) = transfer_not z.0 (sym e ∙ z.1)
    where
      transfer_not : (en : Entry F) → ◌≡◌ {A = Letter F} (Enter a) (Transfer en) → ⊥
      transfer_not en e = grind arith

  pub coming_no : (m : Letter F) → is_coming m ≡ true → (m ≡ Release) ⊎ ((en : Entry F) × (m ≡ Transfer en)) → ⊥
  coming_no m e (inl z) = clash false (sym (ap is_coming z) ∙ e) refl
  coming_no m e (inr z) = clash false (sym (ap is_coming z.1) ∙ e) refl

-- a mail less
pub cut_zero : {F : Type 0} (mails : ℕ → Option (Mail F)) (k : ℕ) → mails 0 ≡ None → set nat_eq mails k None 0 ≡ None
cut_zero mails k e = elim (number_cases k 0) [
  | inl z ↦ subst (λ i. set nat_eq mails k None i ≡ None) z (set_at mails k None)
  | inr z ↦ set_there nat_eq mails k None 0 z ∙ e
]

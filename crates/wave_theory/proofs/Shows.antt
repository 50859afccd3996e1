-- What the machine's state shows of the lines: ticket by ticket, context by context, hand by hand.
use Rattle.std.proofs.Common.{◌≡◌, ◌≢◌, ℕ, suc, ◌+◌, ◌<◌, ◌≤◌, ◌⊎◌, ◌==◌, ◌&&◌, not, nat_eq, Bool, true, false, Some, None, is_some, List, [], ◌∷◌, ◌++◌}
use Rattle.std.specs.List.{list_any, AllByRecursion}
use Rattle.wave_base.specs.declared.path.Step.{Step}
use Rattle.wave_base.specs.declared.path.Path.{Path}
use Rattle.wave_base.specs.declared.children.Child.{Child}
use Rattle.wave_base.specs.Paths.{path_eq, parent_of}
use Rattle.wave_base.specs.Kids.{child_at}
use Rattle.wave_states.specs.Actors.{Actors}
use Rattle.wave_states.specs.States.{State, Cell, Column, Claim, Entry, Event, Hand, Hold, Record, Letter, Enter, Visit, Back, Release, Transfer, Mail, Ask, Status, Travelling, Ended, Waiting, Ready, Running, hold_at, steps_of}
use Rattle.wave_states.specs.Steps.{new_entry, child_or_new}
use Rattle.wave_theory.proofs.Order.{Way, rank, Stage, Entering, Lined, Coming, There, Done, is_pending, Lines, here, Good}
use Rattle.wave_theory.proofs.Leaves.{Course}
use Rattle.wave_theory.proofs.Tracks.{Trail, owner, Track, Empty}

-- what is known beside the state: the lines; whether a ticket's segment is out, and with which worker; the numbers of its mail
-- under way, and of the mail that frees a context; each context's entry and record wherever they are, whether it is born, its trail
pub record Ghost (F : Type 0) : Type 0 where
  pub lines : Lines
  pub out : ℕ → Bool
  pub worker : ℕ → ℕ
  pub main : ℕ → ℕ
  pub parting : ℕ → Path → ℕ
  pub entry : Path → Entry F
  pub body : Path → Record F
  pub born : Path → Bool
  pub trail : Path → Trail

abbrev pub holds_claim : List Claim → ℕ → Bool
holds_claim cs t = list_any (λ c. c.ticket == t) cs

abbrev pub given_of : {F : Type 0} → Record F → Step → ℕ
given_of r s = (child_or_new (child_at r.children s) 0).given

-- each path once
abbrev pub Once : List (Path × Hold) → Type 0
Once [] = Unit {0}
Once (x ∷ xs) = (hold_at xs x.0 ≡ None) × Once xs

abbrev pub StatusShows : Status → Stage → Bool → Path → Type 0
StatusShows Travelling Entering o p = o ≡ false
StatusShows Travelling Coming o p = o ≡ false
StatusShows (Waiting q) Lined o p = (q ≡ p) × (o ≡ false)
StatusShows (Ready q) There o p = (q ≡ p) × (o ≡ false)
StatusShows (Running q) There o p = (q ≡ p) × (o ≡ true)
StatusShows Ended Done o p = o ≡ false
StatusShows _ _ o p = ⊥

module _ {A F R J : Type 0} (sys : Actors A F R J) (w : Way) (course : Course sys) (low : ℕ) (is_real : ℕ → Type 0) where
  abbrev pub spot : Ghost F → ℕ → Path
  spot g t = here w g.lines t

  -- the context is held by the ticket, and was given up: its Release or Transfer is under way
  pub record Leaving (g : Ghost F) (t k host : ℕ) (p : Path) : Type 0 where
    pub holds : g.lines.holds p t ≡ true
    pub not_held : w.held t (g.lines.pos t) p ≡ false
    pub number_is : k ≡ g.parting t p
    pub host_is : host ≡ owner (g.trail p)

  pub record EnterShows (g : Ghost F) (t k host : ℕ) (p : Path) (a : Ask) : Type 0 where
    pub stage : g.lines.stage t ≡ Entering
    pub place : p ≡ spot g t
    pub number : a.number ≡ rank w p t
    pub peek : a.peek ≡ w.looks t p
    pub main : k ≡ g.main t
    pub followed : a.followed ≤ (g.trail p).last
    pub host_is : host ≡ (g.trail p).at a.followed

  pub record ComingShows (g : Ghost F) (t k host : ℕ) (p : Path) : Type 0 where
    pub stage : g.lines.stage t ≡ Coming
    pub place : p ≡ spot g t
    pub main : k ≡ g.main t
    pub host_is : host ≡ owner (g.trail p)

  abbrev pub MailShows : Ghost F → ℕ → ℕ → ℕ → Path → Letter F → Type 0
  MailShows g t k host p (Enter a) = EnterShows g t k host p a
  MailShows g t k host p Visit = ComingShows g t k host p
  MailShows g t k host p Back = ComingShows g t k host p
  MailShows g t k host p Release = Leaving g t k host p × ((g.trail p).stored ≡ true)
  MailShows g t k host p (Transfer en) = Leaving g t k host p × ((g.trail p).stored ≡ false) × (en ≡ g.entry p) × (w.looks t p ≡ false)

  -- it holds a context that it was let in to and has not given up
  abbrev pub in_hand : Ghost F → ℕ → Path → Bool
  in_hand g t p = w.held t (g.lines.pos t) p && not (is_pending (g.lines.stage t) && path_eq (spot g t) p)

  pub record CellShows (g : Ghost F) (t : ℕ) (c : Cell A F R) : Type 0 where
    pub event : Event A
    pub event_is : c.event ≡ Some event
    pub status : StatusShows event.status (g.lines.stage t) (g.out t) (spot g t)
    pub actor : g.out t ≡ false → event.actor ≡ course.actor t (g.lines.pos t)
    pub held : (p : Path) → is_some (hold_at event.held p) ≡ in_hand g t p
    pub where_held : (p : Path) (x : Hold) → hold_at event.held p ≡ Some x → (x.host ≡ owner (g.trail p)) × ((g.trail p).stored ≡ true) × (x.peek ≡ w.looks t p)
    pub once : Once event.held
    pub result : c.result ≡ course.result t (g.lines.pos t)
    pub mails : (k : ℕ) (m : Mail F) → c.mails k ≡ Some m → MailShows g t k m.host m.path m.letter
    pub unused : (k : ℕ) → event.sent < k → c.mails k ≡ None
    pub real : is_real t

  -- a claim in line
  pub record WaitShows (g : Ghost F) (p : Path) (j : ℕ) (c : Claim) : Type 0 where
    pub known : c.ticket ≤ g.lines.admitted
    pub later : low < c.ticket
    pub stage : g.lines.stage c.ticket ≡ Lined
    pub place : spot g c.ticket ≡ p
    pub number : j ≡ rank w p c.ticket
    pub peek : c.peek ≡ w.looks c.ticket p

  pub record AwayShows (g : Ghost F) (p : Path) : Type 0 where
    pub ticket : ℕ
    pub holds : g.lines.holds p ticket ≡ true
    pub looks : w.looks ticket p ≡ false
    pub out : g.out ticket ≡ true
    pub place : spot g ticket ≡ p

  pub record EntryShows (g : Ghost F) (p : Path) : Type 0 where
    pub served : (g.entry p).served ≡ g.lines.served p
    pub holders : (t : ℕ) → holds_claim (g.entry p).holders t ≡ g.lines.holds p t
    pub peeks : AllByRecursion (λ c. c.peek ≡ w.looks c.ticket p) (g.entry p).holders
    pub later : (t : ℕ) → g.lines.holds p t ≡ true → low < t
    pub waits : (j : ℕ) (c : Claim) → (g.entry p).waiting j ≡ Some c → WaitShows g p j c
    pub away : (g.entry p).body ≡ None → AwayShows g p
    pub body : (r : Record F) → (g.entry p).body ≡ Some r → r ≡ g.body p
    pub given : (s : Step) → given_of (g.body p) s ≡ g.lines.given (p ++ s ∷ [])
    pub births : (s : Step) (c : Child) → child_at (g.body p).children s ≡ Some c → c.birth.0 ≡ (g.trail (p ++ s ∷ [])).at 0
    pub strangers : (s : Step) → child_at (g.body p).children s ≡ None → g.born (p ++ s ∷ []) ≡ false
    pub unborn : g.born p ≡ false → g.entry p ≡ new_entry sys p
    pub moves : (g.entry p).moves ≡ (g.trail p).last

  pub record Stays (g : Ghost F) (p : Path) (c : Column F) : Type 0 where
    pub track : Track c (g.trail p)
    pub there : (g.trail p).stored ≡ true → c.store (owner (g.trail p)) ≡ Some (g.entry p)

  pub record Unborn (g : Ghost F) (p : Path) (c : Column F) : Type 0 where
    pub empty : Empty c
    pub last : (g.trail p).last ≡ 0

  abbrev pub ColumnShows : Bool → Ghost F → Path → Column F → Type 0
  ColumnShows true g p c = Stays g p c
  ColumnShows false g p c = Unborn g p c

  pub record HandShows (g : Ghost F) (v : ℕ) (h : Hand A F) : Type 0 where
    pub known : h.ticket ≤ g.lines.admitted
    pub later : low < h.ticket
    pub out : g.out h.ticket ≡ true
    pub worker : v ≡ g.worker h.ticket
    pub stage : g.lines.stage h.ticket ≡ There
    pub place : h.path ≡ spot g h.ticket
    pub actor : Some h.actor ≡ course.actor h.ticket (g.lines.pos h.ticket)
    pub fields : h.body.fields ≡ (g.body h.path).fields
    pub whole : w.looks h.ticket h.path ≡ false → h.body ≡ g.body h.path
    pub bare : w.looks h.ticket h.path ≡ true → h.body.children ≡ []

  -- the record of a context and a leaf of the fold are alike
  pub record Like (r : Record F) (l : F × List Step) : Type 0 where
    pub fields : r.fields ≡ l.0
    pub steps : steps_of r.children ≡ l.1

  -- nobody changes it
  abbrev pub IsCalm : Lines → Path → Type 0
  IsCalm s p = (b : ℕ) → s.holds p b ≡ true → w.looks b p ≡ true

  pub record Kept (g : Ghost F) : Type 0 where
    pub held : (p : Path) (t : ℕ) → g.lines.holds p t ≡ true → Like (g.body p) (course.leaf t (g.lines.pos t) p)
    pub calm : (p : Path) (m : ℕ) → IsCalm g.lines p → rank w p m ≡ g.lines.served p → low ≤ m → Like (g.body p) (course.leaf (suc m) 0 p)

  abbrev pub no_cell : Cell A F R
  no_cell = record { event = None; mails = λ k. None; result = None }

  pub record Shows (s : State A F R J) (g : Ghost F) : Type 0 where
    pub good : Good w g.lines
    pub kept : Kept g
    pub cells : (t : ℕ) → low < t → t ≤ g.lines.admitted → CellShows g t (s.cells t)
    pub no_cells : (t : ℕ) → (low < t → t ≤ g.lines.admitted → ⊥) → s.cells t ≡ no_cell
    pub entries : (p : Path) → EntryShows g p
    pub columns : (p : Path) → ColumnShows (g.born p) g p (s.columns p)
    pub hands : (v : ℕ) (h : Hand A F) → s.hands v ≡ Some h → HandShows g v h
    pub before : s.before ≡ low
    pub admitted : g.lines.admitted ≡ low + s.admitted
    pub idle : (t : ℕ) → (low < t → t ≤ g.lines.admitted → ⊥) → (g.lines.stage t ≡ Done) × (g.out t ≡ false)
    pub root : g.born [] ≡ true
    pub root_birth : (g.trail []).at 0 ≡ 0

  -- nothing changes for other tickets, nor for other contexts
  pub record Frame (g g' : Ghost F) (t : ℕ) (p : Path) (v : ℕ) : Type 0 where
    pub admitted : g.lines.admitted ≤ g'.lines.admitted
    pub stage : (b : ℕ) → nat_eq t b ≡ false → g'.lines.stage b ≡ g.lines.stage b
    pub pos : (b : ℕ) → nat_eq t b ≡ false → g'.lines.pos b ≡ g.lines.pos b
    pub out : (b : ℕ) → nat_eq t b ≡ false → g'.out b ≡ g.out b
    pub worker : (b : ℕ) → nat_eq t b ≡ false → g'.worker b ≡ g.worker b
    pub main : (b : ℕ) → nat_eq t b ≡ false → g'.main b ≡ g.main b
    pub parting : (b : ℕ) (q : Path) → nat_eq t b ≡ false → g'.parting b q ≡ g.parting b q
    pub holds : (b : ℕ) (q : Path) → nat_eq t b ≡ false → g'.lines.holds q b ≡ g.lines.holds q b
    pub holds_there : (b : ℕ) (q : Path) → path_eq p q ≡ false → g'.lines.holds q b ≡ g.lines.holds q b
    pub entry : (q : Path) → path_eq p q ≡ false → g'.entry q ≡ g.entry q
    pub body : (q : Path) → path_eq p q ≡ false → g'.body q ≡ g.body q
    pub born : (q : Path) → path_eq p q ≡ false → g'.born q ≡ g.born q
    pub served : (q : Path) → path_eq p q ≡ false → g'.lines.served q ≡ g.lines.served q
    pub given : (q : Path) (s : Step) → path_eq p q ≡ false → g'.lines.given (q ++ s ∷ []) ≡ g.lines.given (q ++ s ∷ [])
    pub trail : (q : Path) → path_eq p q ≡ false → (g'.trail q ≡ g.trail q) ⊎ ((g.lines.given q ≡ 0) × (g.born q ≡ false) × (g'.trail q).last ≡ 0 × ((parent_of q ≡ p) × (q ≢ [])))
    pub birth : (g'.trail p).at 0 ≡ (g.trail p).at 0
    -- of other tickets at the context
    pub longer : (b : ℕ) → nat_eq t b ≡ false → (g'.trail p ≡ g.trail p) ⊎ ((g.lines.holds p b ≡ false) × ((g.trail p).last ≤ (g'.trail p).last) × ((f : ℕ) → f ≤ (g.trail p).last → (g'.trail p).at f ≡ (g.trail p).at f))
    pub entry_moving : (b : ℕ) → nat_eq t b ≡ false → g.lines.holds p b ≡ true → (g.trail p).stored ≡ false → g'.entry p ≡ g.entry p
    pub body_shared : (b : ℕ) → nat_eq t b ≡ false → g.lines.holds p b ≡ true → g'.body p ≡ g.body p
    -- a child that is new in its parent's record isn't born
    pub born_known : (q : Path) (s : Step) → q ++ s ∷ [] ≡ p → child_at (g.body q).children s ≡ None → g'.born p ≡ false
    -- of the ticket itself at other contexts
    pub lined : (q : Path) → path_eq p q ≡ false → g.lines.stage t ≡ Lined → spot g t ≡ q → (g'.lines.stage t ≡ Lined) × (spot g' t ≡ q)
    pub away : (q : Path) → path_eq p q ≡ false → g.out t ≡ true → spot g t ≡ q → (g'.out t ≡ true) × (spot g' t ≡ q)
    pub hand : (u : ℕ) → nat_eq v u ≡ false → g.out t ≡ true → u ≡ g.worker t → (g'.out t ≡ true) × (g'.worker t ≡ g.worker t) × (g'.lines.stage t ≡ g.lines.stage t) × (g'.lines.pos t ≡ g.lines.pos t) × (g'.body (spot g t) ≡ g.body (spot g t))

-- The state of the machine. A map whose keys are tickets, hosts, numbers or paths is the function of what it has at each
-- key: None but where a list of the state says so (the tickets admitted, the paths entered, the mails sent).
use Rattle.std.specs.Prelude.{ℕ, Bool, true, false, if◌then◌else◌, List, map, Option, Some, None}
use Rattle.std.specs.Map.{lookup}
use Rattle.std.specs.BTreeMap.{is_at}
use Rattle.wave_base.specs.declared.path.Step.{Step}
use Rattle.wave_base.specs.declared.path.Path.{Path}
use Rattle.wave_base.specs.declared.children.Child.{Child}
use Rattle.wave_base.specs.Paths.{path_cmp}
use Rattle.wave_base.specs.Fold.{Head}

-- f, but x at k
abbrev pub set : {K X : Type 0} → (K → K → Bool) → (K → X) → K → X → K → X
set eq f k x q = if eq k q then x else f q

-- what a context keeps: its fields, and of each child how many entry numbers were given for it and where it was born
pub record Record (F : Type 0) : Type 0 where
  pub fields : F
  pub children : List (Step × Child)

-- a ticket that waits at a context or holds it, and whether it only looks and so may hold it beside others that do
pub record Claim : Type 0 where
  pub ticket : ℕ
  pub peek : Bool

-- the record is away while the worker of its one holder has it
pub record Entry (F : Type 0) : Type 0 where
  pub body : Option (Record F)
  pub holders : List Claim
  pub served : ℕ
  pub waiting : ℕ → Option Claim
  pub moves : ℕ

-- where a context went from here, as its number-th move
pub record Mark : Type 0 where
  pub to : ℕ
  pub number : ℕ

-- what an Enter asks for, and the number of the last mark that it followed
pub record Ask : Type 0 where
  pub number : ℕ
  pub followed : ℕ
  pub peek : Bool

pub data Letter (F : Type 0) : Type 0 where
  Enter : Ask → Letter F
  Visit Back Release : Letter F
  Transfer : Entry F → Letter F

-- a mail under way to a host, for a context
pub record Mail (F : Type 0) : Type 0 where
  pub host : ℕ
  pub path : Path
  pub letter : Letter F

pub data Status : Type 0 where
  Travelling Ended : Status
  Waiting Ready Running : Path → Status

-- at which host a path is held, and whether beside others
pub record Hold : Type 0 where
  pub host : ℕ
  pub peek : Bool

-- an admitted event: its held paths in their order, and how many mails it sent
pub record Event (A : Type 0) : Type 0 where
  pub actor : Option A
  pub held : List (Path × Hold)
  pub sent : ℕ
  pub status : Status

-- what the machine has of one ticket: its mails under way, by their numbers from 1 on, whichever host they go to
pub record Cell (A F R : Type 0) : Type 0 where
  pub event : Option (Event A)
  pub mails : ℕ → Option (Mail F)
  pub result : Option R

-- what it has of one context, host by host
pub record Column (F : Type 0) : Type 0 where
  pub store : ℕ → Option (Entry F)
  pub gone : ℕ → Option Mark

-- what a worker has in its hand while a segment is out
pub record Hand (A F : Type 0) : Type 0 where
  pub ticket : ℕ
  pub path : Path
  pub actor : A
  pub body : Record F

-- `before` is the number of tickets before this run. The head's `done` jobs are those that are committed; `admitted` are admitted
pub record State (A F R J : Type 0) : Type 0 where
  pub before : ℕ
  pub head : Head J
  pub admitted : ℕ
  pub cells : ℕ → Cell A F R
  pub columns : Path → Column F
  pub hands : ℕ → Option (Hand A F)

-- where a path is held
abbrev pub hold_at : List (Path × Hold) → Path → Option Hold
hold_at held p = lookup (is_at (path_cmp p)) held

abbrev pub is_peek_in : Option Hold → Bool
is_peek_in None = false
is_peek_in (Some x) = x.peek

-- it is held beside others
abbrev pub holds_as_peek : List (Path × Hold) → Path → Bool
holds_as_peek held p = is_peek_in (hold_at held p)

abbrev pub steps_of : List (Step × Child) → List Step
steps_of children = map (λ c. c.0) children

-- what is asked of the kinds of letters
module _ {F : Type 0} where
  abbrev pub ask_in : Letter F → Option Ask
  ask_in (Enter a) = Some a
  ask_in _ = None

  -- a Visit or a Back
  abbrev pub is_coming : Letter F → Bool
  is_coming Visit = true
  is_coming Back = true
  is_coming _ = false

  abbrev pub is_release : Letter F → Bool
  is_release Release = true
  is_release _ = false

  abbrev pub entry_in : Letter F → Option (Entry F)
  entry_in (Transfer e) = Some e
  entry_in _ = None

-- What an actor owes, and what fits: then every schedule gives what the fold gives.
use Rattle.std.specs.Prelude.{◌≡◌, ◌<◌, ℕ, zero, suc, true, false, List, [], ◌∷◌, ◌++◌, Option, Some, None, All}
use Rattle.std.specs.List.Sorted.{IsStrictlySortedBy}
use Rattle.wave_base.specs.declared.path.Step.{Step}
use Rattle.wave_base.specs.declared.path.Path.{Path}
use Rattle.wave_base.specs.Paths.{path_cmp, parent_of}
use Rattle.wave_base.specs.Tree.{Tree, there}
use Rattle.wave_states.specs.Actors.{Pause, Go, Down, Back, Over}
use Rattle.wave_states.specs.Kinds.{Kind}
use Rattle.wave_states.specs.Alone.{ended_alone}
use Rattle.wave_states.specs.Begins.{Begin}

-- the path that a result moves is this one, and its host is one of the first so many
abbrev pub MovesOnly : ℕ → Path → Option (Path × ℕ) → Type 0
MovesOnly hosts p None = Unit {0}
MovesOnly hosts p (Some m) = (m.0 ≡ p) × (m.1 < hosts)

module _ {A F R J : Type 0} (kind : Kind A F R J) where
  -- The tree protocol: an actor goes on for good only with no call open; a call opens one, and it goes back only from one. At the
  -- end what it creates are jobs, and it moves only the context where it is.
  abbrev pub Keeps : A → Path → ℕ → Pause R → Type 0
  Keeps a p n (Go s) = (n ≡ 0) × kind.may_run a (p ++ s ∷ []) 0
  Keeps a p n (Down s) = kind.may_run a (p ++ s ∷ []) (suc n)
  Keeps a p zero Back = ⊥
  Keeps a p (suc n) Back = kind.may_run a (parent_of p) n
  Keeps a p n (Over r) = All kind.is_job (kind.system.created r) × MovesOnly kind.hosts p (kind.system.moved r)

  -- A segment of one that only looks leaves the fields, doesn't depend on the children, and ends without a move.
  pub record Looks (a : A) (f : F) (cs : List Step) : Type 0 where
    pub same : (kind.system.segment a f cs).fields ≡ f
    pub blind : kind.system.segment a f cs ≡ kind.system.segment a f []
    pub result : R
    pub over : (kind.system.segment a f cs).pause ≡ Over result
    pub stays : kind.system.moved result ≡ None

  pub record Owes : Type 0 where
    pub initial : (p : Path) → kind.fits p (kind.system.initial p)
    pub first : (j : J) (t : ℕ) → kind.is_job j → kind.may_run (kind.system.make j t) [] 0
    pub kept : (a : A) (p : Path) (n : ℕ) (f : F) (cs : List Step) → kind.may_run a p n → kind.fits p f → kind.fits p (kind.system.segment a f cs).fields
    pub keeps : (a : A) (p : Path) (n : ℕ) (f : F) (cs : List Step) → kind.may_run a p n → kind.fits p f → Keeps (kind.system.segment a f cs).actor p n (kind.system.segment a f cs).pause
    pub looks : (a : A) (p : Path) (n : ℕ) (f : F) (cs : List Step) → kind.may_run a p n → kind.fits p f → kind.system.peeks a ≡ true → Looks a f cs
    -- its run ends, whatever tree it finds
    pub ends : (j : J) (t : ℕ) (tree : Tree F) → kind.is_job j → ((p : Path) → kind.fits p (tree.fields p)) → IsStrictlySortedBy path_cmp tree.paths → (r : R) × ((ended_alone kind.system t tree j).result ≡ Some r)

  -- a Begin fits
  pub record IsBegin (b : Begin F) : Type 0 where
    pub ordered : IsStrictlySortedBy path_cmp b.tree.paths
    pub root : there b.tree [] ≡ true
    pub parents : (p : Path) → there b.tree p ≡ true → there b.tree (parent_of p) ≡ true
    pub fields : (p : Path) → kind.fits p (b.tree.fields p)
    pub absent : (p : Path) → there b.tree p ≡ false → b.tree.fields p ≡ kind.system.initial p
    pub places : b.places.paths ≡ b.tree.paths
    pub within : (p : Path) → there b.tree p ≡ true → b.places.fields p < kind.hosts

  -- a plan fits: it has a host and a worker, and its batches are of jobs
  pub record IsPlan (workers : ℕ) (batches : List (List J)) : Type 0 where
    pub some_host : 0 < kind.hosts
    pub some_worker : 0 < workers
    pub jobs : All (All kind.is_job) batches

-- Which label does what.
use Rattle.std.proofs.Common.{◌≡◌, ℕ, Bool, true, false, List, [], refl}
use Rattle.wave_base.specs.declared.path.Path.{Path}
use Rattle.wave_states.specs.States.{Column}
use Rattle.wave_states.specs.Labels.{Act, Admit, Queue, Grant, Start, Stop, Free, Pass, Land, Commit}
use Rattle.wave_states.specs.Labels
use Rattle.wave_states.specs.Owners.{trail_by}
use Rattle.wave_theory.proofs.Basics.{clash}
use Rattle.wave_theory.proofs.Deeds.{Deed, Suits}
use Rattle.wave_theory.proofs.Deeds
use Rattle.wave_theory.specs.Came.{granted_by}

pub queue_form : (a : Act) → Suits a Deeds.Lines_up → (t k : ℕ) × (p : Path) × (a ≡ Queue t k p)
queue_form (Queue t k p) s = (t, k, p, refl)
queue_form (Admit t) s = absurd s
queue_form (Grant t p) s = absurd s
queue_form (Labels.Visit t k p) s = absurd s
queue_form (Start t p) s = absurd s
queue_form (Stop t p) s = absurd s
queue_form (Free t k p) s = absurd s
queue_form (Pass t k p to) s = absurd s
queue_form (Land t k p) s = absurd s
queue_form (Commit t) s = absurd s

pub grant_form : (a : Act) → Suits a Deeds.Lets_in → (t : ℕ) × (p : Path) × (a ≡ Grant t p)
grant_form (Grant t p) s = (t, p, refl)
grant_form (Admit t) s = absurd s
grant_form (Queue t k p) s = absurd s
grant_form (Labels.Visit t k p) s = absurd s
grant_form (Start t p) s = absurd s
grant_form (Stop t p) s = absurd s
grant_form (Free t k p) s = absurd s
grant_form (Pass t k p to) s = absurd s
grant_form (Land t k p) s = absurd s
grant_form (Commit t) s = absurd s

pub admit_form : (a : Act) → Suits a Deeds.Admits → (t : ℕ) × (a ≡ Admit t)
admit_form (Admit t) s = (t, refl)
admit_form (Grant t p) s = absurd s
admit_form (Queue t k p) s = absurd s
admit_form (Labels.Visit t k p) s = absurd s
admit_form (Start t p) s = absurd s
admit_form (Stop t p) s = absurd s
admit_form (Free t k p) s = absurd s
admit_form (Pass t k p to) s = absurd s
admit_form (Land t k p) s = absurd s
admit_form (Commit t) s = absurd s

-- a segment's end
abbrev pub ends_segment : Deed → Bool
ends_segment Deeds.Goes_on = true
ends_segment Deeds.Ends = true
ends_segment (Deeds.Goes_in s r) = true
ends_segment (Deeds.Moves to) = true
ends_segment Deeds.Admits = false
ends_segment Deeds.Lines_up = false
ends_segment Deeds.Lets_in = false
ends_segment Deeds.Arrives = false
ends_segment Deeds.Rests = false
ends_segment Deeds.Lands = false

-- it leaves the trails
abbrev pub leaves_trails : Deed → Bool
leaves_trails Deeds.Admits = true
leaves_trails Deeds.Lets_in = true
leaves_trails Deeds.Arrives = true
leaves_trails Deeds.Rests = true
leaves_trails Deeds.Lands = true
leaves_trails Deeds.Lines_up = false
leaves_trails Deeds.Goes_on = false
leaves_trails Deeds.Ends = false
leaves_trails (Deeds.Goes_in s r) = false
leaves_trails (Deeds.Moves to) = false

pub stop_form : (a : Act) (d : Deed) → ends_segment d ≡ true → Suits a d → (t : ℕ) × (p : Path) × (a ≡ Stop t p)
stop_form (Stop t p) d e s = (t, p, refl)
stop_form (Admit t) d e s = absurd (off d e s)
  where
    off : (d : Deed) → ends_segment d ≡ true → Suits (Admit t) d → ⊥
    off Deeds.Admits e s = clash false e refl
    off Deeds.Goes_on e s = s
    off Deeds.Ends e s = s
    off (Deeds.Goes_in st r) e s = s
    off (Deeds.Moves to) e s = s
    off Deeds.Lines_up e s = s
    off Deeds.Lets_in e s = s
    off Deeds.Arrives e s = s
    off Deeds.Rests e s = s
    off Deeds.Lands e s = s
stop_form (Queue t k p) d e s = absurd (off d e s)
  where
    off : (d : Deed) → ends_segment d ≡ true → Suits (Queue t k p) d → ⊥
    off Deeds.Lines_up e s = clash false e refl
    off Deeds.Goes_on e s = s
    off Deeds.Ends e s = s
    off (Deeds.Goes_in st r) e s = s
    off (Deeds.Moves to) e s = s
    off Deeds.Admits e s = s
    off Deeds.Lets_in e s = s
    off Deeds.Arrives e s = s
    off Deeds.Rests e s = s
    off Deeds.Lands e s = s
stop_form (Grant t p) d e s = absurd (off d e s)
  where
    off : (d : Deed) → ends_segment d ≡ true → Suits (Grant t p) d → ⊥
    off Deeds.Lets_in e s = clash false e refl
    off Deeds.Goes_on e s = s
    off Deeds.Ends e s = s
    off (Deeds.Goes_in st r) e s = s
    off (Deeds.Moves to) e s = s
    off Deeds.Lines_up e s = s
    off Deeds.Admits e s = s
    off Deeds.Arrives e s = s
    off Deeds.Rests e s = s
    off Deeds.Lands e s = s
stop_form (Labels.Visit t k p) d e s = absurd (off d e s)
  where
    off : (d : Deed) → ends_segment d ≡ true → Suits (Labels.Visit t k p) d → ⊥
    off Deeds.Arrives e s = clash false e refl
    off Deeds.Goes_on e s = s
    off Deeds.Ends e s = s
    off (Deeds.Goes_in st r) e s = s
    off (Deeds.Moves to) e s = s
    off Deeds.Lines_up e s = s
    off Deeds.Lets_in e s = s
    off Deeds.Admits e s = s
    off Deeds.Rests e s = s
    off Deeds.Lands e s = s
stop_form (Start t p) d e s = absurd (off d e s)
  where
    off : (d : Deed) → ends_segment d ≡ true → Suits (Start t p) d → ⊥
    off Deeds.Rests e s = clash false e refl
    off Deeds.Goes_on e s = s
    off Deeds.Ends e s = s
    off (Deeds.Goes_in st r) e s = s
    off (Deeds.Moves to) e s = s
    off Deeds.Lines_up e s = s
    off Deeds.Lets_in e s = s
    off Deeds.Arrives e s = s
    off Deeds.Admits e s = s
    off Deeds.Lands e s = s
stop_form (Free t k p) d e s = absurd (off d e s)
  where
    off : (d : Deed) → ends_segment d ≡ true → Suits (Free t k p) d → ⊥
    off Deeds.Rests e s = clash false e refl
    off Deeds.Goes_on e s = s
    off Deeds.Ends e s = s
    off (Deeds.Goes_in st r) e s = s
    off (Deeds.Moves to) e s = s
    off Deeds.Lines_up e s = s
    off Deeds.Lets_in e s = s
    off Deeds.Arrives e s = s
    off Deeds.Admits e s = s
    off Deeds.Lands e s = s
stop_form (Pass t k p h) d e s = absurd (off d e s)
  where
    off : (d : Deed) → ends_segment d ≡ true → Suits (Pass t k p h) d → ⊥
    off Deeds.Rests e s = clash false e refl
    off Deeds.Goes_on e s = s
    off Deeds.Ends e s = s
    off (Deeds.Goes_in st r) e s = s
    off (Deeds.Moves to) e s = s
    off Deeds.Lines_up e s = s
    off Deeds.Lets_in e s = s
    off Deeds.Arrives e s = s
    off Deeds.Admits e s = s
    off Deeds.Lands e s = s
stop_form (Land t k p) d e s = absurd (off d e s)
  where
    off : (d : Deed) → ends_segment d ≡ true → Suits (Land t k p) d → ⊥
    off Deeds.Lands e s = clash false e refl
    off Deeds.Goes_on e s = s
    off Deeds.Ends e s = s
    off (Deeds.Goes_in st r) e s = s
    off (Deeds.Moves to) e s = s
    off Deeds.Lines_up e s = s
    off Deeds.Lets_in e s = s
    off Deeds.Arrives e s = s
    off Deeds.Rests e s = s
    off Deeds.Admits e s = s
stop_form (Commit t) d e s = absurd (off d e s)
  where
    off : (d : Deed) → ends_segment d ≡ true → Suits (Commit t) d → ⊥
    off Deeds.Rests e s = clash false e refl
    off Deeds.Goes_on e s = s
    off Deeds.Ends e s = s
    off (Deeds.Goes_in st r) e s = s
    off (Deeds.Moves to) e s = s
    off Deeds.Lines_up e s = s
    off Deeds.Lets_in e s = s
    off Deeds.Arrives e s = s
    off Deeds.Admits e s = s
    off Deeds.Lands e s = s

-- a label that leaves the trails says nothing of them
pub trail_stays : {F : Type 0} (a : Act) (d : Deed) → leaves_trails d ≡ true → Suits a d → (trail : List ℕ) (host : ℕ) (c : Column F) → trail_by trail a host c ≡ trail
trail_stays (Admit t) d e s trail host c = refl
trail_stays (Grant t p) d e s trail host c = refl
trail_stays (Labels.Visit t k p) d e s trail host c = refl
trail_stays (Start t p) d e s trail host c = refl
trail_stays (Free t k p) d e s trail host c = refl
trail_stays (Pass t k p to) d e s trail host c = refl
trail_stays (Land t k p) d e s trail host c = refl
trail_stays (Commit t) d e s trail host c = refl
trail_stays (Queue t k p) d e s trail host c = absurd (off d e s)
  where
    off : (d : Deed) → leaves_trails d ≡ true → Suits (Queue t k p) d → ⊥
    off Deeds.Lines_up e s = clash false e refl
    off Deeds.Goes_on e s = s
    off Deeds.Ends e s = s
    off (Deeds.Goes_in st r) e s = s
    off (Deeds.Moves to) e s = s
    off Deeds.Admits e s = s
    off Deeds.Lets_in e s = s
    off Deeds.Arrives e s = s
    off Deeds.Rests e s = s
    off Deeds.Lands e s = s
trail_stays (Stop t p) d e s trail host c = absurd (off d e s)
  where
    off : (d : Deed) → leaves_trails d ≡ true → Suits (Stop t p) d → ⊥
    off Deeds.Goes_on e s = clash false e refl
    off Deeds.Ends e s = clash false e refl
    off (Deeds.Goes_in st r) e s = clash false e refl
    off (Deeds.Moves to) e s = clash false e refl
    off Deeds.Admits e s = s
    off Deeds.Lines_up e s = s
    off Deeds.Lets_in e s = s
    off Deeds.Arrives e s = s
    off Deeds.Rests e s = s
    off Deeds.Lands e s = s

-- a label that lets nobody in grants nothing
abbrev pub lets_in : Deed → Bool
lets_in Deeds.Lets_in = true
lets_in Deeds.Admits = false
lets_in Deeds.Lines_up = false
lets_in Deeds.Arrives = false
lets_in Deeds.Rests = false
lets_in Deeds.Lands = false
lets_in Deeds.Goes_on = false
lets_in Deeds.Ends = false
lets_in (Deeds.Goes_in s r) = false
lets_in (Deeds.Moves to) = false

pub grants_none : (a : Act) (d : Deed) → lets_in d ≡ false → Suits a d → (p : Path) → granted_by p a ≡ []
grants_none (Admit t) d e s p = refl
grants_none (Queue t k q) d e s p = refl
grants_none (Labels.Visit t k q) d e s p = refl
grants_none (Start t q) d e s p = refl
grants_none (Stop t q) d e s p = refl
grants_none (Free t k q) d e s p = refl
grants_none (Pass t k q to) d e s p = refl
grants_none (Land t k q) d e s p = refl
grants_none (Commit t) d e s p = refl
grants_none (Grant t q) d e s p = absurd (off d e s)
  where
    off : (d : Deed) → lets_in d ≡ false → Suits (Grant t q) d → ⊥
    off Deeds.Lets_in e s = clash true refl e
    off Deeds.Goes_on e s = s
    off Deeds.Ends e s = s
    off (Deeds.Goes_in st r) e s = s
    off (Deeds.Moves to) e s = s
    off Deeds.Lines_up e s = s
    off Deeds.Admits e s = s
    off Deeds.Arrives e s = s
    off Deeds.Rests e s = s
    off Deeds.Lands e s = s

-- What a label does to the lines, to what is born, and to the trails, in one place: the laws that count labels rest on this alone.
use Rattle.std.proofs.Common.{◌≡◌, ◌≢◌, ℕ, suc, ◌<◌, ◌≤◌, ◌⊎◌, inl, inr, nat_eq, Bool, true, false, Some, None, [], ◌∷◌, ◌++◌, refl, subst}
use Rattle.wave_theory.proofs.Basics.{set_there}
use Rattle.wave_base.specs.declared.path.Step.{Step}
use Rattle.wave_base.specs.declared.path.Path.{Path}
use Rattle.wave_base.specs.declared.children.Child.{Child}
use Rattle.wave_base.specs.Paths.{path_eq}
use Rattle.wave_base.specs.Kids.{child_at}
use Rattle.wave_states.specs.Actors.{Actors}
use Rattle.wave_states.specs.States.{State, Event, set}
use Rattle.wave_states.specs.Labels.{Act, Admit, Queue, Grant, Visit, Start, Stop, Free, Pass, Land, Commit, ticket_of, path_of}
use Rattle.wave_theory.proofs.Order.{Way, rank, Stage, Entering, Lined, Coming, There, Done, here}
use Rattle.wave_theory.proofs.Leaves.{Course}
use Rattle.wave_theory.proofs.Tracks.{Trail, owner, sent_on, arrived, unborn, born}
use Rattle.wave_theory.proofs.Shows

-- what is told of a ghost
pub record Outline : Type 0 where
  pub admitted : ℕ
  pub pos : ℕ → ℕ
  pub stage : ℕ → Stage
  pub served : Path → ℕ
  pub given : Path → ℕ
  pub births : Path → Bool
  pub trail : Path → Trail

abbrev pub outline : {F : Type 0} → Shows.Ghost F → Outline
outline g = record { admitted = g.lines.admitted; pos = g.lines.pos; stage = g.lines.stage; served = g.lines.served; given = g.lines.given; births = g.born; trail = g.trail }

-- The kinds of changes. At a segment's end the ticket goes on into a new child, whose trail is as given; or elsewhere; or it ends,
-- and its context stays, or goes to a host.
pub data Deed : Type 0 where
  Admits Lines_up Lets_in Arrives Rests Lands Goes_on Ends : Deed
  Goes_in : Step → Trail → Deed
  Moves : ℕ → Deed

abbrev pub grown : Bool → Trail → Trail
grown true r = r
grown false r = born r

abbrev pub with_stage : Outline → ℕ → Stage → Outline
with_stage o t v = record { admitted = o.admitted; pos = o.pos; stage = set nat_eq o.stage t v; served = o.served; given = o.given; births = o.births; trail = o.trail }

abbrev pub with_segment : Outline → ℕ → Stage → (Path → ℕ) → (Path → Trail) → Outline
with_segment o t v given trail = record { admitted = o.admitted; pos = set nat_eq o.pos t (suc (o.pos t)); stage = set nat_eq o.stage t v; served = o.served; given = given; births = o.births; trail = trail }

abbrev pub done_by : Way → Outline → ℕ → Path → Deed → Outline
done_by w o t p Admits = record {
  admitted = suc o.admitted;
  pos = set nat_eq o.pos (suc o.admitted) 0;
  stage = set nat_eq o.stage (suc o.admitted) Entering;
  served = o.served;
  given = set path_eq o.given [] (suc (o.given []));
  births = o.births;
  trail = o.trail;
}
done_by w o t p Lines_up = record { admitted = o.admitted; pos = o.pos; stage = set nat_eq o.stage t Lined; served = o.served; given = o.given; births = set path_eq o.births p true; trail = set path_eq o.trail p (grown (o.births p) (o.trail p)) }
done_by w o t p Lets_in = record {
  admitted = o.admitted;
  pos = o.pos;
  stage = set nat_eq o.stage t There;
  served = set path_eq o.served (w.place t (o.pos t)) (suc (o.served (w.place t (o.pos t))));
  given = o.given;
  births = o.births;
  trail = o.trail;
}
done_by w o t p Arrives = with_stage o t There
done_by w o t p Rests = o
done_by w o t p Lands = record { admitted = o.admitted; pos = o.pos; stage = o.stage; served = o.served; given = o.given; births = o.births; trail = set path_eq o.trail p (arrived (o.trail p)) }
done_by w o t p Goes_on = with_segment o t Coming o.given o.trail
done_by w o t p Ends = with_segment o t Done o.given o.trail
done_by w o t p (Goes_in s r) = with_segment o t Entering (set path_eq o.given (p ++ s ∷ []) (suc (o.given (p ++ s ∷ [])))) (set path_eq o.trail (p ++ s ∷ []) r)
done_by w o t p (Moves to) = with_segment o t Done o.given (set path_eq o.trail p (sent_on (o.trail p) to))

-- which deeds a label may do
abbrev pub Suits : Act → Deed → Type 0
Suits (Admit t) Admits = Unit {0}
Suits (Queue t k p) Lines_up = Unit {0}
Suits (Grant t p) Lets_in = Unit {0}
Suits (Visit t k p) Arrives = Unit {0}
Suits (Start t p) Rests = Unit {0}
Suits (Free t k p) Rests = Unit {0}
Suits (Pass t k p g) Rests = Unit {0}
Suits (Land t k p) Lands = Unit {0}
Suits (Commit t) Rests = Unit {0}
Suits (Stop t p) Goes_on = Unit {0}
Suits (Stop t p) Ends = Unit {0}
Suits (Stop t p) (Goes_in s r) = Unit {0}
Suits (Stop t p) (Moves to) = Unit {0}
Suits _ _ = ⊥

module _ {A F R J : Type 0} (sys : Actors A F R J) (w : Way) (course : Course sys) (low : ℕ) (is_real : ℕ → Type 0) where
  module _ (g : Shows.Ghost F) (t : ℕ) (p : Path) where
    pub record LinesUp : Type 0 where
      pub stage : g.lines.stage t ≡ Entering
      pub place : here w g.lines t ≡ p
      pub unborn : g.born p ≡ false → (g.trail p).last ≡ 0

    pub record LetsIn : Type 0 where
      pub stage : g.lines.stage t ≡ Lined
      pub place : here w g.lines t ≡ p
      pub number : rank w p t ≡ suc (g.lines.served p)
      pub calm : Shows.IsCalm sys w course low is_real g.lines p

    -- a segment's end
    pub record Stopped : Type 0 where
      pub stage : g.lines.stage t ≡ There
      pub place : here w g.lines t ≡ p
      pub born : g.born p ≡ true
      pub stored : (g.trail p).stored ≡ true

    -- of one that goes on
    pub record GoesOn : Type 0 where
      pub stopped : Stopped
      pub more : suc (g.lines.pos t) ≤ w.last t
      pub stale : w.fresh t (suc (g.lines.pos t)) ≡ false

    -- of one that ends with a result
    pub record Ended (move : R → Type 0) : Type 0 where
      pub stopped : Stopped
      pub last : g.lines.pos t ≡ w.last t
      pub result : R
      pub result_is : course.result t (suc (g.lines.pos t)) ≡ Some result
      pub move_is : move result

    pub record Sends (to : ℕ) (r : R) : Type 0 where
      pub moved : sys.moved r ≡ Some (p, to)
      pub other : to ≢ owner (g.trail p)
      pub stored : (g.trail p).stored ≡ true
      pub latest : rank w p t ≡ g.lines.served p

    abbrev pub Stays : R → Type 0
    Stays r = (sys.moved r ≡ None) ⊎ (sys.moved r ≡ Some (p, owner (g.trail p)))

  module _ (s : State A F R J) (g g' : Shows.Ghost F) (t : ℕ) (p : Path) where
    -- of one that goes on in a child that it enters
    pub record GoesIn (st : Step) (r : Trail) : Type 0 where
      pub stopped : Stopped g t p
      pub more : suc (g.lines.pos t) ≤ w.last t
      pub fresh : w.fresh t (suc (g.lines.pos t)) ≡ true
      pub next : w.place t (suc (g.lines.pos t)) ≡ p ++ st ∷ []
      pub latest : rank w p t ≡ g.lines.served p
      pub number : rank w (p ++ st ∷ []) t ≡ suc (g.lines.given (p ++ st ∷ []))
      pub trail : ((c : Child) × (child_at (g.body p).children st ≡ Some c) × (r ≡ g.trail (p ++ st ∷ []))) ⊎ ((r ≡ unborn (owner (g.trail p))) × (g.lines.given (p ++ st ∷ []) ≡ 0) × (g.born (p ++ st ∷ []) ≡ false))
      pub main : (e : Event A) → (s.cells t).event ≡ Some e → g'.main t ≡ suc e.sent

    abbrev pub Fits : Deed → Type 0
    Fits Admits = (t ≡ suc g.lines.admitted) × (g.lines.stage t ≡ Done)
    Fits Lines_up = LinesUp g t p
    Fits Lets_in = LetsIn g t p
    Fits Arrives = (g.lines.stage t ≡ Coming)
    Fits Rests = Unit {0}
    Fits Lands = Unit {0}
    Fits Goes_on = GoesOn g t p
    Fits Ends = Ended g t p (Stays g t p)
    Fits (Goes_in st r) = GoesIn st r
    Fits (Moves to) = Ended g t p (Sends g t p to)

    -- the children that a record has, it had, or they have entry numbers now
    abbrev pub Kids : Type 0
    Kids = (q : Path) (st : Step) (c : Child) → child_at (g'.body q).children st ≡ Some c → (child_at (g.body q).children st ≡ Some c) ⊎ (0 < c.given)

  -- other tickets stay where they are
  pub stays_off : (s : State A F R J) (g g' : Shows.Ghost F) (t : ℕ) (p : Path) (d : Deed) → Fits s g g' t p d → (u : ℕ) → nat_eq t u ≡ false → ((done_by w (outline g) t p d).stage u ≡ g.lines.stage u) × ((done_by w (outline g) t p d).pos u ≡ g.lines.pos u)
  stays_off s g g' t p Admits f u n = (let m = subst (λ i. nat_eq i u ≡ false) f.0 n in (set_there nat_eq g.lines.stage (suc g.lines.admitted) Entering u m, set_there nat_eq g.lines.pos (suc g.lines.admitted) 0 u m))
  stays_off s g g' t p Lines_up f u n = (set_there nat_eq g.lines.stage t Lined u n, refl)
  stays_off s g g' t p Lets_in f u n = (set_there nat_eq g.lines.stage t There u n, refl)
  stays_off s g g' t p Arrives f u n = (set_there nat_eq g.lines.stage t There u n, refl)
  stays_off s g g' t p Rests f u n = (refl, refl)
  stays_off s g g' t p Lands f u n = (refl, refl)
  stays_off s g g' t p Goes_on f u n = (set_there nat_eq g.lines.stage t Coming u n, set_there nat_eq g.lines.pos t _ u n)
  stays_off s g g' t p Ends f u n = (set_there nat_eq g.lines.stage t Done u n, set_there nat_eq g.lines.pos t _ u n)
  stays_off s g g' t p (Goes_in st r) f u n = (set_there nat_eq g.lines.stage t Entering u n, set_there nat_eq g.lines.pos t _ u n)
  stays_off s g g' t p (Moves to) f u n = (set_there nat_eq g.lines.stage t Done u n, set_there nat_eq g.lines.pos t _ u n)

  -- one ticket more, or none
  pub how_many : (s : State A F R J) (g g' : Shows.Ghost F) (t : ℕ) (p : Path) (d : Deed) → Fits s g g' t p d → ((done_by w (outline g) t p d).admitted ≡ g.lines.admitted) ⊎ (((done_by w (outline g) t p d).admitted ≡ suc g.lines.admitted) × (t ≡ suc g.lines.admitted))
  how_many s g g' t p Admits f = inr (refl, f.0)
  how_many s g g' t p Lines_up f = inl refl
  how_many s g g' t p Lets_in f = inl refl
  how_many s g g' t p Arrives f = inl refl
  how_many s g g' t p Rests f = inl refl
  how_many s g g' t p Lands f = inl refl
  how_many s g g' t p Goes_on f = inl refl
  how_many s g g' t p Ends f = inl refl
  how_many s g g' t p (Goes_in st r) f = inl refl
  how_many s g g' t p (Moves to) f = inl refl

  -- what a label does
  pub record Turn (s : State A F R J) (g g' : Shows.Ghost F) (a : Act) : Type 0 where
    pub deed : Deed
    pub suits : Suits a deed
    pub is : outline g' ≡ done_by w (outline g) (ticket_of a) (path_of a) deed
    pub fits : Fits s g g' (ticket_of a) (path_of a) deed
    pub kids : Kids s g g' (ticket_of a) (path_of a)

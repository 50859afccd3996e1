-- Entry numbers.
use Rattle.std.specs.Prelude.{◌≡◌, ◌⊎◌, ◌+◌, ℕ, suc, List, [], Some}
use Rattle.wave_base.specs.declared.path.Path.{Path}
use Rattle.wave_base.specs.Places.{load_of}
use Rattle.wave_states.specs.Kinds.{Kind}
use Rattle.wave_states.specs.States.{State, Entry, Claim, Mail, Enter, Transfer, Ask}
use Rattle.wave_states.specs.Begins.{Begin}
use Rattle.wave_theory.specs.Always.{fold, AreThere, served_before}

module _ {A F R J : Type 0} where
  -- the context's entry lies in a store, or in a Transfer under way
  abbrev pub HasEntry : State A F R J → Path → Entry F → Type 0
  HasEntry s p en = ((host : ℕ) × ((s.columns p).store host ≡ Some en)) ⊎ ((t k : ℕ) × (host : ℕ) × ((s.cells t).mails k ≡ Some (record { host = host; path = p; letter = Transfer en })))

module _ {A F R J : Type 0} (kind : Kind A F R J) (b : Begin F) (batches : List (List J)) where
  -- the ticket is the number-th that enters the context, counted on from what was served before this run; at the root the number is the ticket itself
  pub record IsNumber (p : Path) (ticket number : ℕ) : Type 0 where
    pub index : ℕ
    pub ticket_is : ticket ≡ suc b.before + index
    pub there : AreThere kind b batches (suc index)
    pub enters : load_of (fold kind b batches (suc index)).entered p ≡ suc (load_of (fold kind b batches index).entered p)
    pub number_is : number ≡ served_before kind b batches p + load_of (fold kind b batches (suc index)).entered p
    pub at_root : p ≡ [] → number ≡ ticket

  -- Numbers. Under which entry number an Enter is under way, and a claim waits.
  pub record Numbers (s : State A F R J) : Type 0 where
    pub enters : (t k : ℕ) (m : Mail F) (a : Ask) → (s.cells t).mails k ≡ Some m → m.letter ≡ Enter a → IsNumber m.path t a.number
    pub waits : (p : Path) (en : Entry F) (j : ℕ) (c : Claim) → HasEntry s p en → en.waiting j ≡ Some c → IsNumber p c.ticket j

-- For callers: what the accounts of a pass that another was joined to say.
use Rattle.std.proofs.Common.{◌≡◌, ℕ, List, [], ◌∷◌, ◌++◌}
use Rattle.std.specs.Prelude.{All}
use Rattle.std.proofs.lemmas.List.Elements.{All-nil, All-cons, All-head, All-tail}
use Rattle.kept_lock.specs.declared.view.Known.{Known}
use Rattle.kept_lock.specs.declared.view.Account.{Account}
use Rattle.kept_lock.specs.History.{entries_of}
use Rattle.kept_lock.specs.Knowing.{Accounts, account_of, joined_pass}

All-append_parts : {X : Type 0} → (P : X → Type 0) (xs ys : List X) → All P (xs ++ ys) → All P xs × All P ys
All-append_parts P [] ys h = (All-nil P, h)
All-append_parts P (x ∷ xs) ys h = let t = All-append_parts P xs ys (All-tail P x (xs ++ ys) h) in (All-cons P x xs (All-head P x (xs ++ ys) h) t.0, t.1)

-- of the other pass the history has just what that made, and of each pass that was joined to one of the two
pub record JoinedAccounts {E : Type 0} (owner : E → ℕ) (pass other : Known E) (history : List E) : Type 0 where
  pub made : entries_of owner other.number history ≡ other.made
  pub theirs : Accounts owner other history
  pub own : Accounts owner pass history

pub joined_accounts : {E : Type 0} → (owner : E → ℕ) (pass other : Known E) (history : List E) → Accounts owner (joined_pass pass other) history → JoinedAccounts owner pass other history
joined_accounts {E} owner pass other history h =
    let P : Account E → Type 0 = λ a. entries_of owner a.number history ≡ a.made in
    let parts = All-append_parts P other.accounts pass.accounts (All-tail P (account_of other) (other.accounts ++ pass.accounts) h) in
    record { made = All-head P (account_of other) (other.accounts ++ pass.accounts) h; theirs = parts.0; own = parts.1 }

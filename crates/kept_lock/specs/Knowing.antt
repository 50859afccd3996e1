-- What a pass knows, and what each call makes of it.
use Rattle.std.specs.Prelude.{◌≡◌, ℕ, ◌+◌, List, [], ◌∷◌, ◌++◌, All}
use Rattle.kept_lock.specs.declared.view.Known.{Known}
use Rattle.kept_lock.specs.declared.view.Account.{Account}
use Rattle.kept_lock.specs.History.{StartsWith, entries_of, later_than, longer_history}

module _ {E : Type 0} where
  -- the history begins with what the pass has seen, and has of the pass's own entries just those that it made
  abbrev pub Agrees : (E → ℕ) → Known E → List E → Type 0
  Agrees owner pass history = StartsWith history pass.seen × (entries_of owner pass.number history ≡ pass.made)

  -- the history has of each pass that was joined to this one just the entries that it made
  abbrev pub Accounts : (E → ℕ) → Known E → List E → Type 0
  Accounts owner pass history = All (λ a. entries_of owner a.number history ≡ a.made) pass.accounts

  -- the pass that a new lock comes with
  abbrev pub first : Known E
  first = record { number = 0; seen = []; made = []; passes = 1; accounts = [] }

  -- the pass inside, at this history
  abbrev pub pass_inside : Known E → List E → Known E
  pass_inside pass history = record pass { seen = history }

  -- the pass after a leave at this history, of which it made what it had not seen at its entry
  abbrev pub left_at : Known E → List E → Known E
  left_at pass history = record pass { seen = history; made = pass.made ++ later_than pass.seen history }

  -- the pass numbered 0, after it made one more
  abbrev pub counted_on : Known E → Known E
  counted_on pass = record pass { passes = pass.passes + 1 }

  -- the pass that it made
  abbrev pub next_pass : Known E → Known E
  next_pass pass = record { number = pass.passes; seen = pass.seen; made = []; passes = 0; accounts = [] }

  -- what a pass made in all, once it is joined to another
  abbrev pub account_of : Known E → Account E
  account_of pass = record { number = pass.number; made = pass.made }

  -- the pass with an account of the other, and with those that the other had
  abbrev pub with_accounts : Known E → Known E → Known E
  with_accounts pass other = record pass { accounts = account_of other ∷ other.accounts ++ pass.accounts }

  -- the pass, once the other is joined to it
  abbrev pub joined_pass : Known E → Known E → Known E
  joined_pass pass other = record (with_accounts pass other) { seen = longer_history pass.seen other.seen }

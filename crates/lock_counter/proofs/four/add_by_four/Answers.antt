use Rattle.std.proofs.Common.{◌≡◌, ℕ, List, subst, rules}
use Rattle.kept_lock.specs.declared.view.Known.{Known}
use Rattle.kept_lock.specs.History.{entries_of}
use Rattle.kept_lock.specs.Knowing.{Accounts, joined_pass}
use Rattle.kept_lock.specs.Locks.{knowledge}
use Rattle.kept_lock.proofs.Accounts.{joined_accounts}
use Rattle.lock_counter.proofs.four.add_by_four.Goals as goal

-- of three passes that were joined to one after the other, the history has just what each made
record Three {E : Type 0} (owner : E → ℕ) (two three four : Known E) (log : List E) : Type 0 where
  second : entries_of owner two.number log ≡ two.made
  third : entries_of owner three.number log ≡ three.made
  fourth : entries_of owner four.number log ≡ four.made

three_joined : {E : Type 0} → (owner : E → ℕ) (one two three four a b c : Known E) (log : List E) → a ≡ joined_pass one two → b ≡ joined_pass a three → c ≡ joined_pass b four → Accounts owner c log
    → Three owner two three four log
three_joined owner one two three four a b c log first second third h =
    let last = joined_accounts owner b four log (subst (λ k. Accounts owner k log) third h) in
    let before = joined_accounts owner a three log (subst (λ k. Accounts owner k log) second last.own) in
    let begin = joined_accounts owner one two log (subst (λ k. Accounts owner k log) first before.own) in
    record { second = begin.made; third = before.made; fourth = last.made }

pub returns-clause-second : goal.returns-clause-second
returns-clause-second g c =
    let done = c.run_four-one.result in
    let made = three_joined (λ e. e.by) (knowledge done.0.0.0) (knowledge done.0.1.0) (knowledge done.1.0.0) (knowledge done.1.1.0) _ _ _ c.close-counter.result.log.items
    c.join-pass.ensures.joined c.join-pass-2.ensures.joined c.join-pass-3.ensures.joined c.close-counter.ensures.accounts in
    let second = made.second in
    search rules

pub returns-clause-third : goal.returns-clause-third
returns-clause-third g c =
    let done = c.run_four-one.result in
    let made = three_joined (λ e. e.by) (knowledge done.0.0.0) (knowledge done.0.1.0) (knowledge done.1.0.0) (knowledge done.1.1.0) _ _ _ c.close-counter.result.log.items
    c.join-pass.ensures.joined c.join-pass-2.ensures.joined c.join-pass-3.ensures.joined c.close-counter.ensures.accounts in
    let third = made.third in
    search rules

pub returns-clause-fourth : goal.returns-clause-fourth
returns-clause-fourth g c =
    let done = c.run_four-one.result in
    let made = three_joined (λ e. e.by) (knowledge done.0.0.0) (knowledge done.0.1.0) (knowledge done.1.0.0) (knowledge done.1.1.0) _ _ _ c.close-counter.result.log.items
    c.join-pass.ensures.joined c.join-pass-2.ensures.joined c.join-pass-3.ensures.joined c.close-counter.ensures.accounts in
    let fourth = made.fourth in
    search rules

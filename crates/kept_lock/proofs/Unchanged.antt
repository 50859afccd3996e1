-- What a leave leaves that adds nothing, and one behind another.
use Rattle.std.proofs.Common.{◌≡◌, ◌∙◌, ℕ, Option, Some, List, ◌++◌, ap, subst, sym, append-nil, append_assoc}
use Rattle.std.specs.Prelude.{IfSome}
use Rattle.std.proofs.Math.Seq.{drop-length}
use Rattle.std.proofs.lemmas.List.Elements.{All-append}
use Rattle.kept_lock.specs.declared.view.Known.{Known}
use Rattle.kept_lock.specs.History.{Adds, later_than}
use Rattle.kept_lock.specs.Knowing.{pass_inside, left_at}
use Rattle.kept_lock.proofs.Entries.{later_than-append}

-- what a clause says of the value of a guard, said of that value
pub at_value : {V : Type 0} → (P : V → Type 0) (o : Option V) (y : V) → o ≡ Some y → IfSome o P → P y
at_value P o y is h = subst (λ t. IfSome t P) is h

-- a leave at the history of its entry leaves the pass as it was inside
pub left_as_entered : {E : Type 0} → (pass : Known E) (history : List E) → left_at (pass_inside pass history) history ≡ pass_inside pass history
left_as_entered {E} pass history =
    ap (λ (l : List E). record pass { seen = history; made = pass.made ++ l }) (drop-length history)
    ∙ ap (λ (l : List E). record pass { seen = history; made = l }) (append-nil pass.made)

module _ {E : Type 0} where
  -- two leaves in a row are one
  pub left_twice : (pass : Known E) (before mid after more rest : List E) → mid ≡ before ++ more → after ≡ mid ++ rest
      → left_at (pass_inside pass before) after ≡ left_at (pass_inside (left_at (pass_inside pass before) mid) mid) after
  left_twice pass before mid after more rest first second =
      let whole : after ≡ before ++ (more ++ rest) = second ∙ ap (λ l. l ++ rest) first ∙ append_assoc before more rest in
      let all : later_than before after ≡ more ++ rest = ap (later_than before) whole ∙ later_than-append before (more ++ rest) in
      let one : later_than before mid ≡ more = ap (later_than before) first ∙ later_than-append before more in
      let two : later_than mid after ≡ rest = ap (later_than mid) second ∙ later_than-append mid rest in
      ap (λ (l : List E). record pass { seen = after; made = l })
      (ap (λ l. pass.made ++ l) all ∙ sym (append_assoc pass.made more rest) ∙ ap (λ l. (pass.made ++ more) ++ l) (sym two) ∙ ap (λ l. (pass.made ++ l) ++ later_than mid after) (sym one))

  -- and what they added is of one owner
  pub adds_twice : (owner : E → ℕ) (number : ℕ) (before mid after : List E) → Adds owner number before mid → Adds owner number mid after → Adds owner number before after
  adds_twice owner number before mid after first second = (
    first.0 ++ second.0,
    second.1 ∙ ap (λ l. l ++ second.0) first.1 ∙ append_assoc before first.0 second.0,
    All-append (λ e. owner e ≡ number) first.0 second.0 first.2 second.2,
  )

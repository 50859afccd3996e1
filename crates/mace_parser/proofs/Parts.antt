-- A reader of several parts: what it gives by what its parts give.
use Rattle.std.proofs.Common.{◌≡◌, List, Ok, ap, ◌∙◌}
use Rattle.mace_lexer.specs.declared.token.Token.{Token}
use Rattle.mace_parser.specs.declared.fault.Fault.{Fault}
use Rattle.mace_parser.specs.declared.fault.Fault.TheVariants.{Memory, Stuck}
use Rattle.mace_parser.specs.inner.Gives.{Fails}
use Rattle.mace_grammar.specs.inner.Run.{Reader, Outcome, and_then}

-- the first part gave a value
pub then_gives : {A B : Type 0} {o : Outcome A} (next : A → Reader B) {x : A} {rest : List Token} {out : Outcome B} → o ≡ Ok (x, rest) → next x rest ≡ out → and_then o next ≡ out
then_gives next h e = ap (λ o. and_then o next) h ∙ e

-- the first part fails
pub part_fails : {A B : Type 0} (o : Outcome A) (next : A → Reader B) (fault : Fault) → Fails fault o → Fails fault (and_then o next)
part_fails o next (Memory _) h = tt
part_fails o next (Stuck last) h = ap (λ o. and_then o next) h

-- the first part gave a value, and one behind it fails
pub later_fails : {A B : Type 0} {o : Outcome A} (next : A → Reader B) {x : A} {rest : List Token} (fault : Fault) → o ≡ Ok (x, rest) → Fails fault (next x rest) → Fails fault (and_then o next)
later_fails next (Memory _) h e = tt
later_fails next (Stuck last) h e = ap (λ o. and_then o next) h ∙ e

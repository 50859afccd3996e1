use Rattle.std.proofs.Common.{◌≡◌, ◌<◌, ◌==◌, ◌&&◌, ℕ, List, length, Option, Some, None, IfSome, sym, rules}
use Rattle.std.proofs.lemmas.List.Quantifiers.{position-Some}
use Rattle.wave_base.specs.Names.{same_bytes}
use Rattle.type_rules.specs.declared.known.Known.{Known}
use Rattle.type_rules.specs.Known.{method_named, no_signature}
use Rattle.type_tables.proofs.tables.Tables.method.Goals as goal

within : (known : Known) (class : ℕ) (name : List ℕ) (r : Option ℕ) → r ≡ method_named known class name → IfSome r (λ m. m < length known.methods)
within known class name None h = tt
within known class name (Some m) h = (position-Some (λ s. s.class == class && same_bytes s.name name) known.methods m no_signature (sym h)).0

pub returns-in-Some-clause-within : goal.returns-in-Some-clause-within
returns-in-Some-clause-within c =
    let found : c.first.result ≡ method_named c.args.self.now c.args.class c.args.name.now = search rules in
    within c.args.self.now c.args.class c.args.name.now c.first.result found

use Rattle.std.proofs.Common.{◌∷◌, [], FitsSigned, w64, ap, subst, rules}
use Rattle.std.proofs.lemmas.Int.{to_z-of_z}
use Rattle.service_code.specs.declared.instr.Instr.TheVariants as i
use Rattle.code_scheme.specs.Scheme.{line}
use Rattle.service_compiler.specs.inner.Drafts.{Puts}
use Rattle.service_compiler.proofs.Emits.{literal_is}
use Rattle.service_compiler.proofs.Notes.{on_ok}
use Rattle.service_compiler.proofs.emit.emit_literal.Goals as goal

pub returns-in-Int : goal.returns-in-Int
returns-in-Int c =
    let fits : FitsSigned w64 c.in-Int.n = search rules in
    on_ok _ _ c.put.result (λ g.
    literal_is c.args.at c.in-Int.is (subst (λ z. Puts c.args.code.now c.put.new.self (line (i.PushInt z) c.args.at ∷ [])) (to_z-of_z w64 c.in-Int.n fits) g))
    c.put.ensures

pub returns-in-Bool : goal.returns-in-Bool
returns-in-Bool c = on_ok _ _ c.put-in-Bool.result (literal_is c.args.at c.in-Bool.is) c.put-in-Bool.ensures

pub returns-in-Str : goal.returns-in-Str
returns-in-Str c =
    on_ok _ _ c.put_use.result (λ g. literal_is c.args.at c.in-Str.is (g (λ n. i.PushText n) (ap i.PushText c.text_number-number.ensures))) c.put_use.ensures

pub returns-in-Map : goal.returns-in-Map
returns-in-Map c = on_ok _ _ c.put-in-Map.result (literal_is c.args.at c.in-Map.is) c.put-in-Map.ensures

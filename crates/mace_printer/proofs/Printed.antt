-- What is printed is cut into the canonical words.
use Rattle.std.proofs.Common.{◌≡◌, ℕ, List, [], ◌++◌, sym, ap, subst, ◌∙◌}
use Rattle.mace_ast.specs.Decls.{ServiceTree}
use Rattle.mace_printer.specs.Canon.{service_words}
use Rattle.mace_printer.specs.Layout.{layout}
use Rattle.mace_printer.specs.Written.{IsParsed, IsCutInto}
use Rattle.mace_printer.proofs.Standing.{layout_cut}
use Rattle.mace_printer.proofs.FineDecls.{parsed_stand}

pub printed_cut : (t : ServiceTree) → IsParsed t → IsCutInto (layout (service_words t)) (service_words t)
printed_cut t h = layout_cut (service_words t) (parsed_stand t h)

-- what was written behind nothing
pub written_cut : (t : ServiceTree) (out empty all : List ℕ) → IsParsed t → empty ≡ [] → all ≡ empty ++ layout (service_words t) → out ≡ all → IsCutInto out (service_words t)
written_cut t out empty all h e w k = subst (λ l. IsCutInto l (service_words t)) (sym (k ∙ w ∙ ap (λ l. l ++ layout (service_words t)) e)) (printed_cut t h)

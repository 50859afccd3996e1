use Rattle.mace_ast.specs.Decls.{service_tree}
use Rattle.mace_grammar.proofs.Judge.{one_tree}
use Rattle.mace_printer.specs.Canon.{service_words}
use Rattle.mace_printer.proofs.DeclSays.{service_says}
use Rattle.mace_printer.proofs.Fitting.{parsed_fits}
use Rattle.mace_printer.proofs.Printed.{written_cut}
use Rattle.mace_printer.proofs.whole.print.Goals as goal

pub returns-clause-cut : goal.returns-clause-cut
returns-clause-cut c = written_cut (service_tree c.args.service.now) c.from_vec.result c.new-out.result.items c.put_service.new.out.items c.requires c.new-out.ensures.items c.in_ok-put_service.ensures c.from_vec.ensures

pub returns-clause-spelled : goal.returns-clause-spelled
returns-clause-spelled c = service_says (service_tree c.args.service.now) (parsed_fits (service_tree c.args.service.now) c.requires)

pub returns-clause-only : goal.returns-clause-only
returns-clause-only c = λ s h. one_tree (service_words (service_tree c.args.service.now)) s (service_tree c.args.service.now) h (service_says (service_tree c.args.service.now) (parsed_fits (service_tree c.args.service.now) c.requires))

pub returns-in_err-put_service-clause-spelled : goal.returns-in_err-put_service-clause-spelled
returns-in_err-put_service-clause-spelled c = service_says (service_tree c.args.service.now) (parsed_fits (service_tree c.args.service.now) c.requires)

pub returns-in_err-put_service-clause-only : goal.returns-in_err-put_service-clause-only
returns-in_err-put_service-clause-only c = λ s h. one_tree (service_words (service_tree c.args.service.now)) s (service_tree c.args.service.now) h (service_says (service_tree c.args.service.now) (parsed_fits (service_tree c.args.service.now) c.requires))

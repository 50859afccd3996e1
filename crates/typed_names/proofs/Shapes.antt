-- The shape of a typed service whose names are words has names.
use Rattle.std.proofs.Common.{◌≡◌, true, map}
use Rattle.std.specs.List.{list_all}
use Rattle.wave_base.specs.declared.shape.ClassInfo.{ClassInfo}
use Rattle.wave_base.specs.Names.{is_name, HasNames}
use Rattle.mace_ast.specs.Decls.{ServiceTree}
use Rattle.mace_printer.specs.Written.{IsParsed}
use Rattle.mace_printer.proofs.FineDecls.{parsed_stand}
use Rattle.type_rules.specs.Known.{Entry, service_classes, shape_of}
use Rattle.type_rules.specs.Services.{IsTyped}
use Rattle.type_laws.proofs.Each.{all_of_each}
use Rattle.type_laws.proofs.Classes.{blank, typed_names}
use Rattle.typed_names.proofs.Names.{Is, class_names, names_stand}

pub named_shape : (tree : ServiceTree) → IsParsed tree → IsTyped tree → HasNames (shape_of tree)
unfolding shape_of
named_shape tree parsed typed =
    let words = names_stand tree (parsed_stand tree parsed) in
    let apart = typed_names tree typed in
    let all = service_classes tree in
    let fields = all_of_each (λ (e : Entry). e.info) (λ (c : ClassInfo). list_all is_name (map (λ f. f.name) c.fields) ≡ true) Is 0 blank all (λ i e h. h.fields) words.classes in
    record {
      classes = record { names_all = class_names all words.classes; differ = apart.classes };
      events = record { names_all = words.events; differ = apart.events };
      fields = λ n d l. record { names_all = fields n d l; differ = apart.fields n d l };
    }

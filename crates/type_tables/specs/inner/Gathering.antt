-- What was gathered so far, and what more declarations add.
use Rattle.std.specs.Prelude.{◌≡◌, ◌++◌, ◌+◌, ◌<◌, ◌^◌, ℕ, List, map, length}
use Rattle.wave_base.specs.declared.shape.EventInfo.{EventInfo}
use Rattle.type_rules.specs.declared.known.Known.{Known}
use Rattle.type_rules.specs.declared.known.Signature.{Signature}
use Rattle.type_rules.specs.Known.{Entry}
use Rattle.type_tables.specs.declared.gather.Gathered.{Gathered}
use Rattle.type_tables.specs.Indexed.{IsIndexed}

abbrev pub known_in : Gathered → Known
known_in g = record { version = g.version; shape = record { classes = g.classes.items; events = g.events.items }; above = g.above.items; methods = g.methods.items }

-- the tables tell the numbers of all names so far
pub record IsGathered (g : Gathered) : Type 0 where
  pub indexed : IsIndexed (known_in g) g.class_names g.event_names g.method_names.items
  pub tables : length g.method_names.items ≡ length g.classes.items
  pub aboves : length g.above.items ≡ length g.classes.items

-- there are numbers of 16 bits for so many more classes and methods
pub record HasRoom (g : Gathered) (more_classes more_methods : ℕ) : Type 0 where
  pub classes : length g.classes.items + more_classes < 2 ^ 16
  pub methods : length g.methods.items + more_methods < 2 ^ 16

-- so many more classes, methods and events
abbrev pub known_with : Known → List Entry → List Signature → List EventInfo → Known
known_with known classes methods events = record {
  version = known.version;
  shape = record { classes = known.shape.classes ++ map (λ c. c.info) classes; events = known.shape.events ++ events };
  above = known.above ++ map (λ c. c.above) classes;
  methods = known.methods ++ methods;
}

pub record Gains (old new : Gathered) (classes : List Entry) (methods : List Signature) (events : List EventInfo) : Type 0 where
  pub gathered : IsGathered new
  pub known : known_in new ≡ known_with (known_in old) classes methods events

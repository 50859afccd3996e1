-- What is declared, and tables of its names.
use Rattle.std.specs.Prelude.{◌≡◌, ◌≤◌, ◌<◌, ◌^◌, ℕ, List, [], length, get_or, All}
use Rattle.type_rules.specs.declared.known.Known.{Known}
use Rattle.type_rules.specs.Known.{class_named, event_named, method_named, above_of}
use Rattle.name_table.specs.Numbers.{first_number}

-- classes that one with a number may lie in: all come before it
pub record AreAbove (class : ℕ) (above : List ℕ) : Type 0 where
  pub earlier : All (λ c. c < class) above
  pub few : length above ≤ class

-- by name, each table gives the first number; and all numbers are short
pub record IsIndexed (known : Known) (classes events : List (List ℕ × ℕ)) (methods : List (List (List ℕ × ℕ))) : Type 0 where
  pub class : (name : List ℕ) → first_number classes name ≡ class_named known name
  pub event : (name : List ℕ) → first_number events name ≡ event_named known name
  pub method : (c : ℕ) (name : List ℕ) → first_number (get_or methods c []) name ≡ method_named known c name
  pub above : (c : ℕ) → AreAbove c (above_of known c)
  pub few_classes : length known.shape.classes < 2 ^ 16
  pub few_events : length known.shape.events < 2 ^ 16
  pub few_methods : length known.methods < 2 ^ 16

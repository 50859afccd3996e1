-- The store of a host, and what it stands for in the machine's theory.
use Rattle.std.specs.Prelude.{◌≡◌, ◌==◌, ◌||◌, ℕ, Bool, false, not, List, Option, Some, None, option_map, if◌then◌else◌, refl}
use Rattle.std.specs.Coded.{Coded, code_by, coded×, coded_ℕ}
use Rattle.std.specs.FinMap as map
use Rattle.wave_base.specs.declared.path.Path.{Path}
use Rattle.wave_base.specs.contracts.path.Path as path
use Rattle.wave_base.specs.declared.value.Value.{Value}
use Rattle.wave_base.specs.Paths.{path_cmp}
use Rattle.context_queue.specs.declared.entry.Entry.{Entry}
use Rattle.context_queue.specs.contracts.entry.Entry as entry
use Rattle.context_queue.specs.Entries.{StandsFor, entry_of}
use Rattle.host_map.specs.declared.store.Mark.{Mark}
use Rattle.host_map.specs.contracts.store.Mark as mark
use Rattle.host_map.specs.declared.store.Found.{Found}
use Rattle.host_map.specs.declared.store.Found.TheVariants.{Here, Gone, Unknown}
use Rattle.wave_states.specs.States as theory

-- the entries and the marks by path, and for how many more of each there is room
pub record Stores : Type 0 where
  pub store : map.FinMap path_cmp Entry
  pub gone : map.FinMap path_cmp Mark
  pub path_room : ℕ
  pub mark_room : ℕ

-- it is stored as its parts
abbrev pub stores_code : Coded Stores
stores_code =
    code_by (map.FinMap path_cmp Entry × (map.FinMap path_cmp Mark × (ℕ × ℕ)))
    (coded× (map.code path.the_row.coded entry.the_row.coded) (coded× (map.code path.the_row.coded mark.the_row.coded) (coded× coded_ℕ coded_ℕ)))
    (λ s. (s.store, (s.gone, (s.path_room, s.mark_room)))) (λ p. record { store = p.0; gone = p.1.0; path_room = p.1.1.0; mark_room = p.1.1.1 }) (λ _. refl)

-- the store has the path
abbrev pub has : Path → Stores → Bool
has p s = map.contains_key s.store p

-- it says that a ticket was let in, or that the context moved
abbrev pub is_counted : Option Entry → Bool
is_counted None = false
is_counted (Some e) = not (e.served == 0) || not (e.moves == 0)

-- the store has another entry at a path
abbrev pub with_entry : Stores → Path → Entry → Stores
with_entry s p e = record { store = map.insert s.store p e; gone = s.gone; path_room = s.path_room; mark_room = s.mark_room }

-- here where the store has it, else gone where there is a mark
abbrev pub found_by : Option Mark → Found
found_by None = Unknown
found_by (Some m) = Gone m

abbrev pub find_in : Stores → Path → Found
find_in s p = if has p s then Here else found_by (map.get s.gone p)

-- the mark that the theory has
abbrev pub mark_of : Mark → theory.Mark
mark_of m = record { to = m.to.0; number = m.number }

-- none for none, and one that stands for the other
abbrev pub Matches : Option Entry → Option (theory.Entry (List Value)) → Type 0
Matches None None = Unit {0}
Matches (Some e) (Some en) = StandsFor e en
Matches None (Some en) = ⊥
Matches (Some e) None = ⊥

-- what it has of a context is what a column of the theory has at a host
pub record IsAt (s : Stores) (p : Path) (c : theory.Column (List Value)) (host : ℕ) : Type 0 where
  pub entry : Matches (map.get s.store p) (c.store host)
  pub mark : c.gone host ≡ option_map mark_of (map.get s.gone p)

-- a column that has it, at whichever host
abbrev pub column_of : Stores → Path → theory.Column (List Value)
column_of s p = record { store = λ h. option_map entry_of (map.get s.store p); gone = λ h. option_map mark_of (map.get s.gone p) }

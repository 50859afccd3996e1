-- One tree of contexts, and what an event has done to it and to the outside.
use Rattle.std.specs.Prelude.{ℕ, zero, suc, ◌==◌, ℤ, pos, Bool, false, nat_lt, List, [], ◌∷◌, ◌++◌, length, filter, take, get_or, slice_set, if◌then◌else◌, Ok, Err}
use Rattle.std.specs.List.{list_any}
use Rattle.wave_base.specs.declared.limits.TheConstants.{CONTEXTS, MESSAGES, SPAWNS, GENERATION}
use Rattle.wave_base.specs.declared.call.Call.{Call}
use Rattle.wave_base.specs.declared.call.Message.{Message}
use Rattle.wave_base.specs.declared.path.Path.{Path}
use Rattle.wave_base.specs.declared.trap.TrapKind.TheVariants.{Ticks, Reach, Sends, Spawns, Generation}
use Rattle.wave_base.specs.declared.value.Value.{Value}
use Rattle.wave_base.specs.declared.value.Value.TheVariants as v
use Rattle.wave_base.specs.Paths.{path_eq, is_above}
use Rattle.wave_base.specs.Tree.{Tree, enter, put}
pub use Rattle.wave_base.specs.Values.{blank_of}
use Rattle.value_ops.specs.Kinds.{Answer}

-- what is read where nothing is, so that each reading has a value
abbrev pub nothing : Value
nothing = v.Int (pos 0)

abbrev pub is_true : Value → Bool
is_true (v.Bool b) = b
is_true _ = false

abbrev pub key_of : Value → ℤ
key_of (v.Int n) = n
key_of _ = pos 0

-- the child of a class with the key that a value tells
abbrev pub child : Path → ℕ → Value → Path
child p class key = p ++ record { class = record { 0 = class }; key = key_of key } ∷ []

-- the ticks that are left; the paths that the event entered, in order, and those of them that it holds; what it sends
-- and creates; and how often it changed its place
pub record World : Type 0 where
  pub generation : ℕ
  pub tree : Tree (List Value)
  pub ticks : ℕ
  pub entered : List Path
  pub held : List Path
  pub messages : List Message
  pub created : List Call
  pub changes : ℕ

abbrev pub has : List Path → Path → Bool
has paths p = list_any (path_eq p) paths

abbrev pub after_tick : ℕ → World → Answer World
after_tick zero w = Err Ticks
after_tick (suc n) w = Ok (record w { ticks = n })

-- a tick, where one is left
abbrev pub ticking : World → Answer World
ticking w = after_tick w.ticks w

abbrev pub after_change : World → World
after_change w = record w { changes = suc w.changes }

-- a new context is entered and held, and joins the tree if it isn't there
abbrev pub with_entered : Path → World → World
with_entered q w = record w { tree = enter w.tree q; entered = w.entered ++ q ∷ []; held = w.held ++ q ∷ [] }

-- into a context: one that is held already, or one more of at most 256
unfoldable pub entering : Path → World → Answer World
entering q w =
    if has w.held q then Ok (after_change w)
    else if nat_lt (length w.entered) CONTEXTS then Ok (after_change (with_entered q w))
    else Err Reach

-- all is given up that lies outside the subtree of a context
abbrev pub releasing : Path → World → World
releasing q w = record w { held = filter (is_above q) w.held }

unfoldable pub sending : List ℕ → Value → World → Answer World
sending label value w =
    if nat_lt (length w.messages) MESSAGES then Ok (record w { messages = w.messages ++ record { label = label; value = value } ∷ [] })
    else Err Sends

unfoldable pub spawning : ℕ → List Value → World → Answer World
spawning event args w =
    if w.generation == GENERATION then Err Generation
    else if nat_lt (length w.created) SPAWNS then Ok (record w { created = w.created ++ record { event = event; args = args; generation = suc w.generation } ∷ [] })
    else Err Spawns

unfoldable pub read_field : ℕ → Path → World → Value
read_field f p w = get_or (w.tree.fields p) f nothing

-- a field of the ancestor at a level
unfoldable pub read_above : ℕ → ℕ → Path → World → Value
read_above level f p w = read_field f (take level p) w

unfoldable pub set_field : ℕ → Value → Path → World → World
set_field f value p w = record w { tree = put w.tree p (slice_set (w.tree.fields p) f value) }

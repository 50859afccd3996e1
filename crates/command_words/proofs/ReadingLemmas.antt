-- From what `clap` says to the command that is asked for.
use Rattle.std.proofs.Common.{◌≡◌, ◌≢◌, ◌⊎◌, inl, inr, ℕ, ◌<◌, ◌+◌, List, [], ◌∷◌, ◌++◌, map, take, true, Option, Some, None, slice_get, refl, sym, ap, ◌∙◌, subst, codes, option_map, option_and_then, arith}
use Rattle.std.proofs.lemmas.List.{map-append, take_more}
use Rattle.std.proofs.lemmas.Option.{get_or_from_slice_get, slice_get_within}
use Rattle.std.specs.Borrow.{Bor}
use Rattle.clap.specs.Words.{App, IsAmong, Kinds, Row, fault_of, first_of, is_simple, is_simple_and_free, matches_of, new_app}
use Rattle.clap.specs.Simple.{on_top}
use Rattle.clap.specs.declared.error.kind.ErrorKind.{ErrorKind}
use Rattle.clap.specs.declared.error.kind.ErrorKind.TheVariants as kind
use Rattle.clap.proofs.OnLiterals.{clap_on_literals}
use Rattle.command_words.specs.Choice.{choice_of}
use Rattle.command_words.specs.Reading.{asked_by, bare_shape, command_line, command_of, places_of}

-- the switches of the command, one after the other
pub bare_app : (a b c d : App) → a ≡ new_app (codes "eventwave") → b ≡ on_top (λ s. record s { no_binary_name = true }) a
    → c ≡ on_top (λ s. record s { disable_help_flag = true }) b → d ≡ on_top (λ s. record s { disable_version_flag = true }) c → d ≡ on_top bare_shape (new_app (codes "eventwave"))
bare_app a b c d start e1 e2 e3 =
    e3 ∙ ap (on_top (λ s. record s { disable_version_flag = true })) e2
    ∙ ap (λ (x : App). on_top (λ s. record s { disable_help_flag = true; disable_version_flag = true }) x) e1
    ∙ ap (on_top bare_shape) start

simple : is_simple command_line ≡ true
unfolding command_line clap_on_literals
simple = refl

simple_and_free : is_simple_and_free command_line ≡ true
unfolding command_line clap_on_literals
simple_and_free = refl

-- where `clap` finds matches, they ask for the command
pub read_ok : (app : App) (words : List (List ℕ)) (rows : List Row) → app ≡ command_line → (is_simple_and_free app ≡ true → fault_of app words ≡ [])
    → (is_simple app ≡ true → rows ≡ matches_of app words) → asked_by rows ≡ command_of words
unfolding command_of
read_ok app words rows is none found =
    let no_fault : fault_of command_line words ≡ [] = ap (λ a. fault_of a words) (sym is) ∙ none (ap is_simple_and_free is ∙ simple_and_free) in
    rw no_fault (ap asked_by (found (ap is_simple is ∙ simple) ∙ ap (λ a. matches_of a words) is))

faulty : (k : ErrorKind) (kinds : Kinds) → IsAmong k kinds → (words : List (List ℕ)) → fault_of command_line words ≡ kinds → None ≡ command_of words
unfolding command_of
faulty k [] h words e = absurd h
faulty k (x ∷ xs) h words e = rw e refl

-- and where it finds a fault, they ask for none
pub read_err : (app : App) (words : List (List ℕ)) (k : ErrorKind) → app ≡ command_line → k ≢ kind.OutOfMemory
    → (is_simple_and_free app ≡ true → (k ≡ kind.OutOfMemory) ⊎ IsAmong k (fault_of app words)) → None ≡ command_of words
read_err app words k is other found = elim (found (ap is_simple_and_free is ∙ simple_and_free)) [
  | inl e ↦ absurd (other e)
  | inr h ↦ faulty k (fault_of app words) h words (ap (λ a. fault_of a words) (sym is))
]

-- what the values ask for, one by one
pub none_asked : (rows : List Row) → first_of (codes "command") rows ≡ None → None ≡ asked_by rows
none_asked rows e = rw e refl

pub some_asked : (rows : List Row) (name : List ℕ) (number workers schedule flag : Option (List ℕ)) → first_of (codes "command") rows ≡ Some name
    → number ≡ first_of (codes "number") rows → workers ≡ first_of (codes "workers") rows → schedule ≡ first_of (codes "schedule") rows
    → flag ≡ first_of (codes "map") rows → choice_of name number workers schedule (places_of flag) ≡ asked_by rows
some_asked rows name number workers schedule flag e n w s m = rw (e, n, w, s, m) refl

-- one word more
pub texts_more : (words : List (List ℕ)) (texts : List (Bor (List ℕ))) (word : Bor (List ℕ)) (i : ℕ) → slice_get words i ≡ Some word.now → map (λ w. w.now) texts ≡ take i words
    → map (λ w. w.now) (texts ++ word ∷ []) ≡ take (i + 1) words
texts_more words texts word i here before =
    map-append (λ (w : Bor (List ℕ)). w.now) texts (word ∷ [])
    ∙ ap (λ ts. ts ++ word.now ∷ []) before
    ∙ ap (λ w. take i words ++ w ∷ []) (sym (get_or_from_slice_get words i word.now word.now here))
    ∙ sym (take_more words i word.now (slice_get_within words i word.now here))

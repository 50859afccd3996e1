-- The slots of a function: those that are given stay, and those of locals that may be named have their kinds.
use Rattle.std.proofs.Common.{◌≡◌, ℕ, ◌+◌, List, [], ◌∷◌, ◌++◌, length, slice_get, Some, refl, sym, ap, ◌∙◌, append_assoc, length-append}
use Rattle.wave_base.specs.declared.value.Kind.{Kind}
use Rattle.wave_base.specs.declared.value.Kind.TheVariants as k
use Rattle.mace_ast.specs.Stmts as s
use Rattle.mace_ast.specs.Stmts.{StmtTree, StmtTrees, ElseTree, no_stmts, stmt_and, no_else, otherwise}
use Rattle.type_rules.specs.declared.meant.Local.{Local}
use Rattle.type_rules.specs.Here.{Here, with_counter, behind}
use Rattle.type_rules.specs.Exprs.{kind_of}
use Rattle.type_rules.specs.Stmts.{kind_or_int, after, after_all, after_else}
use Rattle.typed_code.proofs.Exprs.{Named}

-- ---- a list, and more behind it

abbrev pub Grows : List Kind → List Kind → Type 0
Grows xs ys = (more : List Kind) × (ys ≡ xs ++ more)

append_none : (xs : List Kind) → xs ++ [] ≡ xs
append_none [] = refl
append_none (x ∷ xs) = ap (λ l. x ∷ l) (append_none xs)

pub grows_none : (xs : List Kind) → Grows xs xs
grows_none xs = ([], sym (append_none xs))

pub grows_more : (xs more : List Kind) → Grows xs (xs ++ more)
grows_more xs more = (more, refl)

pub grows_then : (xs ys zs : List Kind) → Grows xs ys → Grows ys zs → Grows xs zs
grows_then xs ys zs a b = (a.0 ++ b.0, b.1 ∙ ap (λ l. l ++ b.0) a.1 ∙ append_assoc xs a.0 b.0)

there_is : (xs more : List Kind) (kind : Kind) → slice_get (xs ++ kind ∷ more) (length xs) ≡ Some kind
there_is [] more kind = refl
there_is (x ∷ xs) more kind = there_is xs more kind

-- the slot behind those before it
pub at_place : (xs : List Kind) (kind : Kind) (ys : List Kind) → Grows (xs ++ kind ∷ []) ys → slice_get ys (length xs) ≡ Some kind
at_place xs kind ys g = ap (λ l. slice_get l (length xs)) (g.1 ∙ append_assoc xs (kind ∷ []) g.0) ∙ there_is xs g.0 kind

-- three slots
pub three_places : (xs : List Kind) (a b c : Kind) (ys : List Kind) → Grows ((xs ++ a ∷ b ∷ []) ++ c ∷ []) ys → (slice_get ys (length xs) ≡ Some a) × (slice_get ys (length xs + 1) ≡ Some b) × (slice_get ys (length xs + 2) ≡ Some c)
three_places xs a b c ys g =
    let whole : ys ≡ xs ++ a ∷ b ∷ c ∷ g.0 = g.1 ∙ append_assoc (xs ++ a ∷ b ∷ []) (c ∷ []) g.0 ∙ append_assoc xs (a ∷ b ∷ []) (c ∷ g.0) in
    let second : length (xs ++ a ∷ []) ≡ length xs + 1 = length-append xs (a ∷ []) in
    let third : length (xs ++ a ∷ b ∷ []) ≡ length xs + 2 = length-append xs (a ∷ b ∷ []) in (
      ap (λ l. slice_get l (length xs)) whole ∙ there_is xs (b ∷ c ∷ g.0) a,
      (λ i. slice_get ((whole ∙ sym (append_assoc xs (a ∷ []) (b ∷ c ∷ g.0))) i) (sym second i)) ∙ there_is (xs ++ a ∷ []) (c ∷ g.0) b,
      (λ i. slice_get ((whole ∙ sym (append_assoc xs (a ∷ b ∷ []) (c ∷ g.0))) i) (sym third i)) ∙ there_is (xs ++ a ∷ b ∷ []) g.0 c,
    )

-- ---- statements give more slots

mutual
  pub after_grows : (h : Here) (a : StmtTree) → Grows h.slots (after h a).slots
  after_grows h (s.Let place name value) = grows_more h.slots (kind_or_int (kind_of h value) ∷ [])
  after_grows h (s.If place test body other) =
      grows_then h.slots (after_all h body).slots (after_else (behind h (after_all h body)) other).slots (after_all_grows h body) (after_else_grows (behind h (after_all h body)) other)
  after_grows h (s.While place test body) = after_all_grows h body
  after_grows h (s.For place name low high body) =
      let pair = h.slots ++ k.Int ∷ k.Int ∷ [] in
      let start = with_counter h name.text in
      grows_then h.slots start.slots (after_all start body).slots (grows_then h.slots pair start.slots (grows_more h.slots (k.Int ∷ k.Int ∷ [])) (grows_more pair (k.Int ∷ []))) (after_all_grows start body)
  after_grows h (s.Require place test) = grows_none h.slots
  after_grows h (s.Send place label value) = grows_none h.slots
  after_grows h (s.Spawn place event args) = grows_none h.slots
  after_grows h (s.Cut place target key) = grows_none h.slots
  after_grows h (s.Set place target key value) = grows_none h.slots
  after_grows h (s.Call place name args) = grows_none h.slots
  after_grows h (s.ChildCall place child key name args) = grows_none h.slots
  after_grows h (s.Return place value) = grows_none h.slots
  after_grows h (s.Finish place value) = grows_none h.slots

  pub after_all_grows : (h : Here) (ss : StmtTrees) → Grows h.slots (after_all h ss).slots
  after_all_grows h no_stmts = grows_none h.slots
  after_all_grows h (stmt_and a ss) = grows_then h.slots (after h a).slots (after_all (after h a) ss).slots (after_grows h a) (after_all_grows (after h a) ss)

  pub after_else_grows : (h : Here) (other : ElseTree) → Grows h.slots (after_else h other).slots
  after_else_grows h no_else = grows_none h.slots
  after_else_grows h (otherwise ss) = after_all_grows h ss

-- ---- what may be named behind a statement has its kind

named_more : (locals : List Kind) (ls : List Local) (l : Local) → Named locals ls → slice_get locals l.slot ≡ Some l.kind → Named locals (ls ++ l ∷ [])
named_more locals [] l n is = (is, tt)
named_more locals (x ∷ ls) l n is = (n.0, named_more locals ls l n.1 is)

pub declared_named : (locals : List Kind) (h : Here) (name : List ℕ) (kind : Kind) → Named locals h.locals → Grows (h.slots ++ kind ∷ []) locals → Named locals (h.locals ++ record { name = name; kind = kind; slot = length h.slots } ∷ [])
declared_named locals h name kind n g = named_more locals h.locals (record { name = name; kind = kind; slot = length h.slots }) n (at_place h.slots kind locals g)

pub after_named : (locals : List Kind) (h : Here) (a : StmtTree) → Named locals h.locals → Grows (after h a).slots locals → Named locals (after h a).locals
after_named locals h (s.Let place name value) n g = declared_named locals h name.text (kind_or_int (kind_of h value)) n g
after_named locals h (s.If place test body no_else) n g = n
after_named locals h (s.If place test body (otherwise ss)) n g = n
after_named locals h (s.While place test body) n g = n
after_named locals h (s.For place name low high body) n g = n
after_named locals h (s.Require place test) n g = n
after_named locals h (s.Send place label value) n g = n
after_named locals h (s.Spawn place event args) n g = n
after_named locals h (s.Cut place target key) n g = n
after_named locals h (s.Set place target key value) n g = n
after_named locals h (s.Call place name args) n g = n
after_named locals h (s.ChildCall place child key name args) n g = n
after_named locals h (s.Return place value) n g = n
after_named locals h (s.Finish place value) n g = n

pub after_all_named : (locals : List Kind) (h : Here) (ss : StmtTrees) → Named locals h.locals → Grows (after_all h ss).slots locals → Named locals (after_all h ss).locals
after_all_named locals h no_stmts n g = n
after_all_named locals h (stmt_and a ss) n g =
    after_all_named locals (after h a) ss (after_named locals h a n (grows_then (after h a).slots (after_all (after h a) ss).slots locals (after_all_grows (after h a) ss) g)) g

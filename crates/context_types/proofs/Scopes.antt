-- Locals of a block are behind those before it, so that cutting them off leaves those before it.
use Rattle.std.proofs.Common.{◌≡◌, ℕ, List, [], ◌∷◌, ◌++◌, length, take, refl, sym, ap, ◌∙◌, append_assoc}
use Rattle.std.proofs.Math.Seq.{take-append_seam}
use Rattle.std.proofs.lemmas.List.{append-nil}
use Rattle.wave_base.specs.declared.value.Kind.TheVariants.{Int}
use Rattle.mace_ast.specs.Stmts as s
use Rattle.mace_ast.specs.Stmts.{StmtTree, StmtTrees, ElseTree, no_stmts, stmt_and, no_else, otherwise}
use Rattle.type_rules.specs.declared.meant.Local.{Local}
use Rattle.type_rules.specs.Here.{Here, with_counter, behind}
use Rattle.type_rules.specs.Exprs.{kind_of}
use Rattle.type_rules.specs.Stmts.{kind_or_int, after, after_all}

-- more at the end
abbrev Grows : List Local → List Local → Type 0
Grows xs ys = (more : List Local) × (ys ≡ xs ++ more)

same : (xs : List Local) → Grows xs xs
same xs = ([], sym (append-nil xs))

twice : (xs ys zs : List Local) → Grows xs ys → Grows ys zs → Grows xs zs
twice xs ys zs a b = (a.0 ++ b.0, b.1 ∙ ap (λ l. l ++ b.0) a.1 ∙ append_assoc xs a.0 b.0)

mutual
  after_grows : (h : Here) (a : StmtTree) → Grows h.locals (after h a).locals
  after_grows h (s.Let at name value) = (record { name = name.text; kind = kind_or_int (kind_of h value); slot = length h.slots } ∷ [], refl)
  after_grows h (s.If at test body no_else) = same h.locals
  after_grows h (s.If at test body (otherwise ss)) = same h.locals
  after_grows h (s.While at test body) = same h.locals
  after_grows h (s.For at name low high body) = same h.locals
  after_grows h (s.Require at test) = same h.locals
  after_grows h (s.Send at label value) = same h.locals
  after_grows h (s.Spawn at event args) = same h.locals
  after_grows h (s.Cut at target key) = same h.locals
  after_grows h (s.Set at target key value) = same h.locals
  after_grows h (s.Call at name args) = same h.locals
  after_grows h (s.ChildCall at class key name args) = same h.locals
  after_grows h (s.Return at value) = same h.locals
  after_grows h (s.Finish at value) = same h.locals

  all_grow : (h : Here) (ss : StmtTrees) → Grows h.locals (after_all h ss).locals
  all_grow h no_stmts = same h.locals
  all_grow h (stmt_and a ss) = twice h.locals (after h a).locals (after_all (after h a) ss).locals (after_grows h a) (all_grow (after h a) ss)

-- cut where the block began
pub cut_block : (h p : Here) (ss : StmtTrees) (before : ℕ) (cut : List Local) → after_all h ss ≡ p → before ≡ length h.locals → cut ≡ take before p.locals → h.locals ≡ cut
cut_block h p ss before cut is number cuts =
    let g = all_grow h ss in
    sym (cuts ∙ (λ i. take (number i) ((ap (λ (x : Here). x.locals) (sym is) ∙ g.1) i)) ∙ take-append_seam h.locals g.0)

-- the name of a loop goes with its block
pub cut_loop : (h j p : Here) (name : List ℕ) (ss : StmtTrees) (before : ℕ) (cut : List Local) → with_counter h name ≡ j → after_all j ss ≡ p → before ≡ length h.locals → cut ≡ take before p.locals → h.locals ≡ cut
cut_loop h j p name ss before cut on is number cuts =
    let g = all_grow j ss in
    let grown : p.locals ≡ h.locals ++ ((counted_name ∷ []) ++ g.0) =
    ap (λ (x : Here). x.locals) (sym is) ∙ g.1 ∙ ap (λ (x : Here). x.locals ++ g.0) (sym on) ∙ append_assoc h.locals (counted_name ∷ []) g.0 in
    sym (cuts ∙ (λ i. take (number i) (grown i)) ∙ take-append_seam h.locals ((counted_name ∷ []) ++ g.0))
  where
    counted_name : Local
    counted_name = record { name = name; kind = Int; slot = length (h.slots ++ Int ∷ Int ∷ []) }

-- the place behind a block, with the locals before it
pub behind_is : (h p : Here) (cut : List Local) → h.locals ≡ cut → behind h p ≡ record { known = p.known; class = p.class; function = p.function; within = p.within; locals = cut; slots = p.slots }
behind_is h p cut is = ap (λ l. record { known = p.known; class = p.class; function = p.function; within = p.within; locals = l; slots = p.slots }) is

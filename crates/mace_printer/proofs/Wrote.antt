-- Words that were written one behind the other.
use Rattle.std.proofs.Common.{◌≡◌, ℕ, zero, suc, ◌+◌, ◌<◌, ◌≤◌, List, [], ◌∷◌, ◌++◌, length, take, map, get_or, false, Result, Ok, Err, refl, sym, ap, arith, ◌∙◌, append_assoc, append-nil}
use Rattle.std.specs.Prelude.{◌==◌, if◌then◌else◌, OnOk}
use Rattle.std.proofs.Math.Seq.{take-suc}
use Rattle.std.proofs.lemmas.List.{map-append, take_all}
use Rattle.std.proofs.lemmas.Bool.{ne_eqb}
use Rattle.mace_lexer.specs.declared.token.Word.{Word}
use Rattle.mace_lexer.specs.declared.token.Word.TheVariants as word
use Rattle.mace_lexer.specs.declared.sign.Sign.TheVariants as s
use Rattle.mace_ast.specs.Exprs.{ExprTree, exprs_of}
use Rattle.mace_ast.specs.Stmts.{StmtTree, stmts_of}
use Rattle.mace_ast.specs.Decls.{ContextTree, contexts_of}
use Rattle.mace_printer.specs.Canon.{all_of, further_words, listed_words, sign, whole_words, expr_words, args_words, more_words, stmt_words, stmts_words, context_words, contexts_words}
use Rattle.mace_printer.specs.inner.Parts.{comma_before}
use Rattle.mace_printer.specs.Layout.{line_of, layout}

layout_both : (us vs : List Word) → layout (us ++ vs) ≡ layout us ++ layout vs
unfolding layout
layout_both [] vs = refl
layout_both (u ∷ us) vs = ap (λ l. line_of u ++ l) (layout_both us vs) ∙ sym (append_assoc (line_of u) (layout us) (layout vs))

-- words, and then more words
pub behind : (o : List ℕ) {a b : List ℕ} (us vs : List Word) → a ≡ o ++ layout us → b ≡ a ++ layout vs → b ≡ o ++ layout (us ++ vs)
behind o us vs h k = k ∙ ap (λ l. l ++ layout vs) h ∙ append_assoc o (layout us) (layout vs) ∙ ap (λ l. o ++ l) (sym (layout_both us vs))

-- and then words, if nothing fails
pub next : {A E : Type 0} (r : Result A E) (o : List ℕ) {a : List ℕ} (b : List ℕ) (us vs : List Word) → a ≡ o ++ layout us → OnOk r (b ≡ a ++ layout vs) → OnOk r (b ≡ o ++ layout (us ++ vs))
next (Ok x) o b us vs h k = behind o us vs h k
next (Err e) o b us vs h k = tt

pub same_next : {A E : Type 0} (r : Result A E) (o b : List ℕ) {us vs : List Word} → us ≡ vs → OnOk r (b ≡ o ++ layout us) → OnOk r (b ≡ o ++ layout vs)
same_next (Ok x) o b e h = h ∙ ap (λ ws. o ++ layout ws) e
same_next (Err x) o b e h = tt

pub same_words : (o : List ℕ) {b : List ℕ} {us vs : List Word} → us ≡ vs → b ≡ o ++ layout us → b ≡ o ++ layout vs
same_words o e h = h ∙ ap (λ ws. o ++ layout ws) e

pub nothing : (o : List ℕ) → o ≡ o ++ layout []
unfolding layout
nothing o = sym (append-nil o)

-- ---- items of a list, up to a place

module _ {X Y : Type 0} (ws : X → List Word) (t : Y → X) where
  all_of_both : (xs zs : List X) → all_of ws (xs ++ zs) ≡ all_of ws xs ++ all_of ws zs
  all_of_both [] zs = refl
  all_of_both (x ∷ xs) zs = ap (λ l. ws x ++ l) (all_of_both xs zs) ∙ sym (append_assoc (ws x) (all_of ws xs) (all_of ws zs))

  further_both : (xs zs : List X) → further_words ws (xs ++ zs) ≡ further_words ws xs ++ further_words ws zs
  further_both [] zs = refl
  further_both (x ∷ xs) zs = ap (λ l. word.Sign s.Comma ∷ l) (ap (λ l. ws x ++ l) (further_both xs zs) ∙ sym (append_assoc (ws x) (further_words ws xs) (further_words ws zs)))

  -- one item more, with a comma where it is not the first
  listed_more : (i : ℕ) (xs : List X) (x : X) → length xs ≡ i → listed_words ws (xs ++ x ∷ []) ≡ listed_words ws xs ++ (comma_before i ++ ws x)
  listed_more i [] x h = append-nil (ws x) ∙ ap (λ j. comma_before j ++ ws x) h
  listed_more zero (z ∷ xs) x h = absurd (omega (arith, h))
  listed_more (suc i) (z ∷ xs) x h =
      let some : (suc i == 0) ≡ false = ne_eqb (suc i) 0 (λ e. omega (arith, e)) in
      ap (λ l. ws z ++ l) (further_both xs (x ∷ []) ∙ ap (λ l. further_words ws xs ++ (word.Sign s.Comma ∷ l)) (append-nil (ws x)))
      ∙ sym (append_assoc (ws z) (further_words ws xs) (word.Sign s.Comma ∷ ws x))
      ∙ ap (λ b. listed_words ws (z ∷ xs) ++ ((if b then [] else sign s.Comma) ++ ws x)) (sym some)

  taken : (ys : List Y) (i : ℕ) (y : Y) → i < length ys → y ≡ get_or ys i y → map t (take (i + 1) ys) ≡ map t (take i ys) ++ t y ∷ []
  taken ys i y l at =
      let one : i + 1 ≡ suc i = omega arith in
      ap (λ j. map t (take j ys)) one ∙ ap (map t) (take-suc ys i y l ∙ ap (λ z. take i ys ++ z ∷ []) (sym at)) ∙ map-append t (take i ys) (y ∷ [])

  size : (ys : List Y) (i : ℕ) → i ≤ length ys → length (map t (take i ys)) ≡ i
  size [] zero h = refl
  size [] (suc i) h = absurd (omega arith)
  size (y ∷ ys) zero h = refl
  size (y ∷ ys) (suc i) h = ap suc (size ys i (omega arith))

  pub all_of_turn : (o : List ℕ) {a b : List ℕ} (ys : List Y) (i : ℕ) (y : Y) → i < length ys → y ≡ get_or ys i y → a ≡ o ++ layout (all_of ws (map t (take i ys))) → b ≡ a ++ layout (ws (t y)) → b ≡ o ++ layout (all_of ws (map t (take (i + 1) ys)))
  all_of_turn o ys i y l at h k =
      same_words o (sym (ap (all_of ws) (taken ys i y l at) ∙ all_of_both (map t (take i ys)) (t y ∷ []) ∙ ap (λ l. all_of ws (map t (take i ys)) ++ l) (append-nil (ws (t y))))) (behind o (all_of ws (map t (take i ys))) (ws (t y)) h k)

  pub listed_turn : (o : List ℕ) {a m b : List ℕ} (ys : List Y) (i : ℕ) (y : Y) → i < length ys → y ≡ get_or ys i y → a ≡ o ++ layout (listed_words ws (map t (take i ys))) → m ≡ a ++ layout (comma_before i) → b ≡ m ++ layout (ws (t y)) → b ≡ o ++ layout (listed_words ws (map t (take (i + 1) ys)))
  listed_turn o ys i y l at h c k =
      same_words o (sym (ap (listed_words ws) (taken ys i y l at) ∙ listed_more i (map t (take i ys)) (t y) (size ys i (omega (arith, l))))) (behind o (listed_words ws (map t (take i ys))) (comma_before i ++ ws (t y)) h (behind _ (comma_before i) (ws (t y)) c k))

  pub all_of_end : (o : List ℕ) {b : List ℕ} (ys : List Y) (i : ℕ) → length ys ≤ i → b ≡ o ++ layout (all_of ws (map t (take i ys))) → b ≡ o ++ layout (all_of ws (map t ys))
  all_of_end o ys i l h = same_words o (ap (λ z. all_of ws (map t z)) (take_all i ys l)) h

-- ---- parentheses

-- ---- lists of trees, as their mutual forms

more_listed : (ts : List ExprTree) → more_words (exprs_of ts) ≡ further_words whole_words ts
more_listed [] = refl
more_listed (t ∷ ts) = ap (λ l. word.Sign s.Comma ∷ (expr_words t 0 ++ l)) (more_listed ts)

pub args_listed : (ts : List ExprTree) → listed_words whole_words ts ≡ args_words (exprs_of ts)
args_listed [] = refl
args_listed (t ∷ ts) = ap (λ l. expr_words t 0 ++ l) (sym (more_listed ts))

pub stmts_listed : (xs : List StmtTree) → all_of stmt_words xs ≡ stmts_words (stmts_of xs)
stmts_listed [] = refl
stmts_listed (x ∷ xs) = ap (λ l. stmt_words x ++ l) (stmts_listed xs)

pub contexts_listed : (xs : List ContextTree) → all_of context_words xs ≡ contexts_words (contexts_of xs)
contexts_listed [] = refl
contexts_listed (x ∷ xs) = ap (λ l. context_words x ++ l) (contexts_listed xs)

-- ---- the same, where an item is its own tree

module _ {X : Type 0} (ws : X → List Word) where
  all_both : (xs zs : List X) → all_of ws (xs ++ zs) ≡ all_of ws xs ++ all_of ws zs
  all_both [] zs = refl
  all_both (x ∷ xs) zs = ap (λ l. ws x ++ l) (all_both xs zs) ∙ sym (append_assoc (ws x) (all_of ws xs) (all_of ws zs))

  shown : (ys : List X) (i : ℕ) (y : X) → i < length ys → y ≡ get_or ys i y → take (i + 1) ys ≡ take i ys ++ y ∷ []
  shown ys i y l at =
      let one : i + 1 ≡ suc i = omega arith in
      ap (λ j. take j ys) one ∙ take-suc ys i y l ∙ ap (λ z. take i ys ++ z ∷ []) (sym at)

  front_size : (ys : List X) (i : ℕ) → i ≤ length ys → length (take i ys) ≡ i
  front_size [] zero h = refl
  front_size [] (suc i) h = absurd (omega arith)
  front_size (y ∷ ys) zero h = refl
  front_size (y ∷ ys) (suc i) h = ap suc (front_size ys i (omega arith))

  pub all_turn : (o : List ℕ) {a b : List ℕ} (ys : List X) (i : ℕ) (y : X) → i < length ys → y ≡ get_or ys i y → a ≡ o ++ layout (all_of ws (take i ys)) → b ≡ a ++ layout (ws y) → b ≡ o ++ layout (all_of ws (take (i + 1) ys))
  all_turn o ys i y l at h k =
      same_words o (sym (ap (all_of ws) (shown ys i y l at) ∙ all_both (take i ys) (y ∷ []) ∙ ap (λ l. all_of ws (take i ys) ++ l) (append-nil (ws y)))) (behind o (all_of ws (take i ys)) (ws y) h k)

  pub list_turn : (o : List ℕ) {a m b : List ℕ} (ys : List X) (i : ℕ) (y : X) → i < length ys → y ≡ get_or ys i y → a ≡ o ++ layout (listed_words ws (take i ys)) → m ≡ a ++ layout (comma_before i) → b ≡ m ++ layout (ws y) → b ≡ o ++ layout (listed_words ws (take (i + 1) ys))
  list_turn o ys i y l at h c k =
      same_words o (sym (ap (listed_words ws) (shown ys i y l at) ∙ listed_more ws (λ (x : X). x) i (take i ys) y (front_size ys i (omega (arith, l))))) (behind o (listed_words ws (take i ys)) (comma_before i ++ ws y) h (behind _ (comma_before i) (ws y) c k))

  pub all_end : (o : List ℕ) {b : List ℕ} (ys : List X) (i : ℕ) → length ys ≤ i → b ≡ o ++ layout (all_of ws (take i ys)) → b ≡ o ++ layout (all_of ws ys)
  all_end o ys i l h = same_words o (ap (all_of ws) (take_all i ys l)) h

-- A turn of a loop that reads items, one behind the other.
use Rattle.std.proofs.Common.{◌≡◌, ℕ, zero, suc, ◌+◌, ◌-◌, ◌<◌, List, [], ◌∷◌, ◌++◌, length, Ok, Err, Bool, true, false, refl, sym, ◌∙◌, ap, arith, fold, append_assoc, append-nil}
use Rattle.std.specs.Prelude.{if◌then◌else◌}
use Rattle.mace_lexer.specs.declared.token.Token.{Token}
use Rattle.mace_ast.specs.declared.expr.BinaryOp.{BinaryOp}
use Rattle.mace_ast.specs.Exprs.{ExprTree}
use Rattle.mace_parser.specs.declared.fault.Fault.{Fault}
use Rattle.mace_parser.specs.declared.fault.Fault.TheVariants.{Memory, Stuck}
use Rattle.mace_parser.specs.inner.Gives.{Fails}
use Rattle.mace_grammar.specs.Grammar.{binary_of}
use Rattle.mace_grammar.specs.inner.Run.{Outcome, Reader, and_then, give, after, sees, each, each_of, with_front}
use Rattle.mace_grammar.specs.declared.class.Class.{Class}
use Rattle.mace_grammar.specs.inner.Classes as classes
use Rattle.mace_grammar.specs.declared.level.Level.{Level}
use Rattle.mace_grammar.specs.Levels.{tighter_ones, levels_from}
use Rattle.mace_grammar.specs.Words.{Edition}
use Rattle.mace_parser.proofs.Progress.{Takes, enough}
use Rattle.mace_grammar.specs.inner.Readers.{operators_of, operator_at, operand_at, operands_at, turns_of, level_at}

suc_sub : (n k : ℕ) → k < n → n - k ≡ suc (n - (k + 1))
suc_sub n k h = omega arith

pub seen : {X : Type 0} (b : Bool) (x y : X) → b ≡ true → (if b then x else y) ≡ x
seen true x y h = refl
seen false x y h = cc

unseen : {X : Type 0} (b : Bool) (x y : X) → b ≡ false → (if b then x else y) ≡ y
unseen true x y h = cc
unseen false x y h = refl

module _ (edition : Edition) where
  abbrev kind : Token → Class
  kind = classes.kind edition

  -- the items that are left, at most so many, and what is made of them
  abbrev pub from : {A B : Type 0} → List Class → Reader A → (List A → B) → ℕ → Reader B
  from set run f n = after (each kind set run n) (λ others. give (f others))

  module _ {A B : Type 0} (set : List Class) (run : Reader A) (f : List A → B) where
    behind : (x : A) (o : Outcome (List A)) → and_then (and_then o (with_front x)) (λ others. give (f others)) ≡ and_then o (λ others. give (f (x ∷ others)))
    behind x (Ok p) = refl
    behind x (Err e) = refl

    one_turn : (n : ℕ) (ts : List Token) → sees kind set ts ≡ true → from set run f (suc n) ts ≡ and_then (and_then (run ts) (λ a r. and_then (each kind set run n r) (with_front a))) (λ others. give (f others))
    one_turn n ts s = ap (λ o. and_then o (λ others. give (f others))) (seen (sees kind set ts) _ _ s)

    turn : (n : ℕ) (ts rest : List Token) (x : A) → sees kind set ts ≡ true → run ts ≡ Ok (x, rest) → from set run f (suc n) ts ≡ from set run (λ others. f (x ∷ others)) n rest
    turn n ts rest x s e =
        one_turn n ts s
        ∙ ap (λ o. and_then (and_then o (λ a r. and_then (each kind set run n r) (with_front a))) (λ others. give (f others))) e
        ∙ behind x (each kind set run n rest)

    stops : (n : ℕ) (ts rest : List Token) → sees kind set ts ≡ true → run ts ≡ Err rest → from set run f (suc n) ts ≡ Err rest
    stops n ts rest s e = one_turn n ts s ∙ ap (λ o. and_then (and_then o (λ a r. and_then (each kind set run n r) (with_front a))) (λ others. give (f others))) e

    pub goes_on : (n k : ℕ) (ts rest : List Token) (x : A) → k < n → sees kind set ts ≡ true → run ts ≡ Ok (x, rest) → from set run f (n - k) ts ≡ from set run (λ others. f (x ∷ others)) (n - (k + 1)) rest
    goes_on n k ts rest x h s e = ap (λ i. from set run f i ts) (suc_sub n k h) ∙ turn (n - (k + 1)) ts rest x s e

    pub ends : (e : Fault) (n k : ℕ) (ts : List Token) (out : Outcome B) → k < n → sees kind set ts ≡ true → Fails e (run ts) → from set run f (n - k) ts ≡ out → Fails e out
    ends (Memory _) n k ts out h s g i = tt
    ends (Stuck rest) n k ts out h s g i = sym i ∙ ap (λ i. from set run f i ts) (suc_sub n k h) ∙ stops (n - (k + 1)) ts rest.now s g

    pub done_at : (n : ℕ) (ts : List Token) (out : Outcome B) → n ≡ 0 → from set run f n ts ≡ out → out ≡ Ok (f [], ts)
    done_at zero ts out e i = sym i
    done_at (suc n) ts out e i = absurd (omega arith)

    pub done : (n : ℕ) (ts : List Token) (out : Outcome B) → sees kind set ts ≡ false → from set run f n ts ≡ out → out ≡ Ok (f [], ts)
    done zero ts out e i = sym i
    done (suc n) ts out e i = sym i ∙ ap (λ o. and_then o (λ others. give (f others))) (unseen (sees kind set ts) _ _ e)

  -- ---- lists

  -- the items that are left, behind those that were found
  abbrev pub list_from : {A : Type 0} → List Class → Reader A → List A → Reader (List A)
  list_from set run found ts = from set run (λ others. found ++ others) (length ts) ts

  module _ {A : Type 0} (set : List Class) (run : Reader A) where
    found_more : (found : List A) (x : A) (o : Outcome (List A)) → and_then o (λ others. give (found ++ (x ∷ others))) ≡ and_then o (λ others. give ((found ++ x ∷ []) ++ others))
    found_more found x (Ok p) = ap (λ l. Ok (l, p.1)) (sym (append_assoc found (x ∷ []) p.0))
    found_more found x (Err e) = refl

    pub list_goes_on : Takes run → (found more : List A) (ts rest : List Token) (x : A) (out : Outcome (List A)) → sees kind set ts ≡ true → run ts ≡ Ok (x, rest) → more ≡ found ++ x ∷ [] → list_from set run found ts ≡ out → list_from set run more rest ≡ out
    list_goes_on T found more [] rest x out s e m i = cc
    list_goes_on T found more (t ∷ ts) rest x out s e m i =
        let fewer : length rest < suc (length ts) = T.fewer (t ∷ ts) rest x e in
        ap (λ l. list_from set run l rest) m
        ∙ ap (λ o. and_then o (λ others. give ((found ++ x ∷ []) ++ others))) (enough kind set T (length rest) (length ts) rest (omega arith) (omega arith))
        ∙ sym (turn set run (λ others. found ++ others) (length ts) (t ∷ ts) rest x s e ∙ found_more found x (each kind set run (length ts) rest))
        ∙ i

    pub list_ends : (e : Fault) (found : List A) (ts : List Token) (out : Outcome (List A)) → sees kind set ts ≡ true → Fails e (run ts) → list_from set run found ts ≡ out → Fails e out
    list_ends e found [] out s g i = cc
    list_ends (Memory _) found (t ∷ ts) out s g i = tt
    list_ends (Stuck rest) found (t ∷ ts) out s g i = sym i ∙ stops set run (λ others. found ++ others) (length ts) (t ∷ ts) rest.now s g

    pub list_done : (found : List A) (ts : List Token) (out : Outcome (List A)) → sees kind set ts ≡ false → list_from set run found ts ≡ out → out ≡ Ok (found, ts)
    list_done found ts out e i = done set run (λ others. found ++ others) (length ts) ts out e i ∙ ap (λ l. Ok (l, ts)) (append-nil found)

    pub list_start : (ts : List Token) (found : List A) → found ≡ [] → list_from set run found ts ≡ each_of kind set run ts
    list_start ts found e = ap (λ l. list_from set run l ts) e ∙ all (each kind set run (length ts) ts)
      where
        all : (o : Outcome (List A)) → and_then o (λ others. give ([] ++ others)) ≡ o
        all (Ok p) = refl
        all (Err x) = refl

  -- ---- chains of operators

  module _ (level : ℕ) (item : Reader ExprTree) where
    pub chain_goes_on : (n k : ℕ) (left next : ExprTree) (ts rest : List Token) (x : BinaryOp × ExprTree) (out : Outcome ExprTree) → k < n → sees kind (operators_of level) ts ≡ true → operand_at (operator_at level) item ts ≡ Ok (x, rest) → next ≡ binary_of left x → operands_at edition level item (n - k) left ts ≡ out → operands_at edition level item (n - (k + 1)) next rest ≡ out
    unfolding operands_at
    chain_goes_on n k left next ts rest x out h s e m i =
        ap (λ l. (operands_at edition) level item (n - (k + 1)) l rest) m
        ∙ sym (goes_on (operators_of level) (operand_at (operator_at level) item) (λ others. fold binary_of left others) n k ts rest x h s e)
        ∙ i

    pub chain_ends : (e : Fault) (n k : ℕ) (left : ExprTree) (ts : List Token) (out : Outcome ExprTree) → k < n → sees kind (operators_of level) ts ≡ true → Fails e (operand_at (operator_at level) item ts) → operands_at edition level item (n - k) left ts ≡ out → Fails e out
    unfolding operands_at
    chain_ends e n k left ts out h s g i = ends (operators_of level) (operand_at (operator_at level) item) (λ others. fold binary_of left others) e n k ts out h s g i

    pub chain_done_at : (n : ℕ) (left : ExprTree) (ts : List Token) (out : Outcome ExprTree) → n ≡ 0 → operands_at edition level item n left ts ≡ out → out ≡ Ok (left, ts)
    unfolding operands_at
    chain_done_at n left ts out e i = done_at (operators_of level) (operand_at (operator_at level) item) (λ others. fold binary_of left others) n ts out e i

    pub chain_done : (n : ℕ) (left : ExprTree) (ts : List Token) (out : Outcome ExprTree) → sees kind (operators_of level) ts ≡ false → operands_at edition level item n left ts ≡ out → out ≡ Ok (left, ts)
    unfolding operands_at
    chain_done n left ts out e i = done (operators_of level) (operand_at (operator_at level) item) (λ others. fold binary_of left others) n ts out e i

  chain_next : (unary : Reader ExprTree) (m n : ℕ) (first : ExprTree) (ts rest : List Token) → n ≡ turns_of m rest → level_at edition unary m ts ≡ Ok (first, rest) → operands_at edition m (level_at edition unary m) n first rest ≡ level_at edition unary (suc m) ts
  chain_next unary m n first ts rest e g =
      ap (λ i. (operands_at edition) m (level_at edition unary m) i first rest) e
      ∙ sym (ap (λ o. and_then o (λ x r. (operands_at edition) m (level_at edition unary m) (turns_of m r) x r)) g)

  pub chain_start : (unary : Reader ExprTree) (level : Level) (n : ℕ) (first : ExprTree) (ts rest : List Token) → n ≡ turns_of (tighter_ones level) rest → level_at edition unary (tighter_ones level) ts ≡ Ok (first, rest) → operands_at edition (tighter_ones level) (level_at edition unary (tighter_ones level)) (n - 0) first rest ≡ level_at edition unary (levels_from level) ts
  chain_start unary level n first ts rest e g =
      let whole : n - 0 ≡ n = omega arith in
      let m = tighter_ones level in
      ap (λ i. (operands_at edition) m (level_at edition unary m) i first rest) whole ∙ chain_next unary m n first ts rest e g

  -- where the first operand is not read, nothing is
  pub chain_stuck : (unary : Reader ExprTree) (level : Level) (e : Fault) (ts : List Token) → Fails e (level_at edition unary (tighter_ones level) ts) → Fails e (level_at edition unary (levels_from level) ts)
  chain_stuck unary level (Memory _) ts g = tt
  chain_stuck unary level (Stuck rest) ts g =
      let m = tighter_ones level in
      ap (λ o. and_then o (λ x r. (operands_at edition) m (level_at edition unary m) (turns_of m r) x r)) g

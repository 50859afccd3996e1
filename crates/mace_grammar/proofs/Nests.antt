-- A part that leads back to itself.
use Rattle.std.proofs.Common.{ℕ, zero, suc, ◌≤◌, List, [], ◌++◌, length, true, false, refl, sym, subst, arith}
use Rattle.mace_lexer.specs.declared.token.Token.{Token}
use Rattle.mace_grammar.specs.declared.class.Class.{Class}
use Rattle.mace_grammar.specs.inner.Run.{Reader, nested_reader}
use Rattle.mace_grammar.specs.Part.{Part, never, nested_part, deep_part}
use Rattle.mace_grammar.proofs.Outcomes.{left, nil_front}
use Rattle.mace_grammar.proofs.Reading.{Reads, Heads, shorter}

module _ (class : Token → Class) where
  module _ {A : Type 0} (body : Part A → Part A) (body_run : ℕ → Reader A → Reader A) (f goes : List Class)
      (step : (m : ℕ) (p p' : Part A) (run : Reader A) → Reads class m p p' run f false goes → Reads class (suc m) (body p) (body p') (body_run m run) f false goes) where
    nested_none : (n : ℕ) → Reads class 0 never (nested_part body n) (nested_reader body_run 0) f false goes
    nested_none zero = record {
      sound = λ ts rest a e. cc;
      stuck = λ ts rest e. ([], cc, refl);
      none = refl;
      begun = λ a front s. absurd s;
      heads = λ a front s. absurd s;
      starts = λ front b. subst (λ w. Heads class f true w) (sym b) refl;
      complete = λ a front rest l s k. absurd s;
      reach = λ front rest l b. absurd (omega arith);
      closed = λ front back b. nil_front front back b;
    }
    nested_none (suc n) = let r = step 0 never (nested_part body n) (nested_reader body_run 0) (nested_none n) in record {
      sound = λ ts rest a e. cc;
      stuck = λ ts rest e. ([], cc, refl);
      none = r.none;
      begun = r.begun;
      heads = r.heads;
      starts = r.starts;
      complete = λ a front rest l s k. absurd (omega arith);
      reach = λ front rest l b. absurd (omega arith);
      closed = r.closed;
    }

    reads_nested : (m n : ℕ) → Reads class m (nested_part body m) (nested_part body n) (nested_reader body_run m) f false goes
    reads_nested zero n = nested_none n
    reads_nested (suc m) zero = let r = step m (nested_part body m) never (nested_reader body_run m) (reads_nested m zero) in record {
      sound = r.sound;
      stuck = r.stuck;
      none = refl;
      begun = λ a front s. absurd s;
      heads = λ a front s. absurd s;
      starts = λ front b. subst (λ w. Heads class f true w) (sym b) refl;
      complete = λ a front rest l s k. absurd s;
      reach = λ front rest l b. subst (λ w. left (nested_reader body_run (suc m) (w ++ rest)) ≤ length rest) (sym b) (shorter class (suc m) (body (nested_part body m)) (body never) (body_run m (nested_reader body_run m)) f false goes r rest);
      closed = λ front back b. nil_front front back b;
    }
    reads_nested (suc m) (suc n) = step m (nested_part body m) (nested_part body n) (nested_reader body_run m) (reads_nested m n)

    pub reads_deep : (m : ℕ) → Reads class m (deep_part body) (deep_part body) (nested_reader body_run m) f false goes
    reads_deep m = record {
      sound = λ ts rest a e. let s = (reads_nested m 0).sound ts rest a e in (s.0, s.1, (m, s.2));
      stuck = λ ts rest e. let s = (reads_nested m 0).stuck ts rest e in (s.0, s.1, (m, s.2));
      none = (0, refl);
      begun = λ a front s. (s.0, (reads_nested m s.0).begun a front s.1);
      heads = λ a front s. (reads_nested m s.0).heads a front s.1;
      starts = λ front b. (reads_nested m b.0).starts front b.1;
      complete = λ a front rest l s k. (reads_nested m s.0).complete a front rest l s.1 k;
      reach = λ front rest l b. (reads_nested m b.0).reach front rest l b.1;
      closed = λ front back b. (b.0, (reads_nested m b.0).closed front back b.1);
    }

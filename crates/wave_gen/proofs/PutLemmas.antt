-- What was appended, put together; and one line more.
use Rattle.std.proofs.Common.{◌≡◌, ℕ, ◌+◌, ◌-◌, ◌<◌, ◌≤◌, ◌∙◌, sym, ap, arith, List, [], ◌++◌, append_assoc, append-nil, codes, suc, Result, Ok, Err, OnOk}
use Rattle.std.specs.Fmt.{decimal}
use Rattle.wave_base.specs.Draws.{after}
use Rattle.wave_gen.specs.Lines.{choice, draws_for, line_from, line_text}
use Rattle.wave_gen.specs.Load.{drawn_text, load_text, market}
use Rattle.wave_gen.specs.declared.line.Line.{Line}
use Rattle.wave_gen.specs.declared.line.Line.TheVariants.{Pair, Buy}

OnOk-map : {T E : Type 0} (r : Result T E) (P Q : Type 0) → (P → Q) → OnOk r P → OnOk r Q
OnOk-map (Ok x) P Q f p = f p
OnOk-map (Err e) P Q f p = tt

pub pair_put : {E : Type 0} (r : Result Unit E) (old mid new : List ℕ) (hall : ℕ) → mid ≡ (old ++ codes "request pair(") ++ decimal hall
    → OnOk r (new ≡ mid ++ codes ")\n") → OnOk r (new ≡ old ++ line_text (Pair hall))
pair_put r old mid new hall e = OnOk-map r _ _ (λ (f : new ≡ mid ++ codes ")\n"). f ∙ ap (λ m. m ++ codes ")\n") e ∙ simp append_assoc)

pub buy_put : {E : Type 0} (r : Result Unit E) (old first second third new : List ℕ) (hall stall count : ℕ) → first ≡ (old ++ codes "request buy(") ++ decimal hall
    → second ≡ (first ++ codes ",") ++ decimal stall → third ≡ (second ++ codes ",") ++ decimal count
    → OnOk r (new ≡ third ++ codes ")\n") → OnOk r (new ≡ old ++ line_text (Buy hall stall count))
buy_put r old first second third new hall stall count e1 e2 e3 = OnOk-map r _ _ (λ (f : new ≡ third ++ codes ")\n").
    f ∙ ap (λ m. m ++ codes ")\n") (e3 ∙ ap (λ m. (m ++ codes ",") ++ decimal count) (e2 ∙ ap (λ m. (m ++ codes ",") ++ decimal stall) e1)) ∙ simp append_assoc)

drawn_first : (count i x : ℕ) → i < count → drawn_text (count - i) x ≡ line_text (line_from x) ++ drawn_text (count - (i + 1)) (after (draws_for (choice x)) x)
unfolding drawn_text
drawn_first count i x below =
    let one_more : count - i ≡ suc (count - (i + 1)) = omega arith in
    ap (λ k. drawn_text k x) one_more

-- a line that was put is one of those to come
pub drawn_more : (count i x y : ℕ) (line : Line) (old new whole : List ℕ) → i < count → line ≡ line_from x → y ≡ after (draws_for (choice x)) x
    → new ≡ old ++ line_text line → old ++ drawn_text (count - i) x ≡ whole → new ++ drawn_text (count - (i + 1)) y ≡ whole
drawn_more count i x y line old new whole below line_is y_is put before =
    ap (λ z. new ++ drawn_text (count - (i + 1)) z) y_is
    ∙ ap (λ n. n ++ drawn_text (count - (i + 1)) (after (draws_for (choice x)) x)) (put ∙ ap (λ l. old ++ line_text l) line_is)
    ∙ append_assoc old (line_text (line_from x)) (drawn_text (count - (i + 1)) (after (draws_for (choice x)) x))
    ∙ ap (λ t. old ++ t) (sym (drawn_first count i x below))
    ∙ before

pub drawn_all : (count i x : ℕ) (old whole : List ℕ) → count ≤ i → old ++ drawn_text (count - i) x ≡ whole → old ≡ whole
unfolding drawn_text
drawn_all count i x old whole past e =
    let none : count - i ≡ 0 = omega arith in
    sym (append-nil old) ∙ sym (ap (λ k. old ++ drawn_text k x) none) ∙ e

pub load_put : (n : ℕ) (start first second third whole : List ℕ) → start ≡ [] → first ≡ start ++ market → second ≡ first ++ codes "----\nhosts 4\n"
    → third ≡ second ++ drawn_text 2300 n → whole ≡ third ++ codes "snapshot\n" → whole ≡ load_text n
unfolding load_text
load_put n start first second third whole none e1 e2 e3 e4 =
    let head : first ≡ market = e1 ∙ ap (λ s. s ++ market) none in
    let hosts : second ≡ market ++ codes "----\n" ++ codes "hosts 4\n" =
    e2 ∙ ap (λ m. m ++ codes "----\nhosts 4\n") head ∙ sym (append_assoc market (codes "----\n") (codes "hosts 4\n")) in
    e4 ∙ ap (λ m. m ++ codes "snapshot\n") (e3 ∙ ap (λ m. m ++ drawn_text 2300 n) hosts)

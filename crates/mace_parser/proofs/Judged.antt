-- What the parser says of the tokens of a text.
use Rattle.std.proofs.Common.{◌≡◌, ℕ, ◌+◌, ◌-◌, ◌<◌, inl, inr, List, [], ◌∷◌, length, take, map, min, Some, Ok, Err, Result, refl, sym, ◌∙◌, subst, ap, arith, ⊎_elim}
use Rattle.std.specs.Prelude.{IfOk, IfErr, OnOk}
use Rattle.std.proofs.lemmas.Bool.{cases_lt}
use Rattle.std.proofs.lemmas.List.{take-map, take-take, length-map, length-take}
use Rattle.mace_lexer.specs.declared.token.Token.{Token}
use Rattle.mace_lexer.specs.declared.token.Word.{Word}
use Rattle.mace_ast.specs.declared.service.Service.{Service}
use Rattle.mace_ast.specs.Decls.{ServiceTree, service_tree, bare_service}
use Rattle.mace_parser.specs.declared.fault.ParseError.{ParseError}
use Rattle.mace_parser.specs.declared.fault.ParseError.TheVariants.{Expected, TooDeep, OutOfMemory}
use Rattle.mace_grammar.specs.Grammar as g
use Rattle.mace_grammar.specs.inner.Run.{rest_of}
use Rattle.mace_grammar.specs.Nest.{nest_after, IsShallow, IsFirstDeep}
use Rattle.mace_grammar.specs.Spelled.{words, plain_token, Spelled, Begun, IsExpected, IsTooDeep, place_in}
use Rattle.mace_parser.specs.Parsed.{TellsFault, AnswersTree, AnswersFault}
use Rattle.mace_grammar.proofs.Verdict.{IsPlace}
use Rattle.mace_grammar.proofs.Judge.{judge, one_tree, spelled_begun, begun_front, begun_all, shallow_front, shallow_all, judge_place, judge_begun}

-- ---- the first fault

words_take : (ts : List Token) (n : ℕ) → words (take n ts) ≡ take n (words ts)
words_take ts n = sym (take-map (λ t. t.word) n ts)

words_length : (ts : List Token) → length (words ts) ≡ length ts
words_length ts = length-map ts (λ t. t.word)

plain_take : (ws : List Word) (n : ℕ) → take n (map plain_token ws) ≡ map plain_token (take n ws)
plain_take ws n = take-map plain_token n ws

-- the place among all words
expected_by : (ws : List Word) (n : ℕ) → IsPlace g.service (map plain_token ws) n → IsShallow ws → IsExpected ws n
expected_by ws n p s = record {
  within = omega (arith, p.within, length-map ws plain_token);
  begun = subst (λ l. g.service.Begins l) (plain_take ws n) p.begins;
  ends = λ l b. p.ends (omega (arith, length-map ws plain_token)) (subst (λ l. g.service.Begins l) (sym (plain_take ws (n + 1))) b);
  unfinished = λ e t h. p.unfinished (e ∙ sym (length-map ws plain_token)) (bare_service t) h;
  shallow = shallow_all ws n s;
}

pub judge_expected : (ts rest : List Token) → rest ≡ rest_of (judge ts ts) → ((s : ServiceTree) → judge ts ts ≡ Ok (s, []) → ⊥) → IsShallow (words ts) → IsExpected (words ts) (length ts - length rest)
judge_expected ts rest h n s = expected_by (words ts) (length ts - length rest) (judge_place ts rest h n) s

-- the place in the words up to a first one that is too deep
module _ (ts rest : List Token) (j : ℕ) (front : List Token) (same : front ≡ take (j + 1) ts) (within : j < length (words ts)) (shallow : IsShallow (take j (words ts))) where
  front_words : words front ≡ take (j + 1) (words ts)
  front_words = ap words same ∙ words_take ts (j + 1)

  front_length : length front ≡ j + 1
  front_length = ap length same ∙ length-take (j + 1) ts ∙ enough (words_length ts)
    where
      enough : length (words ts) ≡ length ts → min (j + 1) (length ts) ≡ j + 1
      enough e = omega arith

  pub front_expected : rest ≡ rest_of (judge front front) → 0 < length rest → IsExpected (words ts) (j + 1 - length rest)
  front_expected h some =
      let ws = words ts in
      let n = j + 1 - length rest in
      let p0 = judge_place front rest h (λ s e. absurd (omega (arith, some, ap length (h ∙ ap rest_of e)))) in
      let p : IsPlace g.service (map plain_token (take (j + 1) ws)) n = subst (λ l. IsPlace g.service (map plain_token l) n) front_words (subst (λ i. IsPlace g.service (map plain_token (words front)) (i - length rest)) front_length p0) in
      let size : length (map plain_token (take (j + 1) ws)) ≡ j + 1 = length-map (take (j + 1) ws) plain_token ∙ sym (ap length front_words) ∙ words_length front ∙ front_length in
      let here : take n (map plain_token (take (j + 1) ws)) ≡ map plain_token (take n ws) = plain_take (take (j + 1) ws) n ∙ ap (map plain_token) (take-take n (j + 1) ws (omega arith)) in
      let next : take (n + 1) (map plain_token (take (j + 1) ws)) ≡ map plain_token (take (n + 1) ws) = plain_take (take (j + 1) ws) (n + 1) ∙ ap (map plain_token) (take-take (n + 1) (j + 1) ws (omega (arith, some, p.within))) in
      record {
        within = omega arith;
        begun = subst (λ l. g.service.Begins l) here p.begins;
        ends = λ l b. p.ends (omega (arith, some, size)) (subst (λ l. g.service.Begins l) (sym next) b);
        unfinished = λ e t k. absurd (omega (arith, some));
        shallow = shallow_front ws n j (omega (arith, some)) shallow;
      }

  pub front_deep : rest_of (judge front front) ≡ [] → 64 < nest_after (take (j + 1) (words ts)) → IsTooDeep (words ts) j
  front_deep h d = record {
    within = within;
    begun = subst (λ l. Begun l) front_words (judge_begun front h);
    deep = d;
    shallow = shallow;
  }

-- where the tokens up to the first one that is too deep stop
pub stopped_tells : (text : List ℕ) (ts rest front : List Token) (j : ℕ) (result : ParseError) → front ≡ take (j + 1) ts → IsFirstDeep (words ts) (Some j) → rest ≡ rest_of (judge front front) → (length rest ≡ 0 → result ≡ TooDeep j (place_in text ts j)) → (0 < length rest → result ≡ Expected (j + 1 - length rest) (place_in text ts (j + 1 - length rest))) → TellsFault text ts result
stopped_tells text ts rest front j result same deep h all some =
    ⊎_elim
    (λ l. subst (λ e. TellsFault text ts e) (sym (some l)) (front_expected ts rest j front same deep.0 deep.2 h l, refl))
    (λ l. subst (λ e. TellsFault text ts e) (sym (all (omega arith))) (front_deep ts rest j front same deep.0 deep.2 (sym h ∙ nothing rest (omega arith)) deep.1, refl))
    (cases_lt 0 (length rest))
  where
    nothing : (l : List Token) → length l ≡ 0 → l ≡ []
    nothing [] e = refl
    nothing (t ∷ l) e = absurd (omega arith)

-- all tokens up to the first one that is too deep are read
pub read_tells : (text : List ℕ) (ts front : List Token) (j : ℕ) (s : ServiceTree) (result : ParseError) → front ≡ take (j + 1) ts → IsFirstDeep (words ts) (Some j) → judge front front ≡ Ok (s, []) → result ≡ TooDeep j (place_in text ts j) → TellsFault text ts result
read_tells text ts front j s result same deep h all = subst (λ e. TellsFault text ts e) (sym all) (front_deep ts [] j front same deep.0 deep.2 (ap rest_of h) deep.1, refl)

-- ---- the answer is the one

nowhere_else : (ws : List Word) (m n : ℕ) → IsExpected ws m → IsExpected ws n → m ≡ n
nowhere_else ws m n h k =
    ⊎_elim
    (λ l. absurd (h.ends (omega (arith, k.within)) (begun_front ws (m + 1) n (omega arith) k.begun)))
    (λ le. ⊎_elim
    (λ l. absurd (k.ends (omega (arith, h.within)) (begun_front ws (n + 1) m (omega arith) h.begun)))
    (λ ge. omega arith)
    (cases_lt n m))
    (cases_lt m n)

not_both : (ws : List Word) (m n : ℕ) → IsExpected ws m → IsTooDeep ws n → ⊥
not_both ws m n h d =
    ⊎_elim
    (λ l. let e : 64 < nest_after (take (n + 1) (take m ws)) = subst (λ l. 64 < nest_after l) (sym (take-take (n + 1) m ws (omega arith))) d.deep in omega (arith, h.shallow (n + 1) (omega (arith, length-take m ws, h.within)), e))
    (λ le. h.ends (omega (arith, d.within)) (begun_front ws (m + 1) (n + 1) (omega arith) d.begun))
    (cases_lt n m)

no_fault : (ws : List Word) (m : ℕ) (s : ServiceTree) → Spelled s ws → IsExpected ws m → ⊥
no_fault ws m s h k =
    ⊎_elim
    (λ l. k.ends l (begun_all ws (m + 1) (spelled_begun ws s h)))
    (λ le. k.unfinished (omega (arith, k.within)) s h)
    (cases_lt m (length ws))

one_deep : (ws : List Word) (m n : ℕ) → IsTooDeep ws m → IsTooDeep ws n → m ≡ n
one_deep ws m n h k =
    ⊎_elim
    (λ l. absurd (before m n h k l))
    (λ le. ⊎_elim (λ l. absurd (before n m k h l)) (λ ge. omega arith) (cases_lt n m))
    (cases_lt m n)
  where
    before : (m n : ℕ) → IsTooDeep ws m → IsTooDeep ws n → m < n → ⊥
    before m n h k l = let e : 64 < nest_after (take (m + 1) (take n ws)) = subst (λ l. 64 < nest_after l) (sym (take-take (m + 1) n ws (omega arith))) h.deep in omega (arith, k.shallow (m + 1) (omega (arith, length-take n ws, k.within)), e)

not_deep : (ws : List Word) (n : ℕ) → IsShallow ws → IsTooDeep ws n → ⊥
not_deep ws n s d = omega (arith, s (n + 1) (omega (arith, d.within)), d.deep)

module _ (text : List ℕ) (ts : List Token) (result : Result Service ParseError) (spelled : IfOk result (λ s. Spelled (service_tree s) (words ts))) (nest : OnOk result (IsShallow (words ts))) (error : IfErr result (TellsFault text ts)) where
  abbrev pub Facts : Result Service ParseError → Type 0
  Facts o = IfOk o (λ s. Spelled (service_tree s) (words ts)) × OnOk o (IsShallow (words ts)) × IfErr o (TellsFault text ts)

  by_tree : (o : Result Service ParseError) → Facts o → (s : ServiceTree) → Spelled s (words ts) → IsShallow (words ts) → AnswersTree o s
  by_tree (Ok x) f s h n = one_tree (words ts) (service_tree x) s f.0 h
  by_tree (Err (Expected m at)) f s h n = absurd (no_fault (words ts) m s h f.2.0)
  by_tree (Err (TooDeep m at)) f s h n = absurd (not_deep (words ts) m n f.2.0)
  by_tree (Err (OutOfMemory _)) f s h n = refl

  by_expected : (o : Result Service ParseError) → Facts o → (m : ℕ) → IsExpected (words ts) m → AnswersFault o (Expected m (place_in text ts m))
  by_expected (Ok x) f m h = absurd (no_fault (words ts) m (service_tree x) f.0 h)
  by_expected (Err (Expected n at)) f m h =
      let e : n ≡ m = nowhere_else (words ts) n m f.2.0 h in
      inr (ap Err (ap (λ a. Expected n a) f.2.1 ∙ ap (λ i. Expected i (place_in text ts i)) e))
  by_expected (Err (TooDeep n at)) f m h = absurd (not_both (words ts) m n h f.2.0)
  by_expected (Err (OutOfMemory _)) f m h = inl refl

  by_deep : (o : Result Service ParseError) → Facts o → (m : ℕ) → IsTooDeep (words ts) m → AnswersFault o (TooDeep m (place_in text ts m))
  by_deep (Ok x) f m h = absurd (not_deep (words ts) m f.1 h)
  by_deep (Err (Expected n at)) f m h = absurd (not_both (words ts) n m f.2.0 h)
  by_deep (Err (TooDeep n at)) f m h =
      let e : n ≡ m = one_deep (words ts) n m f.2.0 h in
      inr (ap Err (ap (λ a. TooDeep n a) f.2.1 ∙ ap (λ i. TooDeep i (place_in text ts i)) e))
  by_deep (Err (OutOfMemory _)) f m h = inl refl

  pub answers_tree : (s : ServiceTree) → Spelled s (words ts) → IsShallow (words ts) → AnswersTree result s
  answers_tree = by_tree result (spelled, nest, error)

  pub answers_expected : (m : ℕ) → IsExpected (words ts) m → AnswersFault result (Expected m (place_in text ts m))
  answers_expected = by_expected result (spelled, nest, error)

  pub answers_deep : (m : ℕ) → IsTooDeep (words ts) m → AnswersFault result (TooDeep m (place_in text ts m))
  answers_deep = by_deep result (spelled, nest, error)

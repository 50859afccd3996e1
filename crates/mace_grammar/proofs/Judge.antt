-- What the reader of services says of words.
use Rattle.std.proofs.Common.{◌≡◌, ℕ, suc, ◌+◌, ◌-◌, ◌≤◌, List, [], ◌∷◌, ◌++◌, length, take, drop, map, Ok, Err, false, refl, sym, ◌∙◌, subst, ap, arith, ⊎_elim}
use Rattle.std.proofs.lemmas.Bool.{cases_lt}
use Rattle.std.proofs.lemmas.List.{take-take, length-take, map-append, take_all}
use Rattle.std.proofs.Math.Seq.{take-add}
use Rattle.mace_lexer.specs.declared.token.Token.{Token}
use Rattle.mace_lexer.specs.declared.token.Word.{Word}
use Rattle.mace_lexer.specs.declared.keyword.Keyword.TheVariants as key
use Rattle.mace_ast.specs.Decls.{ServiceTree, bare_service, SameUpToSpans}
use Rattle.mace_grammar.specs.inner.Run.{Outcome, Reader}
use Rattle.mace_grammar.specs.declared.class.Class.{Class}
use Rattle.mace_grammar.specs.inner.Classes as classes
use Rattle.mace_grammar.specs.Words.{first}
use Rattle.mace_grammar.specs.Grammar as g
use Rattle.mace_grammar.specs.inner.Readers as r
use Rattle.mace_grammar.specs.inner.Run.{rest_of}
use Rattle.mace_grammar.specs.Nest.{nest_after, IsShallow}
use Rattle.mace_grammar.specs.Spelled.{words, plain_token, Spelled, Begun}
use Rattle.mace_grammar.proofs.Outcomes.{left}
use Rattle.mace_grammar.proofs.Reading.{Reads, whole_found, whole_only, shorter}
use Rattle.mace_grammar.proofs.DeclReads.{service}
use Rattle.mace_grammar.proofs.Plain.{erased, map_outcome, same_length}
use Rattle.mace_grammar.proofs.PlainDecls as plain_decls
use Rattle.mace_grammar.proofs.Verdict.{IsPlace, place, all_begin}

abbrev kind : Token → Class
kind = classes.kind first

abbrev pub judge : List Token → Reader ServiceTree
judge ts = r.service_at (length ts + 1)

reads : (ts : List Token) → Reads kind (suc (length ts)) g.service g.service (judge ts) (r.if_key key.Service) false []
reads ts =
    let n : length ts + 1 ≡ suc (length ts) = omega arith in
    subst (λ m. Reads kind m g.service g.service (judge ts) (r.if_key key.Service) false []) n (service (length ts + 1))

-- ---- words

pub erased_words : (ts : List Token) → erased ts ≡ map plain_token (words ts)
erased_words [] = refl
erased_words (t ∷ ts) = ap (λ l. plain_token t.word ∷ l) (erased_words ts)

-- the judge on the erased tokens
erased_judge : (ts : List Token) → judge (erased ts) (erased ts) ≡ map_outcome bare_service (judge ts ts)
erased_judge ts = ap (λ n. r.service_at (n + 1) (erased ts)) (same_length ts) ∙ (plain_decls.service (length ts + 1)).same ts

spelled_by : (ts : List Token) (s : ServiceTree) → g.service.Spells (bare_service s) (erased ts) → Spelled s (words ts)
spelled_by ts s h = subst (λ l. g.service.Spells (bare_service s) l) (erased_words ts) h

-- ---- laws of words that spell or begin a service

-- a list of words has at most one tree, up to places
pub one_tree : (ws : List Word) (s t : ServiceTree) → Spelled s ws → Spelled t ws → SameUpToSpans s t
one_tree ws s t h k =
    let ps = map plain_token ws in
    let x = whole_only kind g.service (judge ps) (r.if_key key.Service) [] false ps (reads ps) (bare_service s) h in
    let y = whole_only kind g.service (judge ps) (r.if_key key.Service) [] false ps (reads ps) (bare_service t) k in
    ap (λ o. value_of (bare_service s) o) (sym x ∙ y)
  where
    value_of : ServiceTree → Outcome ServiceTree → ServiceTree
    value_of d (Ok p) = p.0
    value_of d (Err e) = d

pub spelled_begun : (ws : List Word) (s : ServiceTree) → Spelled s ws → Begun ws
spelled_begun ws s h = (service 0).begun (bare_service s) (map plain_token ws) h

front_split : (ws : List Word) (m n : ℕ) → m ≤ n → map plain_token (take n ws) ≡ map plain_token (take m ws) ++ map plain_token (take (n - m) (drop m ws))
front_split ws m n h =
    let e : n ≡ m + (n - m) = omega arith in
    ap (λ i. map plain_token (take i ws)) e ∙ ap (map plain_token) (take-add m (n - m) ws) ∙ map-append plain_token (take m ws) (take (n - m) (drop m ws))

pub begun_front : (ws : List Word) (m n : ℕ) → m ≤ n → Begun (take n ws) → Begun (take m ws)
begun_front ws m n h b = (service 0).closed (map plain_token (take m ws)) (map plain_token (take (n - m) (drop m ws))) (subst (λ l. g.service.Begins l) (front_split ws m n h) b)

pub begun_all : (ws : List Word) (m : ℕ) → Begun ws → Begun (take m ws)
begun_all ws m b = ⊎_elim
    (λ l. begun_front ws m (length ws) (omega arith) (subst (λ l. Begun l) (sym (take_all (length ws) ws (omega arith))) b))
    (λ l. subst (λ l. Begun l) (sym (take_all m ws l)) b)
    (cases_lt m (length ws))

pub shallow_front : (ws : List Word) (m n : ℕ) → m ≤ n → IsShallow (take n ws) → IsShallow (take m ws)
shallow_front ws m n h s = λ i l.
    let a : i ≤ length (take n ws) = omega (arith, length-take m ws, length-take n ws) in
    let b : i ≤ m = omega (arith, length-take m ws) in
    subst (λ l. nest_after l ≤ 64) (take-take i n ws (omega arith) ∙ sym (take-take i m ws b)) (s i a)

pub shallow_all : (ws : List Word) (m : ℕ) → IsShallow ws → IsShallow (take m ws)
shallow_all ws m s = λ i l.
    let a : i ≤ length ws = omega (arith, length-take m ws) in
    let b : i ≤ m = omega (arith, length-take m ws) in
    subst (λ l. nest_after l ≤ 64) (sym (take-take i m ws b)) (s i a)

-- ---- what the judge tells

same_left : (o : Outcome ServiceTree) → left o ≡ length (rest_of o)
same_left (Ok p) = refl
same_left (Err e) = refl

erased_rest : (o : Outcome ServiceTree) → rest_of (map_outcome bare_service o) ≡ erased (rest_of o)
erased_rest (Ok p) = refl
erased_rest (Err e) = refl

pub judge_tree : (ts : List Token) (s : ServiceTree) → judge ts ts ≡ Ok (s, []) → g.service.Spells s ts
judge_tree ts s h = whole_found kind g.service (judge ts) (r.if_key key.Service) [] false ts (reads ts) s h

pub judge_spelled : (ts : List Token) (s : ServiceTree) → judge ts ts ≡ Ok (s, []) → Spelled s (words ts)
judge_spelled ts s h = spelled_by ts s (judge_tree (erased ts) (bare_service s) (erased_judge ts ∙ ap (map_outcome bare_service) h))

pub judge_shorter : (ts rest : List Token) → rest ≡ rest_of (judge ts ts) → length rest ≤ length ts
judge_shorter ts rest h = omega (arith, shorter kind (suc (length ts)) g.service g.service (judge ts) (r.if_key key.Service) false [] (reads ts) ts, same_left (judge ts ts), ap length h)

ok_back : (o : Outcome ServiceTree) (a : ServiceTree) → map_outcome bare_service o ≡ Ok (a, []) → (b : ServiceTree) × (o ≡ Ok (b, []))
ok_back (Ok p) a h = (p.0, ap (λ l. Ok (p.0, l)) (nothing p.1 (ap rest_of h)))
  where
    nothing : (ts : List Token) → erased ts ≡ [] → ts ≡ []
    nothing [] e = refl
    nothing (t ∷ ts) e = cc
ok_back (Err e) a h = cc

-- where the tokens stop, in words
pub judge_place : (ts rest : List Token) → rest ≡ rest_of (judge ts ts) → ((s : ServiceTree) → judge ts ts ≡ Ok (s, []) → ⊥) → IsPlace g.service (map plain_token (words ts)) (length ts - length rest)
judge_place ts rest h n =
    let es = erased ts in
    let o = map_outcome bare_service (judge ts ts) in
    let p : IsPlace g.service es (length es - length (rest_of o)) = place kind g.service (judge es) (r.if_key key.Service) [] false es (reads es) o (erased_judge ts) (λ a e. let b = ok_back (judge ts ts) a e in n b.0 b.1) in
    let size : length (rest_of o) ≡ length rest = ap length (erased_rest (judge ts ts)) ∙ same_length (rest_of (judge ts ts)) ∙ ap length (sym h) in
    subst (λ l. IsPlace g.service l (length ts - length rest)) (erased_words ts) (subst (λ i. IsPlace g.service es (i - length rest)) (same_length ts) (subst (λ i. IsPlace g.service es (length es - i)) size p))

-- all tokens begin a service where the judge leaves nothing
pub judge_begun : (ts : List Token) → rest_of (judge ts ts) ≡ [] → Begun (words ts)
judge_begun ts h =
    let es = erased ts in
    let o = map_outcome bare_service (judge ts ts) in
    subst (λ l. g.service.Begins l) (erased_words ts) (all_begin kind g.service (judge es) (r.if_key key.Service) [] false es (reads es) o (erased_judge ts) (erased_rest (judge ts ts) ∙ ap erased h))

-- What begins a service goes on, and words that are alike go on alike.
use Rattle.std.proofs.Common.{◌≡◌, suc, ◌+◌, ⊎_elim, List, [], ◌∷◌, ◌++◌, length, map, false, refl, subst, ap, arith}
use Rattle.std.proofs.lemmas.List.{take_at}
use Rattle.mace_lexer.specs.declared.token.Token.{Token}
use Rattle.mace_lexer.specs.declared.token.Word.{Word}
use Rattle.mace_lexer.specs.declared.keyword.Keyword.TheVariants as key
use Rattle.mace_ast.specs.Decls.{ServiceTree}
use Rattle.mace_grammar.specs.inner.Classes as classes
use Rattle.mace_grammar.specs.declared.class.Class.{Class}
use Rattle.mace_grammar.specs.Words.{first}
use Rattle.mace_grammar.specs.Grammar as g
use Rattle.mace_grammar.specs.inner.Readers as r
use Rattle.mace_grammar.specs.Spelled.{words, plain_token, Spelled, Begun}
use Rattle.mace_grammar.proofs.Reading.{Reads, whole_only}
use Rattle.mace_grammar.proofs.DeclReads as reads
use Rattle.mace_grammar.proofs.Judge.{judge, judge_spelled, spelled_begun, begun_all}
use Rattle.mace_hints.specs.Hints.{AreAlike, GoesOn}
use Rattle.mace_hints.proofs.Leads.{Alike, Completes}
use Rattle.mace_hints.proofs.Decls.{service}

abbrev kind : Token → Class
kind = classes.kind first

judged : (ts : List Token) → Reads kind (suc (length ts)) g.service g.service (judge ts) (r.if_key key.Service) false []
judged ts =
    let n : length ts + 1 ≡ suc (length ts) = omega arith in
    subst (λ m. Reads kind m g.service g.service (judge ts) (r.if_key key.Service) false []) n (reads.service (length ts + 1))

-- tokens that spell a service have words that do
spelled_words : (ts : List Token) (s : ServiceTree) → g.service.Spells s ts → Spelled s (words ts)
spelled_words ts s h = judge_spelled ts s (whole_only kind g.service (judge ts) (r.if_key key.Service) [] false ts (judged ts) s h)

words_of : (ws : List Word) (more : List Token) → words (map plain_token ws ++ more) ≡ ws ++ words more
words_of [] more = refl
words_of (w ∷ ws) more = ap (λ l. w ∷ l) (words_of ws more)

alike_tokens : (ws vs : List Word) → AreAlike ws vs → Alike (map plain_token ws) (map plain_token vs)
alike_tokens [] [] h = tt
alike_tokens [] (v ∷ vs) h = absurd h
alike_tokens (w ∷ ws) [] h = absurd h
alike_tokens (w ∷ ws) (v ∷ vs) h = (h.0, alike_tokens ws vs h.1)

pub alike_self : (ws : List Word) → AreAlike ws ws
alike_self [] = tt
alike_self (w ∷ ws) = (refl, alike_self ws)

completed : (vs : List Word) → Completes g.service (map plain_token vs) → GoesOn vs
completed vs c = let (more, s, x) = c in (words more, s, subst (λ l. Spelled s l) (words_of vs more) (spelled_words (map plain_token vs ++ more) s x))

none_left : (vs : List Word) → map plain_token vs ≡ [] → GoesOn vs
none_left [] e = let (s, ts, x) = service.some in (words ts, s, spelled_words ts s x)
none_left (v ∷ vs) e = cc

-- what begins a service goes on, and so does what is alike
pub begun_goes_on : (ws vs : List Word) → AreAlike ws vs → Begun ws → GoesOn vs
begun_goes_on ws vs h b = ⊎_elim (none_left vs) (completed vs) (service.leads.begins (map plain_token ws) (map plain_token vs) b (alike_tokens ws vs h))

pub goes_on_begun : (ws : List Word) → GoesOn ws → Begun ws
goes_on_begun ws h = let (more, s, x) = h in subst (λ l. Begun l) (take_at ws more (length ws) refl) (begun_all (ws ++ more) (length ws) (spelled_begun (ws ++ more) s x))

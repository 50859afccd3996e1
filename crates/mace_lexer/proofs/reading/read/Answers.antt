use Rattle.std.proofs.Common.{◌+◌, ◌++◌, ◌∷◌, [], sym, ◌∙◌, ap, subst, arith, append_assoc}
use Rattle.std.proofs.lemmas.List.{append-nil}
use Rattle.std.proofs.lemmas.Grind.{common_steps}
use Rattle.mace_lexer.specs.declared.token.Token.{Token}
use Rattle.mace_lexer.specs.Cuts.{Cuts}
use Rattle.mace_lexer.specs.inner.Fronts.{IsCut}
use Rattle.mace_lexer.specs.Lexed.{start}
use Rattle.mace_lexer.proofs.CutLemmas.{gap_more, word_more, gap_fault, word_fault, here_fault, end_cuts, tells}
use Rattle.mace_lexer.proofs.reading.read.Goals as goal

pub pieces-preserved-in-Gap : goal.pieces-preserved-in-Gap
pieces-preserved-in-Gap c =
    let text = c.pieces.rest.now in
    let piece = (subst (IsCut text) c.in-Gap.is c.in_ok-n.ensures).1 in
    let s = c.split_at.ensures in
    record {
      within = omega (arith, s.front_len, s.back_len);
      line = omega (arith, c.past-at.ensures.line, s.front_len);
      col = omega (arith, c.past-at.ensures.col, s.front_len);
      cuts = λ more d. c.pieces.invariant.cuts more (gap_more c.pieces.at c.past-at.result c.in-Gap.n text _ _ s.front s.back c.past-at.ensures.value c.pieces.from more piece d);
      faults = λ k place d. c.pieces.invariant.faults k place (gap_fault c.pieces.at c.past-at.result c.in-Gap.n text _ _ s.front s.back c.past-at.ensures.value k place piece d);
    }

pub pieces-preserved : goal.pieces-preserved
pieces-preserved c =
    let text = c.pieces.rest.now in
    let piece = (subst (IsCut text) c.in-Spell.is c.in_ok-n.ensures).1 in
    let s = c.split_at-in-Spell.ensures in
    let p = c.past-at-in-Spell in
    record {
      within = omega (arith, s.front_len, s.back_len);
      line = omega (arith, p.ensures.line, s.front_len);
      col = omega (arith, p.ensures.col, s.front_len);
      cuts = λ more d.
          let token : Token = record { word = c.in-Spell.word; span = c.pieces.at; from = c.pieces.from; to = c.pieces.from + c.in-Spell.n } in
          subst (λ ts. Cuts start 0 c.args.text.now ts) (sym (append_assoc c.pieces.tokens.items (token ∷ []) more) ∙ ap (λ ts. ts ++ more) (sym c.in_ok-push-in-Spell.ensures.items)) (c.pieces.invariant.cuts (token ∷ more) (word_more c.pieces.at p.result c.in-Spell.n text _ _ s.front s.back p.ensures.value c.pieces.from c.in-Spell.word more piece d));
      faults = λ k place d. c.pieces.invariant.faults k place (word_fault c.pieces.at p.result c.in-Spell.n text _ _ s.front s.back p.ensures.value c.in-Spell.word k place piece d);
    }

pub returns-in-Fault-clause-fault : goal.returns-in-Fault-clause-fault
returns-in-Fault-clause-fault c =
    let text = c.pieces.rest.now in
    let fails = (subst (IsCut text) c.in-Fault.is c.in_ok-n.ensures).1 in
    let s = c.split_at-in-Fault.ensures in
    tells c.args.text.now c.in-Fault.fault c.past.result c.error.result (c.pieces.invariant.faults c.in-Fault.fault c.past.result (here_fault c.pieces.at c.past.result c.in-Fault.n text _ _ s.front s.back c.past.ensures.value c.in-Fault.fault fails)) c.error.ensures

pub returns-clause-found : goal.returns-clause-found
returns-clause-found c = subst (λ ts. Cuts start 0 c.args.text.now ts) (append-nil c.pieces.tokens.items ∙ sym c.from_vec.ensures) (c.pieces.invariant.cuts [] (end_cuts c.pieces.at c.pieces.from c.pieces.rest.now (grind (arith, common_steps))))

use Rattle.std.proofs.Common.{◌≡◌, ◌+◌, ◌∷◌, ◌++◌, [], min, sym, ap, subst, ◌∙◌, arith}
use Rattle.code_scheme.specs.Scheme.{line}
use Rattle.code_scheme.specs.Texts.{place_of_text}
use Rattle.service_compiler.specs.inner.Drafts.{Draft, Emits}
use Rattle.service_compiler.proofs.Drafts.{use_kept, use_counted}
use Rattle.service_compiler.proofs.code.Code.put_use.Goals as goal
use Rattle.service_compiler.proofs.code.Code.put_use.Goals.{then-len-lt-INSTRUCTIONS+in_ok-push+in_ok-note, else-len-lt-INSTRUCTIONS}

pub returns : goal.returns
returns c = λ names named.
    let t = c.args.text.now in
    let at = c.args.place in
    let inside = c.self.inside in
    let last = c.if-len-lt-INSTRUCTIONS.self-inside in
    let old : Draft = record { functions = inside.functions.items; texts = inside.texts; lines = inside.lines.items; count = inside.count } in
    let new : Draft = record { functions = last.functions.items; texts = last.texts; lines = last.lines.items; count = c.saturating_add-self-inside.result } in
    let same : old ≡ c.args.self.now = c.self.view_is in
    let instr : c.args.instr ≡ names (place_of_text old.texts t) = named ∙ ap (λ (d : Draft). names (place_of_text d.texts t)) (sym same) in
    subst (λ d. Emits d new (t ∷ []) (λ all n. line (names (place_of_text all t)) at ∷ [])) same
    (elim c.if-len-lt-INSTRUCTIONS.branch [
      | then-len-lt-INSTRUCTIONS+in_ok-push+in_ok-note w ↦ use_kept old new t names at (omega (arith, w.if-len-lt-INSTRUCTIONS.true, c.len.ensures)) (λ j. record {
        functions = (w.self-inside-is j).functions.items;
        texts = ((λ k. (w.self-inside-is k).texts) ∙ w.in_ok-note.ensures.noted) j;
        lines = ((λ k. (w.self-inside-is k).lines.items) ∙ w.in_ok-push.ensures.items ∙ (λ k. inside.lines.items ++ line (instr k) at ∷ [])) j;
        count = (c.saturating_add-self-inside.ensures ∙ (λ k. min ((w.self-inside-is k).count + 1) 4294967295)) j;
      })
      | else-len-lt-INSTRUCTIONS w ↦ use_counted old new t names at (omega (arith, w.if-len-lt-INSTRUCTIONS.false, c.len.ensures)) (λ j. record {
        functions = (w.self-inside-is j).functions.items;
        texts = (w.self-inside-is j).texts;
        lines = (w.self-inside-is j).lines.items;
        count = (c.saturating_add-self-inside.ensures ∙ (λ k. min ((w.self-inside-is k).count + 1) 4294967295)) j;
      })
    ])

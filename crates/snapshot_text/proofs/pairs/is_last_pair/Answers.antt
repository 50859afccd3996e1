use Rattle.std.proofs.Common.{sym, ap, ◌∙◌}
use Rattle.std.proofs.lemmas.Bool.{false≢true}
use Rattle.snapshot_text.specs.Forms.{is_below}
use Rattle.snapshot_text.proofs.PairLemmas.{last_is, is_last, same_key}
use Rattle.snapshot_text.proofs.pairs.is_last_pair.Goals as goal

pub returns-in-Some : goal.returns-in-Some
returns-in-Some c = (
  λ h. last_is c.args.before.now c.args.text.now c.in-Some.key.now c.in-Some.ensures.some (sym c.is_below.ensures ∙ h),
  λ m.
      let l = is_last c.args.before.now c.args.text.now c.requires m in
      c.is_below.ensures ∙ ap (is_below c.args.before.now) (same_key c.args.text.now c.in-Some.key.now l.0.0 l.0.1 c.in-Some.ensures.some l.1) ∙ l.2,
)

pub returns-in-None : goal.returns-in-None
returns-in-None c = (
  λ h. absurd (false≢true h),
  λ m. (let l = is_last c.args.before.now c.args.text.now c.requires m in absurd (c.in-None.ensures.none l.0.0 l.0.1 l.1)),
)

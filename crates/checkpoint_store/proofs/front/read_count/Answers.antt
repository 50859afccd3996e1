use Rattle.std.proofs.Common.{◌≡◌, ◌++◌, IfOk, List, ℕ, refl, sym, ap, subst, ◌∙◌}
use Rattle.std.proofs.lemmas.Result.{IfErr-weaker}
use Rattle.wave_text.specs.Splits.{IsSplit}
use Rattle.checkpoint_store.specs.declared.form.Form.TheVariants as form
use Rattle.checkpoint_store.specs.CheckpointTexts.{count_text}
use Rattle.checkpoint_store.specs.Dues.{Classes}
use Rattle.checkpoint_store.specs.inner.Steps.{IsRefusal, IsRefusalFor}
use Rattle.checkpoint_store.proofs.front.read_count.Goals as goal

pub returns-clause-ok : goal.returns-clause-ok
returns-clause-ok c =
    let written : c.as_slice.result.now ≡ count_text c.args.shape.now = c.as_slice.ensures.value ∙ c.in_ok-put_count.ensures ∙ ap (λ z. z ++ count_text c.args.shape.now) c.new-count.ensures.items in
    subst (λ (w : List ℕ). IfOk c.read_line.result (λ rest. IsSplit 10 c.args.text.now w rest.now)) written c.read_line.ensures.ok

pub returns-clause-err : goal.returns-clause-err
returns-clause-err c =
    let written : c.as_slice.result.now ≡ count_text c.args.shape.now = c.as_slice.ensures.value ∙ c.in_ok-put_count.ensures ∙ ap (λ z. z ++ count_text c.args.shape.now) c.new-count.ensures.items in
    IfErr-weaker c.read_line.result (IsRefusalFor form.Count c.as_slice.result.now c.args.text.now 3) (IsRefusal c.args.shape.now 0 Classes c.args.text.now 3) (λ e r. r c.args.shape.now 0 Classes refl (λ line d. d ∙ sym written)) c.read_line.ensures.err

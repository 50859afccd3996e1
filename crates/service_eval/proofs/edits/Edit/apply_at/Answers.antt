use Rattle.std.proofs.Common.{◌≤◌, length, sym, subst, arith}
use Rattle.std.proofs.lemmas.List.{set_past, get_or_past}
use Rattle.resolved_service.specs.World.{nothing}
use Rattle.service_eval.specs.inner.Changes.{edited_value}
use Rattle.service_eval.specs.inner.Turns.{Alters}
use Rattle.service_eval.specs.inner.Wants.{WhereWanting, PutsNewKey}
use Rattle.service_eval.proofs.edits.Edit.apply_at.Goals as goal

pub returns-else-i-len-clause-revises : goal.returns-else-i-len-clause-revises
returns-else-i-len-clause-revises c =
    let vs = c.args.values.now.items in
    let past : length vs ≤ c.args.i = omega (arith, c.if-i-len.false, c.len.ensures) in
    record {
      value = c.apply-else-i-len.new.value;
      alters = subst (λ v. Alters (edited_value c.args.self.now v) c.args.at v c.apply-else-i-len.result c.apply-else-i-len.new.value) (sym (get_or_past vs c.args.i nothing past)) c.apply-else-i-len.ensures.alters;
      list = sym (set_past vs c.args.i c.apply-else-i-len.new.value past);
    }

pub returns-else-i-len-clause-memory : goal.returns-else-i-len-clause-memory
returns-else-i-len-clause-memory c =
    let vs = c.args.values.now.items in
    let past : length vs ≤ c.args.i = omega (arith, c.if-i-len.false, c.len.ensures) in
    subst (λ v. WhereWanting c.apply-else-i-len.result (PutsNewKey c.args.self.now v)) (sym (get_or_past vs c.args.i nothing past)) c.apply-else-i-len.ensures.memory

use Rattle.std.proofs.Common.{◌≡◌, true, false, refl, sym, ap, ◌∙◌}
use Rattle.std.specs.Prelude.{◌&&◌}
use Rattle.wave_base.specs.Paths.{path_cmp, is_above}
use Rattle.snapshot_text.specs.Shots.{is_less}
use Rattle.snapshot_text.proofs.OrderLemmas.{next_is, no_root, same_less}
use Rattle.snapshot_text.proofs.order.comes_next.Goals as goal

pub returns-in-Some-None : goal.returns-in-Some-None
returns-in-Some-None c = no_root c.in-Some-None.field-0-0.now c.args.path.now c.args.before.now c.in-Some-None.ensures.value (c.in-Some-None.ensures'.none.0 refl)

pub returns-then-lt : goal.returns-then-lt
returns-then-lt c =
    let parent = c.in-Some-Some.ensures'.some in
    let less : is_less (path_cmp c.in-Some-Some.last.now.path c.args.path.now) ≡ true = sym (same_less (path_cmp c.in-Some-Some.last.now.path c.args.path.now)) ∙ sym c.lt.ensures ∙ c.if-lt.true in
    c.is_above.ensures ∙ ap (λ t. t && is_above c.in-Some-Some.parent c.in-Some-Some.last.now.path) (sym less)
    ∙ next_is c.in-Some-Some.last.now c.args.path.now c.args.before.now c.in-Some-Some.ensures.value c.in-Some-Some.parent parent.0 parent.1 c.requires

pub returns-else-lt : goal.returns-else-lt
returns-else-lt c =
    let parent = c.in-Some-Some.ensures'.some in
    let less : is_less (path_cmp c.in-Some-Some.last.now.path c.args.path.now) ≡ false = sym (same_less (path_cmp c.in-Some-Some.last.now.path c.args.path.now)) ∙ sym c.lt.ensures ∙ c.if-lt.false in
    c.if-lt.false ∙ ap (λ t. t && is_above c.in-Some-Some.parent c.in-Some-Some.last.now.path) (sym less)
    ∙ next_is c.in-Some-Some.last.now c.args.path.now c.args.before.now c.in-Some-Some.ensures.value c.in-Some-Some.parent parent.0 parent.1 c.requires

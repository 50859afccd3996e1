use Rattle.std.proofs.Common.{◌≡◌, length, ap, sym, ◌∙◌}
use Rattle.std.proofs.lemmas.List.{length-reverse}
use Rattle.service_verify.proofs.SameKinds.{kinds_reversed}
use Rattle.service_verify.proofs.point.Stack+Kind.has_kinds_of.Goals as goal

pub returns : goal.returns
returns c =
    let long : length c.as_slice.result.now ≡ length c.as_slice-2.result.now = sym (length-reverse c.as_slice.result.now) ∙ ap length (sym c.as_slice.ensures) ∙ c.requires ∙ ap length c.as_slice-2.ensures ∙ length-reverse c.as_slice-2.result.now in
    rw (c.as_slice.ensures, c.as_slice-2.ensures) (c.eq.ensures ∙ kinds_reversed _ _ long)

use Rattle.std.proofs.Common.{◌≡◌, ◌∙◌, ap, sym, true, is_some}
use Rattle.indexmap.specs.IndexMap.{get_by}
use Rattle.wave_base.specs.declared.path.Path.{Path}
use Rattle.wave_base.specs.Paths.{path_eq}
use Rattle.wave_base.specs.PathLaws.{path_eq_decides}
use Rattle.host_map.proofs.StoreMaps.{key_of_entry, value_of_entry}
use Rattle.host_map.proofs.store.stands_at.Goals as goal

-- the path that stands there is the one that is looked for
same : (p q : Path) → path_eq p q ≡ true → p ≡ q
same p q e = (path_eq_decides p q).0 e

pub returns-in-Some-clause-key : goal.returns-in-Some-clause-key
returns-in-Some-clause-key c = λ h.
    key_of_entry c.args.table.now.entries c.args.place c.in-Some.found.now c.args.path.now c.in-Some.field-0-1.now (sym c.in-Some.ensures.entry)
    ∙ same c.in-Some.found.now c.args.path.now (sym c.eq.ensures ∙ h)

pub returns-in-Some-clause-found : goal.returns-in-Some-clause-found
returns-in-Some-clause-found c = λ h.
    ap is_some (sym (sym c.in-Some.ensures.value ∙ ap (λ p. get_by (path_eq p) c.args.table.now) (same c.in-Some.found.now c.args.path.now (sym c.eq.ensures ∙ h))))

pub returns-in-Some-clause-value : goal.returns-in-Some-clause-value
returns-in-Some-clause-value c = λ h.
    value_of_entry c.args.table.now.entries c.args.place c.in-Some.found.now c.in-Some.field-0-1.now (sym c.in-Some.ensures.entry)
    ∙ sym c.in-Some.ensures.value
    ∙ ap (λ p. get_by (path_eq p) c.args.table.now) (same c.in-Some.found.now c.args.path.now (sym c.eq.ensures ∙ h))

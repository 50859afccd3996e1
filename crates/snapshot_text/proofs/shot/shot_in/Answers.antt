use Rattle.std.proofs.Common.{List, map, ap, subst, ◌∙◌}
use Rattle.std.specs.List.{list_all}
use Rattle.wave_base.specs.declared.shape.FieldInfo.{FieldInfo}
use Rattle.wave_base.specs.Names.{is_word}
use Rattle.wave_base.specs.Shapes.{class_of, declared_fields}
use Rattle.path_text.specs.Found.{IsPathOf}
use Rattle.snapshot_text.specs.inner.Guesses.{AreValuesOf}
use Rattle.snapshot_text.proofs.FitLemmas.{field_words}
use Rattle.snapshot_text.proofs.ShotLemmas.{no_path, no_values, shot_seen}
use Rattle.snapshot_text.proofs.shot.shot_in.Goals as goal

pub returns-in_default-clause-only : goal.returns-in_default-clause-only
returns-in_default-clause-only c =
    no_path c.args.classes.now c.requires.names c.args.line.now c.parts_at.result.0.now c.parts_at.result.1.now c.parts_at-2.result.0.now c.parts_at-2.result.1.now c.parts_at.ensures.parts c.parts_at-2.ensures.parts
    (subst (IsPathOf c.args.classes.now c.parts_at-2.result.0.now) c.in_default.is c.in_ok-path.ensures.only)

pub values_of-requires : goal.values_of-requires
values_of-requires c =
    ap (λ (fs : List FieldInfo). list_all is_word (map (λ f. f.name) fs)) c.fields_at-fields.ensures ∙ ap (λ s. list_all is_word (map (λ f. f.name) (declared_fields s (class_of c.in-Some.path)))) c.shape.ensures ∙ field_words c.args.classes.now c.requires.names (class_of c.in-Some.path)

pub returns-in-Some-2-clause-only : goal.returns-in-Some-2-clause-only
returns-in-Some-2-clause-only c =
    shot_seen c.args.classes.now c.requires.names c.args.line.now c.parts_at.result.0.now c.parts_at.result.1.now c.parts_at-2.result.0.now c.parts_at-2.result.1.now c.parts_at.ensures.parts c.parts_at-2.ensures.parts
    c.in-Some.path (subst (IsPathOf c.args.classes.now c.parts_at-2.result.0.now) c.in-Some.is c.in_ok-path.ensures.only)
    c.fields_at-fields.result.now (c.fields_at-fields.ensures ∙ ap (λ s. declared_fields s (class_of c.in-Some.path)) c.shape.ensures)
    c.in-Some-2.fields (subst (AreValuesOf c.fields_at-fields.result.now c.parts_at-2.result.1.now) c.in-Some-2.is c.in_ok-fields.ensures.only)

pub returns-in-None-clause-only : goal.returns-in-None-clause-only
returns-in-None-clause-only c =
    no_values c.args.classes.now c.requires.names c.args.line.now c.parts_at.result.0.now c.parts_at.result.1.now c.parts_at-2.result.0.now c.parts_at-2.result.1.now c.parts_at.ensures.parts c.parts_at-2.ensures.parts
    c.in-Some.path (subst (IsPathOf c.args.classes.now c.parts_at-2.result.0.now) c.in-Some.is c.in_ok-path.ensures.only)
    c.fields_at-fields.result.now (c.fields_at-fields.ensures ∙ ap (λ s. declared_fields s (class_of c.in-Some.path)) c.shape.ensures)
    (subst (AreValuesOf c.fields_at-fields.result.now c.parts_at-2.result.1.now) c.in-None.is c.in_ok-fields.ensures.only)

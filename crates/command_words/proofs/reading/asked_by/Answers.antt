use Rattle.std.proofs.Common.{ℕ, List, ◌∙◌, ap, sym, codes, option_map}
use Rattle.clap.specs.Words.{found_of, rows_of}
use Rattle.clap.proofs.WalkLemmas.{first_value-rows}
use Rattle.command_words.specs.Choice.{choice_of}
use Rattle.command_words.proofs.ReadingLemmas.{none_asked, some_asked}
use Rattle.command_words.proofs.reading.asked_by.Goals as goal

pub returns-in_err-name : goal.returns-in_err-name
returns-in_err-name c =
    let found = found_of c.args.matches.now in
    c.from_residual.ensures ∙ none_asked (rows_of found) (sym (first_value-rows found (codes "command")) ∙ sym c.in_err-name.ensures)

pub returns : goal.returns
returns c =
    let found = found_of c.args.matches.now in
    let value = λ (id : List ℕ). first_value-rows found id in
    c.choice_of.ensures
    ∙ ap (choice_of c.in_ok-name.name.now (option_map (λ w. w.now) c.get_str-2.result) (option_map (λ w. w.now) c.get_str-3.result) (option_map (λ w. w.now) c.get_str-4.result)) c.places_of.ensures
    ∙ some_asked (rows_of found) c.in_ok-name.name.now (option_map (λ w. w.now) c.get_str-2.result) (option_map (λ w. w.now) c.get_str-3.result) (option_map (λ w. w.now) c.get_str-4.result)
    (option_map (λ w. w.now) c.get_str-5.result) (sym (value (codes "command")) ∙ sym c.in_ok-name.ensures)
    (c.get_str-2.ensures ∙ value (codes "number")) (c.get_str-3.ensures ∙ value (codes "workers")) (c.get_str-4.ensures ∙ value (codes "schedule")) (c.get_str-5.ensures ∙ value (codes "map"))

use Rattle.std.proofs.Common.{rules, ◌≡◌, ◌∙◌, ap, ap₂, codes, true, false, Bool}
use Rattle.clap.specs.Words.{Rule, app_of, new_app, new_rule, rule_of, with_rule}
use Rattle.clap.specs.Simple.{app_of_fields, on_top}
use Rattle.clap.specs.declared.builder.arg.Arg.{Arg}
use Rattle.command_words.specs.Reading.{bare_shape, command_line, name_rule, number_rule, workers_rule, schedule_rule, map_rule}
use Rattle.command_words.proofs.ReadingLemmas.{bare_app}
use Rattle.command_words.proofs.reading.command_line.Goals as goal

pub returns : goal.returns
unfolding command_line
returns c =
    let name_is : rule_of c.required-name.result ≡ name_rule = ap rule_of c.required-name.ensures ∙ ap (λ (r : Rule). record r { required = true }) c.new.ensures.rule in
    let number_is : rule_of c.new-number.result ≡ number_rule = c.new-number.ensures.rule in
    let workers_is : rule_of c.long-workers.result ≡ workers_rule = search rules in
    let schedule_is : rule_of c.long-schedule.result ≡ schedule_rule = search rules in
    let map_is : rule_of c.action-map.result ≡ map_rule = search rules in
    let bare_is : app_of c.disable_version_flag.result ≡ on_top bare_shape (new_app (codes "eventwave")) =
    bare_app (app_of c.new-5.result) (app_of c.no_binary_name.result) (app_of c.disable_help_flag.result) (app_of c.disable_version_flag.result)
    c.new-5.ensures.app (ap app_of_fields c.no_binary_name.ensures) (ap app_of_fields c.disable_help_flag.ensures) (ap app_of_fields c.disable_version_flag.ensures) in
    let global : Arg → Bool = λ (a : Arg). a.global in
    let name_local : c.required-name.result.global ≡ false = ap global c.required-name.ensures ∙ c.new.ensures.optional.1 in
    let workers_local : c.long-workers.result.global ≡ false = ap global c.long-workers.ensures ∙ c.new-2.ensures.optional.1 in
    let schedule_local : c.long-schedule.result.global ≡ false = ap global c.long-schedule.ensures ∙ c.new-3.ensures.optional.1 in
    let map_local : c.action-map.result.global ≡ false = ap global c.action-map.ensures ∙ ap global c.long.ensures ∙ c.new-4.ensures.optional.1 in
    let with_name = c.in_ok-arg.ensures.shape name_local ∙ ap₂ with_rule bare_is name_is in
    let with_number = c.in_ok-arg-2.ensures.shape c.new-number.ensures.optional.1 ∙ ap₂ with_rule with_name number_is in
    let with_workers = c.in_ok-arg-3.ensures.shape workers_local ∙ ap₂ with_rule with_number workers_is in
    let with_schedule = c.in_ok-arg-4.ensures.shape schedule_local ∙ ap₂ with_rule with_workers schedule_is in
    c.in_ok-arg-5.ensures.shape map_local ∙ ap₂ with_rule with_schedule map_is

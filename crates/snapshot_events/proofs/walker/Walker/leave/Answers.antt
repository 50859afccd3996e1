use Rattle.std.proofs.Common.{[], refl, ap, ◌∙◌}
use Rattle.wave_states.specs.Walkers.{leave, last_step}
use Rattle.snapshot_events.specs.Walks.{as_pair, pause_of}
use Rattle.std.proofs.Common.{map}
use Rattle.snapshot_events.proofs.Walking.{back_actor, back_pause, over_pause}
use Rattle.snapshot_events.proofs.walker.Walker.leave.Goals as goal

pub returns-in-Some-clause-walker : goal.returns-in-Some-clause-walker
returns-in-Some-clause-walker c =
    back_actor c.self.inside.at c.self.inside.from (map as_pair c.self.inside.copied.items) c.in-Some.parent c.in-Some.ensures.some.0 c.in-Some.ensures.some.1 c.last-self-inside.result c.last-self-inside.ensures
    ∙ ap (λ v. (leave v.walker.at v.walker.from [] v.walker.copied (last_step v.walker.at)).actor) c.self.view_is

pub returns-in-Some-clause-pause : goal.returns-in-Some-clause-pause
returns-in-Some-clause-pause c =
    back_pause c.self.inside.at c.self.inside.from (map as_pair c.self.inside.copied.items) c.in-Some.parent c.in-Some.ensures.some.0 c.in-Some.ensures.some.1
    ∙ ap (λ v. pause_of (leave v.walker.at v.walker.from [] v.walker.copied (last_step v.walker.at)).pause) c.self.view_is

pub returns-in-None-clause-pause : goal.returns-in-None-clause-pause
returns-in-None-clause-pause c =
    over_pause c.self.inside.at c.self.inside.from c.self.inside.copied.items c.from_vec.result c.new-in-None.result c.new-in-None-2.result (c.in-None.ensures.none.0 refl) (c.from_vec.ensures ∙ ap (λ v. v.items) c.replace-copied.ensures.value) c.new-in-None.ensures
    c.new-in-None-2.ensures
    ∙ ap (λ v. pause_of (leave v.walker.at v.walker.from [] v.walker.copied (last_step v.walker.at)).pause) c.self.view_is

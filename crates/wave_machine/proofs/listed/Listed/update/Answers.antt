use Rattle.std.proofs.Common.{◌∙◌, ap, arith}
use Rattle.wave_labels.specs.Labels.{label_of}
use Rattle.wave_effects.specs.Keeping.{kept_of}
use Rattle.wave_machine.specs.inner.Index.{asked_at, by_part, head_in, share_at}
use Rattle.wave_machine.proofs.Heads.{head_is, still}
use Rattle.wave_effects.proofs.Sized.{listable}
use Rattle.wave_machine.proofs.Updated.{inner_part}
use Rattle.wave_machine.proofs.Weighed.{weighed}
use Rattle.wave_machine.proofs.listed.Listed.update.Goals as goal

pub overflow_sub-self : goal.overflow_sub-self
overflow_sub-self c =
    let u = c.requires in
    let l = label_of c.args.label.now in
    let w = weighed u.0 c.args.self.now l c.args.seen u.1 c.share_at-share.result u.2 (c.share_at-share.ensures ∙ ap (share_at (kept_of c.args.self.now.engine)) c.ticket_of.ensures) in
    w.part

pub overflow_add-self : goal.overflow_add-self
overflow_add-self c =
    let u = c.requires in
    let l = label_of c.args.label.now in
    let w = weighed u.0 c.args.self.now l c.args.seen u.1 c.share_at-share.result u.2 (c.share_at-share.ensures ∙ ap (share_at (kept_of c.args.self.now.engine)) c.ticket_of.ensures) in
    let bound = w.bound in
    let fits = (u.2).room.fits in
    omega (arith, bound, fits)

pub relist_after-requires-clause-listable : goal.relist_after-requires-clause-listable
relist_after-requires-clause-listable c =
    let m = kept_of c.args.self.now.engine in
    let r = (c.requires.2).taken.stands in
    listable c.states_are_known.ensures m r.0 r.1 r.2 (c.heads_are_known.ensures m.plan r.0 (r.2).labels r.1 (r.2).fits (r.2).begins (r.2).reached)

pub relist_after-requires-clause-room : goal.relist_after-requires-clause-room
relist_after-requires-clause-room c =
    let u = c.requires in
    let l = label_of c.args.label.now in
    let w = weighed u.0 c.args.self.now l c.args.seen u.1 c.share_at-share.result u.2 (c.share_at-share.ensures ∙ ap (share_at (kept_of c.args.self.now.engine)) c.ticket_of.ensures) in
    let small = w.small in
    let room = (u.2).room.room in
    omega (arith, small, room)

pub renew_head-requires-clause-commits : goal.renew_head-requires-clause-commits
renew_head-requires-clause-commits c =
    let m = kept_of c.args.self.now.engine in
    let r = (c.requires.2).taken.stands in
    (listable c.states_are_known.ensures m r.0 r.1 r.2 (c.heads_are_known.ensures m.plan r.0 (r.2).labels r.1 (r.2).fits (r.2).begins (r.2).reached)).commits

pub renew_head-requires-clause-room : goal.renew_head-requires-clause-room
renew_head-requires-clause-room c =
    let u = c.requires in
    let l = label_of c.args.label.now in
    let w = weighed u.0 c.args.self.now l c.args.seen u.1 c.share_at-share.result u.2 (c.share_at-share.ensures ∙ ap (share_at (kept_of c.args.self.now.engine)) c.ticket_of.ensures) in
    let small = w.small in
    let room = (u.2).room.room in
    omega (arith, small, room, c.relist_after.ensures.len, c.relist_after.ensures.capacity)

pub returns-clause-listed : goal.returns-clause-listed
returns-clause-listed c =
    let u = c.requires in
    let m' = kept_of c.args.self.now.engine in
    let l = label_of c.args.label.now in
    let w = weighed u.0 c.args.self.now l c.args.seen u.1 c.share_at-share.result u.2 (c.share_at-share.ensures ∙ ap (share_at m') c.ticket_of.ensures) in
    let m = u.0 in
    record {
      index = c.renew_head.ensures.parts (head_in m) (by_part m' (asked_at m')) (head_is m) (still c.is_on_head.result m m' l c.is_on_head.ensures (u.2).taken.moves) (inner_part m')
          (c.relist_after.ensures.all m u.1 (head_in m) (u.2).taken (head_is m) (u.2).index);
      done = c.count_done-self.ensures;
      weight = w.keeps;
    }

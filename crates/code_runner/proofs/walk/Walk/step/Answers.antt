use Rattle.std.proofs.Common.{◌≡◌, ◌+◌, ℕ, suc, true, ap, sym, subst, ◌∙◌, refl, arith}
use Rattle.context_tree.specs.Contexts.{tree_of}
use Rattle.std.specs.List.{list_any}
use Rattle.wave_base.specs.Paths.{path_eq, parent_of}
use Rattle.wave_base.specs.Tree.{put}
use Rattle.wave_base.specs.Shapes.{is_path}
use Rattle.service_code.specs.declared.program.Program.{Program}
use Rattle.service_vm.specs.Boxes.{Boxed}
use Rattle.code_runner.specs.inner.Walks.{tree_into}
use Rattle.code_runner.proofs.Putting.{put_back}
use Rattle.code_runner.proofs.Stepped.{has_here, stands_on, still_there, into_child, stepped_into, stepped_back, stepped_over}
use Rattle.code_runner.proofs.walk.Walk.step.Goals as goal

pub segment-paused-requires-clause-stands : goal.segment-paused-requires-clause-stands
segment-paused-requires-clause-stands c = stands_on c.args.program.now c.args.self.now (tree_of c.args.program.now.shape c.args.contexts.now) c.requires.walks c.path-here.result c.take_record-record.result.fields c.path-here.ensures (c.take_record-record.ensures.fields c.args.program.now.shape)

pub enter-requires-clause-path : goal.enter-requires-clause-path
enter-requires-clause-path c =
    let w = c.requires.walks in
    let p = c.args.program.now in
    let has = has_here p c.args.self.now (tree_of p.shape c.args.contexts.now) w c.path-here.result c.take_record-record.result.fields c.path-here.ensures (c.take_record-record.ensures.fields p.shape) in
    let i = into_child p w.path w.calls c.segment-paused.new.event.event c.in_ok-pause.pause c.in-Go.is (c.in_ok-pause.ensures.leaves w.path w.calls w.stands has).1 in
    subst (λ (q : Program). is_path q.shape c.segment-paused.new.event.event.box.path ≡ true) (sym c.program.ensures.program) i.0

pub enter-requires-clause-parent : goal.enter-requires-clause-parent
enter-requires-clause-parent c =
    let w = c.requires.walks in
    let p = c.args.program.now in
    let has = has_here p c.args.self.now (tree_of p.shape c.args.contexts.now) w c.path-here.result c.take_record-record.result.fields c.path-here.ensures (c.take_record-record.ensures.fields p.shape) in
    let i = into_child p w.path w.calls c.segment-paused.new.event.event c.in_ok-pause.pause c.in-Go.is (c.in_ok-pause.ensures.leaves w.path w.calls w.stands has).1 in
    still_there p.shape c.args.contexts.now c.put_record.new.contexts c.path-here.result w.path (parent_of c.segment-paused.new.event.event.box.path) c.segment-paused.new.body.fields (put_back c.args.contexts.now c.take_record-record.new.contexts c.put_record.new.contexts c.path-here.result c.segment-paused.new.body.fields c.take_record-record.ensures.tree c.put_record.ensures.tree) i.1 w.here

plus_one : (n : ℕ) → n + 1 ≡ suc n
plus_one n = omega arith

pub returns-in_ok-enter-in-Go-clause-next : goal.returns-in_ok-enter-in-Go-clause-next
returns-in_ok-enter-in-Go-clause-next c =
    let p = c.args.program.now in
    let path = c.segment-paused.new.event.event.box.path in
    let entered = c.args.self.now.entered.items in
    let known = list_any (path_eq path) entered in
    let is_put = put_back c.args.contexts.now c.take_record-record.new.contexts c.put_record.new.contexts c.path-here.result c.segment-paused.new.body.fields c.take_record-record.ensures.tree c.put_record.ensures.tree p.shape ∙ ap (λ q. put (tree_of p.shape c.args.contexts.now) q c.segment-paused.new.body.fields) c.path-here.ensures in
    stepped_into p c.args.self.now (tree_of p.shape c.args.contexts.now) c.requires.walks c.take_record-record.result.fields
    (c.take_record-record.ensures.fields p.shape ∙ ap (tree_of p.shape c.args.contexts.now).fields c.path-here.ensures)
    c.segment-paused.new.event.event c.segment-paused.new.body.fields c.in_ok-pause.pause c.in_ok-pause.ensures.segment
    c.enter.new.self (tree_of p.shape c.enter.new.contexts) (ap (λ (b : Boxed). b.event) c.in_ok-enter-in-Go.ensures.event) (c.in_ok-enter-in-Go.ensures.segments ∙ plus_one c.args.self.now.segments) c.in-Go.is
    c.in_ok-enter-in-Go.ensures.entered
    (subst (λ (q : Program). tree_of q.shape c.enter.new.contexts ≡ tree_into known (tree_of q.shape c.put_record.new.contexts) path) c.program.ensures.program c.in_ok-enter-in-Go.ensures.tree
    ∙ ap (λ r. tree_into known r path) is_put)

pub returns-in-Back-clause-next : goal.returns-in-Back-clause-next
returns-in-Back-clause-next c =
    let p = c.args.program.now in
    stepped_back p c.args.self.now (tree_of p.shape c.args.contexts.now) c.requires.walks c.take_record-record.result.fields
    (c.take_record-record.ensures.fields p.shape ∙ ap (tree_of p.shape c.args.contexts.now).fields c.path-here.ensures)
    c.segment-paused.new.event.event c.segment-paused.new.body.fields c.in_ok-pause.pause c.in_ok-pause.ensures.segment
    (record { event = c.segment-paused.new.event; entered = c.args.self.now.entered; segments = c.args.self.now.segments + 1 })
    (tree_of p.shape c.put_record.new.contexts) refl (plus_one c.args.self.now.segments) c.in-Back.is refl
    (put_back c.args.contexts.now c.take_record-record.new.contexts c.put_record.new.contexts c.path-here.result c.segment-paused.new.body.fields c.take_record-record.ensures.tree c.put_record.ensures.tree p.shape ∙ ap (λ q. put (tree_of p.shape c.args.contexts.now) q c.segment-paused.new.body.fields) c.path-here.ensures)

pub returns-in-Over-clause-next : goal.returns-in-Over-clause-next
returns-in-Over-clause-next c =
    let p = c.args.program.now in
    stepped_over p c.args.self.now (tree_of p.shape c.args.contexts.now) c.requires.walks c.take_record-record.result.fields
    (c.take_record-record.ensures.fields p.shape ∙ ap (tree_of p.shape c.args.contexts.now).fields c.path-here.ensures)
    c.segment-paused.new.event.event c.segment-paused.new.body.fields c.in_ok-pause.pause c.in_ok-pause.ensures.segment
    (record { event = c.segment-paused.new.event; entered = c.args.self.now.entered; segments = c.args.self.now.segments + 1 })
    (tree_of p.shape c.put_record.new.contexts) refl (plus_one c.args.self.now.segments) c.in-Over.result c.in-Over.is refl
    (put_back c.args.contexts.now c.take_record-record.new.contexts c.put_record.new.contexts c.path-here.result c.segment-paused.new.body.fields c.take_record-record.ensures.tree c.put_record.ensures.tree p.shape ∙ ap (λ q. put (tree_of p.shape c.args.contexts.now) q c.segment-paused.new.body.fields) c.path-here.ensures)

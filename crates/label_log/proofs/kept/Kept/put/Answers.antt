use Rattle.std.proofs.Common.{◌≡◌, ◌∙◌, Some, slice_get, ap, subst}
use Rattle.label_log.specs.Logs.{path_of}
use Rattle.label_log.specs.inner.Keeping.{HasRoom, ready_in}
use Rattle.label_log.proofs.EntryLemmas.{labels_push}
use Rattle.label_log.proofs.kept.Kept.put.Goals as goal

pub returns-in-Numbered-clause-labels : goal.returns-in-Numbered-clause-labels
returns-in-Numbered-clause-labels c =
    let k = c.args.self.now in
    let p = path_of c.args.label.now.act in
    let room = subst (HasRoom k) c.in-Numbered.is c.requires.room in
    let ready = subst (λ r. ready_in k r ≡ Some p) c.in-Numbered.is c.requires.ready in
    labels_push k.paths.keys k.entries.items _ k.whole.items c.of.result p c.args.label.now c.push_reserved.ensures.items room.2 (ap (slice_get k.paths.keys) c.of.ensures.path ∙ ready) c.of.ensures.label

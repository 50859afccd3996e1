use Rattle.std.proofs.Common.{◌∙◌, ap, refl, subst, sym}
use Rattle.std.specs.BTreeMap.{insert_entry}
use Rattle.wave_base.specs.Paths.{path_cmp}
use Rattle.script_fold.specs.inner.Visiting.{host_at}
use Rattle.script_fold.proofs.VisitLemmas.{Sets, joined_known, joined_new, no_entry, there_is}
use Rattle.script_fold.proofs.visits.Visits.join.Goals as goal

pub returns-then-contains_key-clause-visited : goal.returns-then-contains_key-clause-visited
returns-then-contains_key-clause-visited c =
    λ hosts earlier now h.
    joined_known hosts earlier now c.args.self.now c.args.self.now c.args.path.now h refl refl (sym (there_is hosts c.args.self.now.hosts.entries c.args.path.now h.paths) ∙ sym c.contains_key.ensures ∙ c.if-contains_key.true)

pub returns-clause-visited : goal.returns-clause-visited
returns-clause-visited c =
    λ hosts earlier now h.
    let es = c.args.self.now.hosts.entries in
    let p = c.args.path.now in
    let host = c.host_of-host.ensures ∙ ap (host_at es) c.parent.ensures in
    joined_new hosts earlier now c.args.self.now _ p h refl (no_entry es p (sym c.contains_key.ensures ∙ c.if-contains_key.false))
    (c.in_ok-insert.ensures.entries ∙ ap (insert_entry path_cmp es p) host) (subst (Sets es c.insert.new.self.entries p) host c.in_ok-insert.ensures.updates.0)

use Rattle.std.proofs.Common.{◌≡◌, ◌∙◌, ◌+◌, ◌++◌, length, map, ap, sym, subst}
use Rattle.std.specs.Prelude.{option_map}
use Rattle.wave_states.specs.Labels.{Admit, Commit}
use Rattle.wave_effects.specs.Keeping.{kept_of}
use Rattle.wave_machine.specs.inner.Asking.{admit_labels, commit_labels, in_order, label_at}
use Rattle.wave_machine.specs.inner.Index.{Goes, by_none}
use Rattle.wave_machine.proofs.Heads.{admits_are, admits_first, commit_goes, commits_are}
use Rattle.wave_machine.proofs.renewing.relist_head.Goals as goal

pub returns-clause-parts : goal.returns-clause-parts
returns-clause-parts c = λ h b head inner was.
    let m = kept_of c.args.engine.now in
    let a = label_at 0 0 (option_map (λ t. Admit t) head.admit) in
    let d = label_at 0 0 (option_map (λ t. Commit t) head.commit) in
    let admits = admit_labels 0 m.head in
    let commits = commit_labels 0 (m.first + length m.settled.results) m.commits in
    let one : map by_none c.cut_commit.new.index.items ≡ in_order (a ++ b) = c.cut_commit.ensures.parts a d b (admits_are head.admit) (commits_are head.commit) inner (was ∙ ap (λ r. in_order (r ++ b)) head.are) in
    let two : map by_none c.relist_admit.new.index.items ≡ in_order (admits ++ b) = c.relist_admit.ensures.parts head.admit b inner one in
    c.put_some.ensures.parts admits b (subst (λ ls. Goes ls admits b) (sym c.commit_label.ensures) (commit_goes m admits (admits_first m.head) b inner)) two
    ∙ ap (λ r. in_order ((admits ++ r) ++ b)) c.commit_label.ensures

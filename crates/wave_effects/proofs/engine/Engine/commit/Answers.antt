use Rattle.std.proofs.Common.{◌≡◌, ◌∙◌, ◌+◌, Option, Some, ap, is_some, length, refl, sym, arith}
use Rattle.std.specs.Prelude.{if◌then◌else◌, option_map}
use Rattle.wave_base.specs.declared.outcome.EventResult.{EventResult}
use Rattle.wave_base.specs.Fold.{created_lines}
use Rattle.head_tickets.specs.Heads.{requests}
use Rattle.commit_order.specs.Commits.{Committing, ready_result}
use Rattle.commit_order.specs.declared.commits.Committed.{Committed}
use Rattle.wave_states.specs.Labels.{Commit}
use Rattle.wave_effects.specs.Keeping.{kept_of}
use Rattle.wave_effects.proofs.Committing.{DoesOne, TakesResult}
use Rattle.wave_effects.proofs.Headings.{commit_order, commit_pushed, commit_ready, commit_room, the_commit}
use Rattle.wave_effects.proofs.Framing.{moved_none}
use Rattle.wave_effects.proofs.engine.Engine.commit.Goals as goal

-- a result as the next one that is committed
abbrev named : Committing → Option EventResult → Option Committed
named k o = option_map (λ r. record { ticket = record { 0 = k.committed + 1 }; result = r }) o

pub unwrap-result-requires : goal.unwrap-result-requires
unwrap-result-requires c =
    let m = kept_of c.args.self.now in
    let on = c.requires.enabled.3 in
    ap is_some c.commit_next.ensures.gives ∙ ap (λ o. is_some (named m.commits o)) (commit_ready c.states_are_known.ensures m c.requires.enabled.0 c.requires.enabled.1 c.requires.enabled.2 on.start on.state on.next on.stands on.enabled)

pub add_created-made-requires-clause-tickets : goal.add_created-made-requires-clause-tickets
add_created-made-requires-clause-tickets c =
    let m = kept_of c.args.self.now in
    let on = c.requires.enabled.3 in
    let w = c.requires.enabled.0 in
    let host = c.requires.enabled.1 in
    let t = c.requires.enabled.2 in
    commit_room c.states_are_known.ensures m w host t on.start on.state on.next on.stands on.enabled c.heads_are_known.ensures (length c.args.created)
    (ap length (c.requires.created (the_commit c.states_are_known.ensures m w host t on.start on.state on.next on.stands on.enabled).result (commit_ready c.states_are_known.ensures m w host t on.start on.state on.next on.stands on.enabled)))

pub add_created-made-requires-clause-order : goal.add_created-made-requires-clause-order
add_created-made-requires-clause-order c =
    let m = kept_of c.args.self.now in
    let on = c.requires.enabled.3 in
    commit_order c.states_are_known.ensures m c.requires.enabled.0 c.requires.enabled.1 c.requires.enabled.2 on.start on.state on.next on.stands on.enabled

pub begin_batch-requires-clause-order : goal.begin_batch-requires-clause-order
begin_batch-requires-clause-order c =
    let m = kept_of c.args.self.now in
    let on = c.requires.enabled.3 in
    let order = commit_order c.states_are_known.ensures m c.requires.enabled.0 c.requires.enabled.1 c.requires.enabled.2 on.start on.state on.next on.stands on.enabled in
    omega (arith, order, c.add_created-made.ensures.counts.0, c.add_created-made.ensures.counts.1)

same_some : {X : Type 0} (a b : X) (o : Option X) → o ≡ Some a → o ≡ Some b → a ≡ b
same_some a b o e f = cc

pub returns-clause-takes : goal.returns-clause-takes
returns-clause-takes c = λ w host t.
    let m = kept_of c.args.self.now in
    let on = c.requires.enabled.3 in
    let w' = c.requires.enabled.0 in
    let host' = c.requires.enabled.1 in
    let t' = c.requires.enabled.2 in
    let r : EventResult = (the_commit c.states_are_known.ensures m w' host' t' on.start on.state on.next on.stands on.enabled).result in
    let ready : ready_result m.commits ≡ Some r = commit_ready c.states_are_known.ensures m w' host' t' on.start on.state on.next on.stands on.enabled in
    let gives : c.commit_next.result ≡ Some (record { ticket = record { 0 = m.commits.committed + 1 }; result = r }) = c.commit_next.ensures.gives ∙ ap (named m.commits) ready in
    let result : c.unwrap-result.result.result ≡ r = ap (λ (x : Committed). x.result) (same_some c.unwrap-result.result _ c.commit_next.result c.unwrap-result.ensures gives) in
    let created : requests c.args.created ≡ created_lines r = ap requests (c.requires.created r ready) in
    let takes : TakesResult m.commits c.commit_next.new.self r = record {
      result_is = ready;
      committed = c.commit_next.ensures.committed ∙ ap (λ b. m.commits.committed + (if b then 1 else 0)) (ap is_some gives);
      results = c.commit_next.ensures.results;
    } in
    let does : DoesOne m.head c.begin_batch.new.head (requests c.args.created) = record {
      fold = λ admitted n. c.begin_batch.ensures.fold admitted (n ∙ sym c.add_created-made.ensures.counts.0) ∙ c.add_created-made.ensures.fold admitted n;
      first = c.begin_batch.ensures.first ∙ c.add_created-made.ensures.first;
      admitted = c.begin_batch.ensures.counts.0 ∙ c.add_created-made.ensures.counts.0;
      done = c.begin_batch.ensures.counts.1 ∙ c.add_created-made.ensures.counts.1;
    } in
    commit_pushed c.states_are_known.ensures m w host t (record { result = c.unwrap-result.result.result; made = c.add_created-made.result }) (requests c.args.created) c.begin_batch.new.head c.commit_next.new.self c.push_reserved.new.self.items r created takes does result c.add_created-made.ensures.tickets c.push_reserved.ensures

pub returns-clause-moves : goal.returns-clause-moves
returns-clause-moves c = λ w host t. moved_none (kept_of c.args.self.now) _ (record { worker = w; host = host; act = Commit t }) refl refl refl refl refl

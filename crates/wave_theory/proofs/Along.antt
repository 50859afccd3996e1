-- What holds of the labels so far and the state, and goes on with each label, holds of every list of labels that is a run.
use Rattle.std.proofs.Common.{◌≡◌, ℕ, ◌<◌, Some, List, [], ◌∷◌, ◌++◌, refl, sym, ◌∙◌, ap, subst}
use Rattle.std.specs.Prelude.{All, nat_lt, option_and_then}
use Rattle.std.proofs.lemmas.List.{append-nil, append_assoc}
use Rattle.wave_states.specs.States.{State}
use Rattle.wave_states.specs.Labels.{Label}
use Rattle.wave_states.specs.Steps.{step, step_by}
use Rattle.wave_states.specs.Runs.{run}
use Rattle.wave_states.specs.Begins.{Begin, start_state}
use Rattle.wave_states.specs.Kinds.{Kind}
use Rattle.wave_states.specs.Owes.{Owes, IsBegin}
use Rattle.wave_theory.proofs.Basics.{then_some, if_some, some_same}
use Rattle.wave_theory.proofs.GoodStates.{Good_state, Next, Goes}
use Rattle.wave_theory.proofs.GoodStates
use Rattle.wave_theory.proofs.Reached

module _ {A F R J : Type 0} (kind : Kind A F R J) (owes : Owes kind) (b : Begin F) (batches : List (List J)) (begins : IsBegin kind b) (jobs : All (All kind.is_job) batches) (some_host : 0 < kind.hosts) (workers : ℕ) where
  abbrev Good : State A F R J → Type 0
  Good s = Good_state kind owes b batches begins jobs s

  abbrev pub Follows : (s s' : State A F R J) → Good s → Label → Type 0
  Follows s s' k l = Next kind owes b batches begins jobs s s' k.ghost (GoodStates.total kind owes b batches begins jobs s k.tally) l.act

  abbrev pub first : Good (start_state b batches)
  first = (Reached.first_good kind owes b batches begins jobs some_host).good

  abbrev pub from_start : List Label → State A F R J → Type 0
  from_start ls s = run kind.system workers (start_state b batches) ls ≡ Some s

  -- one label more
  pub run_more : (ls : List Label) (s v s' : State A F R J) (l : Label) → run kind.system workers s ls ≡ Some v → step kind.system workers v l ≡ Some s' → run kind.system workers s (ls ++ l ∷ []) ≡ Some s'
  unfolding run
  run_more [] s v s' l e f = (let z : s ≡ v = some_same s v e in ap (λ u. option_and_then (λ x. run kind.system workers x []) (step kind.system workers u l)) z ∙ ap (option_and_then (λ x. run kind.system workers x [])) f)
  run_more (m ∷ ls) s v s' l e f =
      let u = then_some (λ u. run kind.system workers u ls) (step kind.system workers s m) v e in
      ap (option_and_then (λ x. run kind.system workers x (ls ++ l ∷ []))) u.1 ∙ run_more ls u.0 v s' l u.2 f

  pub step_follows : (s s' : State A F R J) (k : Good s) (l : Label) → step kind.system workers s l ≡ Some s' → Follows s s' k l
  unfolding step
  step_follows s s' k l e = Reached.step_next kind owes b batches begins jobs s s' k.ghost k.shows k.heads k.alive k.tally k.tallied l.worker l.host l.act (if_some (nat_lt l.worker workers) (step_by kind.system s l.worker l.host l.act) s' e).1

  module _ (P : List Label → (s : State A F R J) → Good s → Type 0)
      (next : (ls : List Label) (s s' : State A F R J) (k : Good s) (l : Label) → from_start ls s → P ls s k → step kind.system workers s l ≡ Some s' → (n : Follows s s' k l) → P (ls ++ l ∷ []) s' n.good) where
    pub record Along (ls : List Label) (s : State A F R J) : Type 0 where
      pub good : Good s
      pub holds : P ls s good

    along_by : (before ls : List Label) (s s' : State A F R J) (k : Good s) → from_start before s → P before s k → run kind.system workers s ls ≡ Some s' → Along (before ++ ls) s'
    unfolding run
    along_by before [] s s' k r h e = subst (λ x. Along x s') (sym (append-nil before)) (subst (Along before) (some_same s s' e) (record { good = k; holds = h }))
    along_by before (l ∷ ls) s s' k r h e =
        let v = then_some (λ v. run kind.system workers v ls) (step kind.system workers s l) s' e in
        let n = step_follows s v.0 k l v.1 in
        subst (λ x. Along x s') (append_assoc before (l ∷ []) ls) (along_by (before ++ l ∷ []) ls v.0 s' n.good (run_more before (start_state b batches) s v.0 l r v.1) (next before s v.0 k l r h v.1 n) v.2)

    pub along : P [] (start_state b batches) first → (ls : List Label) (s : State A F R J) → from_start ls s → Along ls s
    unfolding run
    along h ls s e = along_by [] ls (start_state b batches) s first refl h e

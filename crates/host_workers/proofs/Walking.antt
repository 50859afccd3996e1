-- Labels that a worker took one after the other in one visit.
use Rattle.std.proofs.Common.{◌≡◌, ◌∙◌, ℕ, true, Ok, List, [], ◌∷◌, ◌++◌, map, ◌<◌, refl, sym, ap, subst, append_assoc, append-nil}
use Rattle.std.specs.Prelude.{All}
use Rattle.std.proofs.lemmas.List.{map-append}
use Rattle.std.proofs.lemmas.List.Elements.{All-nil, All-cons, All-head, All-tail, All-append, All-map}
use Rattle.wave_base.specs.declared.numbers.Worker.{Worker}
use Rattle.kept_lock.specs.History.{entries_of}
use Rattle.kept_lock.proofs.Entries.{grown_own}
use Rattle.wave_labels.specs.declared.label.Label.{Label}
use Rattle.plan_actors.specs.Plans.{Plan}
use Rattle.wave_effects.specs.Acts.{is_step}
use Rattle.wave_board.specs.declared.board.Board.{Board}
use Rattle.wave_board.specs.declared.trail.Trail.{Trail}
use Rattle.wave_board.specs.declared.trail.Trail.TheVariants.{Step}
use Rattle.wave_board.specs.declared.turn.Turn.TheVariants.{Stepped}
use Rattle.wave_board.specs.Boards.{IsStanding, StandsStill, history_of, owner_of}
use Rattle.wave_board.specs.Taking.{AreEven, MayTake, Took}
use Rattle.host_workers.specs.declared.task.Task.{Task}
use Rattle.host_workers.specs.declared.task.Task.TheVariants.{Segment, Again, Rest, Finished, Stopped}
use Rattle.host_workers.specs.Passes.{NoHalts}
use Rattle.host_workers.specs.inner.Visits.{HasTaken, HasWalked, Walked}
use Rattle.host_workers.proofs.Entries.{even_step, no_halt_more}

-- Starts and Stops are as many as before, and there is no Halt
pub even_steps : (ls : List Label) (made : List Trail) → All (λ l. is_step l.act ≡ true) ls → AreEven made → AreEven (made ++ map Step ls)
even_steps [] made steps even = subst AreEven (sym (append-nil made)) even
even_steps (l ∷ ls) made steps even =
    subst AreEven (append_assoc made (Step l ∷ []) (map Step ls))
    (even_steps ls (made ++ Step l ∷ []) (All-tail (λ (x : Label). is_step x.act ≡ true) l ls steps) (even_step made l (All-head (λ (x : Label). is_step x.act ≡ true) l ls steps) even))

pub no_halt_steps : (ls : List Label) (made : List Trail) → NoHalts made → NoHalts (made ++ map Step ls)
no_halt_steps [] made none = subst NoHalts (sym (append-nil made)) none
no_halt_steps (l ∷ ls) made none = subst NoHalts (append_assoc made (Step l ∷ []) (map Step ls)) (no_halt_steps ls (made ++ Step l ∷ []) (no_halt_more made l none))

-- the entries are the worker's
pub own_steps : (n : ℕ) (w : Worker) (ls : List Label) → w.0 ≡ n → All (λ l. l.worker ≡ w) ls → All (λ e. owner_of e ≡ n) (map Step ls)
own_steps n w ls same own = All-map (λ e. owner_of e ≡ n) Step ls (λ k d less. ap (λ (v : Worker). v.0) (own k d less) ∙ same)

module _ (a b c : Board) (w : Worker) where
  -- none yet
  pub not_walked : StandsStill a b → history_of b ≡ history_of a → Walked a w b
  not_walked still same = record {
    stands = still;
    labels = [];
    own = All-nil (λ (l : Label). l.worker ≡ w);
    steps = All-nil (λ (l : Label). is_step l.act ≡ true);
    history = same ∙ sym (append-nil (history_of a));
  }

  -- one more
  pub walked_more : (l : Label) → Walked a w b → StandsStill b c → Took b w c (Stepped l) → Walked a w c
  walked_more l walked still took = record {
    stands = λ o at. still o (walked.stands o at);
    labels = walked.labels ++ l ∷ [];
    own = All-append (λ (x : Label). x.worker ≡ w) walked.labels (l ∷ []) walked.own (All-cons (λ (x : Label). x.worker ≡ w) l [] took.1 (All-nil (λ (x : Label). x.worker ≡ w)));
    steps = All-append (λ (x : Label). is_step x.act ≡ true) walked.labels (l ∷ []) walked.steps (All-cons (λ (x : Label). is_step x.act ≡ true) l [] took.2 (All-nil (λ (x : Label). is_step x.act ≡ true)));
    history = took.0.history ∙ ap (λ h. h ++ Step l ∷ []) walked.history ∙ append_assoc (history_of a) (map Step walked.labels) (Step l ∷ []) ∙ ap (λ h. history_of a ++ h) (sym (map-append Step walked.labels (l ∷ [])));
  }

  -- and where nothing came behind them
  pub walked_still : Walked a w b → StandsStill b c → history_of c ≡ history_of b → Walked a w c
  walked_still walked still same = record {
    stands = λ o at. still o (walked.stands o at);
    labels = walked.labels;
    own = walked.own;
    steps = walked.steps;
    history = same ∙ walked.history;
  }

module _ (a b : Board) (w : Worker) (standing : IsStanding a) (walked : Walked a w b) where
  -- the worker may go on
  pub stands_on : IsStanding b
  stands_on = (let at = walked.stands standing.origin (standing.state, standing.at) in record { origin = standing.origin; state = at.0; at = at.1 })

  pub may_go_on : MayTake a w → MayTake b w
  unfolding stands_on
  may_go_on may = record {
    is_worker = subst (λ (p : Plan). w.0 < p.workers) (standing.at.plan ∙ sym stands_on.at.plan) may.is_worker;
    gave = subst AreEven (sym (ap (entries_of owner_of w.0) walked.history ∙ grown_own owner_of w.0 (history_of a) (map Step walked.labels) (own_steps w.0 w walked.labels refl walked.own)))
        (even_steps walked.labels (entries_of owner_of w.0 (history_of a)) walked.steps may.gave);
  }

module _ (a b : Board) (w : Worker) (walked : Walked a w b) where
  -- labels behind labels
  walked_on : (c : Board) → Walked b w c → Walked a w c
  walked_on c more = record {
    stands = λ o at. more.stands o (walked.stands o at);
    labels = walked.labels ++ more.labels;
    own = All-append (λ (x : Label). x.worker ≡ w) walked.labels more.labels walked.own more.own;
    steps = All-append (λ (x : Label). is_step x.act ≡ true) walked.labels more.labels walked.steps more.steps;
    history = more.history ∙ ap (λ h. h ++ map Step more.labels) walked.history ∙ append_assoc (history_of a) (map Step walked.labels) (map Step more.labels) ∙ ap (λ h. history_of a ++ h) (sym (map-append Step walked.labels more.labels));
  }

  pub took_on : (c : Board) (task : Task) → HasWalked b w c task → HasTaken a w c (Ok task)
  took_on c (Segment lease) h = (h.0, walked_on h.0 h.1, h.2)
  took_on c Again h = walked_on c h
  took_on c Rest h = walked_on c h
  took_on c Finished h = absurd h
  took_on c (Stopped why) h = absurd h

-- one label
pub walked_one : (a b : Board) (w : Worker) (l : Label) → StandsStill a b → Took a w b (Stepped l) → Walked a w b
walked_one a b w l still took = walked_more a a b w l (not_walked a a a w (λ o at. at) refl) still took

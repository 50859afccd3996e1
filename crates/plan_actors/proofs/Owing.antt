-- The actors of a plan owe what the machine asks of actors.
use Rattle.std.proofs.Common.{◌≡◌, ℕ, true, List, [], Some, refl, sym}
use Rattle.std.specs.Prelude.{All}
use Rattle.std.specs.List.Sorted.{IsStrictlySortedBy}
use Rattle.std.proofs.lemmas.List.Elements.{All-nil, All-map}
use mathlib.Core.Bool.{true≢false}
use Rattle.wave_base.specs.declared.call.Call.{Call}
use Rattle.wave_base.specs.declared.outcome.EventResult.{EventResult}
use Rattle.wave_base.specs.declared.path.Path.{Path}
use Rattle.wave_base.specs.declared.path.Step.{Step}
use Rattle.wave_base.specs.declared.script.Line.{Line}
use Rattle.wave_base.specs.declared.script.Line.TheVariants.{Request, Move, Snapshot}
use Rattle.wave_base.specs.Fold.{created_lines}
use Rattle.wave_base.specs.Paths.{path_cmp}
use Rattle.wave_base.specs.Places.{move_of}
use Rattle.wave_base.specs.Shapes.{initial_fields}
use Rattle.wave_base.specs.Tree.{Tree}
use Rattle.service_code.specs.declared.program.Program.{Program}
use Rattle.service_verify.specs.Fit.{IsFit}
use Rattle.service_verify.specs.Points.{IsVerified}
use Rattle.service_verify.specs.Standing.{HasFields}
use Rattle.wave_states.specs.Results.{end_of, shots_of}
use Rattle.wave_states.specs.Alone.{ended_alone}
use Rattle.wave_states.specs.Movers as mover
use Rattle.wave_states.specs.Movers.{MoveEnd, IsMove, sent_to, mover_kind}
use Rattle.wave_states.specs.Owes.{Owes, Keeps, Looks, MovesOnly}
use Rattle.wave_states.specs.Walkers.{walker_kind}
use Rattle.wave_states.proofs.Moving as moves
use Rattle.wave_states.proofs.Walking as walks
use Rattle.code_actor.specs.CodeActors as code
use Rattle.code_actor.specs.CodeActors.{Fields, code_actors, code_kind}
use Rattle.code_actor.proofs.Segmented.{initial_has}
use Rattle.code_actor.proofs.Whole as coded
use Rattle.plan_actors.specs.PlanActors.{Actor, Serves, Moves, Walks, same, move_to, moving, walking, plan_actors, IsJob, IsFine, plan_kind}
use Rattle.plan_actors.specs.Plans.{Setting}
use Rattle.plan_actors.proofs.Images.{keeps_same, looks_same, ends_same}

module _ (program : Program) (fit : IsFit program) (verified : IsVerified program) (hosts : ℕ) where
  pub initial : (p : Path) → HasFields program.shape p (initial_fields program.shape p)
  initial = initial_has program.shape fit.shape

  pub events : Owes (code_kind program hosts)
  events = coded.owes program fit verified hosts

  pub movers : Owes (mover_kind (initial_fields program.shape) hosts (HasFields program.shape))
  movers = moves.movers_owe (initial_fields program.shape) hosts (HasFields program.shape) initial

  pub walkers : Owes (walker_kind (initial_fields program.shape) hosts (HasFields program.shape))
  walkers = walks.walkers_owe (initial_fields program.shape) hosts (HasFields program.shape) initial

  abbrev Kept : Actor → Path → ℕ → Fields → List Step → Type 0
  Kept a p n f cs = Keeps (plan_kind program hosts) ((plan_actors program).segment a f cs).actor p n ((plan_actors program).segment a f cs).pause

  event_over : (p : Path) (r : EventResult) → All (code.IsJob program) r.created × MovesOnly hosts p (move_of r) → All (IsJob program hosts) (created_lines r) × MovesOnly hosts p (move_of r)
  event_over p r h = (All-map (IsJob program hosts) (λ (c : Call). Request c) r.created h.0, h.1)

  mover_over : {J : Type 0} (is_job : J → Type 0) (p : Path) (r : MoveEnd) → All is_job [] × MovesOnly hosts p (sent_to r) → All (IsJob program hosts) (created_lines (end_of r)) × MovesOnly hosts p (move_of (end_of r))
  mover_over is_job p (mover.Moved q h) k = (All-nil (IsJob program hosts), k.1)
  mover_over is_job p (mover.Absent q) k = (All-nil (IsJob program hosts), tt)

  first : (j : Line) (t : ℕ) → IsJob program hosts j → IsFine program hosts ((plan_actors program).make j t) [] 0
  first (Request call) t job = events.first call t job
  first (Move p h) t job = movers.first (move_to p h) t job.1
  first Snapshot t job = walkers.first tt t tt

  stays_fit : (a : Actor) (p : Path) (n : ℕ) (f : Fields) (cs : List Step) → IsFine program hosts a p n → HasFields program.shape p f → HasFields program.shape p ((plan_actors program).segment a f cs).fields
  stays_fit (Serves e) p n f cs h k = events.kept e p n f cs h k
  stays_fit (Moves a) p n f cs h k = movers.kept a p n f cs h k
  stays_fit (Walks a) p n f cs h k = walkers.kept a p n f cs h k

  keeps : (a : Actor) (p : Path) (n : ℕ) (f : Fields) (cs : List Step) → IsFine program hosts a p n → HasFields program.shape p f → Kept a p n f cs
  keeps (Serves e) p n f cs h k = keeps_same (code_kind program hosts) (plan_kind program hosts) Serves same (λ a f cs. refl)
      (λ a p n e. e) event_over ((code_actors program).segment e f cs).actor p n ((code_actors program).segment e f cs).pause (events.keeps e p n f cs h k)
  keeps (Moves a) p n f cs h k = keeps_same (mover_kind (initial_fields program.shape) hosts (HasFields program.shape)) (plan_kind program hosts) Moves end_of (λ a f cs. refl)
      (λ a p n e. e) (mover_over (IsMove hosts)) ((moving program).segment a f cs).actor p n ((moving program).segment a f cs).pause (movers.keeps a p n f cs h k)
  keeps (Walks a) p n f cs h k = keeps_same (walker_kind (initial_fields program.shape) hosts (HasFields program.shape)) (plan_kind program hosts) Walks shots_of (λ a f cs. refl)
      (λ a p n e. e) (λ p r e. (All-nil (IsJob program hosts), tt)) ((walking program).segment a f cs).actor p n ((walking program).segment a f cs).pause (walkers.keeps a p n f cs h k)

  abbrev Looking : Actor → Fields → List Step → Type 0
  Looking a f cs = Looks (plan_kind program hosts) a f cs

  looks : (a : Actor) (p : Path) (n : ℕ) (f : Fields) (cs : List Step) → IsFine program hosts a p n → HasFields program.shape p f → (plan_actors program).peeks a ≡ true → Looking a f cs
  looks (Serves e) p n f cs h k is = looks_same (code_kind program hosts) (plan_kind program hosts) Serves same (λ a f cs. refl)
      (λ a p n e. e) event_over e f cs (λ r m. m) (events.looks e p n f cs h k is)
  looks (Moves a) p n f cs h k is = absurd (true≢false (sym is))
  looks (Walks a) p n f cs h k is = absurd (true≢false (sym is))

  abbrev Ends : Line → ℕ → Tree Fields → Type 0
  Ends j t tree = (r : EventResult) × ((ended_alone (plan_actors program) t tree j).result ≡ Some r)

  ends : (j : Line) (t : ℕ) (tree : Tree Fields) → IsJob program hosts j → ((p : Path) → HasFields program.shape p (tree.fields p)) → IsStrictlySortedBy path_cmp tree.paths → Ends j t tree
  ends (Request call) t tree job has ordered = let e = events.ends call t tree job has ordered in
      (e.0, ends_same (code_actors program) (plan_actors program) Serves same (λ a f cs. refl) (λ a. refl) call (Request call) t tree refl refl e.0 e.1)
  ends (Move p h) t tree job has ordered = let e = movers.ends (move_to p h) t tree job.1 has ordered in
      (end_of e.0, ends_same (moving program) (plan_actors program) Moves end_of (λ a f cs. refl) (λ a. refl) (move_to p h) (Move p h) t tree refl refl e.0 e.1)
  ends Snapshot t tree job has ordered = let e = walkers.ends tt t tree tt has ordered in
      (shots_of e.0, ends_same (walking program) (plan_actors program) Walks shots_of (λ a f cs. refl) (λ a. refl) tt Snapshot t tree refl refl e.0 e.1)

  pub owes : Owes (plan_kind program hosts)
  owes = record { initial = initial; first = first; kept = stays_fit; keeps = keeps; looks = looks; ends = ends }

  abbrev pub setting_of : Setting
  setting_of = record { program = program; hosts = hosts; owed = owes }

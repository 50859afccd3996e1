-- A script with policies that is run and listed piece by piece: what was written is a front of its listing, and in the end all of it.
use Rattle.std.proofs.Common.{◌≡◌, ◌∙◌, ℕ, ◌+◌, ◌≤◌, ◌<◌, Bool, true, false, List, [], ◌∷◌, ◌++◌, Option, Some, None, ap, refl, sym, subst}
use Rattle.std.specs.Prelude.{◌||◌, ◌==◌, if◌then◌else◌, take}
use mir.Val.{bool_byte as from_bool}
use Rattle.std.specs.Io.KnownBytes.{Appends}
use Rattle.std.proofs.KnownBytes.{Appends-nil, Appends-trans}
use Rattle.std.specs.List.{concat, slice_get}
use Rattle.std.specs.Option.{option_and_then, option_map_or}
use Rattle.wave_base.specs.declared.finished.Finished.{Finished}
use Rattle.wave_base.specs.declared.outcome.EventResult.{EventResult}
use Rattle.wave_base.specs.declared.shape.Shape.{Shape}
use Rattle.wave_base.specs.declared.script.Script.{Script}
use Rattle.wave_base.specs.declared.start.Start.{Start}
use Rattle.wave_io.specs.Streams.{AppendsFront}
use Rattle.resolved_service.specs.declared.service.Resolved.{Resolved}
use Rattle.service_code.specs.declared.program.Program.{Program}
use Rattle.script_fold.specs.declared.told.Told.{Told}
use Rattle.script_fold.specs.Lives.{IsTold}
use Rattle.plan_actors.specs.Plans.{Plan}
use Rattle.listing_out.specs.Listing.{lines_from, shown_from}
use Rattle.script_reader.specs.declared.elastic.Elastic.{Elastic}
use Rattle.command_words.specs.declared.command.Places.{Places}
use Rattle.elastic_policy.specs.Stages.{Staged, IsStaged, MayFollow, stages_left, piece_of, staged_after}
use Rattle.due_parts.specs.declared.answer.Answer.{Answer}
use Rattle.due_parts.specs.Told.{any_trap}
use Rattle.due_parts.specs.Runs.{nearest_workers}
use Rattle.due_parts.proofs.RunLemmas.{few_nearest, some_nearest}
use Rattle.due_stages.specs.declared.work.StagedWork.{StagedWork}
use Rattle.due_stages.specs.Accepted.{CanStage}
use Rattle.due_stages.specs.Elastic.{listed_of}
use Rattle.due_stages.specs.Listed.{IsFrontListed, IsListedTo, IsPieceListed, IsWholeListed, end_from, events_from, ran_by, told_as, turns_left}
use Rattle.due_answer.specs.declared.task.Engine.{Engine}
use Rattle.due_answer.specs.Tasks.{workers_of}
use Rattle.eventwave.specs.inner.Engines.{CanMake}
use Rattle.eventwave.specs.inner.Stages.{CanRunPiece, elastic_of, listing_of, piece_plan}
use Rattle.eventwave.proofs.MadeLemmas.{front_behind, lines_by}

-- ---- whether an event trapped

-- by a status
pub trap_test : (b : Bool) → ((if b then 1 else 0) == 1) ≡ b
trap_test true = refl
trap_test false = refl

pub status_is : (b : Bool) → from_bool b ≡ (if b then 1 else 0)
status_is true = refl
status_is false = refl

-- ---- the script of which no piece was run

same_elastic : (elastic : Elastic) (work : StagedWork) → CanStage elastic work → elastic ≡ elastic_of work.stages
same_elastic elastic work can = sym (ap elastic_of can.first)

pub can_be_staged : (elastic : Elastic) (work : StagedWork) → CanStage elastic work → CanStage (elastic_of work.stages) work
can_be_staged elastic work can = subst (λ e. CanStage e work) (same_elastic elastic work can) can

-- its listing is that of the work
pub its_listing : (elastic : Elastic) (work : StagedWork) (places : Places) → CanStage elastic work → listing_of work places ≡ listed_of work.program.shape work.service elastic places
its_listing elastic work places can = ap (λ e. listed_of work.program.shape work.service e places) (sym (same_elastic elastic work can))

-- ---- what was told, as lines are written of it

shown_same : (a b : Finished) → a.made ≡ b.made → a.names ≡ b.names → (i : ℕ) (rs : List EventResult) → shown_from a i rs ≡ shown_from b i rs
shown_same a b made names i [] = refl
shown_same a b made names i (r ∷ rs) =
    λ j. record { name = option_and_then (λ name. name) (slice_get (names j) i); result = r; made = option_map_or (λ made. made) (slice_get (made j) i) [] } ∷ shown_same a b made names (i + 1) rs j

pub told_lines : (shape : Shape) (first : ℕ) (told : Told) (a f : Finished) → a.results ≡ told.results → a.made ≡ told.made → a.names ≡ told.names → IsTold told f → events_from shape first a ≡ events_from shape first f
told_lines shape first told a f results made names t =
    ap (λ xs. concat (lines_from shape first xs)) (shown_same a f (made ∙ t.made) (names ∙ t.names) 0 a.results ∙ ap (shown_from f 0) (results ∙ t.results))

-- ---- what is known of the listing of such scripts

abbrev pub FirstIsListed : Type 0
FirstIsListed = (elastic : Elastic) (work : StagedWork) → CanStage elastic work → IsListedTo work.service work.program elastic work.stages [] false

abbrev pub PiecesAreListed : Type 0
PiecesAreListed = (service : Resolved) (program : Program) (elastic : Elastic) (s : Staged) (text : List ℕ) (trapped : Bool) (script : Script) → IsListedTo service program elastic s text trapped → piece_of s ≡ Some script
    → IsPieceListed service program elastic s text trapped script

abbrev pub ListedAreFronts : Type 0
ListedAreFronts = (service : Resolved) (program : Program) (elastic : Elastic) (s : Staged) (text : List ℕ) (trapped : Bool) → IsListedTo service program elastic s text trapped → IsFrontListed service program elastic text

abbrev pub PiecesAreFronts : Type 0
PiecesAreFronts = (service : Resolved) (program : Program) (elastic : Elastic) (s : Staged) (text : List ℕ) (trapped : Bool) (script : Script) (n : ℕ) → IsPieceListed service program elastic s text trapped script
    → IsFrontListed service program elastic (text ++ take n (events_from program.shape s.start.next.0 (ran_by program s.start script)))

abbrev pub EndsAreWhole : Type 0
EndsAreWhole = (service : Resolved) (program : Program) (elastic : Elastic) (s : Staged) (text : List ℕ) (trapped : Bool) → IsListedTo service program elastic s text trapped → piece_of s ≡ None
    → IsWholeListed service program elastic s.start text trapped

-- ---- how far it has come

-- The program is still that of the work; the pieces came to here, and the text of their events was written.
pub record HasCome (work : StagedWork) (program : Program) (s : Staged) (trapped : Bool) (old now : Option (List ℕ)) : Type 0 where
  pub same : program ≡ work.program
  pub staged : IsStaged s
  pub text : List ℕ
  pub listed : IsListedTo work.service work.program (elastic_of work.stages) s text trapped
  pub written : Appends old now text

module _ (work : StagedWork) where
  abbrev pub IsPiece : Staged → List ℕ → Bool → Script → Type 0
  IsPiece s text trapped script = IsPieceListed work.service work.program (elastic_of work.stages) s text trapped script

  pub has_begun : (old : Option (List ℕ)) → FirstIsListed → CanStage (elastic_of work.stages) work → HasCome work work.program work.stages false old old
  has_begun old first can = record { same = refl; staged = can.staged; text = []; listed = first (elastic_of work.stages) work can; written = Appends-nil old }

  -- what was written so far is a front of the listing
  pub come_front : (program : Program) (s : Staged) (trapped : Bool) (old now : Option (List ℕ)) (places : Places) → ListedAreFronts → HasCome work program s trapped old now → AppendsFront old now (listing_of work places).text
  come_front program s trapped old now places fronts h =
      let front = fronts work.service work.program (elastic_of work.stages) s h.text trapped h.listed places in
      (front.0, subst (Appends old now) front.1 h.written)

  module _ (program : Program) (s : Staged) (trapped : Bool) (old mid : Option (List ℕ)) (h : HasCome work program s trapped old mid) where
    pub next_piece : (script : Script) (found : Option Script) → PiecesAreListed → found ≡ piece_of s → found ≡ Some script → IsPiece s h.text trapped script
    next_piece script found pieces is some = pieces work.service work.program (elastic_of work.stages) s h.text trapped script h.listed (sym is ∙ some)

    -- a piece that was made a plan of for an engine, and where it begins
    module _ (script : Script) (engine : Engine) (plan : Plan) (now : Staged) (piece : IsPiece s h.text trapped script) (made : plan ≡ piece_plan program script engine) (behind : now ≡ stages_left s) where
      plan_is : plan ≡ piece_plan work.program script engine
      plan_is = made ∙ ap (λ p. piece_plan p script engine) h.same

      start_is : now.start ≡ s.start
      start_is = ap (λ (x : Staged). x.start) behind

      -- by this engine, with its number of workers
      pub its_workers : plan.workers ≡ nearest_workers (workers_of engine)
      its_workers = ap (λ (p : Plan). p.workers) made

      can_piece : CanMake work.service (piece_plan work.program script engine) s.start
      can_piece = record {
        code = piece.code;
        fits = piece.fits (nearest_workers (workers_of engine)) (some_nearest (workers_of engine)) (few_nearest (workers_of engine));
        begins = piece.begins;
        few = piece.few;
      }

      can_make_it : (start : Start) → start ≡ now.start → CanMake work.service plan start
      can_make_it start from = subst (CanMake work.service plan) (sym (from ∙ start_is)) (subst (λ (p : Plan). CanMake work.service p s.start) (sym plan_is) can_piece)

      same_ran : ran_by plan.program now.start plan.script ≡ ran_by work.program s.start script
      same_ran = λ i. ran_by (plan_is i).program (start_is i) (plan_is i).script

      may_follow : MayFollow now (ran_by plan.program now.start plan.script)
      may_follow = subst (MayFollow now) (sym same_ran) (subst (λ x. MayFollow x (ran_by work.program s.start script)) (sym behind) piece.follows)

      pub can_run : IsStaged now → CanRunPiece work.service plan now
      can_run staged = record { can = can_make_it now.start refl; staged = staged; follows = may_follow }

      same_events : (start : Start) → start ≡ now.start → lines_by plan start ≡ events_from work.program.shape s.start.next.0 (ran_by work.program s.start script)
      same_events start from = λ i. lines_by (plan_is i) ((from ∙ start_is) i)

      -- fewer turns are left
      pub fewer_turns : (after : Staged) → after ≡ staged_after now (ran_by plan.program now.start plan.script) → turns_left after < turns_left s
      fewer_turns after is = subst (λ (x : Staged). turns_left x < turns_left s) (sym (is ∙ ap (λ (x : Staged). staged_after x (ran_by plan.program now.start plan.script)) behind)) piece.less

      -- where it broke off, what was written is a front of the listing
      pub piece_front : (places : Places) (start : Start) (new : Option (List ℕ)) → PiecesAreFronts → start ≡ now.start → AppendsFront mid new (lines_by plan start) → AppendsFront old new (listing_of work places).text
      piece_front places start new within from front =
          let lines = subst (λ xs. Appends mid new (take front.0 xs)) (same_events start from) front.1 in
          let whole = within work.service work.program (elastic_of work.stages) s h.text trapped script front.0 piece places in
          (whole.0, subst (Appends old new) whole.1 (Appends-trans old mid new h.text _ h.written lines))

      -- and behind it
      pub has_come : (program' : Program) (start : Start) (after : Staged) (t : Bool) (new : Option (List ℕ)) → program' ≡ plan.program → start ≡ now.start → after ≡ staged_after now (ran_by plan.program now.start plan.script) → IsStaged after
          → t ≡ any_trap (ran_by plan.program now.start plan.script).results → Appends mid new (lines_by plan start) → HasCome work program' after (trapped || t) old new
      has_come program' start after t new back from is staged traps lines = record {
        same = back ∙ ap (λ (p : Plan). p.program) plan_is;
        staged = staged;
        text = h.text ++ events_from work.program.shape s.start.next.0 (ran_by work.program s.start script);
        listed = subst (λ (x : Staged × Bool). IsListedTo work.service work.program (elastic_of work.stages) x.0 (h.text ++ events_from work.program.shape s.start.next.0 (ran_by work.program s.start script)) (trapped || x.1))
            (sym (λ i. ((is ∙ (λ j. staged_after (behind j) (same_ran j))) i, (traps ∙ ap (λ (f : Finished). any_trap f.results) same_ran) i))) piece.next;
        written = Appends-trans old mid new h.text _ h.written (subst (Appends mid new) (same_events start from) lines);
      }

    -- ---- the end

    module _ (found : Option Script) (now : Staged) (ends : EndsAreWhole) (is : found ≡ piece_of s) (none : found ≡ None) (behind : now ≡ stages_left s) where
      whole : IsWholeListed work.service work.program (elastic_of work.stages) s.start h.text trapped
      whole = ends work.service work.program (elastic_of work.stages) s h.text trapped h.listed (sym is ∙ none)

      from_there : (start : Start) → start ≡ now.start → start ≡ s.start
      from_there start from = from ∙ ap (λ (x : Staged). x.start) behind

      pub some_ticket : (start : Start) → start ≡ now.start → 1 ≤ start.next.0
      some_ticket start from = subst (λ (x : Start). 1 ≤ x.next.0) (sym (from_there start from)) whole.some

      same_end : (program' : Program) (places : Places) (start : Start) → program' ≡ program → start ≡ now.start → end_from program'.shape places start ≡ end_from work.program.shape places s.start
      same_end program' places start back from = λ i. end_from ((back ∙ h.same) i).shape places (from_there start from i)

      text_is : (places : Places) → (listing_of work places).text ≡ h.text ++ end_from work.program.shape places s.start
      text_is places = ap (λ (a : Answer). a.text) (whole.due_is places)

      pub end_front : (program' : Program) (places : Places) (start : Start) (new : Option (List ℕ)) → program' ≡ program → start ≡ now.start → AppendsFront mid new (end_from program'.shape places start) → AppendsFront old new (listing_of work places).text
      end_front program' places start new back from front =
          subst (AppendsFront old new) (sym (text_is places)) (front_behind old mid new h.text (end_from work.program.shape places s.start) h.written (subst (AppendsFront mid new) (same_end program' places start back from) front))

      pub end_whole : (program' : Program) (places : Places) (start : Start) (new : Option (List ℕ)) → program' ≡ program → start ≡ now.start → Appends mid new (end_from program'.shape places start) → Appends old new (listing_of work places).text
      end_whole program' places start new back from lines =
          subst (Appends old new) (sym (text_is places)) (Appends-trans old mid new h.text (end_from work.program.shape places s.start) h.written (subst (Appends mid new) (same_end program' places start back from) lines))

      pub end_status : (places : Places) → (listing_of work places).status ≡ (told_as trapped []).status
      end_status places = ap (λ (a : Answer). a.status) (whole.due_is places)

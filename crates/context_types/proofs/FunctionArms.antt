-- Methods, phases and events: what the answers to their parts say of the whole.
use Rattle.std.proofs.Common.{◌≡◌, ◌&&◌, ℕ, Bool, true, false, not, List, ◌∷◌, ◌++◌, length, Option, Some, None, is_none, ap, ◌∙◌}
use Rattle.std.specs.Option.{option_map}
use Rattle.wave_base.specs.declared.value.Kind.TheVariants as k
use Rattle.mace_ast.specs.Decls.{MethodTree, PhaseTree, EventTree}
use Rattle.mace_ast.specs.Stmts.{stmts_of}
use Rattle.resolved_service.specs.Steps.{Steps, surely_ends}
use Rattle.resolved_service.specs.View.{Tree}
use Rattle.value_ops.specs.Rows.{first_builtin}
use Rattle.type_rules.specs.declared.error.TypeError.{TypeError}
use Rattle.type_rules.specs.declared.error.TypeError.TheVariants.{Duplicate, Unreachable}
use Rattle.type_rules.specs.declared.known.Known.{Known}
use Rattle.type_rules.specs.Demands.{Demand, ask, first_wrong, Fails}
use Rattle.type_rules.specs.Known.{kinds_of, class_named, event_named, method_named, none_before}
use Rattle.type_rules.specs.Here.{Here, OfMethod, OfEvent, rows_of, start, in_class}
use Rattle.type_rules.specs.Exprs.{or_zero, class_asks, demands_as, resolve}
use Rattle.type_rules.specs.Stmts.{after_all, resolve_stmts, stmts_demands}
use Rattle.type_rules.specs.Functions.{LastView, PhaseView, method_params_demands, event_params_demands, last_demands, resolve_last, method_start, method_end, method_body, method_demands, resolve_method, event_start, here_stmts, here_end, here_body, event_ended, ended_behind, phase_here, phase_end, event_end, phase_demands, phases_demands, event_demands, resolve_phase, resolve_phases, resolve_event}
use Rattle.type_rules.proofs.First.{told_past, fails_at, fails_past, fails_front, fails_behind, fails_same, holds_both}

-- a demand, and three lists behind it
module _ (holds : Bool) (w : TypeError) (p s l : List Demand) where
  pub chain_holds : holds ≡ true → first_wrong p ≡ None → first_wrong s ≡ None → first_wrong l ≡ None → first_wrong (ask holds w ∷ (p ++ (s ++ l))) ≡ None
  chain_holds a b c d = told_past holds w (p ++ (s ++ l)) a ∙ holds_both p (s ++ l) b (holds_both s l c d)

  module _ (e : TypeError) (a : holds ≡ true) where
    pub chain_front : Fails p e → Fails (ask holds w ∷ (p ++ (s ++ l))) e
    chain_front f = fails_past holds w (p ++ (s ++ l)) e a (fails_front p (s ++ l) e f)

    pub chain_middle : first_wrong p ≡ None → Fails s e → Fails (ask holds w ∷ (p ++ (s ++ l))) e
    chain_middle b f = fails_past holds w (p ++ (s ++ l)) e a (fails_behind p (s ++ l) e b (fails_front s l e f))

    pub chain_last : first_wrong p ≡ None → first_wrong s ≡ None → Fails l e → Fails (ask holds w ∷ (p ++ (s ++ l))) e
    chain_last b c f = fails_past holds w (p ++ (s ++ l)) e a (fails_behind p (s ++ l) e b (fails_behind s l e c f))

-- a method, from where it begins to where it ends
module _ (known : Known) (class number : ℕ) (m : MethodTree) where
  abbrev pub IsFree : Bool
  IsFree = none_before number (method_named known class m.name.text) && is_none (first_builtin (rows_of known) m.name.text)

  abbrev Params : List Demand
  Params = method_params_demands (start known class number (OfMethod m.result)) m.params

  abbrev Body : List Demand
  Body = stmts_demands (method_start known class number m) (stmts_of m.body)

  abbrev End : List Demand
  End = last_demands (method_end known class number m) m.name (surely_ends (method_body known class number m)) m.result m.last

  pub method_taken : IsFree ≡ false → Fails (method_demands known class number m) (Duplicate m.name.at)
  method_taken a = fails_at IsFree (Duplicate m.name.at) (Params ++ (Body ++ End)) a

  module _ (free : IsFree ≡ true) where
    pub params_fail : (e : TypeError) → Fails Params e → Fails (method_demands known class number m) e
    params_fail e f = chain_front IsFree (Duplicate m.name.at) Params Body End e free f

    module _ (h : Here) (begins : method_start known class number m ≡ h) (params : first_wrong Params ≡ None) where
      body_same : first_wrong Body ≡ first_wrong (stmts_demands h (stmts_of m.body))
      body_same = ap (λ g. first_wrong (stmts_demands g (stmts_of m.body))) begins

      pub body_fails : (e : TypeError) → Fails (stmts_demands h (stmts_of m.body)) e → Fails (method_demands known class number m) e
      body_fails e f = chain_middle IsFree (Duplicate m.name.at) Params Body End e free params (fails_same Body (stmts_demands h (stmts_of m.body)) e body_same f)

      module _ (j : Here) (ends : after_all h (stmts_of m.body) ≡ j) (body : first_wrong (stmts_demands h (stmts_of m.body)) ≡ None) (steps : Steps) (are : resolve_stmts h (stmts_of m.body) ≡ steps) (ended : Bool) (tells : surely_ends steps ≡ ended) where
        end_is : method_end known class number m ≡ j
        end_is = ap (λ g. after_all g (stmts_of m.body)) begins ∙ ends

        body_is : method_body known class number m ≡ steps
        body_is = ap (λ g. resolve_stmts g (stmts_of m.body)) begins ∙ are

        ended_is : surely_ends (method_body known class number m) ≡ ended
        ended_is = ap surely_ends body_is ∙ tells

        end_same : first_wrong End ≡ first_wrong (last_demands j m.name ended m.result m.last)
        end_same = (λ i. first_wrong (last_demands (end_is i) m.name (ended_is i) m.result m.last))

        pub last_fails : (e : TypeError) → Fails (last_demands j m.name ended m.result m.last) e → Fails (method_demands known class number m) e
        last_fails e f = chain_last IsFree (Duplicate m.name.at) Params Body End e free params (body_same ∙ body) (fails_same End (last_demands j m.name ended m.result m.last) e end_same f)

        pub method_holds : first_wrong (last_demands j m.name ended m.result m.last) ≡ None → first_wrong (method_demands known class number m) ≡ None
        method_holds last = chain_holds IsFree (Duplicate m.name.at) Params Body End free params (body_same ∙ body) (end_same ∙ last)

        pub method_made : (last : Option LastView) → option_map (resolve_last j) m.last ≡ last
            → resolve_method known class number m ≡ record { at = m.at; name = m.name.text; class = class; params = kinds_of m.params; result = m.result; locals = j.slots; body = steps; last = last }
        method_made last last_is =
            (λ i. record {
              at = m.at;
              name = m.name.text;
              class = class;
              params = kinds_of m.params;
              result = m.result;
              locals = (end_is i).slots;
              body = body_is i;
              last = (ap (λ g. option_map (resolve_last g) m.last) end_is ∙ last_is) i;
            })

-- a phase, from the class above it
module _ (h : Here) (ended : Bool) (p : PhaseTree) where
  abbrev Class : List Demand
  Class = class_asks h p.at p.class

  abbrev Key : List Demand
  Key = demands_as h k.Int p.key

  abbrev Stmts : List Demand
  Stmts = stmts_demands (phase_here h p) (stmts_of p.body)

  abbrev Asked : List Demand
  Asked = Class ++ (Key ++ Stmts)

  pub phase_past : ended ≡ true → Fails (phase_demands h ended p) (Unreachable p.at)
  phase_past is = fails_at (not ended) (Unreachable p.at) Asked (ap not is)

  module _ (comes : ended ≡ false) where
    told : first_wrong (phase_demands h ended p) ≡ first_wrong Asked
    told = told_past (not ended) (Unreachable p.at) Asked (ap not comes)

    tells : (e : TypeError) → Fails Asked e → Fails (phase_demands h ended p) e
    tells e f = fails_past (not ended) (Unreachable p.at) Asked e (ap not comes) f

    pub phase_class_fails : (e : TypeError) → Fails Class e → Fails (phase_demands h ended p) e
    phase_class_fails e f = tells e (fails_front Class (Key ++ Stmts) e f)

    module _ (class : first_wrong Class ≡ None) where
      pub phase_key_fails : (e : TypeError) → Fails Key e → Fails (phase_demands h ended p) e
      phase_key_fails e f = tells e (fails_behind Class (Key ++ Stmts) e class (fails_front Key Stmts e f))

      module _ (key : first_wrong Key ≡ None) (n : ℕ) (number : class_named h.known p.class ≡ Some n) where
        inside_is : phase_here h p ≡ in_class h n
        inside_is = ap (λ o. in_class h (or_zero o)) number

        stmts_same : first_wrong Stmts ≡ first_wrong (stmts_demands (in_class h n) (stmts_of p.body))
        stmts_same = ap (λ g. first_wrong (stmts_demands g (stmts_of p.body))) inside_is

        pub phase_body_fails : (e : TypeError) → Fails (stmts_demands (in_class h n) (stmts_of p.body)) e → Fails (phase_demands h ended p) e
        phase_body_fails e f = tells e (fails_behind Class (Key ++ Stmts) e class (fails_behind Key Stmts e key (fails_same Stmts (stmts_demands (in_class h n) (stmts_of p.body)) e stmts_same f)))

        pub phase_holds : first_wrong (stmts_demands (in_class h n) (stmts_of p.body)) ≡ None → first_wrong (phase_demands h ended p) ≡ None
        phase_holds body = told ∙ holds_both Class (Key ++ Stmts) class (holds_both Key Stmts key (stmts_same ∙ body))

        pub phase_ends : (j : Here) → after_all (in_class h n) (stmts_of p.body) ≡ j → phase_end h p ≡ j
        phase_ends j is = ap (λ g. after_all g (stmts_of p.body)) inside_is ∙ is

        pub phase_made : (key_tree : Tree) (steps : Steps) → resolve h p.key ≡ key_tree → resolve_stmts (in_class h n) (stmts_of p.body) ≡ steps
            → resolve_phase h p ≡ record { at = p.at; class = n; key = key_tree; body = steps }
        phase_made key_tree steps key_is steps_are =
            (λ i. record { at = p.at; class = or_zero (number i); key = key_is i; body = (ap (λ g. resolve_stmts g (stmts_of p.body)) inside_is ∙ steps_are) i })

-- an event, from where it begins to where it ends
module _ (known : Known) (number : ℕ) (e : EventTree) where
  abbrev pub IsNew : Bool
  IsNew = none_before number (event_named known e.name.text)

  abbrev EventParams : List Demand
  EventParams = event_params_demands (start known 0 (length known.methods) (OfEvent e.result)) e.params

  abbrev First : List Demand
  First = stmts_demands (event_start known e) (here_stmts e)

  abbrev Phases : List Demand
  Phases = phases_demands (here_end known e) (surely_ends (here_body known e)) e.phases

  abbrev Reply : List Demand
  Reply = last_demands (event_end (here_end known e) e.phases) e.name (event_ended known e) e.result e.last

  pub event_taken : IsNew ≡ false → Fails (event_demands known number e) (Duplicate e.name.at)
  event_taken a = fails_at IsNew (Duplicate e.name.at) (EventParams ++ (First ++ (Phases ++ Reply))) a

  module _ (new : IsNew ≡ true) where
    pub event_params_fail : (w : TypeError) → Fails EventParams w → Fails (event_demands known number e) w
    event_params_fail w f = chain_front IsNew (Duplicate e.name.at) EventParams First (Phases ++ Reply) w new f

    module _ (h : Here) (begins : event_start known e ≡ h) (params : first_wrong EventParams ≡ None) where
      first_same : first_wrong First ≡ first_wrong (stmts_demands h (here_stmts e))
      first_same = ap (λ g. first_wrong (stmts_demands g (here_stmts e))) begins

      pub first_fails : (w : TypeError) → Fails (stmts_demands h (here_stmts e)) w → Fails (event_demands known number e) w
      first_fails w f = chain_middle IsNew (Duplicate e.name.at) EventParams First (Phases ++ Reply) w new params (fails_same First (stmts_demands h (here_stmts e)) w first_same f)

      module _ (j : Here) (on : after_all h (here_stmts e) ≡ j) (first : first_wrong (stmts_demands h (here_stmts e)) ≡ None) (steps : Steps) (are : resolve_stmts h (here_stmts e) ≡ steps) (ended : Bool) (tells : surely_ends steps ≡ ended) where
        here_is : here_end known e ≡ j
        here_is = ap (λ g. after_all g (here_stmts e)) begins ∙ on

        first_is : here_body known e ≡ steps
        first_is = ap (λ g. resolve_stmts g (here_stmts e)) begins ∙ are

        first_ended : surely_ends (here_body known e) ≡ ended
        first_ended = ap surely_ends first_is ∙ tells

        phases_same : first_wrong Phases ≡ first_wrong (phases_demands j ended e.phases)
        phases_same = (λ i. first_wrong (phases_demands (here_is i) (first_ended i) e.phases))

        pub phases_fail : (w : TypeError) → Fails (phases_demands j ended e.phases) w → Fails (event_demands known number e) w
        phases_fail w f =
            chain_last IsNew (Duplicate e.name.at) EventParams First (Phases ++ Reply) w new params (first_same ∙ first)
            (fails_front Phases Reply w (fails_same Phases (phases_demands j ended e.phases) w phases_same f))

        module _ (l : Here) (ends : event_end j e.phases ≡ l) (phases : first_wrong (phases_demands j ended e.phases) ≡ None) (past : Bool) (past_is : ended_behind j ended e.phases ≡ past) where
          abbrev pub LastAsked : List Demand
          LastAsked = last_demands l e.name past e.result e.last

          end_at : event_end (here_end known e) e.phases ≡ l
          end_at = ap (λ g. event_end g e.phases) here_is ∙ ends

          event_past : event_ended known e ≡ past
          event_past = (λ i. ended_behind (here_is i) (first_ended i) e.phases) ∙ past_is

          reply_same : first_wrong Reply ≡ first_wrong LastAsked
          reply_same = (λ i. first_wrong (last_demands (end_at i) e.name (event_past i) e.result e.last))

          pub reply_fails : (w : TypeError) → Fails LastAsked w → Fails (event_demands known number e) w
          reply_fails w f =
              chain_last IsNew (Duplicate e.name.at) EventParams First (Phases ++ Reply) w new params (first_same ∙ first)
              (fails_behind Phases Reply w (phases_same ∙ phases) (fails_same Reply LastAsked w reply_same f))

          pub event_holds : first_wrong LastAsked ≡ None → first_wrong (event_demands known number e) ≡ None
          event_holds last =
              chain_holds IsNew (Duplicate e.name.at) EventParams First (Phases ++ Reply) new params (first_same ∙ first) (holds_both Phases Reply (phases_same ∙ phases) (reply_same ∙ last))

          pub event_made : (phase_views : List PhaseView) (last : Option LastView) → resolve_phases j e.phases ≡ phase_views → option_map (resolve_last l) e.last ≡ last
              → resolve_event known e ≡ record { at = e.at; locals = l.slots; here = steps; phases = phase_views; last = last }
          event_made phase_views last phases_are last_is =
              (λ i. record {
                at = e.at;
                locals = (end_at i).slots;
                here = first_is i;
                phases = (ap (λ g. resolve_phases g e.phases) here_is ∙ phases_are) i;
                last = (ap (λ g. option_map (resolve_last g) e.last) end_at ∙ last_is) i;
              })

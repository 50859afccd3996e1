-- One job more: what is kept stands for the fold one job further.
use Rattle.std.proofs.Common.{◌≡◌, ◌≤◌, ◌+◌, ℕ, suc, true, List, [], ◌∷◌, ◌++◌, length, map, Option, Some, None, IfSome, is_none, slice_get, sum_by, refl, sym, ap, subst, ◌∙◌, arith, length-append}
use Rattle.std.proofs.lemmas.List.{map-append}
use Rattle.wave_base.specs.declared.call.Call.{Call}
use Rattle.wave_base.specs.declared.numbers.Ticket.{Ticket}
use Rattle.wave_base.specs.declared.outcome.EventResult.{EventResult}
use Rattle.wave_base.specs.declared.path.Path.{Path}
use Rattle.wave_base.specs.declared.script.Line.{Line}
use Rattle.wave_base.specs.declared.script.Line.TheVariants.{Request, Move, Snapshot}
use Rattle.wave_base.specs.declared.script.Script.{Script}
use Rattle.wave_base.specs.declared.shape.Shape.{Shape}
use Rattle.wave_base.specs.declared.shot.Shot.{Shot}
use Rattle.wave_base.specs.declared.start.Start.{Start}
use Rattle.wave_base.specs.declared.value.Value.{Value}
use Rattle.wave_base.specs.Fold.{Head, Ran, Progress, first_head, next_job, with_done, head_after, tickets_of, created_tickets, with_result, with_job, created_lines}
use Rattle.wave_base.specs.Places.{with_contexts, after_job, move_in, move_of}
use Rattle.wave_base.specs.Tree.{Tree, there}
use Rattle.context_tree.specs.Contexts.{tree_of, as_pair}
use Rattle.head_tickets.specs.Heads.{Heading, requests}
use Rattle.resolved_service.specs.Jobs.{shot_of}
use Rattle.script_fold.specs.declared.folding.Folding.{Folding}
use Rattle.script_fold.specs.Lines.{Meaning, line_by, name_of, FitsJob}
use Rattle.script_fold.specs.Owed.{Owed}
use Rattle.script_fold.specs.Runs.{after_jobs, hosts_after, ticket_of}
use Rattle.script_fold.specs.inner.Standing.{IsWaiting, IsAdmitted, IsKept, Stands, Ended}
use Rattle.script_fold.specs.inner.Visiting.{IsVisited, IsMoveWithin}
use Rattle.script_fold.proofs.FoldLemmas.{IsGood, good_after, good_ran, line_few, line_moved, hosts_push, there_move, room_after}
use Rattle.script_fold.proofs.LeftLemmas.{All-drop_head}

at_seam : (xs : List Line) (y : Line) (zs : List Line) → slice_get ((xs ++ y ∷ []) ++ zs) (length xs) ≡ Some y
at_seam [] y zs = refl
at_seam (x ∷ xs) y zs = at_seam xs y zs

pub admitted_next : (first : ℕ) (done : List Line) (line : Line) (w : Head Line) (h : Heading) → IsAdmitted first done line w h → next_job w ≡ Some line
admitted_next first done line w h a =
    ap next_job (sym a.head) ∙ ap (slice_get ((done ++ line ∷ []) ++ h.waiting)) a.done_is ∙ at_seam done line h.waiting

pub admitted_done : (first : ℕ) (done : List Line) (line : Line) (w : Head Line) (h : Heading) → IsAdmitted first done line w h → w.done ≡ length done
admitted_done first done line w h a = ap (λ (w : Head Line). w.done) (sym a.head) ∙ a.done_is

-- the ticket makes no difference
pub any_ticket : (meaning : Meaning) (a b : ℕ) (t : Tree (List Value)) (l : Line) → line_by meaning a t l ≡ line_by meaning b t l
any_ticket meaning a b t (Request call) = refl
any_ticket meaning a b t (Move p h) = refl
any_ticket meaning a b t Snapshot = refl

made_push : (first : ℕ) (h : Head Line) (cs : List (List Line)) (c : List Line) → created_tickets first h (cs ++ c ∷ []) ≡ created_tickets first h cs ++ tickets_of first (head_after h cs) c ∷ []
made_push first h [] c = refl
made_push first h (d ∷ cs) c = ap (λ ts. tickets_of first h d ∷ ts) (made_push first (with_done h d) cs c)

pub tickets_again : (ts : List (List Ticket)) → map (map ticket_of) (map (map (λ t. t.0)) ts) ≡ ts
tickets_again [] = refl
tickets_again (t ∷ ts) = λ i. one t i ∷ tickets_again ts i
  where
    one : (t : List Ticket) → map ticket_of (map (λ t. t.0) t) ≡ t
    one [] = refl
    one (x ∷ t) = ap (λ t. x ∷ t) (one t)

pub shots_again : (xs : List Shot) → map shot_of (map as_pair xs) ≡ xs
shots_again [] = refl
shots_again (x ∷ xs) = ap (λ xs. x ∷ xs) (shots_again xs)

module _ (shape : Shape) (meaning : Meaning) (FitsTree : Tree (List Value) → Type 0) (FitsCall : Call → Type 0) (owed : Owed shape meaning FitsTree FitsCall) (start : Start) (script : Script) (f : Folding)
    (s : Stands meaning shape start script f) where
  abbrev pub here : Progress (List Value) EventResult Line
  here = after_jobs meaning shape start script (length s.done)

  pub good : IsGood shape meaning FitsTree FitsCall owed start script here
  good = good_after shape meaning FitsTree FitsCall owed start script s.script_fits s.start_fits (length s.done)

  pub tree_fits : FitsTree (tree_of shape f.contexts)
  tree_fits = subst FitsTree (sym s.kept.tree) good.tree

  pub ended : (g : Folding) → g.contexts ≡ f.contexts → g.results ≡ f.results → g.made ≡ f.made → g.names ≡ f.names → g.visits ≡ f.visits → here.head.known ≡ s.done → next_job here.head ≡ None → Ended meaning shape start script g
  ended g contexts results made_is names visits known none = record {
    count = length s.done;
    few = s.few;
    over = ap is_none none;
    ordered = good.ordered;
    kept = subst (λ d. IsKept meaning shape start script d here g) (sym known) (record {
      tree = ap (tree_of shape) contexts ∙ s.kept.tree;
      results = ap (λ v. v.items) results ∙ s.kept.results;
      made_is = ap (λ v. map (map (λ t. t.0)) v.items) made_is ∙ s.kept.made_is;
      names = ap (λ v. v.items) names ∙ s.kept.names;
      visits = subst (IsVisited (hosts_after start here) here.entered []) (sym visits) s.kept.visits;
    });
  }

  module _ (line : Line) (h : Heading) (a : IsAdmitted start.next.0 s.done line here.head h) where
    next : next_job here.head ≡ Some line
    next = admitted_next start.next.0 s.done line here.head h a

    pub job_fits : FitsJob FitsCall line
    job_fits = All-drop_head (FitsJob FitsCall) here.head.known here.head.done line next good.known

    abbrev ran : Ran (List Value) EventResult
    ran = line_by meaning (start.next.0 + here.head.done) here.tree line

    ran_is : line_by meaning 0 (tree_of shape f.contexts) line ≡ ran
    ran_is = any_ticket meaning 0 (start.next.0 + here.head.done) (tree_of shape f.contexts) line ∙ ap (λ t. line_by meaning (start.next.0 + here.head.done) t line) s.kept.tree

    abbrev further : Progress (List Value) EventResult Line
    further = with_result start.next.0 (line_by meaning) created_lines here ran

    good_further : IsGood shape meaning FitsTree FitsCall owed start script further
    good_further = good_ran shape meaning FitsTree FitsCall owed start script here good line next

    pub number_is : (n : ℕ) → n ≡ length f.results.items → n + 1 ≡ suc (length here.entered)
    number_is n e = omega (arith, e, ap length s.kept.results, good.results, good.entered)

    module _ (result : EventResult) (result_is : result ≡ (line_by meaning 0 (tree_of shape f.contexts) line).result) where
      result_ran : result ≡ ran.result
      result_ran = result_is ∙ ap (λ (x : Ran (List Value) EventResult). x.result) ran_is

      pub room : start.next.0 + length here.head.known + length result.created + sum_by length here.head.later ≤ 4294967296
      room =
          room_after shape meaning FitsTree FitsCall owed start script s.script_fits s.start_fits here good result.created
          (subst (λ (r : EventResult). length r.created ≤ 4) (sym result_ran) (line_few shape meaning FitsTree FitsCall owed (start.next.0 + here.head.done) here.tree good.tree line job_fits))

      module _ (paths : List Path) (paths_are : paths ≡ (line_by meaning 0 (tree_of shape f.contexts) line).entered) where
        paths_ran : paths ≡ ran.entered
        paths_ran = paths_are ∙ ap (λ (x : Ran (List Value) EventResult). x.entered) ran_is

        hosts_further : hosts_after start further ≡ after_job (hosts_after start here) ran.entered (move_of ran.result)
        hosts_further = hosts_push shape meaning FitsTree FitsCall owed start script here ran (good.entered ∙ sym good.results)

        pub move_within : IsMoveWithin (hosts_after start here) paths result.outcome
        move_within = by_move (move_in result.outcome) refl
          where
            by_move : (o : Option (Path × ℕ)) → move_in result.outcome ≡ o → IfSome o (λ m. there (with_contexts (hosts_after start here) paths) m.0 ≡ true)
            by_move None e = tt
            by_move (Some m) e =
                let moved : move_of ran.result ≡ Some m = ap move_of (sym result_ran) ∙ e in
                let known : there ran.tree m.0 ≡ true = line_moved shape meaning FitsTree FitsCall owed (start.next.0 + here.head.done) here.tree good.tree line job_fits m moved in
                let placed : there (hosts_after start further) m.0 ≡ true = good_further.placed m.0 ∙ known in
                ap (λ ps. there (with_contexts (hosts_after start here) ps) m.0) paths_ran ∙ sym (there_move (with_contexts (hosts_after start here) ran.entered) (move_of ran.result) m.0)
                ∙ ap (λ (t : Tree ℕ). there t m.0) (sym hosts_further) ∙ placed

        pub stands_further : (g : Folding) (ts : List Ticket) (name : Option ℕ) → tree_of shape g.contexts ≡ (line_by meaning 0 (tree_of shape f.contexts) line).tree
            → map (λ t. t.0) ts ≡ tickets_of start.next.0 here.head (requests result.created) → IsWaiting start.next.0 (s.done ++ line ∷ []) (with_done here.head (requests result.created)) g.head
            → g.results.items ≡ f.results.items ++ result ∷ [] → g.made.items ≡ f.made.items ++ ts ∷ [] → g.names.items ≡ f.names.items ++ name ∷ [] → name ≡ name_of line
            → IsVisited (after_job (hosts_after start here) paths (move_in result.outcome)) (here.entered ++ paths ∷ []) [] g.visits → Stands meaning shape start script g
        stands_further g ts name tree tickets waiting results made_is names name_is visits =
            let count : length (s.done ++ line ∷ []) ≡ suc (length s.done) = omega (arith, length-append s.done (line ∷ [])) in
            let there_is : after_jobs meaning shape start script (length (s.done ++ line ∷ [])) ≡ further = ap (after_jobs meaning shape start script) count ∙ ap (with_job start.next.0 (line_by meaning) created_lines here) next in
            let created : requests result.created ≡ created_lines ran.result = ap created_lines result_ran in
            let known : map created_lines (here.results ++ ran.result ∷ []) ≡ map created_lines here.results ++ created_lines ran.result ∷ [] = map-append created_lines here.results (ran.result ∷ []) in
            let kept : IsKept meaning shape start script (s.done ++ line ∷ []) further g = record {
              tree = tree ∙ ap (λ (x : Ran (List Value) EventResult). x.tree) ran_is;
              results = results ∙ (λ i. s.kept.results i ++ result_ran i ∷ []);
              made_is = ap (map (map (λ t. t.0))) made_is ∙ map-append (map (λ t. t.0)) f.made.items (ts ∷ [])
                  ∙ (λ i. s.kept.made_is i ++ (tickets ∙ ap (tickets_of start.next.0 here.head) created) i ∷ [])
                  ∙ (λ i. created_tickets start.next.0 (first_head script.batches) (map created_lines here.results) ++ tickets_of start.next.0 (sym good.heads i) (created_lines ran.result) ∷ [])
                  ∙ sym (made_push start.next.0 (first_head script.batches) (map created_lines here.results) (created_lines ran.result)) ∙ ap (created_tickets start.next.0 (first_head script.batches)) (sym known);
              names = names ∙ (λ i. s.kept.names i ++ name_is i ∷ []) ∙ sym (map-append name_of s.done (line ∷ []));
              visits = subst (λ (t : Tree ℕ). IsVisited t (here.entered ++ ran.entered ∷ []) [] g.visits) (sym hosts_further)
                  (subst (λ (r : EventResult). IsVisited (after_job (hosts_after start here) ran.entered (move_of r)) (here.entered ++ ran.entered ∷ []) [] g.visits) result_ran
                  (subst (λ (ps : List Path). IsVisited (after_job (hosts_after start here) ps (move_of result)) (here.entered ++ ps ∷ []) [] g.visits) paths_ran visits));
            } in
            let more : length further.results ≡ further.head.done = good_further.results in
            let one : length further.results ≡ suc (length here.results) = omega (arith, length-append here.results (ran.result ∷ [])) in
            let so_far : here.head.done ≡ length s.done = admitted_done start.next.0 s.done line here.head h a in
            record {
              done = s.done ++ line ∷ [];
              script_fits = s.script_fits;
              start_fits = s.start_fits;
              few = omega (arith, count, more, one, so_far, good.results, good_further.left);
              head = subst (λ (w : Progress (List Value) EventResult Line). IsWaiting start.next.0 (s.done ++ line ∷ []) w.head g.head) (sym there_is)
                  (subst (λ (ls : List Line). IsWaiting start.next.0 (s.done ++ line ∷ []) (with_done here.head ls) g.head) created waiting);
              kept = subst (λ (w : Progress (List Value) EventResult Line). IsKept meaning shape start script (s.done ++ line ∷ []) w g) (sym there_is) kept;
            }

use Rattle.std.proofs.Common.{◌≡◌, ◌<◌, List, [], length, map, All, ap, sym, subst, ◌∙◌, arith}
use Rattle.wave_base.specs.declared.script.Line.{Line}
use Rattle.wave_base.specs.declared.shot.Shot.{Shot}
use Rattle.wave_base.specs.Fold.{Head, next_batch, first_head}
use Rattle.context_tree.specs.Contexts.{tree_of}
use Rattle.head_tickets.specs.Heads.{head_of}
use Rattle.script_fold.proofs.PlaceLemmas.{begun_visited, start_sorted}
use Rattle.script_fold.proofs.StartLemmas.{first_again, first_full}
use Rattle.script_fold.proofs.folding.Folding.begin.Goals as goal

pub returns : goal.returns
returns c =
    λ meaning shape start s b g.
    let head : head_of [] c.new_at-head.result ≡ first_head c.args.script.batches = c.new_at-head.ensures.fold in
    let later : c.new_at-head.result.later ≡ (first_head c.args.script.batches).later = ap (λ (h : Head Line). h.later) head in
    record {
      done = [];
      script_fits = s;
      start_fits = b;
      few = omega arith;
      head = record {
        first_is = c.new_at-head.ensures.first ∙ ap (λ t. t.0) g.next_is;
        admitted = c.new_at-head.ensures.counts.0;
        done_is = c.new_at-head.ensures.counts.1;
        head = ap next_batch head ∙ first_again c.args.script.batches s.full;
        full = subst (All (λ (b : List Line). 0 < length b)) (sym later) (first_full c.args.script.batches s.full);
      };
      kept = record {
        tree = ap (λ (xs : List Shot). tree_of shape (record { shots = xs; joined = [] })) g.shots;
        results = c.new.ensures.items;
        made_is = ap (map (map (λ t. t.0))) c.new-2.ensures.items;
        names = c.new-3.ensures.items;
        visits = begun_visited start c.args.contexts c.args.visits c.args.next (start_sorted shape c.args.script.hosts start b) g;
      };
    }

-- A whole event alone is what its code means; and so events owe what the machine asks.
use Rattle.std.proofs.Common.{◌≡◌, ℕ, zero, suc, ◌+◌, if◌then◌else◌, Some, refl, ap, sym, ◌∙◌, arith}
use Rattle.std.specs.Prelude.{is_some, unwrap_or}
use mathlib.Core.Bool.{true≢false}
use Rattle.wave_base.specs.declared.call.Call.{Call}
use Rattle.wave_base.specs.declared.outcome.EventResult.{EventResult}
use Rattle.wave_base.specs.Tree.{Tree}
use Rattle.service_code.specs.declared.program.Program.{Program}
use Rattle.service_verify.specs.Copies.{Trip, next_trip, trip_after, first_trip}
use Rattle.service_verify.specs.Fit.{IsFit}
use Rattle.service_verify.specs.Points.{IsVerified}
use Rattle.service_verify.specs.Segments.{Event}
use Rattle.service_verify.specs.Standing.{HasTree}
use Rattle.service_verify.specs.Tours.{Tour, most_segments, code_tour}
use Rattle.service_verify.proofs.Copying.{copies_same}
use Rattle.service_verify.proofs.Locals.{begins}
use Rattle.service_verify.proofs.Touring.{code_ends}
use Rattle.wave_states.specs.Alone.{Alone, next_alone, after_segments, first_alone, run_alone, count_from, segments_of}
use Rattle.wave_states.specs.Owes.{Owes}
use Rattle.code_actor.specs.CodeActors.{code_kind, Fields, no_result, enough_segments, code_actors, IsJob}
use Rattle.code_actor.specs.Follows.{Follows, IsWhole}
use Rattle.code_actor.proofs.Following.{Walked, done, going, followed, walks_on, counts, trip_stays, first_walked, all_walked}
use Rattle.code_actor.proofs.Segmented.{initial_has, segment_kept, segment_looks, segment_protocol}

module _ (program : Program) (fit : IsFit program) (verified : IsVerified program) where
  -- the first segment first
  trip_first : (m : ℕ) (t : Trip) → trip_after program (suc m) t ≡ trip_after program m (next_trip program t)
  unfolding trip_after
  trip_first zero t = refl
  trip_first (suc m) t = ap (next_trip program) (trip_first m t)

  over_stays : (m : ℕ) (t : Trip) (r : EventResult) → t.tour.result ≡ Some r → trip_after program m t ≡ t
  unfolding trip_after
  over_stays zero t r e = refl
  over_stays (suc m) t r e = ap (next_trip program) (over_stays m t r e) ∙ trip_stays program fit verified t r e

  -- the segments of both are as many
  all_counted : (m : ℕ) (x : Alone Event Fields EventResult) (t : Trip) → Walked program fit verified x t → count_from (code_actors program) m x + t.tour.segments ≡ (trip_after program m t).tour.segments
  unfolding trip_after
  all_counted zero x t w = omega arith
  all_counted (suc m) x t (done r e f) =
      ap (λ o. (if is_some o then 0 else suc (count_from (code_actors program) m (next_alone (code_actors program) x))) + t.tour.segments) e
      ∙ none t.tour.segments
      ∙ ap (λ (u : Trip). u.tour.segments) (sym (over_stays (suc m) t r (sym f.result ∙ e)))
    where
      none : (a : ℕ) → 0 + a ≡ a
      none a = omega arith
  all_counted (suc m) x t (going p n w) =
      ap (λ o. (if is_some o then 0 else suc (count_from (code_actors program) m (next_alone (code_actors program) x))) + t.tour.segments) w.running
      ∙ one (count_from (code_actors program) m (next_alone (code_actors program) x)) t.tour.segments (next_trip program t).tour.segments (counts program fit verified p n x t w)
      ∙ all_counted m (next_alone (code_actors program) x) (next_trip program t) (walks_on program fit verified p n x t w)
      ∙ ap (λ (u : Trip). u.tour.segments) (sym (trip_first m t))
    where
      one : (a b c : ℕ) → c ≡ suc b → suc a + b ≡ a + c
      one a b c e = omega (arith, e)

  module _ (call : Call) (ticket : ℕ) (tree : Tree Fields) (is_job : IsJob program call) (has : HasTree program tree) where
    code_is : (trip_after program (enough_segments program) (first_trip program call tree)).tour ≡ code_tour program call tree
    unfolding enough_segments code_tour
    code_is = copies_same program fit verified call tree is_job.0 is_job.1 has (most_segments program)

    follows : Follows (after_segments (code_actors program) (enough_segments program) (first_alone (code_actors program) call ticket tree)) (trip_after program (enough_segments program) (first_trip program call tree))
    follows = followed program fit verified _ _ (all_walked program fit verified call ticket tree is_job has (enough_segments program))

    pub ends : (r : EventResult) × ((after_segments (code_actors program) (enough_segments program) (first_alone (code_actors program) call ticket tree)).result ≡ Some r)
    ends = let e = code_ends program fit verified call tree is_job.0 is_job.1 has in (e.0, follows.result ∙ ap (λ (t : Tour). t.result) code_is ∙ e.1)

    pub whole : IsWhole (run_alone (code_actors program) ticket tree call) (segments_of (code_actors program) ticket tree call) (code_tour program call tree)
    whole = record {
      result = ap (λ (t : Tour). t.result) (sym code_is) ∙ sym follows.result ∙ ends.1 ∙ ap (λ o. Some (unwrap_or o no_result)) (sym ends.1);
      tree = follows.tree ∙ ap (λ (t : Tour). t.tree) code_is;
      entered = follows.entered ∙ ap (λ (t : Tour). t.entered) code_is;
      segments = counted ∙ ap (λ (t : Tour). t.segments) code_is;
    }
      where
        plus_none : (a : ℕ) → a ≡ a + 0
        plus_none a = omega arith

        counted : count_from (code_actors program) (enough_segments program) (first_alone (code_actors program) call ticket tree) ≡ (trip_after program (enough_segments program) (first_trip program call tree)).tour.segments
        counted = plus_none _ ∙ all_counted (enough_segments program) (first_alone (code_actors program) call ticket tree) (first_trip program call tree) (first_walked program fit verified call ticket tree is_job has)

  pub owes : (hosts : ℕ) → Owes (code_kind program hosts)
  owes hosts = record {
    initial = initial_has program.shape fit.shape;
    first = λ call ticket is_job. begins program fit verified call is_job.0 is_job.1;
    kept = λ e p n fields children stands has. segment_kept program fit verified p n e fields stands has;
    keeps = λ e p n fields children stands has. segment_protocol program fit verified hosts p n e fields stands has;
    looks = λ e p n fields children stands has looks. segment_looks program fit verified hosts p n e fields children stands has looks;
    ends = λ call ticket tree is_job has ordered. ends call ticket tree is_job has;
  }

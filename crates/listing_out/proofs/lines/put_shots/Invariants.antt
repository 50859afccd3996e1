use Rattle.std.proofs.Common.{◌≡◌, ◌++◌, drop, map}
use Rattle.std.specs.List.{concat}
use Rattle.path_text.specs.ShotTexts.{shot_text}
use Rattle.listing_out.specs.LineTexts.{ticket_line}
use Rattle.listing_out.proofs.lines.put_shots.Given as goal

abbrev pub invariant-loop-shot : goal.invariant-loop-shot
invariant-loop-shot l = l.out.items ++ concat (map (λ s. ticket_line l.n (shot_text l.shape s)) (drop l.shot-index l.shots)) ≡ l.fn.out.items ++ concat (map (λ s. ticket_line l.n (shot_text l.shape s)) l.shots)

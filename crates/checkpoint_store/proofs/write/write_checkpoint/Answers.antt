use Rattle.std.proofs.Common.{◌++◌, List, All, ap, subst, ◌∙◌}
use Rattle.wave_base.specs.declared.shot.Shot.{Shot}
use Rattle.path_text.specs.Found.{HasKeys}
use Rattle.snapshot_text.specs.Shots.{IsValue}
use Rattle.checkpoint_store.proofs.PointLemmas.{are_shots}
use Rattle.checkpoint_store.proofs.TailLemmas.{places_text}
use Rattle.checkpoint_store.proofs.WriteLemmas.{all_written}
use Rattle.checkpoint_store.proofs.write.write_checkpoint.Goals as goal

pub write_snapshot-requires : goal.write_snapshot-requires
write_snapshot-requires c =
    are_shots c.args.shape.now c.args.point.now.start c.args.point.now.hosts c.requires.fits (subst (λ (ss : List Shot). All (λ (s : Shot). All IsValue s.fields) ss) c.as_slice.ensures c.values_fit.ensures.values) (subst (λ (ss : List Shot). All (λ (s : Shot). HasKeys s.path) ss) c.as_slice.ensures c.values_fit.ensures.keys)

pub returns : goal.returns
returns c =
    all_written c.args.shape.now c.args.point.now c.new-out.result.items c.put_front.new.out.items c.in_ok-snapshot.snapshot c.put_bytes.new.out.items c.put_places.new.out.items c.put_bytes-2.new.out.items c.from_vec.result c.requires c.new-out.ensures.items c.in_ok-put_front.ensures c.in_ok-snapshot.ensures
    (c.in_ok-put_bytes.ensures ∙ ap (λ z. c.put_front.new.out.items ++ z) c.as_slice-2.ensures) (c.in_ok-put_places.ensures ∙ ap (λ xs. c.put_bytes.new.out.items ++ places_text c.args.shape.now xs) c.as_slice-3.ensures) c.in_ok-put_bytes-2.ensures c.from_vec.ensures

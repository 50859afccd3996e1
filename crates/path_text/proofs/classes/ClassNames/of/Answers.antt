use Rattle.std.proofs.Common.{subst, sym}
use Rattle.path_text.specs.inner.Children.{AreBelow}
use Rattle.path_text.proofs.ChildLemmas.{shape_below}
use Rattle.path_text.proofs.classes.ClassNames.of.Goals as goal

pub children_of-requires-clause-below : goal.children_of-requires-clause-below
children_of-requires-clause-below c = subst AreBelow (sym c.as_slice.ensures) (shape_below c.args.shape.now c.requires)

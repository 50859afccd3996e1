use Rattle.std.proofs.Common.{◌≡◌, ◌+◌, ◌++◌, ◌∷◌, [], length, take, refl, subst, sym, ap, ◌∙◌, arith}
use Rattle.name_table.specs.Numbers.{TellFirst}
use Rattle.path_text.specs.Paths.{is_child}
use Rattle.path_text.specs.inner.Children.{with_child}
use Rattle.path_text.proofs.ChildLemmas.{parent_there, class_told, all_told, child_count, blank_count}
use Rattle.path_text.proofs.classes.children_of.Goals as goal

pub note_child-requires : goal.note_child-requires
note_child-requires c =
    let pushed = c.in_ok-push.ensures.items ∙ ap (λ n. c.loop-i.children.items ++ n ∷ []) c.new.ensures in
    let count : length c.push.new.self.items ≡ c.loop-i.i + 1 = blank_count c.loop-i.children.items c.push.new.self.items c.loop-i.i c.loop-i.invariant.count pushed in
    parent_there c.args.classes.now c.requires.below c.loop-i.i c.index-classes-i.result (length c.push.new.self.items) c.loop-i-test.true c.index-classes-i.is (omega (arith, count))

pub loop-i-preserved : goal.loop-i-preserved
loop-i-preserved c =
    let tables = c.loop-i.children.items in
    let pushed : c.push.new.self.items ≡ tables ++ [] ∷ [] = c.in_ok-push.ensures.items ∙ ap (λ n. tables ++ n ∷ []) c.new.ensures in
    let made : c.note_child.new.children.items ≡ with_child (tables ++ [] ∷ []) c.index-classes-i.result c.loop-i.i = c.in_ok-note_child.ensures ∙ ap (λ t. with_child t c.index-classes-i.result c.loop-i.i) pushed in
    let count : length (tables ++ [] ∷ []) ≡ c.loop-i.i + 1 = blank_count tables (tables ++ [] ∷ []) c.loop-i.i c.loop-i.invariant.count refl in
    let there = parent_there c.args.classes.now c.requires.below c.loop-i.i c.index-classes-i.result (length (tables ++ [] ∷ [])) c.loop-i-test.true c.index-classes-i.is (omega (arith, count)) in
    record {
      tell = subst (TellFirst is_child (take (c.loop-i.i + 1) c.args.classes.now)) (sym made) (class_told c.args.classes.now c.loop-i.i c.index-classes-i.result tables c.loop-i-test.true c.index-classes-i.is c.loop-i.invariant.tell there);
      count = ap length made ∙ child_count (tables ++ [] ∷ []) c.index-classes-i.result c.loop-i.i ∙ count;
    }

pub returns : goal.returns
returns c = all_told c.args.classes.now c.loop-i.i c.loop-i.children.items c.loop-i-test.false c.loop-i.invariant.tell

use Rattle.std.proofs.Common.{sym, ◌∙◌, ap, subst, drop}
use Rattle.std.proofs.lemmas.List.{take_rest}
use Rattle.mace_lexer.specs.Texts.{inside_of}
use Rattle.mace_lexer.proofs.Bodies.{no_byte}
use Rattle.mace_lexer.proofs.Found.{Inner, inner_start, inner_more}
use Rattle.mace_lexer.proofs.quoted.body.Goals as goal

pub loop-b-init : goal.loop-b-init
loop-b-init c = subst (λ t. Inner c.args.text.now t 1) (sym c.new-bytes.ensures.items) (inner_start c.args.text.now c.requires.some c.requires.form)

pub loop-b-preserved : goal.loop-b-preserved
loop-b-preserved c = inner_more c.args.text.now c.loop-b.bytes.items c.push.new.self.items c.loop-b.n c.in-Byte.b c.width-n.result c.loop-b.invariant (ap inside_of (sym (take_rest c.args.text.now c.loop-b.n)) ∙ sym c.in-Byte.ensures) c.width-n.ensures c.in_ok-push.ensures.items

pub returns : goal.returns
returns c =
    let i = c.loop-b.invariant in
    record {
      split = i.split;
      printable = i.printable;
      reach = i.reach;
      within = i.within;
      ends = no_byte (inside_of (drop c.loop-b.n c.args.text.now)) (λ b e. c.in_default.not-Byte b (c.next_inside.ensures ∙ ap inside_of (take_rest c.args.text.now c.loop-b.n) ∙ e));
    }

use Rattle.std.proofs.Common.{◌++◌, ◌∷◌, [], length, map, take, sym, ap, subst, ◌∙◌, append_assoc, arith}
use Rattle.std.proofs.lemmas.List.{take_all, map-append, length-append}
use Rattle.std.proofs.lemmas.Result.{err_from_is_err_and}
use Rattle.mace_ast.specs.Decls.{method_tree}
use Rattle.type_rules.specs.Demands.{first_wrong, Fails}
use Rattle.type_rules.specs.Services.{methods_demands}
use Rattle.type_rules.specs.Views.{method_view}
use Rattle.type_rules.proofs.First.{fails_same}
use Rattle.context_types.proofs.Exits.{exit}
use Rattle.context_types.proofs.Lists.{next_number, number_at, method_asks_at, method_made, methods_walk, methods_made}
use Rattle.context_types.proofs.Walking.{walk, walk_more, walk_fails, walk_whole, makes, makes_more}
use Rattle.context_types.proofs.service.methods.Goals as goal

pub returns-in_err-m : goal.returns-in_err-m
returns-in_err-m c =
    let known = c.args.tables.now in
    let n = length c.args.made.now.items in
    let ms = c.args.decls.now in
    let asks = method_asks_at known c.args.class in
    let i = c.loop-m.m-index in
    let m = c.m-item.result in
    let number = number_at n ms i c.loop-m-test.true ∙ sym (c.len.ensures ∙ c.loop-m.made.ok.0 ∙ c.loop-m.invariant.count) in
    exit _ _ _ (err_from_is_err_and c.from_residual.result c.from_residual.ensures.1) (methods_demands known c.args.class n (map method_tree ms))
    (fails_same (methods_demands known c.args.class n (map method_tree ms)) (walk next_number asks n ms) c.in_err-m.field-0.0 (ap first_wrong (methods_walk known c.args.class n ms))
    (walk_fails next_number asks n ms i m c.in_err-m.field-0.0 c.loop-m-test.true c.m-item.is c.loop-m.invariant.holds
    (subst (λ k. Fails (asks k m) c.in_err-m.field-0.0) (sym number) c.in_err-m.ensures)))

pub loop-m-preserved : goal.loop-m-preserved
loop-m-preserved c =
    let known = c.args.tables.now in
    let n = length c.args.made.now.items in
    let ms = c.args.decls.now in
    let asks = method_asks_at known c.args.class in
    let make = method_made known c.args.class in
    let i = c.loop-m.m-index in
    let m = c.m-item.result in
    let is = c.loop-m.invariant in
    let number = number_at n ms i c.loop-m-test.true ∙ sym (c.len.ensures ∙ c.loop-m.made.ok.0 ∙ is.count) in
    let made = c.in_ok-m.ensures in
    let pushed = c.in_ok-push.ensures.items in
    let old = map method_view c.args.made.now.items in
    record {
      holds = walk_more next_number asks n ms i m c.loop-m-test.true c.m-item.is is.holds (ap (λ k. first_wrong (asks k m)) number ∙ made.0);
      made = ap (map method_view) pushed ∙ map-append method_view c.loop-m.made.items (c.in_ok-m.m ∷ []) ∙ (λ j. is.made j ++ sym (ap (λ k. make k m) number ∙ made.1) j ∷ [])
          ∙ append_assoc old (makes next_number make n (take i ms)) _ ∙ ap (λ l. old ++ l) (sym (makes_more next_number make n ms i m c.loop-m-test.true c.m-item.is));
      count = let e = ap length pushed ∙ length-append c.loop-m.made.items (c.in_ok-m.m ∷ []) in let f = is.count in omega arith;
    }

pub returns : goal.returns
returns c =
    let known = c.args.tables.now in
    let n = length c.args.made.now.items in
    let ms = c.args.decls.now in
    let is = c.loop-m.invariant in
    let all = sym (take_all c.loop-m.m-index ms c.loop-m-test.false) in (
      ap first_wrong (methods_walk known c.args.class n ms) ∙ walk_whole next_number (method_asks_at known c.args.class) n ms c.loop-m.m-index c.loop-m-test.false is.holds,
      is.made ∙ ap (λ l. map method_view c.args.made.now.items ++ l) (sym (methods_made known c.args.class n ms ∙ ap (makes next_number (method_made known c.args.class) n) all)),
    )

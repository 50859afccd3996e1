use Rattle.std.proofs.Common.{◌≡◌, ◌<◌, [], IfSome, IfNone, length, sym, subst, arith}
use Rattle.std.proofs.lemmas.Bool.Decides.{nat_tests}
use Rattle.script_reader.specs.Pieces.{IsOnlyFront, HasNoFront, AreOnlyPieces}
use Rattle.script_reader.proofs.PieceLemmas.{ArePiecesTo, piece_read, all_read, none_there, is_nil}
use Rattle.script_reader.proofs.pieces.pieces_of.Goals as goal

pub returns-in_default-clause-none : goal.returns-in_default-clause-none
returns-in_default-clause-none c =
    let some : 0 < length c.loop-rest.rest.now = grind (arith, nat_tests) in
    let none : HasNoFront c.loop-rest.rest.now = subst (λ o. IfNone o (HasNoFront c.loop-rest.rest.now)) c.in_default.is c.in_ok-piece.ensures.none in
    none_there c.args.line.now c.loop-rest.rest.now c.loop-rest.pieces.items c.loop-rest.invariant some none

pub loop-rest-preserved : goal.loop-rest-preserved
loop-rest-preserved c =
    let front : IsOnlyFront c.loop-rest.rest.now c.in-Some.piece c.in-Some.after.now =
    subst (λ o. IfSome o (λ x. IsOnlyFront c.loop-rest.rest.now x.0 x.1.now)) c.in-Some.is c.in_ok-piece.ensures.some in
    subst (ArePiecesTo c.args.line.now c.push.new.self.items) (sym c.without_blanks-rest-in-loop-rest.ensures.rest)
    (piece_read c.args.line.now c.loop-rest.rest.now c.in-Some.after.now c.loop-rest.pieces.items c.push.new.self.items c.in-Some.piece c.loop-rest.invariant front c.in_ok-push.ensures.items)

pub returns-clause-some : goal.returns-clause-some
returns-clause-some c =
    let end : c.loop-rest.rest.now ≡ [] = is_nil c.loop-rest.rest.now c.loop-rest-test.ensures in
    subst (AreOnlyPieces c.args.line.now) (sym c.from_vec.ensures) (all_read c.args.line.now c.loop-rest.rest.now c.loop-rest.pieces.items c.loop-rest.invariant end)

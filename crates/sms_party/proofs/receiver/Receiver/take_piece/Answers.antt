use Rattle.std.proofs.Common.{sym, ◌∙◌}
use Rattle.sms_join.specs.Piece.{Piece, piece_of}
use Rattle.sms_party.proofs.Storing.{is_refused}
use Rattle.sms_party.proofs.receiver.Receiver.take_piece.Goals as goal

pub returns-then-is_full_for-clause-steps : goal.returns-then-is_full_for-clause-steps
returns-then-is_full_for-clause-steps c = λ limits s origin stands.
    let p : Piece = piece_of c.args.now c.args.origin c.args.stamp c.args.concat c.args.units in
    is_refused c.laws_of_joiners.ensures limits c.args.self.now s stands p c.args.tag c.args.origin origin c.no_room.result
    (sym (c.is_full_for.ensures c.args.now c.args.units) ∙ c.if-is_full_for.true) c.no_room.ensures

use Rattle.std.proofs.Common.{sym, ◌∙◌}
use Rattle.sms_split.proofs.Telling.{piece_is_there, writes_piece}
use Rattle.sms_split.proofs.national.put_at.Goals as goal

pub returns-in-Some : goal.returns-in-Some
returns-in-Some g c =
    writes_piece c.put_user.result c.args.long.now c.args.segments.now c.args.index c.in_ok-user.field-0 c.in-Some.user (g.W.Write.contents c.args.output.now) (g.W.Write.contents c.put_user.new.output)
    c.in_ok-user.ensures.user c.in-Some.is c.put_user.ensures

pub returns-in-None : goal.returns-in-None
returns-in-None g c =
    absurd (piece_is_there c.args.segments.now c.args.long.now.reference c.args.index c.requires.place (sym c.in_ok-user.ensures.user ∙ c.in-None.is))

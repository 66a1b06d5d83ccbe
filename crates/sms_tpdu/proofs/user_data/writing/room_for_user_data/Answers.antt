use Rattle.std.proofs.Common.{length, ap, length-append, arith}
use Rattle.sms_tpdu.specs.UserData.{header_octets}
use Rattle.sms_tpdu.proofs.user_data.writing.room_for_user_data.Goals as goal

pub returns : goal.returns
returns c = λ octets spelled. omega (arith, c.octets_taken.ensures.is, c.room_for_body.ensures.enough (length (header_octets c.args.user.now.header)) spelled.written spelled.spells_body, ap length spelled.parts, length-append (header_octets c.args.user.now.header) spelled.written)

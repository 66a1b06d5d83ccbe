use Rattle.std.proofs.Common.{◌≡◌, ◌-◌, ap, ◌∙◌, arith}
use Rattle.sms_national.specs.Rooms.{room_after, place_octets}
use Rattle.sms_national.proofs.HeaderLaws.{length-place}
use Rattle.sms_national.proofs.rooms.room_beside.Goals as goal

pub returns-clause-is : goal.returns-clause-is
returns-clause-is c =
    let place : c.header_octets-place.result - 1 ≡ place_octets c.args.width = omega (arith, c.header_octets-place.ensures.is 0 0 0, length-place c.args.width 0 0 0) in
    c.room_after.ensures ∙ ap room_after (omega (arith, place, c.table_octets.ensures.is))

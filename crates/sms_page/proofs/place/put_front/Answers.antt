use Rattle.std.proofs.Common.{◌≡◌, length, take, arith, length-take-le}
use Rattle.sms_page.proofs.PlaceLemmas.{IsPut-put_chunk, behind-put_chunk}
use Rattle.sms_page.proofs.place.put_front.Goals as goal

pub returns-clause-put : goal.returns-clause-put
returns-clause-put g c =
    let size : length (take g.row.N c.args.octets.now) ≡ g.row.N = length-take-le g.row.N c.args.octets.now c.requires.0 in
    IsPut-put_chunk c.args.room.now (take g.row.N c.args.octets.now) c.args.at (omega (arith, size, c.requires.1))

pub returns-clause-behind : goal.returns-clause-behind
returns-clause-behind g c =
    let size : length (take g.row.N c.args.octets.now) ≡ g.row.N = length-take-le g.row.N c.args.octets.now c.requires.0 in
    behind-put_chunk c.args.room.now (take g.row.N c.args.octets.now) c.args.at g.row.N size c.requires.1

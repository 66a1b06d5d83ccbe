use Rattle.std.proofs.Common.{◌+◌, ◌-◌, arith, length}
use Rattle.std.proofs.lemmas.Slice.{drop-put_mid}
use Rattle.sms_page.proofs.PlaceLemmas.{IsPut-put_mid}
use Rattle.sms_page.proofs.place.put_once.Goals as goal

pub returns-clause-put : goal.returns-clause-put
returns-clause-put c =
    let room = c.args.room.now in
    let octets = c.args.octets.now in
    let at = c.args.at in
    let n = at + length octets - at in
    rw c.copy_from_slice.ensures.after (IsPut-put_mid room octets at n (omega arith) (omega arith))

pub returns-clause-behind : goal.returns-clause-behind
returns-clause-behind c =
    let room = c.args.room.now in
    let octets = c.args.octets.now in
    let at = c.args.at in
    rw c.copy_from_slice.ensures.after (drop-put_mid at (at + length octets - at) room octets (at + length octets) (omega arith) (omega arith) (omega arith))

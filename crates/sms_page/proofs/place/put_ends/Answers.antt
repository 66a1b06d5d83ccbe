use Rattle.std.proofs.Common.{◌-◌, length, arith}
use Rattle.std.proofs.lemmas.List.{take_rest}
use Rattle.sms_page.proofs.PlaceLemmas.{IsPut-ends, behind-ends}
use Rattle.sms_page.proofs.place.put_ends.Goals as goal

pub returns-clause-put : goal.returns-clause-put
returns-clause-put g c =
    IsPut-ends c.args.octets.now c.args.at g.row.N (omega arith) c.requires.covers.0 c.requires.covers.1 c.put_front.ensures.put
    (rw (take_rest c.args.octets.now (length c.args.octets.now - g.row.N)) at c.put_front-2.ensures.put)

pub returns-clause-behind : goal.returns-clause-behind
returns-clause-behind g c = behind-ends _ _ _ c.args.at g.row.N (length c.args.octets.now) c.requires.covers.0 c.put_front.ensures.behind c.put_front-2.ensures.behind

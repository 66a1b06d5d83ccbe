use Rattle.std.proofs.Common.{arith}
use Rattle.sms_text.proofs.UnitOctets.{unit_more, unit_done}
use Rattle.sms_text.proofs.ucs2.put_each.Goals as goal

pub loop-rest-preserved : goal.loop-rest-preserved
loop-rest-preserved c = record {
  items = unit_more c.loop-rest.rest.now c.loop-rest.octets.items c.push_reserved.new.self.items c.push_reserved-in-len1-up.new.self.items _ c.in-len1-up.len_at_least c.push_reserved.ensures.items c.push_reserved-in-len1-up.ensures.items c.loop-rest.invariant.items;
  room = omega arith;
}

pub returns : goal.returns
returns c = unit_done c.loop-rest.rest.now c.loop-rest.octets.items _ (omega arith) c.loop-rest.invariant.items

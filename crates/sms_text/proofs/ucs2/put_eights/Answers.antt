use Rattle.std.proofs.Common.{vec_len, vec_capacity}
use Rattle.sms_text.proofs.UnitOctets.{eight_more_units, room_left}
use Rattle.sms_text.proofs.ucs2.put_eights.Goals as goal

pub loop-rest-preserved : goal.loop-rest-preserved
loop-rest-preserved c = record {
  items = eight_more_units c.loop-rest.rest.now c.loop-rest.octets.items c.extend_from_slice.new.self.items _ c.in-len8-up.len_at_least c.in_ok-extend_from_slice.ensures.items c.loop-rest.invariant.items;
  room = room_left c.loop-rest.rest.now (vec_len c.loop-rest.octets) _ (vec_capacity c.loop-rest.octets) _ c.in-len8-up.len_at_least c.in_ok-extend_from_slice.ensures.len c.loop-rest.invariant.room c.in_ok-extend_from_slice.ensures.capacity;
}

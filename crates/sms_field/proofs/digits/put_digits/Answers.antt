use Rattle.std.proofs.Common.{◌-◌, length, drop, arith, length-take, length-drop}
use Rattle.sms_field.proofs.DigitWriting.{two_written, none_written, one_written, digits_left}
use Rattle.sms_field.proofs.digits.put_digits.Goals as goal

pub loop-rest-preserved : goal.loop-rest-preserved
loop-rest-preserved c =
    let rest = c.loop-rest.rest.now in
    record {
      written = two_written c.loop-rest.out.items c.push_reserved.new.self.items rest _ c.in-len2-up.len_at_least c.push_reserved.ensures.items c.loop-rest.invariant.written;
      room = omega (arith, c.loop-rest.invariant.room, c.push_reserved.ensures.len, c.push_reserved.ensures.capacity, c.in-len2-up.len_at_least, length-take (length rest - 2) (drop 2 rest), length-drop 2 rest);
      digits = digits_left rest c.loop-rest.invariant.digits;
    }

pub returns-then-rest-eq1 : goal.returns-then-rest-eq1
returns-then-rest-eq1 c = one_written c.loop-rest.out.items _ c.loop-rest.rest.now _ (omega arith) (omega arith) c.push_reserved-then-rest-eq1.ensures.items c.loop-rest.invariant.written

pub returns-else-rest-eq1 : goal.returns-else-rest-eq1
returns-else-rest-eq1 c = none_written c.loop-rest.out.items c.loop-rest.rest.now _ (omega arith) c.loop-rest.invariant.written

use Rattle.std.proofs.Common.{◌≡◌, ◌+◌, ◌/◌, ◌<◌, ◌≤◌, ◌++◌, length, vec_len, vec_capacity, All}
use Rattle.sms_field.specs.Address.DigitOctets.{digit_octets}
use Rattle.sms_field.proofs.digits.put_digits.Given as goal

abbrev pub invariant-loop-rest : goal.invariant-loop-rest
invariant-loop-rest l = record {
  written : l.out.items ++ digit_octets l.rest ≡ l.fn.out.items ++ digit_octets l.digits;
  room : vec_len l.out + (length l.rest + 1) / 2 ≤ vec_capacity l.out;
  digits : All (λ digit. digit < 15) l.rest;
}

abbrev pub decreases-loop-rest : goal.decreases-loop-rest
decreases-loop-rest l = length l.rest

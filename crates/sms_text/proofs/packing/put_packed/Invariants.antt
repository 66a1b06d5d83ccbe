use Rattle.std.proofs.Common.{◌≡◌, ◌≤◌, ◌*◌, ◌-◌, ◌++◌, length, take}
use Rattle.sms_text.specs.Bits.{AreSeptets, octet_bits, septet_bits}
use Rattle.sms_text.specs.Octets.{IsOctets}
use Rattle.sms_text.proofs.packing.put_packed.Given as goal

abbrev pub invariant-loop-block : goal.invariant-loop-block
invariant-loop-block l = record {
  bits_are : octet_bits (take l.at l.octets) ++ septet_bits l.rest ≡ septet_bits l.septets;
  written : IsOctets (take l.at l.octets);
  are : AreSeptets l.rest;
  place : 8 * l.at ≡ 7 * (length l.septets - length l.rest);
  fewer : length l.rest ≤ length l.septets;
}

abbrev pub decreases-loop-block : goal.decreases-loop-block
decreases-loop-block l = length l.rest

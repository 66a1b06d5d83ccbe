use Rattle.std.proofs.Common.{◌≡◌, ◌≤◌, ◌+◌, ◌*◌, ◌/◌, ◌++◌, length, take}
use Rattle.std.proofs.Math.Utf8.{encodes}
use Rattle.std.specs.Str.{IsUtf8}
use Rattle.sms_text.proofs.Ucs2Text.{text_in}
use Rattle.sms_text.proofs.ucs2_text.put_each.Given as goal

abbrev pub invariant-loop-rest : goal.invariant-loop-rest
invariant-loop-rest l = record {
  so_far : take l.place l.out ++ encodes (text_in l.rest) ≡ take l.at l.fn.out ++ encodes (text_in l.octets);
  text : IsUtf8 (take l.place l.out);
  room : l.place + 3 * (length l.rest / 2) + 16 ≤ length l.out;
}

abbrev pub decreases-loop-rest : goal.decreases-loop-rest
decreases-loop-rest l = length l.rest

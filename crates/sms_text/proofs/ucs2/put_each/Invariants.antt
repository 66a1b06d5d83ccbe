use Rattle.std.proofs.Common.{◌≡◌, ◌≤◌, ◌+◌, ◌*◌, ◌++◌, length, vec_len, vec_capacity}
use Rattle.sms_text.specs.Utf16.{octets_high_first}
use Rattle.sms_text.proofs.ucs2.put_each.Given as goal

abbrev pub invariant-loop-rest : goal.invariant-loop-rest
invariant-loop-rest l = record {
  items : l.octets.items ++ octets_high_first l.rest ≡ l.fn.octets.items ++ octets_high_first l.units;
  room : vec_len l.octets + 2 * length l.rest ≤ vec_capacity l.octets;
}

abbrev pub decreases-loop-rest : goal.decreases-loop-rest
decreases-loop-rest l = length l.rest

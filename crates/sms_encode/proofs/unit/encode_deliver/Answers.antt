use Rattle.std.proofs.Common.{rules, arith}
use Rattle.sms_encode.proofs.unit.encode_deliver.Goals as goal

pub invariant_of-deliver : goal.invariant_of-deliver
invariant_of-deliver c = record {
  origin = search rules;
  pid = omega arith;
  dcs = search rules;
  stamp = c.frame.invariant.0;
  user = search rules;
}

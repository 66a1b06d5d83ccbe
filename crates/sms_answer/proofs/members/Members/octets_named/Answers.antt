use Rattle.std.proofs.Common.{false}
use Rattle.hex.specs.Hex.{encode_upper}
use Rattle.sms_answer.proofs.InLine.{quoted_in_line, upper_in_line}
use Rattle.sms_answer.proofs.ObjectLemmas.{object_stays, value_stays}
use Rattle.sms_answer.proofs.members.Members.octets_named.Goals as goal

pub returns : goal.returns
returns c = value_stays c.self.inside.base c.self.inside.was_cut c.self.inside.number _ _ c.octets_named.ensures c.self.invariant c.self.view_is

pub invariant_of-self : goal.invariant_of-self
invariant_of-self c = object_stays c.self.inside.base c.self.inside.was_cut c.self.inside.number _ _ c.octets_named.ensures (quoted_in_line false (encode_upper c.args.octets.now) false (upper_in_line c.args.octets.now), tt) c.self.invariant

use Rattle.std.proofs.Common.{◌∙◌, sym, subst, arith}
use Rattle.sms_text.specs.Octets.{IsOctets}
use Rattle.sms_field.specs.Inside.OctetLists.{octets_are}
use Rattle.sms_field.proofs.octets.Octets.from_slice.Goals as goal

pub returns-clause-octets : goal.returns-clause-octets
returns-clause-octets c = subst IsOctets (sym (c.new.ensures ∙ c.in_ok-from_slice.ensures.items)) (octets_are c.args.octets.now (λ i. omega (arith, c.type_inv.octets i)))

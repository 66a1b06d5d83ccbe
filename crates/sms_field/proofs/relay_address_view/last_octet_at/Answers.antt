use Rattle.std.proofs.Common.{◌≡◌, Ok, Err}
use Rattle.std.specs.Prelude.{MatchResult}
use Rattle.sms_field.specs.declared.fault.FieldFault.TheVariants.{Short}
use Rattle.sms_field.specs.Inside.AnswerLaws.{sees_as_by_meaning}
use Rattle.sms_field.specs.RelayAddress.{last_digits}
use Rattle.sms_field.specs.Inside.RelayAddressSeen.{last_digits_in}
use Rattle.sms_field.proofs.relay_address_view.last_octet_at.Goals as goal

pub returns : goal.returns
returns c = sees_as_by_meaning last_digits_in Short (λ o r. MatchResult r (λ last. last_digits o ≡ Ok (last_digits_in last)) (λ why. last_digits o ≡ Err why)) last_digits c.args.input.now c.take_octet_by.new.self c.take_octet_by.result c.take_octet_by.ensures (λ o x q. q) (λ o why q. q)

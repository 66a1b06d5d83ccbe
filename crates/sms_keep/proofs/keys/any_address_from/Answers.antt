use Rattle.std.proofs.Common.{◌≡◌, true, false, Err, sym, ap, subst, ◌∙◌}
use Rattle.sms_field.specs.Address.Value.{HasSpelling}
use Rattle.sms_keep.specs.Inside.Plain.{is_plain}
use Rattle.sms_keep.proofs.PlainAddress.{plain_is_written}
use Rattle.sms_keep.proofs.AddressBack.{refused_is_none, address_is_plain}
use Rattle.sms_keep.proofs.keys.any_address_from.Goals as goal

pub returns-in_default : goal.returns-in_default
returns-in_default c =
    λ h. refused_is_none c.args.octets.now c.in_default.field-0 c.in_default.ensures.exact (λ e. c.in_default.ensures.memory (ap Err e)) h

pub returns-then-is_plain : goal.returns-then-is_plain
returns-then-is_plain c =
    let plain : is_plain c.args.octets.now ≡ true = sym c.is_plain.ensures.value ∙ c.if-is_plain.true in
    record {
      is_one = subst HasSpelling c.address.view_is c.address.invariant;
      written = plain_is_written c.in-Ok.address c.args.octets.now c.in-Ok.field-0-1 c.is_plain.ensures.octets c.in-Ok.ensures.found plain;
    }

pub returns-else-is_plain : goal.returns-else-is_plain
returns-else-is_plain c =
    λ h.
    let plain : is_plain c.args.octets.now ≡ true = address_is_plain c.args.octets.now h in
    let test : c.is_plain.result ≡ true = c.is_plain.ensures.value ∙ plain in
    let not : c.is_plain.result ≡ false = c.if-is_plain.false in
    absurd cc

use Rattle.std.specs.Str.{chars}
use Rattle.sms_field.proofs.AddressTexts.{after_plus, no_plus}
use Rattle.sms_field.proofs.address.Address.from_text.Goals as goal

pub returns-in-Some : goal.returns-in-Some
returns-in-Some c = record {
  gives = rw (after_plus (chars c.args.text.now) (chars c.in-Some.digits.now) c.in-Some.ensures) c.international_telephone.ensures.gives;
  memory = λ none. absurd (c.international_telephone.ensures.memory none);
}

pub returns-in-None : goal.returns-in-None
returns-in-None c = record {
  gives = rw (no_plus (chars c.args.text.now) c.in-None.ensures) c.telephone_or_name.ensures.gives;
  memory = λ none. (c.in-None.ensures, c.telephone_or_name.ensures.memory none);
}

use Rattle.std.specs.String.{string_bytes}
use Rattle.sms_field.proofs.AddressTexts.{shown_after_plus, shown_alone}
use Rattle.sms_field.proofs.address_text.text_of_telephone.Goals as goal
use Rattle.sms_field.proofs.address_text.text_of_telephone.Goals.{then-type_of_number-eq1+in_ok-push, else-type_of_number-eq1}

pub returns : goal.returns
returns c =
    elim c.if-type_of_number-eq1.branch [
      | then-type_of_number-eq1+in_ok-push w ↦ shown_after_plus (string_bytes c.in_ok-text.text) (string_bytes w.push.new.self) (string_bytes c.push_digits.new.text) c.args.digits.now c.args.type_of_number w.if-type_of_number-eq1.true c.in_ok-text.ensures.bytes w.in_ok-push.ensures.bytes (rw (w.text-is, c.as_slice-digits.ensures.value) at c.in_ok-push_digits.ensures)
      | else-type_of_number-eq1 w ↦ shown_alone (string_bytes c.in_ok-text.text) (string_bytes c.push_digits.new.text) c.args.digits.now c.args.type_of_number w.if-type_of_number-eq1.false c.in_ok-text.ensures.bytes (rw (w.text-is, c.as_slice-digits.ensures.value) at c.in_ok-push_digits.ensures)
    ]

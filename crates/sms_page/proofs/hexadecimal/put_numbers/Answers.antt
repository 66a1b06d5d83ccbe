use Rattle.std.proofs.lemmas.Bool.{OnTrue_from, OnTrue_at}
use Rattle.sms_page.proofs.HexDigits.{numbers_put}
use Rattle.sms_page.proofs.hexadecimal.put_numbers.Goals as goal

pub returns-clause-put : goal.returns-clause-put
returns-clause-put c =
    OnTrue_from _ _ (λ e. numbers_put c.args.octets.now c.args.digits.now c.numbers_of-are_digits.result.0 c.args.at c.requires.within c.requires.room c.type_inv.digits (OnTrue_at e c.numbers_of-are_digits.ensures.numbers))

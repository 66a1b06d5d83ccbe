use Rattle.std.proofs.Common.{rules}
use Rattle.sms_script.proofs.words.name.is_name.Goals as goal

pub returns-then-has_letters_and_digits : goal.returns-then-has_letters_and_digits
returns-then-has_letters_and_digits c = search rules

use Rattle.std.proofs.Common.{take, arith}
use Rattle.std.proofs.lemmas.List.{take_more_set}
use Rattle.sms_text.proofs.SameRuns.{plain_coded, escaped_coded, not_coded, two_set}
use Rattle.sms_text.proofs.coded.put_character.Goals as goal

pub returns-in-Some-clause-septets : goal.returns-in-Some-clause-septets
returns-in-Some-clause-septets c = plain_coded c.args.c c.in-Some.code (take c.args.at c.args.out.now) _ c.in-Some.ensures (take_more_set c.args.out.now c.args.at c.in-Some.code (omega arith))

pub returns-in_default-extension_code-clause-septets : goal.returns-in_default-extension_code-clause-septets
returns-in_default-extension_code-clause-septets c = not_coded c.args.c c.in_default.ensures c.in_default-extension_code.ensures

pub returns-clause-septets : goal.returns-clause-septets
returns-clause-septets c = escaped_coded c.args.c c.in-Some-extension_code.code (take c.args.at c.args.out.now) _ c.in_default.ensures c.in-Some-extension_code.ensures (two_set c.args.out.now c.args.at 27 c.in-Some-extension_code.code (omega arith))

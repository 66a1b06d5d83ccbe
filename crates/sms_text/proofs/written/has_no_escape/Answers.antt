use Rattle.std.proofs.Common.{arith, rules}
use Rattle.std.proofs.lemmas.Bool.{eqb-true}
use Rattle.sms_text.proofs.PlainRuns.{no_escape}
use Rattle.sms_text.proofs.written.has_no_escape.Goals as goal

pub returns : goal.returns
returns c same = no_escape c.args.codes c.from_le_bytes-word.result (search rules) c.requires (omega (arith, c.from_le_bytes-word.ensures)) (eqb-true _ _ same)

use Rattle.sms_script.proofs.MemoryLemmas.{no_address}
use Rattle.sms_script.proofs.meaning.new_address.Goals as goal

pub returns-in_default : goal.returns-in_default
returns-in_default c = no_address c.args.known.now c.args.word.now c.in_default.field-0 c.in_default.ensures

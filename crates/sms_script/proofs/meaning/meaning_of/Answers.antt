use Rattle.sms_script.proofs.FitLemmas.{answer_fits}
use Rattle.sms_script.specs.Words.{words}
use Rattle.sms_script.proofs.meaning.meaning_of.Goals as goal

pub returns-clause-fits : goal.returns-clause-fits
returns-clause-fits c = answer_fits _ c.args.known.now (words c.in_ok-line.line.now) c.statement_in.result c.statement_in.ensures

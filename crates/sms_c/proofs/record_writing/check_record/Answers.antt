use Rattle.sms_c.proofs.record_writing.check_record.Goals as goal

pub returns-in-Err-clause-exact : goal.returns-in-Err-clause-exact
returns-in-Err-clause-exact c = λ r is. absurd (c.in-Err.ensures.exact r is)

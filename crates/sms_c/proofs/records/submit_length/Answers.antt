use Rattle.sms_c.proofs.records.submit_length.Goals as goal

pub returns-in-Ok : goal.returns-in-Ok
returns-in-Ok c = λ value used read. (c.in-Ok.ensures.exact value used read).1

pub returns-in-Err : goal.returns-in-Err
returns-in-Err c = λ value used read. absurd (c.in-Err.ensures.exact value used read)

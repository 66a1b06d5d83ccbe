use Rattle.std.proofs.Common.{refl, arith}
use Rattle.sms_c.proofs.joiner.reading.delivered.Goals as goal

pub returns-in-Ok-clause-exact : goal.returns-in-Ok-clause-exact
returns-in-Ok-clause-exact c = λ value used read. (c.in-Ok.ensures.exact value used read).0

pub returns-in-Ok-clause-unread : goal.returns-in-Ok-clause-unread
returns-in-Ok-clause-unread c = (λ one. absurd (omega (arith, one)), λ is. absurd (is.none _ _ c.in-Ok.ensures.found))

pub returns-in-Err-clause-unread : goal.returns-in-Err-clause-unread
returns-in-Err-clause-unread c = (λ one. record { none = λ value used read. c.in-Err.ensures.exact value used read }, λ is. refl)

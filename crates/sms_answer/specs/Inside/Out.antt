-- A reader may pass this by: contracts of private functions, and proofs, alone cite it.
--
-- Where the members of an answer go.
use Rattle.sms_answer.specs.declared.lines.Out.{Out}
use Rattle.sms_answer.specs.declared.lines.Out.TheVariants.{Plain, Json}
use Rattle.sms_answer.specs.Answer.{AnswerValue}

-- the answer, in either form
abbrev pub answer_in : Out → AnswerValue
answer_in (Plain answer) = answer
answer_in (Json answer) = answer

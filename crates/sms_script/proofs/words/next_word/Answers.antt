use Rattle.std.proofs.Common.{arith}
use Rattle.sms_script.proofs.WordLemmas.{words-cut, words-whole}
use Rattle.sms_script.proofs.words.next_word.Goals as goal

pub returns-in-Some : goal.returns-in-Some
returns-in-Some c =
    let b = c.in-Some.ensures.byte (omega arith) (λ w o f. f) in
    rw (c.in_ok-line.was, b.0, b.1) (words-cut c.in_ok-line.line.now b.2)

pub returns-in-None : goal.returns-in-None
returns-in-None c =
    let b = c.in-None.ensures.byte (omega arith) (λ w o f. f) in
    rw c.in_ok-line.was (words-whole c.in_ok-line.line.now b)

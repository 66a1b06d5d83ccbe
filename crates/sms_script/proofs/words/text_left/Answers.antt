use Rattle.std.proofs.Common.{sym}
use Rattle.sms_script.proofs.WordLemmas.{text_of_words-words}
use Rattle.sms_script.proofs.words.text_left.Goals as goal

pub returns-in-Some : goal.returns-in-Some
returns-in-Some c = rw c.in-Some.is (sym (text_of_words-words c.in-Some.text.now))

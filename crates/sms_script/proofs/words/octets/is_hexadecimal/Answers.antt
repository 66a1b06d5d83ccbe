use Rattle.std.proofs.Common.{◌∙◌, ap}
use Rattle.std.specs.Prelude.{is_ok}
use Rattle.hex.specs.Hex.{decode_of}
use Rattle.sms_script.proofs.MemoryLemmas.{decodes}
use Rattle.sms_script.proofs.words.octets.is_hexadecimal.Goals as goal

pub returns-then-word-eq0 : goal.returns-then-word-eq0
returns-then-word-eq0 c = c.has_digits.ensures ∙ decodes c.as_bytes-word.result.now c.if-word-eq0.true ∙ ap (λ word. is_ok (decode_of word)) c.as_bytes-word.ensures.value

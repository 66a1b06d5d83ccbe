use Rattle.std.proofs.Common.{sym, ◌∙◌, ap}
use Rattle.std.specs.Str.{encode_utf8_all}
use Rattle.std.specs.String.{string_bytes}
use Rattle.std.proofs.lemmas.Str.{encodes-chars, IsUtf8-string_bytes}
use Rattle.sms_script.proofs.transcript.origin_text.Goals as goal

pub returns : goal.returns
returns c = sym (encodes-chars (string_bytes c.in_ok-text.text) (IsUtf8-string_bytes c.in_ok-text.text)) ∙ ap encode_utf8_all c.in_ok-text.ensures

use Rattle.std.proofs.Common.{◌≡◌, ◌∙◌, sym, arith}
use Rattle.std.specs.String.{string_bytes}
use Rattle.std.proofs.lemmas.Str.{IsUtf8-string_bytes, chars_from_encodes}
use Rattle.std.proofs.Math.Utf8.{encodes}
use Rattle.sms_text.proofs.Ucs2Text.{text_in}
use Rattle.sms_text.proofs.Placed.{front_left}
use Rattle.sms_text.proofs.ucs2_text.text_of_ucs2_octets.Goals as goal

pub returns : goal.returns
returns c =
    let front = front_left _ c.put_ucs2-end.new.out _ c.resize.new.self.len c.put_ucs2-end.result c.truncate.ensures.items (omega (arith, c.put_ucs2-end.auto.out, c.deref_mut.ensures.len, c.put_ucs2-end.ensures.within)) c.put_ucs2-end.ensures.within in
    let spelled : string_bytes c.text_of_utf8.result ≡ encodes (text_in c.args.octets.now) = c.text_of_utf8.ensures ∙ front ∙ c.put_ucs2-end.ensures.spelled in
    sym (chars_from_encodes (text_in c.args.octets.now) (string_bytes c.text_of_utf8.result) (IsUtf8-string_bytes c.text_of_utf8.result) (sym spelled))

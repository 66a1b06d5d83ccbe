use Rattle.std.proofs.Common.{◌≡◌, ap, sym, subst, ◌∙◌, ◌∷◌, []}
use Rattle.std.specs.Prelude.{IfOk}
use Rattle.std.specs.Str.{chars}
use Rattle.std.specs.String.{string_bytes}
use Rattle.std.specs.Char.Utf16.{utf16_lossy_chars}
use Rattle.sms_text.specs.TextOfSeptets.{text_of_septets}
use Rattle.sms_join.specs.Reading.{text_of_segments}
use Rattle.sms_join.proofs.SegmentTexts.{one_read}
use Rattle.sms_join.proofs.reading.text_of_one.Goals as goal

pub returns-in-Gsm : goal.returns-in-Gsm
returns-in-Gsm c =
    subst (λ l. IfOk c.text_of_list.result (λ text. chars (string_bytes text) ≡ l)) (ap text_of_septets c.into_vec.ensures.same ∙ sym (ap (λ u. text_of_segments (u ∷ [])) c.in-Gsm.is ∙ one_read _)) c.text_of_list.ensures

pub returns-in-Ucs2 : goal.returns-in-Ucs2
returns-in-Ucs2 c =
    subst (λ l. IfOk c.text_of_wide.result (λ text. chars (string_bytes text) ≡ l)) (ap utf16_lossy_chars c.as_slice.ensures ∙ sym (ap (λ u. text_of_segments (u ∷ [])) c.in-Ucs2.is ∙ one_read _)) c.text_of_wide.ensures

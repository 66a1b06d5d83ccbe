use Rattle.std.proofs.Common.{◌++◌, ap, ◌∙◌, arith}
use Rattle.std.specs.List.{flat_map}
use Rattle.std.specs.Str.{chars}
use Rattle.std.specs.String.{string_bytes}
use Rattle.std.proofs.lemmas.Str.{chars-nil, IsUtf8-string_bytes}
use Rattle.sms_join.specs.Reading.{text_of_units, lent}
use Rattle.sms_join.proofs.SegmentTexts.{one_text_more}
use Rattle.sms_join.proofs.reading.joined_texts.Goals as goal

pub loop-units-init : goal.loop-units-init
loop-units-init c = ap (λ l. chars l ++ flat_map text_of_units (lent c.args.segments.now)) c.in_ok-joined.ensures.bytes ∙ ap (λ l. l ++ flat_map text_of_units (lent c.args.segments.now)) chars-nil

pub loop-units-preserved : goal.loop-units-preserved
loop-units-preserved c =
    one_text_more c.args.segments.now c.loop-units.units-index c.units-item.result (string_bytes c.loop-units.joined) (string_bytes c.push_str.new.self) (string_bytes c.in_ok-text.text)
    (omega (arith, c.loop-units-test.true)) c.units-item.is (IsUtf8-string_bytes c.loop-units.joined) (c.in_ok-push_str.ensures.bytes ∙ ap (λ l. string_bytes c.loop-units.joined ++ l) c.deref.ensures) c.in_ok-text.ensures c.loop-units.invariant

use Rattle.std.proofs.Common.{refl}
use Rattle.std.specs.Str.{chars}
use Rattle.std.proofs.lemmas.Str.{scalars-chars}
use Rattle.sms_national.proofs.WideLaws.{text_is, too_many, over_fewest, over_too_many, wide_fewest}
use Rattle.sms_national.proofs.choice.or_ucs2.Goals as goal

pub returns-in-Ok-clause-fewest : goal.returns-in-Ok-clause-fewest
returns-in-Ok-clause-fewest c all h =
    let text = chars c.args.text.now in
    wide_fewest c.national_cuts_are_one.ensures c.texts_have_one_cut.ensures c.args.width text all c.args.best c.in-Ok.segments c.fewer_ucs2.result
    (record {
      lacks = rw c.if-branch.false at c.in_ok-has_septets.ensures;
      is_text = text_is text (scalars-chars c.args.text.now c.utf8.text);
      are = c.in-Ok.ensures.segments;
      sendable = c.in-Ok.ensures.sendable;
      few = c.in-Ok.ensures.few;
    }) c.fewer_ucs2.ensures h

pub returns-in-Err-TooManySegments-clause-fewest : goal.returns-in-Err-TooManySegments-clause-fewest
returns-in-Err-TooManySegments-clause-fewest c =
    let text = chars c.args.text.now in
    let t = (rw c.in-Err-TooManySegments.field-0-is at c.in-Err-TooManySegments.ensures.too_many) refl in
    over_fewest c.args.width text c.args.best c.septets_of-in-Err-TooManySegments.result (too_many c.texts_have_one_cut.ensures c.args.width text t.0 (text_is text (scalars-chars c.args.text.now c.utf8.text)) t.1 t.2) c.septets_of-in-Err-TooManySegments.ensures

pub returns-in-Err-TooManySegments-clause-too_many : goal.returns-in-Err-TooManySegments-clause-too_many
returns-in-Err-TooManySegments-clause-too_many c e all h =
    let text = chars c.args.text.now in
    let t = (rw c.in-Err-TooManySegments.field-0-is at c.in-Err-TooManySegments.ensures.too_many) refl in
    over_too_many c.args.width text all c.args.best c.septets_of-in-Err-TooManySegments.result (too_many c.texts_have_one_cut.ensures c.args.width text t.0 (text_is text (scalars-chars c.args.text.now c.utf8.text)) t.1 t.2) c.septets_of-in-Err-TooManySegments.ensures e h

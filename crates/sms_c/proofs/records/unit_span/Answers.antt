use Rattle.std.proofs.Common.{ℕ, List, subst}
use Rattle.sms_card.specs.Stored.Seen.{seen_record}
use Rattle.sms_c.specs.Inside.UnitLengths.{UnitTakes}
use Rattle.sms_c.proofs.RecordSpans.{unit_lies, not_free}
use Rattle.sms_c.proofs.records.unit_span.Goals as goal

pub returns : goal.returns
returns c =
    unit_lies (seen_record c.args.view.now) c.args.octets.now c.args.length c.saturating_add-offset.result c.unit_length.result c.octets_from.ensures.short c.requires.whole (not_free c.args.view.now c.in_default.not-Free) c.requires.taken c.saturating_add-offset.ensures
    (subst (λ (l : List ℕ). UnitTakes (seen_record c.args.view.now) l c.unit_length.result) c.octets_from.ensures.from c.unit_length.ensures)

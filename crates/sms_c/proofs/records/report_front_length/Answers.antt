use Rattle.std.proofs.Common.{ℕ, List, subst}
use Rattle.sms_field.specs.Address.{address}
use Rattle.sms_field.specs.Reading.Lies.{TakesOctets}
use Rattle.sms_c.proofs.RecordSpans.{front_takes}
use Rattle.sms_c.proofs.records.report_front_length.Goals as goal

pub returns : goal.returns
returns c =
    front_takes c.args.octets.now c.length_in.result c.saturating_add.result c.octets_from.ensures.short
    (subst (λ (l : List ℕ). TakesOctets address l c.length_in.result) c.octets_from.ensures.from c.length_in.ensures)
    c.saturating_add.ensures

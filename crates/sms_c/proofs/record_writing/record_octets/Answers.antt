use Rattle.std.proofs.Common.{ℕ, List, Option, sym, ap, subst, ◌∙◌}
use Rattle.sms_field.specs.RelayAddress.Value.{RelayAddressValue}
use Rattle.sms_card.specs.Stored.Reading.{IsRecordIn}
use Rattle.sms_c.specs.RecordWriting.{front_octets}
use Rattle.sms_c.proofs.record_writing.record_octets.Goals as goal

pub returns-in_err-check_record-clause-exact : goal.returns-in_err-check_record-clause-exact
returns-in_err-check_record-clause-exact c = λ w one.
    let octets = c.deref.ensures.value ∙ c.in_ok-octets.ensures ∙ ap (λ (a : Option RelayAddressValue). front_octets c.args.fields.status a c.args.unit.now) c.in_ok-centre.ensures.told in
    let is = c.in_err-check_record.ensures.exact w.value (subst (λ (l : List ℕ). IsRecordIn l w.value) (sym octets) w.read) in
    cc

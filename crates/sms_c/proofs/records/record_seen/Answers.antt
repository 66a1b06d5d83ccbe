use Rattle.std.proofs.Common.{ℕ, List, subst, ◌∙◌, rules}
use Rattle.sms_field.specs.Reading.Lies.{TakesOctets}
use Rattle.sms_field.specs.RelayAddress.{relay_address}
use Rattle.sms_card.specs.Stored.Seen.{seen_record}
use Rattle.sms_c.proofs.RecordSpans.{centre_lies}
use Rattle.sms_c.proofs.records.record_seen.Goals as goal

pub unit_span-requires-clause-taken : goal.unit_span-requires-clause-taken
unit_span-requires-clause-taken c = subst (λ (l : List ℕ). TakesOctets relay_address l c.length_in-length.result) c.octets_from.ensures.from c.length_in-length.ensures

pub returns : goal.returns
returns c =
    record {
      status = search rules;
      kind = search rules;
      has_address = search rules;
      address = centre_lies (seen_record c.args.view.now) c.args.octets.now c.length_in-length.result c.centre_span.result c.octets_from.ensures.short c.requires (subst (λ (l : List ℕ). TakesOctets relay_address l c.length_in-length.result) c.octets_from.ensures.from c.length_in-length.ensures)
          (λ none. c.centre_span.ensures.none (c.has_centre-there.ensures ∙ none)) (λ some. c.centre_span.ensures.some (c.has_centre-there.ensures ∙ some));
      unit = search rules;
    }

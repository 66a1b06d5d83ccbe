-- What a reader of all the octets answers, by what it saw at a cursor.
use Rattle.std.proofs.Common.{◌≡◌, ◌≤◌, ◌<◌, ℕ, List, [], ◌++◌, length, take, Result, Ok, Err, IfOk, IfErr, IsOkAnd, get_or, refl, sym, ap, subst, ◌∙◌, arith, inl, inr, ◌⊎◌, ◌∷◌, append_assoc}
use Rattle.std.proofs.lemmas.List.{append-nil}
use Rattle.sms_text.specs.Octets.{IsOctets}
use Rattle.sms_field.specs.Field.{HasReading, CanContinue, IsFault}
use Rattle.sms_field.specs.Inside.OctetLists.{octets_are, octets_back, octets-append}
use Rattle.sms_field.specs.Inside.ReadableLaws.{reading_of, unread}
use Rattle.sms_field.specs.Inside.ReadingLaws.{one_reading, promise_found, promise_refused}
use Rattle.sms_field.specs.Reading.{Reads}
use Rattle.sms_field.specs.Reading.Answer.{SeesAs}
use Rattle.sms_field.specs.Reading.Spot.{Spot}
use Rattle.sms_field.specs.Reading.WholeAnswer.{IsFaultOf}
use Rattle.sms_field.specs.declared.refusal.Fault.{Fault}
use Rattle.sms_field.specs.declared.refusal.Refusal.TheVariants.{At}
use Rattle.sms_card.specs.Inside.RecordLaws.{card_record_lawful, card_record_ends}
use Rattle.sms_card.specs.Stored.{card_record}
use Rattle.sms_card.specs.Stored.Reading.{IsRecordIn, IsRecordFault, IsLongFault, octet_too_many}
use Rattle.sms_card.specs.Stored.Seen.{seen_record}
use Rattle.sms_card.specs.declared.fault.RecordFault.{RecordFault}
use Rattle.sms_card.specs.declared.fault.RecordFault.TheVariants.{Short, BadStatus, Centre, Unit as OfUnit, NotPadding, OtherLength}
use Rattle.sms_card.specs.declared.stored.Record.{Record}
use Rattle.sms_card.specs.declared.stored.view.RecordView.{RecordView}

pub record IsWhole (input : List ℕ) (result : Result RecordView (Fault RecordFault)) : Type 0 where
  pub found : IfOk result (λ view. IsRecordIn input (seen_record view))
  pub refused : IfErr result (IsFaultOf card_record Short input)
  pub exact : (r : Record) → IsRecordIn input r → IsOkAnd result (λ view. seen_record view ≡ r)

reads_all : (input : List ℕ) (r : Record) (used : ℕ) → Reads card_record r input used → Reads card_record r input (length input)
reads_all input r used h =
    let whole : input ≡ h.octets = h.parts ∙ ap (λ (l : List ℕ). h.octets ++ l) (card_record_ends r h.octets h.rest h.read) ∙ append-nil h.octets in
    record { octets = h.octets; rest = h.rest; parts = h.parts; used_is = ap length whole; read = h.read }

pub whole : (input : List ℕ) → length input ≤ 176 → ((i : ℕ) → get_or input i 0 < 256) → (start next : Spot) → start.place ≡ 0 → start.rest ≡ input
    → (result : Result RecordView (Fault RecordFault)) → SeesAs seen_record card_record start result next → IsWhole input result
whole input few fits start next at same (Ok view) e =
    let read : Reads card_record (seen_record view) input (length input) =
    reads_all input (seen_record view) next.place (promise_found card_record Short card_record_lawful input fits start.place start.rest at same (seen_record view) next.place next.rest e) in
    record {
      found = record { few = few; read = read };
      refused = tt;
      exact = λ r h. (one_reading card_record Short card_record_lawful r (seen_record view) input (length input) (length input) (octets_are input fits) h.read read).0;
    }
whole input few fits start next at same (Err fault) e =
    let refused = promise_refused card_record Short card_record_lawful input fits start.place start.rest at same (At fault.place fault.why) e in
    record {
      found = tt;
      refused = refused;
      exact = λ r h. absurd (unread card_record Short input fault.place fault.why (octets_are input fits) refused (reading_of card_record input r (length input) h.read));
    }

-- ---- more octets than a record has

pub found_goes_on : (front : List ℕ) (r : Record) → IsRecordIn front r → CanContinue card_record front
found_goes_on front r h = record {
  more = [];
  are_octets = tt;
  reading = record { value = r; octets = h.read.octets; rest = h.read.rest; parts = append-nil front ∙ h.read.parts; read = h.read.read };
}

stops_at : (front : List ℕ) → IsOctets front → (place : ℕ) (why : RecordFault) → IsFault card_record 0 front place why → ¬ CanContinue card_record front
stops_at front are place why h = λ c.
    let cut : front ≡ (h.front ++ h.octet ∷ []) ++ h.rest = h.parts ∙ sym (append_assoc h.front (h.octet ∷ []) h.rest) in
    let back : IsOctets h.rest = (octets_back h.front (h.octet ∷ h.rest) (subst IsOctets h.parts are)).1 in
    h.none_after (record {
      more = h.rest ++ c.more;
      are_octets = octets-append h.rest c.more back c.are_octets;
      reading = subst (HasReading card_record) (ap (λ (l : List ℕ). l ++ c.more) cut ∙ append_assoc (h.front ++ h.octet ∷ []) h.rest c.more) c.reading;
    })

in_front : (input front : List ℕ) → front ≡ take 176 input → (fault : Fault RecordFault) → IsLongFault front fault → IsLongFault (take 176 input) fault
in_front input front is fault h = subst (λ (l : List ℕ). IsLongFault l fault) is h

pub too_many : (input front : List ℕ) → front ≡ take 176 input → 176 < length input → CanContinue card_record front → IsRecordFault input octet_too_many
too_many input front is many sound = record {
  few = λ few. absurd (omega arith);
  many = λ _. in_front input front is octet_too_many (record { sound = λ _. refl; faulty = λ none. absurd (none sound) });
}

short_or_not : (why : RecordFault) → (why ≡ Short) ⊎ (why ≡ Short → ⊥)
short_or_not Short = inl refl
short_or_not BadStatus = inr (λ e. cc)
short_or_not (Centre why) = inr (λ e. cc)
short_or_not (OfUnit why) = inr (λ e. cc)
short_or_not NotPadding = inr (λ e. cc)
short_or_not OtherLength = inr (λ e. cc)

pub long_fault : (input front : List ℕ) (before after : Fault RecordFault) → front ≡ take 176 input → 176 < length input → IsOctets front → IsFaultOf card_record Short front before
    → (before.why ≡ Short → after ≡ octet_too_many) → ((before.why ≡ Short → ⊥) → after ≡ before) → IsRecordFault input after
long_fault input front before after is many are h short other = go (short_or_not before.why)
  where
    go : (before.why ≡ Short) ⊎ (before.why ≡ Short → ⊥) → IsRecordFault input after
    go (inl e) = subst (IsRecordFault input) (sym (short e)) (too_many input front is many (h.0 e).some)
    go (inr e) = subst (IsRecordFault input) (sym (other e)) (record {
      few = λ few. absurd (omega arith);
      many = λ _. in_front input front is before (record {
        sound = λ c. absurd (stops_at front are before.place before.why (h.1 e) c);
        faulty = λ _. h.1 e;
      });
    })

-- What is told of the answer to a piece.
use Rattle.std.specs.Prelude.{ℕ, List, [], Option, Some, None, Result, Ok, Err, if◌then◌else◌, codes}
use Rattle.std.specs.String.{string_bytes}
use Rattle.sms_field.specs.Address.Value.{AddressValue}
use Rattle.sms_join.specs.declared.offer.Offer.{Offer}
use Rattle.sms_join.specs.declared.offer.Offer.TheVariants.{Repeat, Kept, Finished}
use Rattle.sms_join.specs.declared.offer.OfferFault.{OfferFault}
use Rattle.sms_join.specs.declared.offer.OfferFault.TheVariants.{TooManyOpen, Memory}
use Rattle.sms_told.specs.declared.answer.Telling.{Telling}
use Rattle.sms_told.specs.Texts.{WholeValue, whole_text}
use Rattle.sms_told.specs.Notes.{note_text}

-- where a piece comes from
pub record SourceValue : Type 0 where
  -- the number of its line
  pub number : ℕ
  -- for whom it is, where the line says so
  pub recipient : Option AddressValue
  -- whom it is from (TP-OA)
  pub origin : AddressValue
  -- its moment, where it has one
  pub moment : Option ℕ

abbrev pub whole_of : Telling → SourceValue → List ℕ → WholeValue
whole_of telling source text =
    record {
      line = if telling.tells_lines then Some source.number else None;
      recipient = source.recipient;
      origin = source.origin;
      moment = source.moment;
      text = text;
    }

-- told in words, where all is told
abbrev pub noted : Telling → SourceValue → List ℕ → List ℕ
noted telling source words =
    if telling.is_verbose then note_text telling.form source.number words else []

-- a text that is whole is told, a repeat and a segment that is turned away where all is told, and
-- nothing of a piece that is kept
abbrev pub answer_text : Telling → SourceValue → Result Offer OfferFault → List ℕ
answer_text telling source (Ok (Finished text)) =
    whole_text telling.form (whole_of telling source (string_bytes text))
answer_text telling source (Ok Kept) = []
answer_text telling source (Ok Repeat) = noted telling source (codes "repeat")
answer_text telling source (Err TooManyOpen) = noted telling source (codes "too many open sets")
answer_text telling source (Err Memory) = []

-- What is written of a text.
use Rattle.std.specs.Prelude.{◌≡◌, ◌≤◌, ℕ, ◌==◌, if◌then◌else◌, Bool, true, false, List, length, slice_get, Some, Ok}
use Rattle.std.specs.Str.{chars}
use Rattle.sms_field.specs.Address.Value.{AddressValue}
use Rattle.sms_field.specs.Address.Text.{address_of_text}
use Rattle.sms_field.specs.declared.validity.Validity.{Validity}
use Rattle.sms_tpdu.specs.Deliver.{Delivery, SpellsDeliver}
use Rattle.sms_tpdu.specs.Submit.{Submission, SpellsSubmit}
use Rattle.sms_tpdu.specs.declared.user_data.concat.Width.{Width}
use Rattle.sms_join.specs.Segments.User.{user_of}
use Rattle.sms_join.specs.Segments.{AreSegments}
use Rattle.sms_join.specs.declared.segment.Segment.{Segment}
use Rattle.sms_c.specs.Class.{are_allowed, scheme_of}
use Rattle.sms_c.specs.Parts.{bits_of}
use Rattle.sms_c.specs.Times.{validity_of}
use Rattle.sms_c.specs.declared.writing.SubmitFields.{SubmitFields}
use Rattle.sms_c.specs.declared.writing.DeliverFields.{DeliverFields}

-- 0 is no, and all else is yes
abbrev pub is_set : ℕ → Bool
is_set octet = if octet == 0 then false else true

-- the fields, a recipient and a segment as an SMS-SUBMIT
abbrev pub submission : SubmitFields → Validity → AddressValue → Width → Segment → Submission
submission fields validity target width segment =
    record {
      reject = is_set fields.reject;
      validity = validity;
      report = is_set fields.report;
      reply = is_set fields.reply;
      reference = fields.reference;
      target = target;
      pid = fields.pid;
      dcs = scheme_of fields.message_class segment.units;
      user = user_of width fields.segments.reference segment;
    }

-- the fields, a sender and a segment as an SMS-DELIVER
abbrev pub delivery : DeliverFields → AddressValue → Width → Segment → Delivery
delivery fields origin width segment =
    record {
      more = is_set fields.more;
      looped = is_set fields.looped;
      report = is_set fields.report;
      reply = is_set fields.reply;
      origin = origin;
      pid = fields.pid;
      dcs = scheme_of fields.message_class segment.units;
      stamp = fields.stamp.octets;
      user = user_of width fields.segments.reference segment;
    }

-- the segment of an index of a text that is cut into so many, at most 255 (3GPP TS 23.040,
-- 9.2.3.24.1)
pub record IsPieceOf (text : List ℕ) (width : Width) (index count : ℕ) (segment : Segment)
    : Type 0 where
  pub segments : List Segment
  pub cut : AreSegments width (chars text) segments
  pub counted : count ≡ length segments
  pub few : count ≤ 255
  pub there : slice_get segments index ≡ Some segment

-- what becomes of the segment of an index of a text that is written as an SMS-SUBMIT
pub record OfSubmit (fields : SubmitFields) (target text : List ℕ) (index count : ℕ)
    (Out : List ℕ → Type 0) : Type 0 where
  pub allowed : are_allowed fields.message_class fields.spare ≡ true
  pub width : Width
  pub width_is : fields.segments.width ≡ bits_of width
  pub validity : Validity
  pub period : validity_of fields.validity ≡ Some validity
  pub address : AddressValue
  pub recipient : address_of_text (chars target) ≡ Ok address
  pub segment : Segment
  pub piece : IsPieceOf text width index count segment
  pub octets : List ℕ
  pub spelled : SpellsSubmit (submission fields validity address width segment) octets
  pub out : Out octets

-- what becomes of the segment of an index of a text that is written as an SMS-DELIVER
pub record OfDeliver (fields : DeliverFields) (origin text : List ℕ) (index count : ℕ)
    (Out : List ℕ → Type 0) : Type 0 where
  pub allowed : are_allowed fields.message_class fields.spare ≡ true
  pub width : Width
  pub width_is : fields.segments.width ≡ bits_of width
  pub address : AddressValue
  pub sender : address_of_text (chars origin) ≡ Ok address
  pub segment : Segment
  pub piece : IsPieceOf text width index count segment
  pub octets : List ℕ
  pub spelled : SpellsDeliver (delivery fields address width segment) octets
  pub out : Out octets

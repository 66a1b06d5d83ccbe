-- The units of segments.
use Rattle.std.specs.Prelude.{ℕ, ◌+◌, ◌%◌, false, List, [], ◌∷◌, Option, None, Some, unwrap_or}
use Rattle.sms_field.specs.declared.validity.Validity.{Validity}
use Rattle.sms_field.specs.declared.validity.Validity.TheVariants.{Absent, Relative}
use Rattle.sms_tpdu.specs.Deliver.{Delivery, SpellsDeliver}
use Rattle.sms_tpdu.specs.Submit.{SpellsSubmit, Submission}
use Rattle.sms_join.specs.declared.segment.Segment.{Segment}
use Rattle.sms_join.specs.Segments.User.{dcs_of, user_of}
use Rattle.sms_encode.specs.declared.draft.Draft.{Draft}
use Rattle.sms_encode.specs.declared.draft.DraftKind.{DraftKind}
use Rattle.sms_encode.specs.declared.draft.DraftKind.TheVariants.{Deliver, Submit}
use Rattle.sms_encode.specs.Frames.{FrameValue}

-- No more messages wait, none was forwarded, and no reply goes by the same centre. TP-SRI is as
-- asked.
abbrev pub delivery_of : Draft → FrameValue → Segment → Delivery
delivery_of draft frame segment =
    record {
      more = false;
      looped = false;
      report = draft.report;
      reply = false;
      origin = frame.address;
      pid = 0;
      dcs = dcs_of segment.units;
      stamp = frame.stamp;
      user = user_of frame.width frame.reference segment;
    }

-- TP-VP in one octet, where it is given
abbrev pub validity_of : Option ℕ → Validity
validity_of None = Absent
validity_of (Some octet) = Relative octet

-- TP-MR of the segment of a place, which counts from 0: that of the first, or 0, and one more for
-- each segment before, modulo 256
abbrev pub reference_at : Option ℕ → ℕ → ℕ
reference_at first place = (unwrap_or first 0 + place) % 256

-- No reply goes by the same centre. TP-RD, TP-VP and TP-SRR are as asked.
abbrev pub submission_of : Draft → FrameValue → ℕ → Segment → Submission
submission_of draft frame place segment =
    record {
      reject = draft.reject;
      validity = validity_of draft.validity;
      report = draft.report;
      reply = false;
      reference = reference_at draft.reference place;
      target = frame.address;
      pid = 0;
      dcs = dcs_of segment.units;
      user = user_of frame.width frame.reference segment;
    }

-- These octets are one of two units.
abbrev pub SpellsKind : DraftKind → Delivery → Submission → List ℕ → Type 0
SpellsKind Deliver delivery submission octets = SpellsDeliver delivery octets
SpellsKind Submit delivery submission octets = SpellsSubmit submission octets

-- These octets are the unit of the segment of a place, which counts from 0.
abbrev pub SpellsUnit : Draft → FrameValue → ℕ → Segment → List ℕ → Type 0
SpellsUnit draft frame place segment octets =
    SpellsKind draft.kind (delivery_of draft frame segment)
    (submission_of draft frame place segment) octets

-- Each segment, from this place on, has its unit; the order is the same.
abbrev pub AreUnits : Draft → FrameValue → ℕ → List Segment → List (List ℕ) → Type 0
AreUnits draft frame place [] [] = Unit {0}
AreUnits draft frame place (segment ∷ segments) (octets ∷ others) =
    SpellsUnit draft frame place segment octets
    × AreUnits draft frame (place + 1) segments others
AreUnits draft frame place [] (octets ∷ others) = ⊥
AreUnits draft frame place (segment ∷ segments) [] = ⊥

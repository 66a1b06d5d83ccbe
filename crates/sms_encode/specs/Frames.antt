-- What all segments of a text share.
use Rattle.std.specs.Prelude.{◌≡◌, ℕ, List, [], ◌∷◌, Ok, MatchOption, false, unwrap_or, if◌then◌else◌}
use Rattle.std.specs.Str.{chars}
use Rattle.sms_field.specs.Address.Text.{address_of_text}
use Rattle.sms_field.specs.Address.Value.{AddressValue}
use Rattle.sms_page.specs.Page.{maybe}
use Rattle.sms_show.specs.Digits.{said}
use Rattle.sms_tpdu.specs.declared.user_data.concat.Width.{Width}
use Rattle.sms_tpdu.specs.declared.user_data.concat.Width.TheVariants.{Eight, Sixteen}
use Rattle.sms_encode.specs.declared.draft.Draft.{Draft}
use Rattle.sms_encode.specs.Addresses.{AreCentreOctets}

pub record FrameValue : Type 0 where
  -- the other party: TP-OA of a delivery, TP-DA of a submission
  pub address : AddressValue
  -- TP-SCTS of a delivery
  pub stamp : List ℕ
  -- what stands before the unit
  pub before : List ℕ
  -- how wide the concatenation reference is
  pub width : Width
  -- the concatenation reference
  pub reference : ℕ

-- the first second of 2000 in UTC: two digits an octet, the first in the low half
abbrev pub first_second : List ℕ
first_second = 0 ∷ 16 ∷ 16 ∷ 0 ∷ 0 ∷ 0 ∷ 0 ∷ []

-- It is what the word says in hexadecimal digits; without a word the first second of 2000.
abbrev pub IsStampOf : Draft → List ℕ → Type 0
IsStampOf draft stamp =
    MatchOption draft.stamp (stamp ≡ first_second) (λ word. said false word.now ≡ Ok stamp)

-- The address of the service centre stands before the unit; without one nothing does, or for a
-- modem the octet 00.
abbrev pub IsBefore : Draft → List ℕ → Type 0
IsBefore draft before =
    MatchOption draft.centre (before ≡ maybe draft.is_for_modem 0)
    (λ text. AreCentreOctets (chars text.now) before)

abbrev pub width_of : Draft → Width
width_of draft = if draft.is_wide then Sixteen else Eight

-- 0 where none is given
abbrev pub concat_reference_of : Draft → ℕ
concat_reference_of draft = unwrap_or draft.concat_reference 0

-- This is what the draft says of all segments.
pub record IsFrame (draft : Draft) (frame : FrameValue) : Type 0 where
  pub address : address_of_text (chars draft.address.now) ≡ Ok frame.address
  pub stamp : IsStampOf draft frame.stamp
  pub before : IsBefore draft frame.before
  pub width : frame.width ≡ width_of draft
  pub reference : frame.reference ≡ concat_reference_of draft

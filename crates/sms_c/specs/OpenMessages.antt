-- The open messages of a joiner, as C goes through them.
use Rattle.std.specs.Prelude.{◌≡◌, ℕ, ◌<◌, ◌/◌, ◌%◌, Bool, not, ◌&&◌, ◌==◌, if◌then◌else◌, List, [], ◌∷◌, length, slice_index, Option, Some, None, is_some}
use Rattle.std.specs.Int.{bit_at}
use Rattle.sms_field.specs.Address.Text.{address_text}
use Rattle.sms_field.specs.Address.Value.{AddressValue}
use Rattle.sms_tpdu.specs.declared.user_data.concat.Width.{Width}
use Rattle.sms_join.specs.Key.{origin_of}
use Rattle.sms_join.specs.OpenSets.{SetValue, IsOpen, is_in}
use Rattle.sms_join.specs.OpenSets.Told.{first_from}
use Rattle.sms_join.specs.declared.key.Key.{Key}
use Rattle.sms_join.specs.declared.key.Key.TheVariants.{Segmented}
use Rattle.sms_c.specs.HandedOut.{OfText}
use Rattle.sms_c.specs.Parts.{bit, bits_of}
use Rattle.sms_c.specs.declared.joiner.telling.Cursor.{Cursor}
use Rattle.sms_c.specs.declared.joiner.telling.OpenMessage.{OpenMessage}

-- ---- one of them

-- what its segments share: whom they are from (TP-OA), and of information element 00 or 08 the
-- reference and the maximum (3GPP TS 23.040, 9.2.3.24.1 and 9.2.3.24.8)
pub record ShowsKey (key : Key) (seen : OpenMessage) : Type 0 where
  pub origin : AddressValue
  pub width : Width
  pub shared : key ≡ Segmented origin width seen.reference seen.maximum
  pub width_is : seen.width ≡ bits_of width
  pub kind : seen.type_of_number ≡ origin.kind
  pub plan : seen.plan ≡ origin.plan

-- bit n % 8 of octet n / 8 says whether the segment of sequence n has come
abbrev pub ShowsSequences : List ℕ → List ℕ → Type 0
ShowsSequences sequences come =
    (n : ℕ) → n < 256 → bit_at (slice_index come (n / 8)) (n % 8) ≡ bit (is_in n sequences)

-- some of its segments have come, and some not; and this is what is told of it
pub record ShowsSet (set : SetValue) (seen : OpenMessage) : Type 0 where
  pub is_open : IsOpen set
  pub seconds : seen.seconds ≡ set.opened
  pub opening : seen.opening ≡ set.turn
  pub key : ShowsKey set.key seen
  pub count : seen.count ≡ length set.sequences
  pub come : ShowsSequences set.sequences seen.come

-- the first of these sets whose number of opening is this one or above
pub record ShowsFirst (opening : ℕ) (told : List SetValue) (seen : OpenMessage) : Type 0 where
  pub set : SetValue
  pub first : first_from opening told ≡ Some set
  pub shows : ShowsSet set seen

-- ---- where a caller stands among them

-- It has begun, and the joiner has changed since.
abbrev pub is_stale : ℕ → Cursor → Bool
is_stale changes cursor = not (cursor.change == 0) && not (cursor.change == changes)

-- the status of a step: SMS_CHANGED, SMS_OK where there is a further one, or SMS_NOT_THERE
abbrev pub step_status : ℕ → List SetValue → Cursor → ℕ
step_status changes told cursor =
    if is_stale changes cursor then 11
    else (if is_some (first_from cursor.opening told) then 0 else 8)

-- ---- whom one of them is from

-- the set of this number of opening
abbrev pub opened_as : ℕ → List SetValue → Option SetValue
opened_as opening [] = None
opened_as opening (s ∷ ss) = if s.turn == opening then Some s else opened_as opening ss

-- what becomes of the text of the origin of the set of this number of opening
pub record OfOrigin (opening : ℕ) (told : List SetValue) (Out : List ℕ → Type 0) : Type 0 where
  pub set : SetValue
  pub there : opened_as opening told ≡ Some set
  pub spelled : OfText (address_text (origin_of set.key)) Out

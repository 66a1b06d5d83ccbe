-- The key by which the deliveries of a text are known as one message (3GPP TS 23.040, 9.2.3.24.1
-- and 9.2.3.24.8), and its segments, as the laws of the joiner ask for them. Lists have the newest
-- entry first.
use Rattle.std.specs.Prelude.{ℕ, Bool, false, ◌&&◌, if◌then◌else◌, ◌==◌, nat_lt, List, [], ◌∷◌, length, Option, Some, None}
use Rattle.sms_field.specs.Address.Value.{AddressValue}
use Rattle.sms_join.specs.declared.key.Key.{Key}
use Rattle.sms_join.specs.declared.key.Key.TheVariants.{Single, Segmented}
use Rattle.sms_join.specs.Arrivals.{Texts}
use Rattle.sms_field.specs.Time.Computed.{stamp_octets}
use Rattle.sms_message.specs.Address.{address_of}
use Rattle.sms_message.specs.Message.{Origin}
use Rattle.sms_centre.specs.Centre.State.{Acceptance}
use Rattle.sms_party.specs.Sent.{nth}
use Rattle.sms_party.specs.Sender.Texts.{Text}
use Rattle.sms_world.specs.Texts.{size_in, units_in}

abbrev pub is_from : Option Origin → Origin → Bool
is_from None o = false
is_from (Some p) o = p.text == o.text && p.segment == o.segment

-- the moment of the stamp with which the centre accepted this segment, if it did
abbrev pub stamp_given : List Acceptance → Origin → Option ℕ
stamp_given [] o = None
stamp_given (a ∷ past) o = if is_from a.origin o then Some a.stamp else stamp_given past o

abbrev pub stamp_in : Option ℕ → List ℕ
stamp_in None = []
stamp_in (Some stamp) = stamp_octets stamp

-- A text of more than one segment has originator, width, reference and maximum; a text of one has
-- originator and stamp.
abbrev pub key_in : List AddressValue → List Acceptance → ℕ → Option Text → Key
key_in phones accepted n None = Single (address_of [] 0) []
key_in phones accepted n (Some t) =
    if nat_lt 1 (length t.pieces)
    then Segmented (address_of phones t.phone) t.width t.set_reference (length t.pieces)
    else Single (address_of phones t.phone)
    (stamp_in (stamp_given accepted (record { text = n; segment = 1 })))

unfoldable pub texts_of : List AddressValue → List Text → List Acceptance → Texts
texts_of phones texts accepted =
    record {
      key = λ n. key_in phones accepted n (nth texts n);
      size = size_in texts;
      units = λ n s. units_in (nth texts n) s;
    }

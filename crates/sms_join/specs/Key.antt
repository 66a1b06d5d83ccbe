-- When two pieces are of one set (3GPP TS 23.040, 9.2.3.24.1 and 9.2.3.24.8).
use Rattle.std.specs.Prelude.{ℕ, Bool, true, false, ◌&&◌, ◌==◌, Option, None, Some}
use Rattle.std.specs.Str.{bytes_eq}
use Rattle.sms_field.specs.Address.Same.{same_address}
use Rattle.sms_field.specs.Address.Value.{AddressValue}
use Rattle.sms_tpdu.specs.declared.user_data.concat.Width.{Width}
use Rattle.sms_tpdu.specs.declared.user_data.concat.Width.TheVariants.{Eight, Sixteen}
use Rattle.sms_join.specs.declared.key.Key.{Key}
use Rattle.sms_join.specs.declared.key.Key.TheVariants.{Single, Segmented, SingleTo, SegmentedTo}

unfoldable pub same_width : Width → Width → Bool
same_width Eight Eight = true
same_width Sixteen Sixteen = true
same_width Eight Sixteen = false
same_width Sixteen Eight = false

-- Messages in one piece are the same where origin and time stamp are. Segments are of one message
-- where origin, width of the reference, the whole reference and the maximum are the same. Of those
-- for recipients the recipient is the same too. No message in one piece is one in segments, and
-- none without a recipient is one for a recipient.
unfoldable pub same_key : Key → Key → Bool
same_key (Single a s) (Single b t) = same_address a b && bytes_eq s t
same_key (Segmented a w r m) (Segmented b v q n) =
    same_address a b && (same_width w v && (r == q && m == n))
same_key (SingleTo x a s) (SingleTo y b t) =
    same_address x y && (same_address a b && bytes_eq s t)
same_key (SegmentedTo x a w r m) (SegmentedTo y b v q n) =
    same_address x y && (same_address a b && (same_width w v && (r == q && m == n)))
same_key _ _ = false

-- How many pieces the set has: one for a message in one piece, else the maximum of its segments.
abbrev pub maximum_of : Key → ℕ
maximum_of (Single origin stamp) = 1
maximum_of (Segmented origin width reference maximum) = maximum
maximum_of (SingleTo recipient origin stamp) = 1
maximum_of (SegmentedTo recipient origin width reference maximum) = maximum

-- Whom its pieces are from (TP-OA).
abbrev pub origin_of : Key → AddressValue
origin_of (Single origin stamp) = origin
origin_of (Segmented origin width reference maximum) = origin
origin_of (SingleTo recipient origin stamp) = origin
origin_of (SegmentedTo recipient origin width reference maximum) = origin

-- For whom they are, where a recipient is told.
abbrev pub recipient_of : Key → Option AddressValue
recipient_of (Single origin stamp) = None
recipient_of (Segmented origin width reference maximum) = None
recipient_of (SingleTo recipient origin stamp) = Some recipient
recipient_of (SegmentedTo recipient origin width reference maximum) = Some recipient

-- Both are there and the same, or neither is.
unfoldable pub same_recipient : Option AddressValue → Option AddressValue → Bool
same_recipient None None = true
same_recipient (Some r) (Some q) = same_address r q
same_recipient None (Some q) = false
same_recipient (Some r) None = false

-- The key is of this recipient, or of none.
abbrev pub is_for : Option AddressValue → Key → Bool
is_for recipient k = same_recipient (recipient_of k) recipient

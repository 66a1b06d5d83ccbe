-- A reader may pass this by: contracts of private functions, and proofs, alone cite it.
--
-- The tags of keys: numbers that keys of one message share, and that other keys seldom have.
use Rattle.std.specs.Prelude.{◌≡◌, ℕ, ◌+◌, ◌*◌, ◌%◌, ◌^◌, ◌-◌, List, [], ◌∷◌, length, nat_lt, slice_index, if◌then◌else◌, Option, None, Some}
use Rattle.sms_field.specs.Address.Value.{AddressValue}
use Rattle.sms_field.specs.declared.symbols.Symbols.{Symbols}
use Rattle.sms_field.specs.declared.symbols.Symbols.TheVariants.{Digits, Name}
use Rattle.sms_join.specs.declared.key.Key.{Key}
use Rattle.sms_join.specs.declared.key.Key.TheVariants.{Single, Segmented, SingleTo, SegmentedTo}

-- the digits of an address, or the septets of its name
abbrev pub symbols_in : Symbols → List ℕ
symbols_in (Digits digits) = digits
symbols_in (Name septets) = septets

abbrev pub symbols_of : AddressValue → List ℕ
symbols_of address = symbols_in address.symbols

-- a number of the last two symbols, 0 where there are fewer
abbrev pub mark_of : List ℕ → ℕ
mark_of symbols =
    if nat_lt (length symbols) 2 then 0
    else 16 * slice_index symbols (length symbols - 2) + slice_index symbols (length symbols - 1)

-- the same of a recipient, 0 where there is none
abbrev pub mark_to : Option AddressValue → ℕ
mark_to None = 0
mark_to (Some recipient) = mark_of (symbols_of recipient)

-- sixteen bits of two numbers, the recipient and the origin
abbrev pub mixed : ℕ → ℕ → Option AddressValue → AddressValue → ℕ
mixed high low recipient origin =
    (256 * (high + mark_of (symbols_of origin) + mark_to recipient) + low) % 2 ^ 16

-- the day, the hour and the minute of a time stamp, added up
abbrev pub minute_of : List ℕ → ℕ
minute_of stamp = slice_index stamp 2 + slice_index stamp 3 + slice_index stamp 4

-- of a message in one piece by the day, the hour, the minute and the second of its time stamp, of
-- one in segments by their maximum and reference
abbrev pub tag_of : Key → ℕ
tag_of (Single origin stamp) = mixed (minute_of stamp) (slice_index stamp 5) None origin
tag_of (Segmented origin width reference maximum) = mixed maximum reference None origin
tag_of (SingleTo recipient origin stamp) =
    mixed (minute_of stamp) (slice_index stamp 5) (Some recipient) origin
tag_of (SegmentedTo recipient origin width reference maximum) =
    mixed maximum reference (Some recipient) origin

-- The keys have these tags, in this order, as far as there are both.
abbrev pub HaveTags : List Key → List ℕ → Type 0
HaveTags [] tags = Unit {0}
HaveTags (key ∷ keys) [] = Unit {0}
HaveTags (key ∷ keys) (tag ∷ tags) = (tag ≡ tag_of key) × HaveTags keys tags

-- The one spelling of a state. Numbers stand with their highest octet first.
use Rattle.std.specs.Prelude.{ℕ, Bool, true, false, List, [], ◌∷◌, ◌++◌, length, Option, Some, None}
use Rattle.std.specs.List.{flat_map}
use Rattle.std.specs.Int.{w16, w64, to_be_bytes}
use Rattle.sha2.specs.Sha512.{sha512_256}
use Rattle.sms_saved.specs.declared.state.Limits.{Limits}
use Rattle.sms_saved.specs.declared.state.Message.{Message}
use Rattle.sms_saved.specs.declared.state.Message.TheVariants.{Single, Segmented}
use Rattle.sms_saved.specs.declared.state.Width.{Width}
use Rattle.sms_saved.specs.declared.state.Width.TheVariants.{Eight, Sixteen}
use Rattle.sms_saved.specs.declared.state.Key.{Key}
use Rattle.sms_saved.specs.declared.state.Remembered.{Remembered}
use Rattle.sms_saved.specs.Value.{UnitsValue, SetValue, StateValue}

abbrev pub octet : ℕ → List ℕ
octet n = n ∷ []

-- a number in two octets
unfoldable pub two : ℕ → List ℕ
two n = to_be_bytes w16 n

-- a number in eight octets
unfoldable pub eight : ℕ → List ℕ
eight n = to_be_bytes w64 n

-- how many there are, and these
abbrev pub counted : {A : Type 0} → (A → List ℕ) → List A → List ℕ
counted text xs = eight (length xs) ++ flat_map text xs

-- 0, or 1 and the value
abbrev pub optional : {A : Type 0} → (A → List ℕ) → Option A → List ℕ
optional text None = 0 ∷ []
optional text (Some x) = 1 ∷ text x

abbrev pub flag : Bool → List ℕ
flag false = 0 ∷ []
flag true = 1 ∷ []

abbrev pub limits : Limits → List ℕ
limits l =
    eight l.sets ++ eight l.keys ++ eight l.age_of_sets ++ optional eight l.age_of_keys
    ++ flag l.passes_singles

-- how many octets there are, and these
abbrev pub string : (ℕ → List ℕ) → List ℕ → List ℕ
string number octets = number (length octets) ++ octets

abbrev pub address : List ℕ → List ℕ
address octets = string octet octets

abbrev pub form_of : Width → ℕ
form_of Eight = 1
form_of Sixteen = 2

-- 0 and the stamp; or 1 or 2 by the width, the reference and the maximum
abbrev pub message : Message → List ℕ
message (Single stamp) = 0 ∷ stamp
message (Segmented width reference maximum) = form_of width ∷ (two reference ++ octet maximum)

unfoldable pub key : Key → List ℕ
key k = address k.origin ++ optional address k.recipient ++ message k.message

-- 1 and septets, one an octet; or 2 and 16-bit units
abbrev pub numbers : (is_wide : Bool) → List ℕ → List ℕ
numbers false septets = 1 ∷ string eight septets
numbers true units = 2 ∷ counted two units

-- 0 where the piece has not come
abbrev pub place : Option UnitsValue → List ℕ
place None = 0 ∷ []
place (Some u) = numbers u.is_wide u.numbers

-- what stands before the places of a set, of which the key says how many there are
abbrev pub front_of_set : Key → (moment opening : ℕ) → List ℕ
front_of_set k moment opening = key k ++ eight moment ++ eight opening

abbrev pub set : SetValue → List ℕ
set s = front_of_set s.key s.moment s.opening ++ flat_map place s.places

abbrev pub remembered : Remembered → List ℕ
remembered r = key r.key ++ eight r.moment

-- SMSSTATE
abbrev pub magic : List ℕ
magic = 0x53 ∷ 0x4D ∷ 0x53 ∷ 0x53 ∷ 0x54 ∷ 0x41 ∷ 0x54 ∷ 0x45 ∷ []

-- and version 1
abbrev pub head : List ℕ
head = magic ++ 1 ∷ []

-- what stands before the open sets and their number
abbrev pub front : Limits → (taken next : ℕ) → List ℕ
front l taken next = head ++ limits l ++ eight taken ++ eight next

unfoldable pub body : StateValue → List ℕ
body s = front s.limits s.taken s.next ++ counted set s.sets ++ counted remembered s.keys

-- SHA-512/256 of the octets
unfoldable pub digest : List ℕ → List ℕ
digest octets = sha512_256 octets

abbrev pub spelling : StateValue → List ℕ
spelling s = body s ++ digest (body s)

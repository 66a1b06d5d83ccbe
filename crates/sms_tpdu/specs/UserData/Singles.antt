-- User data alone whose septets stand one an octet, with no fill bits.
use Rattle.std.specs.Prelude.{◌≡◌, ℕ, zero, suc, ◌+◌, ◌-◌, Bool, true, false, List, [], ◌∷◌, ◌++◌, length, Option, Some, None, Result, Ok, Err, MatchResult, nat_le, if◌then◌else◌}
use Rattle.sms_text.specs.Octets.{IsOctets}
use Rattle.sms_field.specs.Field.{Field, ◌>>=◌, always, octet_by, octets_of, up_to}
use Rattle.sms_field.specs.declared.coding.Alphabet.TheVariants.{Gsm7}
use Rattle.sms_field.specs.declared.refusal.Fault.{Fault}
use Rattle.sms_tpdu.specs.UserData.{header_octets, FitsAlphabet, has_header}
use Rattle.sms_tpdu.specs.UserData.Alone.{SeesFrom}
use Rattle.sms_tpdu.specs.UserData.Lengths.{length_of_header}
use Rattle.sms_tpdu.specs.declared.user_data.data_fault.DataFault.{DataFault}
use Rattle.sms_tpdu.specs.declared.user_data.data_fault.DataFault.TheVariants.{Short, DataTooLong, HeaderTooLong, BadSeptet}
use Rattle.sms_tpdu.specs.declared.user_data.body.Body.{Body}
use Rattle.sms_tpdu.specs.declared.user_data.body.Body.TheVariants as body
use Rattle.sms_tpdu.specs.declared.user_data.lengths.TheConstants.{SEPTETS_MAX}
use Rattle.sms_tpdu.specs.declared.user_data.UserData.{UserData}

-- ---- as they are read

-- so many octets that are septets; one of 128 and more: BadSeptet
unfoldable pub each_septet : ℕ → Field (List ℕ) DataFault
each_septet zero = always []
each_septet (suc n) = do
  septet ← octet_by Short (up_to 127 BadSeptet)
  others ← each_septet n
  always (septet ∷ others)

-- how many octets there can be: at most 160 septets, and with a header an octet for its length
abbrev pub singles_for : Bool → ℕ → Result ℕ DataFault
singles_for false total = up_to SEPTETS_MAX DataTooLong total
singles_for true total =
    if nat_le total 159
    then (if nat_le 1 total then Ok total else Err HeaderTooLong)
    else Err DataTooLong

-- a header that the octets have room for, and with which the septets after it are not too many
abbrev pub singles_header : ℕ → ℕ → Result ℕ DataFault
singles_header total size =
    if nat_le (size + 1) total
    then (if nat_le (length_of_header Gsm7 (size + 1) + (total - (size + 1))) SEPTETS_MAX
    then Ok size
    else Err DataTooLong)
    else Err HeaderTooLong

-- so many octets
unfoldable pub singles_of : Bool → ℕ → Field UserData DataFault
singles_of false total = do
  septets ← each_septet total
  always (record { header = None; body = body.Septets septets })
singles_of true total = do
  -- UDHL
  size ← octet_by Short (singles_header total)
  -- the elements of the header
  header ← octets_of Short size
  -- the septets
  septets ← each_septet (total - (size + 1))
  always (record { header = Some header; body = body.Septets septets })

-- a header, and septets
abbrev pub singles_in : Option (List ℕ) → List ℕ → UserData
singles_in header septets = record { header = header; body = body.Septets septets }

-- a length that cannot be is told at place 0
abbrev pub SeesSingles : Bool → List ℕ → Result (UserData × ℕ) (Fault DataFault) → Type 0
SeesSingles with_header input result =
    MatchResult (singles_for with_header (length input))
    (λ total. SeesFrom (singles_of with_header total) Short input result)
    (λ why. result ≡ Err (record { place = 0; why = why }))

-- ---- as they are written

abbrev pub septets_in : Body → List ℕ
septets_in (body.Septets septets) = septets
septets_in (body.Octets octets) = []

-- the header, a septet an octet
abbrev pub single_octets : UserData → List ℕ
single_octets user = header_octets user.header ++ septets_in user.body

-- ---- laws

-- what is written is read back, and nothing else is read
abbrev pub SinglesComeBack : Type 0
SinglesComeBack =
    (user : UserData) (rest : List ℕ) → FitsAlphabet Gsm7 user
    → (singles_for (has_header user) (length (single_octets user))
    ≡ Ok (length (single_octets user)))
    × (singles_of (has_header user) (length (single_octets user))).reads user (single_octets user)
    rest

abbrev pub SinglesAreWritten : Type 0
SinglesAreWritten =
    (with_header : Bool) (total : ℕ) (user : UserData) (octets rest : List ℕ) → IsOctets octets
    → singles_for with_header total ≡ Ok total
    → (singles_of with_header total).reads user octets rest
    → (octets ≡ single_octets user) × (length octets ≡ total) × FitsAlphabet Gsm7 user

-- User data alone, with no unit around them: their length is told beside them, or is that of their
-- octets (3GPP TS 23.040, 9.2.3.24).
use Rattle.std.specs.Prelude.{◌≡◌, ℕ, ◌+◌, ◌-◌, ◌*◌, ◌/◌, ◌<◌, Bool, true, false, List, ◌∷◌, ◌++◌, length, Some, None, Result, Ok, Err, IfOk, IfErr, MatchResult}
use Rattle.sms_text.specs.Bits.{Packed}
use Rattle.sms_text.specs.Octets.{IsOctets}
use Rattle.sms_field.specs.Field.{Field, refused, ◌>>=◌, always, octet_by, octets_of, up_to}
use Rattle.sms_field.specs.Reading.{Reads}
use Rattle.sms_field.specs.Reading.WholeAnswer.{IsFaultOf, SeesExactly}
use Rattle.sms_field.specs.declared.coding.Alphabet.{Alphabet}
use Rattle.sms_field.specs.declared.coding.Alphabet.TheVariants.{Gsm7}
use Rattle.sms_field.specs.declared.refusal.Fault.{Fault}
use Rattle.sms_tpdu.specs.UserData.{header_octets, FitsAlphabet, body_of, length_with_header, header_length, user_data, has_header, length_in, SpellsBody}
use Rattle.sms_tpdu.specs.UserData.Lengths.{greatest_length, octets_of_length, fill_bits}
use Rattle.sms_tpdu.specs.declared.fault.UnitFault.{UnitFault}
use Rattle.sms_tpdu.specs.declared.fault.UnitFault.TheVariants.{Short, DataTooLong}
use Rattle.sms_tpdu.specs.declared.user_data.body.Body.TheVariants as body
use Rattle.sms_tpdu.specs.declared.user_data.UserData.{UserData}
use Rattle.sms_tpdu.specs.declared.user_data.view.alone.Length.{Length}
use Rattle.sms_tpdu.specs.declared.user_data.view.alone.Length.TheVariants.{Told, Whole}

-- ---- as they are read

-- a length that can be: with a header, one that has room for the shortest
abbrev pub count_for : Bool → Alphabet → ℕ → Result ℕ UnitFault
count_for false alphabet count = up_to (greatest_length alphabet) DataTooLong count
count_for true alphabet count = length_with_header alphabet count

-- the data of a length, as a unit has them after TP-UDL
unfoldable pub data_of : Bool → Alphabet → ℕ → Field UserData UnitFault
data_of false alphabet count = do
  -- TP-UD
  octets ← octets_of Short (octets_of_length alphabet count)
  always (record { header = None; body = body_of alphabet 0 count octets })
data_of true alphabet count = do
  -- UDHL; longer than the data: HeaderTooLong
  size ← octet_by Short (header_length alphabet count)
  -- the elements of the header
  header ← octets_of Short size
  -- the rest of TP-UD
  octets ← octets_of Short (octets_of_length alphabet count - (size + 1))
  always (record { header = Some header; body = body_of alphabet (size + 1) count octets })

-- the length of so many octets: as many septets as fit whole, or the octets
abbrev pub whole_length : Alphabet → ℕ → ℕ
whole_length Gsm7 size = 8 * size / 7
whole_length _ size = size

-- the length that is told, or that of so many octets
abbrev pub length_by : Length → Alphabet → ℕ → ℕ
length_by (Told count) alphabet size = count
length_by Whole alphabet size = whole_length alphabet size

-- what a reader from the front of an input answers, by a field
pub record SeesFrom {V W : Type 0} (field : Field V W) (short : W) (input : List ℕ)
    (result : Result (V × ℕ) (Fault W)) : Type 0 where
  pub found : IfOk result (λ x. Reads field x.0 input x.1)
  pub refused : IfErr result (IsFaultOf field short input)
  pub exact : SeesExactly (λ v. v) field input result

-- a length that cannot be is told at place 0
abbrev pub SeesAlone : Bool → Alphabet → ℕ → List ℕ → Result (UserData × ℕ) (Fault UnitFault)
    → Type 0
SeesAlone with_header alphabet count input result =
    MatchResult (count_for with_header alphabet count)
    (λ count. SeesFrom (data_of with_header alphabet count) Short input result)
    (λ why. result ≡ Err (record { place = 0; why = why }))

-- ---- as they are written

-- the header, the body
pub record SpellsAlone (user : UserData) (octets : List ℕ) : Type 0 where
  pub written : List ℕ
  pub spells_body : SpellsBody (length (header_octets user.header)) user.body written
  pub parts : octets ≡ header_octets user.header ++ written

-- ---- laws

-- after its TP-UDL a unit reads what is read alone under that length, and refuses it as a unit would
abbrev pub UnitsReadTheSame : Type 0
UnitsReadTheSame =
    (with_header : Bool) (alphabet : Alphabet) (at count : ℕ) (input : List ℕ)
    → MatchResult (count_for with_header alphabet count)
    (λ told. (user_data with_header alphabet).read at (count ∷ input)
    ≡ (data_of with_header alphabet told).read (at + 1) input)
    (λ why. (user_data with_header alphabet).read at (count ∷ input) ≡ refused at why)

-- what is written is read under its length
abbrev pub AloneComesBack : Type 0
AloneComesBack =
    (alphabet : Alphabet) (user : UserData) (octets rest : List ℕ) → FitsAlphabet alphabet user
    → SpellsAlone user octets
    → (count_for (has_header user) alphabet (length_in user) ≡ Ok (length_in user))
    × (data_of (has_header user) alphabet (length_in user)).reads user octets rest

-- the length of the octets is that of the data, if fewer than seven bits are spare
abbrev pub WholeIsLength : Type 0
WholeIsLength =
    (alphabet : Alphabet) (user : UserData) (octets : List ℕ) → FitsAlphabet alphabet user
    → SpellsAlone user octets
    → 8 * length octets < 7 * length_in user + 7
    → whole_length alphabet (length octets) ≡ length_in user

-- what is read goes with its alphabet, has the header and the length that were told and takes the
-- octets of that length; septets are those that the octets after the header pack, with any fill and
-- spare bits; under an alphabet of octets the octets are those that are written for it
pub record IsKept (with_header : Bool) (alphabet : Alphabet) (count : ℕ) (user : UserData)
    (octets : List ℕ) : Type 0 where
  pub fits : FitsAlphabet alphabet user
  pub headed : has_header user ≡ with_header
  pub counted : length_in user ≡ count
  pub size : length octets ≡ octets_of_length alphabet count
  pub written : List ℕ
  pub parts : octets ≡ header_octets user.header ++ written
  pub packed : (septets : List ℕ) → user.body ≡ body.Septets septets
      → Packed (fill_bits (length (header_octets user.header))) septets written
  pub same : (alphabet ≡ Gsm7 → ⊥) → SpellsAlone user octets

abbrev pub AloneIsKept : Type 0
AloneIsKept =
    (with_header : Bool) (alphabet : Alphabet) (count : ℕ) (user : UserData) (octets rest : List ℕ)
    → IsOctets octets → count_for with_header alphabet count ≡ Ok count
    → (data_of with_header alphabet count).reads user octets rest
    → IsKept with_header alphabet count user octets

-- what is read and written again is read as the same under the same length, of as many octets
abbrev pub AloneIsRewritten : Type 0
AloneIsRewritten =
    (with_header : Bool) (alphabet : Alphabet) (count : ℕ) (user : UserData)
    (octets rest again more : List ℕ)
    → IsOctets octets → count_for with_header alphabet count ≡ Ok count
    → (data_of with_header alphabet count).reads user octets rest → SpellsAlone user again
    → (data_of with_header alphabet count).reads user again more × (length again ≡ length octets)

-- Where header and body of user data lie in the octets of which they were read (3GPP TS 23.040,
-- 9.2.3.24).
use Rattle.std.specs.Prelude.{◌≡◌, ℕ, ◌+◌, ◌-◌, Bool, List, length, drop, Option, Some, None, option_map}
use Rattle.sms_text.specs.Bits.{unpacked}
use Rattle.sms_field.specs.declared.coding.Alphabet.{Alphabet}
use Rattle.sms_field.specs.declared.coding.Alphabet.TheVariants.{Gsm7}
use Rattle.sms_field.specs.declared.span.Span.{Span}
use Rattle.sms_field.specs.Reading.Lies.{octets_at}
use Rattle.sms_field.specs.Reading.{Reads}
use Rattle.sms_tpdu.specs.UserData.{header_octets, data_length, user_data}
use Rattle.sms_tpdu.specs.UserData.Lengths.{octets_of_length, fill_bits}
use Rattle.sms_tpdu.specs.declared.user_data.body.Body.{Body}
use Rattle.sms_tpdu.specs.declared.user_data.body.Body.TheVariants as body
use Rattle.sms_tpdu.specs.declared.user_data.UserData.{UserData}
use Rattle.sms_tpdu.specs.declared.user_data.spans.UserSpans.{UserSpans}

-- the header lies in the input at the span, if there is one
abbrev pub HeaderLies : Option (List ℕ) → List ℕ → Option Span → Type 0
HeaderLies None input None = Unit {0}
HeaderLies None input (Some span) = ⊥
HeaderLies (Some header) input None = ⊥
HeaderLies (Some header) input (Some span) = octets_at input span ≡ header

-- the body is what these octets hold: septets after some bits, or the octets
abbrev pub IsHeldIn : Body → ℕ → List ℕ → Type 0
IsHeldIn (body.Septets septets) fill octets = unpacked fill (length septets) octets ≡ septets
IsHeldIn (body.Octets values) fill octets = octets ≡ values

-- of user data that were read in the input from a place to an end: their header and their body
pub record UserLies (user : UserData) (input : List ℕ) (place end : ℕ) (spans : UserSpans)
    : Type 0 where
  pub header : HeaderLies user.header input spans.header
  pub body : IsHeldIn user.body spans.fill (octets_at input spans.body)
  -- TP-UDL, the header, the body
  pub begins : spans.body.offset ≡ place + 1 + length (header_octets user.header)
  pub ends : spans.body.offset + spans.body.length ≡ end

-- ---- computed

-- how many octets hold a body after those of a header
abbrev pub body_size : ℕ → Body → ℕ
body_size taken (body.Septets septets) =
    octets_of_length Gsm7 (data_length taken (body.Septets septets)) - taken
body_size taken (body.Octets octets) = length octets

-- how many septets or octets it has
abbrev pub body_count : Body → ℕ
body_count (body.Septets septets) = length septets
body_count (body.Octets octets) = length octets

-- the bits before its first septet
abbrev pub fill_of : ℕ → Body → ℕ
fill_of taken (body.Septets septets) = fill_bits taken
fill_of taken (body.Octets octets) = 0

abbrev pub span_of : ℕ → ℕ → Span
span_of offset size = record { offset = offset; length = size }

-- of user data that end before a place
abbrev pub spans_before : ℕ → UserData → UserSpans
spans_before end user =
    let taken : ℕ = length (header_octets user.header) in
    let size : ℕ = body_size taken user.body in
    record {
      header = option_map (λ header. span_of (end - size - length header) (length header))
          user.header;
      body = span_of (end - size) size;
      fill = fill_of taken user.body;
    }

-- ---- a law

-- what is computed is where they lie
abbrev pub UserDataLie : Type 0
UserDataLie =
    (headed : Bool) (alphabet : Alphabet) (user : UserData) (input : List ℕ) (place used : ℕ)
    → Reads (user_data headed alphabet) user (drop place input) used
    → UserLies user input place (place + used) (spans_before (place + used) user)

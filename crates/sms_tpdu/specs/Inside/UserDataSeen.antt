-- A reader may pass this by: contracts of private functions, and proofs, alone cite it.
--
-- User data seen in a unit's octets (3GPP TS 23.040, 9.2.3.24).
use Rattle.std.specs.Prelude.{◌≡◌, ℕ, ◌+◌, ◌-◌, ◌*◌, ◌≤◌, ◌<◌, List, length, Option}
use Rattle.sms_text.specs.Octets.{IsOctets}
use Rattle.sms_field.specs.declared.coding.Alphabet.{Alphabet}
use Rattle.sms_tpdu.specs.UserData.Lengths.{greatest_length, octets_of_length, length_of_header}
use Rattle.sms_tpdu.specs.UserData.{header_octets, body_of}
use Rattle.sms_tpdu.specs.UserData.Spans.{fill_of}
use Rattle.sms_tpdu.specs.declared.user_data.UserData.{UserData}

-- the octets after the header, under a length
abbrev pub user_data_in : Option (List ℕ) → Alphabet → ℕ → List ℕ → UserData
user_data_in header alphabet count octets =
    record { header = header; body = body_of alphabet (length (header_octets header)) count octets }

-- `fill` bits before the first septet, and `left` septets or octets after the header
pub record IsUserDataIn (header : Option (List ℕ)) (alphabet : Alphabet) (count : ℕ)
    (octets : List ℕ) (fill left : ℕ) : Type 0 where
  pub few : count ≤ greatest_length alphabet
  pub room : length_of_header alphabet (length (header_octets header)) ≤ count
  pub whole : length octets ≡ octets_of_length alphabet count - length (header_octets header)
  pub header_fits : IsOctets (header_octets header)
  pub octets_fit : IsOctets octets
  pub filled : fill ≡ fill_of (length (header_octets header))
      (body_of alphabet (length (header_octets header)) count octets)
  pub counted : left ≡ count - length_of_header alphabet (length (header_octets header))

-- septets after some bits
abbrev pub AreSeptetsIn : ℕ → ℕ → List ℕ → Type 0
AreSeptetsIn fill count octets = (fill < 7) × (fill + 7 * count ≤ 8 * length octets)

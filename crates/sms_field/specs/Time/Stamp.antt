-- Time stamps of a service centre (3GPP TS 23.040, 9.2.3.11).
use Rattle.std.specs.Prelude.{◌≡◌, ℕ, List, length}
use Rattle.sms_text.specs.Octets.{IsOctets}
use Rattle.sms_field.specs.Field.{Field, octets_of}

-- a stamp is read as its seven octets, whatever they are
abbrev pub stamp : {W : Type 0} → W → Field (List ℕ) W
stamp short = octets_of short 7

-- seven octets, of any values
abbrev pub IsStamp : List ℕ → Type 0
IsStamp octets = (length octets ≡ 7) × IsOctets octets

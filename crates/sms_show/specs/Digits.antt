-- The octets that a word or a line says.
use Rattle.std.specs.Prelude.{◌≡◌, ℕ, ◌==◌, ◌&&◌, Bool, List, [], length, get_or, Result, Ok, Err, ⊤, if◌then◌else◌}
use Rattle.sms_page.specs.Hexadecimal.{octets_of}
use Rattle.sms_show.specs.declared.fault.ShowFault.{ShowFault}
use Rattle.sms_show.specs.declared.fault.ShowFault.TheVariants.{Unit, Message, Record, Septets, BadScheme, BadHex, LineTooLong, Read, Write, Memory}

-- a hyphen, which says no octets
abbrev pub is_hyphen : List ℕ → Bool
is_hyphen digits = (length digits == 1) && (get_or digits 0 0 == 45)

-- the octets, or the place of the first octet that is wrong
abbrev pub said : Bool → List ℕ → Result (List ℕ) ℕ
said has_blanks digits = if is_hyphen digits then Ok [] else octets_of has_blanks digits

-- the fault tells that place, or that memory ran out
abbrev pub Tells : ShowFault → Result (List ℕ) ℕ → Type 0
Tells (Unit fault) said = ⊥
Tells (Message fault) said = ⊥
Tells (Record fault) said = ⊥
Tells (Septets fault) said = ⊥
Tells BadScheme said = ⊥
Tells (BadHex spot) said = said ≡ Err spot.place
Tells LineTooLong said = ⊥
Tells Read said = ⊥
Tells Write said = ⊥
Tells Memory said = ⊤

-- A body that is read goes with its alphabet.
use Rattle.std.proofs.Common.{◌≡◌, ℕ, ◌+◌, ◌-◌, ◌≤◌, ◌<◌, List, length, refl, sym, ap, subst, arith}
use Rattle.sms_text.specs.Bits.{unpacked}
use Rattle.sms_text.specs.Inside.PackingLaws.{unpacked_septets}
use Rattle.sms_text.specs.Octets.{IsOctets}
use Rattle.sms_field.specs.declared.coding.Alphabet.{Alphabet}
use Rattle.sms_field.specs.declared.coding.Alphabet.TheVariants.{Gsm7, EightBit, Ucs2, Compressed}
use Rattle.sms_tpdu.specs.UserData.Lengths.{greatest_length, octets_of_length, length_of_header, fill_bits}
use Rattle.sms_tpdu.specs.UserData.{BodyFits, body_of, data_length}
use Rattle.sms_tpdu.specs.UserData.Spans.{body_count}
use Rattle.sms_tpdu.specs.declared.user_data.body.Body.TheVariants as body

pub septets_fit : (taken fill count number : ℕ) (octets septets : List ℕ) → length_of_header Gsm7 taken ≤ count → count ≤ 160 → number ≡ count - length_of_header Gsm7 taken → septets ≡ unpacked fill number octets → BodyFits Gsm7 taken (body.Septets septets)
septets_fit taken fill count number octets septets room few number_is e =
    let h = unpacked_septets fill number octets in
    subst (λ (l : List ℕ). BodyFits Gsm7 taken (body.Septets l)) (sym e) (omega (arith, h.1), h.0)

pub octets_fit : (alphabet : Alphabet) (taken count : ℕ) (octets values : List ℕ) → (alphabet ≡ Gsm7 → ⊥) → count ≤ greatest_length alphabet → length_of_header alphabet taken ≤ count → length octets ≡ octets_of_length alphabet count - taken → IsOctets octets → values ≡ octets
    → (body.Octets values ≡ body_of alphabet taken count octets) × BodyFits alphabet taken (body.Octets values)
octets_fit Gsm7 taken count octets values other few room len fits e = absurd (other refl)
octets_fit EightBit taken count octets values other few room len fits e = (ap body.Octets e, (omega (arith, ap length e), subst IsOctets (sym e) fits))
octets_fit Ucs2 taken count octets values other few room len fits e = (ap body.Octets e, (omega (arith, ap length e), subst IsOctets (sym e) fits))
octets_fit Compressed taken count octets values other few room len fits e = (ap body.Octets e, (omega (arith, ap length e), subst IsOctets (sym e) fits))

-- a body that is seen goes with its alphabet
pub body_fits : (alphabet : Alphabet) (taken count : ℕ) (octets : List ℕ) → count ≤ greatest_length alphabet → length_of_header alphabet taken ≤ count → length octets ≡ octets_of_length alphabet count - taken → IsOctets octets → BodyFits alphabet taken (body_of alphabet taken count octets)
body_fits Gsm7 taken count octets few room len fits = septets_fit taken (fill_bits taken) count (count - length_of_header Gsm7 taken) octets (unpacked (fill_bits taken) (count - length_of_header Gsm7 taken) octets) room few refl refl
body_fits EightBit taken count octets few room len fits = (omega arith, fits)
body_fits Ucs2 taken count octets few room len fits = (omega arith, fits)
body_fits Compressed taken count octets few room len fits = (omega arith, fits)

pub header_small : (alphabet : Alphabet) (size count : ℕ) → count ≤ greatest_length alphabet → length_of_header alphabet (size + 1) ≤ count → size < 256
header_small Gsm7 size count few room = omega arith
header_small EightBit size count few room = omega arith
header_small Ucs2 size count few room = omega arith
header_small Compressed size count few room = omega arith

pub no_room : (alphabet : Alphabet) (count : ℕ) → length_of_header alphabet 0 ≤ count
no_room Gsm7 count = omega arith
no_room EightBit count = omega arith
no_room Ucs2 count = omega arith
no_room Compressed count = omega arith

-- a body that is seen under a length has it
pub length_is : (alphabet : Alphabet) (taken count : ℕ) (octets : List ℕ) → length_of_header alphabet taken ≤ count → length octets ≡ octets_of_length alphabet count - taken → data_length taken (body_of alphabet taken count octets) ≡ count
length_is Gsm7 taken count octets room len = omega (arith, (unpacked_septets (fill_bits taken) (count - length_of_header Gsm7 taken) octets).1, room)
length_is EightBit taken count octets room len = omega (arith, room, len)
length_is Ucs2 taken count octets room len = omega (arith, room, len)
length_is Compressed taken count octets room len = omega (arith, room, len)

-- and as many septets or octets as are left after the header
pub count_is : (alphabet : Alphabet) (taken count : ℕ) (octets : List ℕ) → length octets ≡ octets_of_length alphabet count - taken → body_count (body_of alphabet taken count octets) ≡ count - length_of_header alphabet taken
count_is Gsm7 taken count octets len = (unpacked_septets (fill_bits taken) (count - length_of_header Gsm7 taken) octets).1
count_is EightBit taken count octets len = len
count_is Ucs2 taken count octets len = len
count_is Compressed taken count octets len = len

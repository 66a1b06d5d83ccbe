-- How long texts are in UTF-8.
use Rattle.std.proofs.Common.{◌≡◌, ◌≤◌, ◌<◌, ◌+◌, ◌*◌, ℕ, zero, suc, Bool, true, false, cond, List, [], ◌∷◌, ◌++◌, length, map, take, drop, get_or, Some, None, refl, sym, ap, subst, ◌∙◌, arith, length-append}
use Rattle.std.proofs.Math.Utf8.{encode, encodes}
use Rattle.std.proofs.lemmas.Bool.{ltb-true}
use Rattle.std.proofs.lemmas.List.{length-take}
use Rattle.std.proofs.lemmas.Str.{encodes-chars, len_utf8_ascii, len_utf8_bounds, length-encode}
use Rattle.std.specs.Char.{len_utf8}
use Rattle.std.specs.Char.Utf16.{is_high_surrogate, is_low_surrogate, lone_unit_char, surrogate_pair_char, utf16_chars, utf16_lossy_chars}
use Rattle.std.specs.Prelude.{◌==◌, ◌&&◌, nat_le, nat_lt, unwrap_or}
use Rattle.sms_field.specs.Address.DigitText.{digit_characters, character_of_digit, text_of_digits}
use Rattle.sms_field.specs.Address.Text.{address_text, symbols_text}
use Rattle.sms_field.specs.Address.Value.{AreSymbolsOf}
use Rattle.sms_field.specs.declared.symbols.Symbols.{Symbols}
use Rattle.sms_field.specs.declared.symbols.Symbols.TheVariants.{Digits, Name}
use Rattle.sms_relay.specs.Cp.Value.{IsCpBody}
use Rattle.sms_relay.specs.Cp.{cp_body_octets}
use Rattle.sms_relay.specs.declared.cp.CpBody.{CpBody}
use Rattle.sms_relay.specs.declared.cp.CpBody.TheVariants.{Transfer, Ack, Fail}
use Rattle.sms_text.specs.Bits.{octet_bits, septets_of, unpacked}
use Rattle.sms_text.specs.Octets.{IsOctets}
use Rattle.sms_tpdu.specs.Inside.SizeLaws.{deliver_within, submit_within, deliver_ack_within, deliver_error_within, submit_ack_within, submit_error_within, status_report_within}
use Rattle.sms_c.specs.Lengths.{AddressTextsFit, IsShortText, PacketsFit, TextsFit, UnitsFit, ReportsFit}
use Rattle.sms_c.specs.Parts.{octets_at, user_chars}
use Rattle.sms_c.specs.declared.parts.UserSeen.{UserSeen}
use Rattle.sms_text.specs.Tables.{main, extension, escape, space, character_of}
use Rattle.sms_text.specs.TextOfSeptets.{plain_character, escaped_character, text_of_septets}
use Rattle.sms_text.specs.Utf16.{AreUnits, units_high_first}

-- ---- one character

three_at_most : (c : ℕ) → c < 65536 → len_utf8 c ≤ 3
three_at_most c small = grind arith

one_few : (c : ℕ) (rest : List ℕ) (n : ℕ) → c < 65536 → length (encodes rest) ≤ n → length (encodes (c ∷ rest)) ≤ n + 3
one_few c rest n small few = omega (arith, few, three_at_most c small, length-encode c, length-append (encode c) (encodes rest))

-- ---- septets of the default alphabet

abbrev all_small : List (ℕ × ℕ) → Bool
all_small [] = true
all_small (entry ∷ others) = cond (nat_lt entry.1 65536) (all_small others) false

both_small : (b rest : Bool) → cond b rest false ≡ true → (b ≡ true) × (rest ≡ true)
both_small true rest e = (refl, e)
both_small false rest e = absurd cc

found_small : (table : List (ℕ × ℕ)) → all_small table ≡ true → (code other : ℕ) → other < 65536 → unwrap_or (character_of table code) other < 65536
unfolding character_of
found_small [] all code other small = small
found_small (entry ∷ others) all code other small =
    let both = both_small (nat_lt entry.1 65536) (all_small others) all in
    go (entry.0 == code) (ltb-true entry.1 65536 both.0) (found_small others both.1 code other small)
  where
    go : (b : Bool) → entry.1 < 65536 → unwrap_or (character_of others code) other < 65536 → unwrap_or (cond b (Some entry.1) (character_of others code)) other < 65536
    go true one rest = one
    go false one rest = rest

plain_small : (code : ℕ) → plain_character code < 65536
plain_small code = found_small main refl code space (omega arith)

choice_small : (b : Bool) (code : ℕ) → cond b space (plain_character code) < 65536
choice_small true code = omega arith
choice_small false code = plain_small code

escaped_small : (code : ℕ) → escaped_character code < 65536
escaped_small code = found_small extension refl code _ (choice_small (code == escape) code)

pub septets_few : (septets : List ℕ) → length (encodes (text_of_septets septets)) ≤ 3 * length septets
unfolding text_of_septets
septets_few [] = omega arith
septets_few (code ∷ []) = let one = one_few (cond (code == escape) space (plain_character code)) [] 0 (choice_small (code == escape) code) (omega arith) in omega (arith, one)
septets_few (code ∷ next ∷ others) = go (code == escape) (septets_few others) (septets_few (next ∷ others))
  where
    go : (b : Bool) → length (encodes (text_of_septets others)) ≤ 3 * length others → length (encodes (text_of_septets (next ∷ others))) ≤ 3 * length (next ∷ others) → length (encodes (cond b (escaped_character next ∷ text_of_septets others) (plain_character code ∷ text_of_septets (next ∷ others)))) ≤ 3 * length (code ∷ next ∷ others)
    go true last more = omega (arith, one_few (escaped_character next) (text_of_septets others) (3 * length others) (escaped_small next) last)
    go false last more = omega (arith, one_few (plain_character code) (text_of_septets (next ∷ others)) (3 * length (next ∷ others)) (plain_small code) more)

-- ---- UCS-2

lone_small : (u : ℕ) → u < 65536 → unwrap_or (lone_unit_char u) 65533 < 65536
lone_small u small = go (nat_le 55296 u && nat_lt u 57344)
  where
    go : (b : Bool) → unwrap_or (cond b None (Some u)) 65533 < 65536
    go true = omega arith
    go false = small

pub units_few : (units : List ℕ) → AreUnits units → length (encodes (utf16_lossy_chars units)) ≤ 3 * length units
unfolding utf16_chars
units_few [] are = omega arith
units_few (u ∷ []) are = let one = one_few (unwrap_or (lone_unit_char u) 65533) [] 0 (lone_small u are.0) (omega arith) in omega (arith, one)
units_few (u ∷ v ∷ us) are = go (is_high_surrogate u && is_low_surrogate v) (units_few us are.1.1) (units_few (v ∷ us) are.1)
  where
    go : (b : Bool) → length (encodes (utf16_lossy_chars us)) ≤ 3 * length us → length (encodes (utf16_lossy_chars (v ∷ us))) ≤ 3 * length (v ∷ us) → length (encodes (map (λ o. unwrap_or o 65533) (cond b (Some (surrogate_pair_char u v) ∷ utf16_chars us) (lone_unit_char u ∷ utf16_chars (v ∷ us))))) ≤ 3 * length (u ∷ v ∷ us)
    go true last more = omega (arith, last, (len_utf8_bounds (surrogate_pair_char u v)).1, length-encode (surrogate_pair_char u v), length-append (encode (surrogate_pair_char u v)) (encodes (utf16_lossy_chars us)))
    go false last more = omega (arith, one_few (unwrap_or (lone_unit_char u) 65533) (utf16_lossy_chars (v ∷ us)) (3 * length (v ∷ us)) (lone_small u are.0) more)

units_of_octets : (octets : List ℕ) → IsOctets octets → AreUnits (units_high_first octets) × (2 * length (units_high_first octets) ≤ length octets)
unfolding units_high_first
units_of_octets [] are = (tt, omega arith)
units_of_octets (odd ∷ []) are = (tt, omega arith)
units_of_octets (high ∷ low ∷ others) are =
    let on = units_of_octets others are.1.1 in
    ((omega (arith, are.0, are.1.0), on.0), omega (arith, on.1))

taken_octets : (n : ℕ) (octets : List ℕ) → IsOctets octets → IsOctets (take n octets)
taken_octets zero octets are = tt
taken_octets (suc n) [] are = tt
taken_octets (suc n) (o ∷ octets) are = (are.0, taken_octets n octets are.1)

left_octets : (n : ℕ) (octets : List ℕ) → IsOctets octets → IsOctets (drop n octets)
left_octets zero octets are = are
left_octets (suc n) [] are = tt
left_octets (suc n) (o ∷ octets) are = left_octets n octets are.1

-- ---- the laws

count_is : (count : ℕ) (bits : List ℕ) → length (septets_of count bits) ≡ count
unfolding septets_of
count_is zero bits = refl
count_is (suc count) bits = ap suc (count_is count (drop 7 bits))

short_text : (limit : ℕ) (text : List ℕ) → length (encodes text) ≤ limit → IsShortText limit text
short_text limit text few octets utf8 spelled = subst (λ (l : List ℕ). length l ≤ limit) (ap encodes (sym spelled) ∙ encodes-chars octets utf8) few

texts_fit_in : (octets : List ℕ) (user : UserSeen) → user.count ≤ 160 → user.body.length ≤ 140 → IsOctets octets → (b : Bool) → length (encodes (cond b (text_of_septets (unpacked user.fill user.count (octets_at octets user.body))) (utf16_lossy_chars (units_high_first (octets_at octets user.body))))) ≤ 480
unfolding unpacked
texts_fit_in octets user count size are true =
    let bits = drop user.fill (octet_bits (octets_at octets user.body)) in
    omega (arith, count, septets_few (septets_of user.count bits), count_is user.count bits)
texts_fit_in octets user count size are false =
    let there = taken_octets user.body.length (drop user.body.offset octets) (left_octets user.body.offset octets are) in
    let units = units_of_octets (octets_at octets user.body) there in
    omega (arith, size, units.1, units_few (units_high_first (octets_at octets user.body)) units.0, length-take user.body.length (drop user.body.offset octets))

pub texts_fit : TextsFit
texts_fit octets user count size are = short_text 480 (user_chars octets user) (texts_fit_in octets user count size are (user.alphabet == 0))

abbrev all_low : List ℕ → Bool
all_low [] = true
all_low (c ∷ cs) = cond (nat_lt c 128) (all_low cs) false

low_at : (cs : List ℕ) → all_low cs ≡ true → (i : ℕ) → get_or cs i 0 < 128
low_at [] all i = omega arith
low_at (c ∷ cs) all zero = let both = both_small (nat_lt c 128) (all_low cs) all in ltb-true c 128 both.0
low_at (c ∷ cs) all (suc i) = let both = both_small (nat_lt c 128) (all_low cs) all in low_at cs both.1 i

digits_few : (digits : List ℕ) → length (encodes (text_of_digits digits)) ≤ length digits
unfolding character_of_digit
digits_few [] = omega arith
digits_few (d ∷ digits) =
    let c = get_or digit_characters d 0 in
    omega (arith, digits_few digits, len_utf8_ascii c (low_at digit_characters refl d), length-encode c, length-append (encode c) (encodes (text_of_digits digits)))

prefixed_few : (b : Bool) (text : List ℕ) → length (encodes (cond b (43 ∷ []) [] ++ text)) ≤ 1 + length (encodes text)
prefixed_few true text = omega (arith, len_utf8_ascii 43 (omega arith), length-encode 43, length-append (encode 43) (encodes text))
prefixed_few false text = omega arith

symbols_few : (kind : ℕ) (symbols : Symbols) → AreSymbolsOf kind symbols → length (encodes (symbols_text kind symbols)) ≤ 33
symbols_few kind (Digits digits) are = omega (arith, are.1.few, digits_few digits, prefixed_few (kind == 1) (text_of_digits digits))
symbols_few kind (Name septets) are = omega (arith, septets_few septets, are.1.few)

pub address_texts_fit : AddressTextsFit
unfolding address_text
address_texts_fit address is = short_text 33 (address_text address) (symbols_few address.kind address.symbols is.symbols)

pub units_fit : UnitsFit
units_fit = (λ value octets is. omega (arith, submit_within value octets is), λ value octets is. omega (arith, deliver_within value octets is))

pub reports_fit : ReportsFit
reports_fit = (
  λ value octets is. omega (arith, deliver_ack_within value octets is),
  λ value octets is. omega (arith, deliver_error_within value octets is),
  λ value octets is. omega (arith, submit_ack_within value octets is),
  λ value octets is. omega (arith, submit_error_within value octets is),
  λ value octets is. omega (arith, status_report_within value octets is),
)

packet_few : (body : CpBody) → IsCpBody body → length (cp_body_octets body) ≤ 256
packet_few (Transfer octets) is = omega (arith, is.0)
packet_few Ack is = omega arith
packet_few (Fail cause) is = omega arith

pub packets_fit : PacketsFit
packets_fit value octets is = rw is.1 (omega (arith, packet_few value.body is.0.body))

-- A reader may pass this by: lemmas, for the proofs of this crate and of those above it.
--
-- User data alone are a lawful field, and what is written is read back.
use Rattle.std.proofs.Common.{◌≡◌, ℕ, ◌+◌, ◌-◌, ◌*◌, ◌/◌, ◌<◌, Bool, true, false, cond, leb, List, ◌∷◌, ◌++◌, length, Result, Ok, Err, MatchResult, refl, sym, ap, subst, ◌∙◌, arith, lit<}
use Rattle.std.proofs.Common.{length-append}
use Rattle.std.proofs.lemmas.Bool.{lt-leb}
use Rattle.sms_text.specs.Inside.PackingLaws.{packed_octets, plain_is_packed}
use Rattle.sms_field.specs.Field.{refused, IsLawful}
use Rattle.sms_field.specs.declared.coding.Alphabet.{Alphabet}
use Rattle.sms_field.specs.declared.coding.Alphabet.TheVariants.{Gsm7, EightBit, Ucs2, Compressed}
use Rattle.sms_field.specs.Inside.ChainLaws.{chain_lawful}
use Rattle.sms_field.specs.Inside.SingleLaws.{always_lawful, octet_by_self, octet_by_lawful, octets_of_self, octets_of_lawful, apart_else}
use Rattle.sms_tpdu.specs.UserData.Lengths.{greatest_length, octets_of_length, length_of_header, fill_bits}
use Rattle.sms_tpdu.specs.declared.user_data.body.Body.{Body}
use Rattle.sms_tpdu.specs.declared.user_data.body.Body.TheVariants as body
use Rattle.sms_tpdu.specs.UserData.{header_octets, BodyFits, SpellsBody, FitsAlphabet, header_length, length_with_header, user_data, has_header, data_length, length_in, SpellsUserData}
use Rattle.sms_tpdu.specs.UserData.Alone.{count_for, data_of, whole_length, SpellsAlone}
use Rattle.sms_tpdu.specs.Inside.UserDataLaws.{user_data_again, user_data_are_octets}
use Rattle.sms_text.specs.Octets.{IsOctets}
use Rattle.sms_tpdu.specs.declared.fault.UnitFault.{UnitFault}
use Rattle.sms_tpdu.specs.declared.fault.UnitFault.TheVariants.{Short, DataTooLong, HeaderTooLong}
use Rattle.sms_tpdu.specs.declared.user_data.UserData.{UserData}

abbrev ok : ℕ → Result ℕ UnitFault
ok n = Ok n

same_ok : (a b : ℕ) → ok a ≡ ok b → a ≡ b
same_ok a b e = cc

-- a length that can be is the one that was told
pub count_is : (with_header : Bool) (alphabet : Alphabet) (n count : ℕ) → count_for with_header alphabet n ≡ Ok count → count ≡ n
count_is false alphabet n count e = go (leb n (greatest_length alphabet)) e
  where
    go : (a : Bool) → cond a (Ok n) (Err DataTooLong) ≡ Ok count → count ≡ n
    go true f = sym (same_ok n count f)
    go false f = absurd cc
count_is true alphabet n count e = go (leb n (greatest_length alphabet)) (leb (length_of_header alphabet 1) n) e
  where
    go : (a b : Bool) → cond a (cond b (Ok n) (Err HeaderTooLong)) (Err DataTooLong) ≡ Ok count → count ≡ n
    go true true f = sym (same_ok n count f)
    go true false f = absurd cc
    go false b f = absurd cc

-- a length that has room for the shortest header has it for the header of length 0
has_room : (alphabet : Alphabet) (o count : ℕ) → length_with_header alphabet o ≡ Ok count → header_length alphabet count 0 ≡ Ok 0
has_room alphabet o count e = go (leb o (greatest_length alphabet)) (leb (length_of_header alphabet 1) o) refl e
  where
    go : (a b : Bool) → leb (length_of_header alphabet 1) o ≡ b → cond a (cond b (Ok o) (Err HeaderTooLong)) (Err DataTooLong) ≡ Ok count → header_length alphabet count 0 ≡ Ok 0
    go true true is f = subst (λ (n : ℕ). header_length alphabet n 0 ≡ Ok 0) (same_ok o count f) (rw is refl)
    go true false is f = absurd cc
    go false b is f = absurd cc

pub data_of_lawful : (with_header : Bool) (alphabet : Alphabet) (n count : ℕ) → count_for with_header alphabet n ≡ Ok count → IsLawful Short (data_of with_header alphabet count)
unfolding data_of
data_of_lawful false alphabet n count is =
    chain_lawful _ _ Short (octets_of_self Short (octets_of_length alphabet count)) (octets_of_lawful Short (octets_of_length alphabet count)) (λ octets _ _ _.
    always_lawful Short _)
data_of_lawful true alphabet n count is =
    chain_lawful _ _ Short (octet_by_self Short (header_length alphabet count)) (octet_by_lawful Short (header_length alphabet count) (0, lit< tt, 0, has_room alphabet n count is) (λ o. apart_else Short (leb (length_of_header alphabet (o + 1)) count) o HeaderTooLong (λ e. cc))) (λ size _ _ _.
    chain_lawful _ _ Short (octets_of_self Short size) (octets_of_lawful Short size) (λ header _ _ _.
    chain_lawful _ _ Short (octets_of_self Short (octets_of_length alphabet count - (size + 1))) (octets_of_lawful Short (octets_of_length alphabet count - (size + 1))) (λ octets _ _ _.
    always_lawful Short _)))

-- ---- after a length a unit reads the same

told_first : (with_header : Bool) (alphabet : Alphabet) (at count : ℕ) (input : List ℕ) (m : Result ℕ UnitFault) → count_for with_header alphabet count ≡ m
    → MatchResult m (λ told. (user_data with_header alphabet).read at (count ∷ input) ≡ (data_of with_header alphabet told).read (at + 1) input) (λ why. (user_data with_header alphabet).read at (count ∷ input) ≡ refused at why)
unfolding user_data data_of
told_first false alphabet at count input (Ok told) is = rw is refl
told_first false alphabet at count input (Err why) is = rw is refl
told_first true alphabet at count input (Ok told) is = rw is refl
told_first true alphabet at count input (Err why) is = rw is refl

pub units_read_the_same : (with_header : Bool) (alphabet : Alphabet) (at count : ℕ) (input : List ℕ)
    → MatchResult (count_for with_header alphabet count) (λ told. (user_data with_header alphabet).read at (count ∷ input) ≡ (data_of with_header alphabet told).read (at + 1) input) (λ why. (user_data with_header alphabet).read at (count ∷ input) ≡ refused at why)
units_read_the_same with_header alphabet at count input = told_first with_header alphabet at count input (count_for with_header alphabet count) refl

-- ---- what is written

-- what a unit reads after a length is read alone
read_after : (with_header : Bool) (alphabet : Alphabet) (u : UserData) (n : ℕ) (octets rest : List ℕ) → (user_data with_header alphabet).reads u (n ∷ octets) rest → (count_for with_header alphabet n ≡ Ok n) × (data_of with_header alphabet n).reads u octets rest
unfolding user_data data_of
read_after false alphabet u n octets rest r =
    let o : ℕ = r.of_first.0 in
    let whole : n ∷ octets ≡ o ∷ r.back = r.parts ∙ ap (λ (l : List ℕ). l ++ r.back) r.of_first.1 in
    let same : o ≡ n = cc in
    let back : r.back ≡ octets = cc in
    let told : count_for false alphabet n ≡ Ok r.choice = ap (count_for false alphabet) (sym same) ∙ r.of_first.2 in
    let is : r.choice ≡ n = count_is false alphabet n r.choice told in
    (told ∙ ap ok is, subst (λ (l : List ℕ). (data_of false alphabet n).reads u l rest) back (subst (λ (c : ℕ). (data_of false alphabet c).reads u r.back rest) is r.of_second))
read_after true alphabet u n octets rest r =
    let o : ℕ = r.of_first.0 in
    let whole : n ∷ octets ≡ o ∷ r.back = r.parts ∙ ap (λ (l : List ℕ). l ++ r.back) r.of_first.1 in
    let same : o ≡ n = cc in
    let back : r.back ≡ octets = cc in
    let told : count_for true alphabet n ≡ Ok r.choice = ap (count_for true alphabet) (sym same) ∙ r.of_first.2 in
    let is : r.choice ≡ n = count_is true alphabet n r.choice told in
    (told ∙ ap ok is, subst (λ (l : List ℕ). (data_of true alphabet n).reads u l rest) back (subst (λ (c : ℕ). (data_of true alphabet c).reads u r.back rest) is r.of_second))

-- with its length before it, what is written alone is what a unit carries
pub after_length : (u : UserData) (octets : List ℕ) → SpellsAlone u octets → SpellsUserData u (length_in u ∷ octets)
after_length u octets p = record { written = p.written; spells_body = p.spells_body; parts = ap (λ (l : List ℕ). length_in u ∷ l) p.parts }

pub alone_again : (alphabet : Alphabet) (u : UserData) (octets rest : List ℕ) → FitsAlphabet alphabet u → SpellsAlone u octets
    → (count_for (has_header u) alphabet (length_in u) ≡ Ok (length_in u)) × (data_of (has_header u) alphabet (length_in u)).reads u octets rest
alone_again alphabet u octets rest fits p = read_after (has_header u) alphabet u (length_in u) octets rest (user_data_again alphabet u (length_in u ∷ octets) rest fits (after_length u octets p))

-- ---- lengths of many octets

pub too_many : (with_header : Bool) (alphabet : Alphabet) (octets : ℕ) → 140 < octets → Err DataTooLong ≡ count_for with_header alphabet (whole_length alphabet octets)
too_many with_header alphabet octets many = go with_header (above_greatest alphabet)
  where
    above_greatest : (a : Alphabet) → greatest_length a < whole_length a octets
    above_greatest Gsm7 = omega arith
    above_greatest EightBit = many
    above_greatest Ucs2 = many
    above_greatest Compressed = many

    go : (h : Bool) → greatest_length alphabet < whole_length alphabet octets → Err DataTooLong ≡ count_for h alphabet (whole_length alphabet octets)
    go false more = rw (lt-leb (whole_length alphabet octets) (greatest_length alphabet) more) refl
    go true more = rw (lt-leb (whole_length alphabet octets) (greatest_length alphabet) more) refl

-- ---- the length of the octets

septets_whole : (taken n w size : ℕ) → w ≡ (fill_bits taken + 7 * n + 7) / 8 → size ≡ taken + w → 8 * size < 7 * ((8 * taken + 6) / 7 + n) + 7 → 8 * size / 7 ≡ (8 * taken + 6) / 7 + n
septets_whole taken n w size e f few = omega (arith, e, f, few)

octets_whole : (taken n w size : ℕ) → w ≡ n → size ≡ taken + w → size ≡ taken + n
octets_whole taken n w size e f = omega (arith, e, f)

body_whole : (alphabet : Alphabet) (taken : ℕ) (b : Body) (written : List ℕ) (size : ℕ) → BodyFits alphabet taken b → SpellsBody taken b written → size ≡ taken + length written → 8 * size < 7 * data_length taken b + 7 → whole_length alphabet size ≡ data_length taken b
body_whole Gsm7 taken (body.Septets s) written size fits p e few = septets_whole taken (length s) (length written) size (packed_octets (fill_bits taken) s written (plain_is_packed (fill_bits taken) s written p.0)) e few
body_whole Gsm7 taken (body.Octets o) written size fits p e few = absurd fits
body_whole EightBit taken (body.Septets s) written size fits p e few = absurd fits
body_whole EightBit taken (body.Octets o) written size fits p e few = octets_whole taken (length o) (length written) size (ap length p) e
body_whole Ucs2 taken (body.Septets s) written size fits p e few = absurd fits
body_whole Ucs2 taken (body.Octets o) written size fits p e few = octets_whole taken (length o) (length written) size (ap length p) e
body_whole Compressed taken (body.Septets s) written size fits p e few = absurd fits
body_whole Compressed taken (body.Octets o) written size fits p e few = octets_whole taken (length o) (length written) size (ap length p) e

pub whole_is_length : (alphabet : Alphabet) (u : UserData) (octets : List ℕ) → FitsAlphabet alphabet u → SpellsAlone u octets → 8 * length octets < 7 * length_in u + 7 → whole_length alphabet (length octets) ≡ length_in u
whole_is_length alphabet u octets fits p few =
    body_whole alphabet (length (header_octets u.header)) u.body p.written (length octets) fits.1 p.spells_body (ap length p.parts ∙ length-append (header_octets u.header) p.written) few

pub alone_are_octets : (alphabet : Alphabet) (u : UserData) (octets : List ℕ) → FitsAlphabet alphabet u → SpellsAlone u octets → IsOctets octets
alone_are_octets alphabet u octets fits p = (user_data_are_octets alphabet u (length_in u ∷ octets) fits (after_length u octets p)).1

-- What is read alone, and written again.
use Rattle.std.proofs.Common.{◌≡◌, ℕ, suc, ◌+◌, ◌-◌, ◌*◌, ◌/◌, ◌<◌, ◌≤◌, Bool, true, false, cond, leb, List, ◌∷◌, ◌++◌, length, Option, Some, None, Ok, Err, refl, sym, ap, subst, ◌∙◌, arith, length-append}
use Rattle.std.proofs.lemmas.Bool.{leb-true}
use Rattle.std.proofs.lemmas.List.{append-nil}
use Rattle.sms_text.specs.Bits.{Packed, unpacked}
use Rattle.sms_text.specs.Octets.{IsOctets}
use Rattle.sms_field.specs.Inside.OctetLists.{octets_front, octets_back}
use Rattle.sms_field.specs.declared.coding.Alphabet.{Alphabet}
use Rattle.sms_field.specs.declared.coding.Alphabet.TheVariants.{Gsm7, EightBit, Ucs2, Compressed}
use Rattle.sms_tpdu.specs.UserData.Lengths.{greatest_length, octets_of_length, length_of_header, fill_bits}
use Rattle.sms_tpdu.specs.UserData.{header_octets, body_of, header_length, has_header, SpellsBody}
use Rattle.sms_tpdu.specs.UserData.Alone.{count_for, data_of, SpellsAlone, IsKept}
use Rattle.sms_tpdu.specs.Inside.AloneLaws.{alone_again, alone_are_octets}
use Rattle.sms_tpdu.specs.Inside.UserDataSeen.{user_data_in}
use Rattle.sms_tpdu.specs.declared.fault.UnitFault.TheVariants.{DataTooLong, HeaderTooLong}
use Rattle.sms_tpdu.specs.declared.user_data.body.Body.{Body}
use Rattle.sms_tpdu.specs.declared.user_data.body.Body.TheVariants as body
use Rattle.sms_tpdu.specs.declared.user_data.UserData.{UserData}
use Rattle.sms_tpdu.proofs.Repacked.{packed_unpacked}
use Rattle.sms_tpdu.proofs.BodyFits.{body_fits, no_room, length_is}

few : (with_header : Bool) (alphabet : Alphabet) (n count : ℕ) → count_for with_header alphabet n ≡ Ok count → n ≤ greatest_length alphabet
few false alphabet n count e = go (leb n (greatest_length alphabet)) refl e
  where
    go : (a : Bool) → leb n (greatest_length alphabet) ≡ a → cond a (Ok n) (Err DataTooLong) ≡ Ok count → n ≤ greatest_length alphabet
    go true is f = leb-true n (greatest_length alphabet) is
    go false is f = absurd cc
few true alphabet n count e = go (leb n (greatest_length alphabet)) (leb (length_of_header alphabet 1) n) refl e
  where
    go : (a b : Bool) → leb n (greatest_length alphabet) ≡ a → cond a (cond b (Ok n) (Err HeaderTooLong)) (Err DataTooLong) ≡ Ok count → n ≤ greatest_length alphabet
    go true b is f = leb-true n (greatest_length alphabet) is
    go false b is f = absurd cc

room : (alphabet : Alphabet) (count o size : ℕ) → header_length alphabet count o ≡ Ok size → (size ≡ o) × (length_of_header alphabet (o + 1) ≤ count)
room alphabet count o size e = go (leb (length_of_header alphabet (o + 1)) count) refl e
  where
    go : (a : Bool) → leb (length_of_header alphabet (o + 1)) count ≡ a → cond a (Ok o) (Err HeaderTooLong) ≡ Ok size → (size ≡ o) × (length_of_header alphabet (o + 1) ≤ count)
    go true is f = (cc, leb-true (length_of_header alphabet (o + 1)) count is)
    go false is f = absurd cc

taken_fits : (alphabet : Alphabet) (taken count : ℕ) → length_of_header alphabet taken ≤ count → taken ≤ octets_of_length alphabet count
taken_fits Gsm7 taken count h = omega (arith, h)
taken_fits EightBit taken count h = h
taken_fits Ucs2 taken count h = h
taken_fits Compressed taken count h = h

octets_spelled : (alphabet : Alphabet) (taken count : ℕ) (written : List ℕ) → (alphabet ≡ Gsm7 → ⊥) → SpellsBody taken (body_of alphabet taken count written) written
octets_spelled Gsm7 taken count written other = absurd (other refl)
octets_spelled EightBit taken count written other = refl
octets_spelled Ucs2 taken count written other = refl
octets_spelled Compressed taken count written other = refl

abbrev septets_body : List ℕ → Body
septets_body septets = body.Septets septets

same_septets : (a b : List ℕ) → septets_body a ≡ septets_body b → a ≡ b
same_septets a b e = cc

septets_packed : (taken count : ℕ) (written septets : List ℕ) → length_of_header Gsm7 taken ≤ count → length written ≡ octets_of_length Gsm7 count - taken → septets_body (unpacked (fill_bits taken) (count - length_of_header Gsm7 taken) written) ≡ septets_body septets → Packed (fill_bits taken) septets written
septets_packed taken count written septets enough_room left is =
    let n : ℕ = count - length_of_header Gsm7 taken in
    let units : ℕ = (8 * taken + 6) / 7 in
    let enough : fill_bits taken + 7 * n ≤ 8 * length written = omega arith in
    let spare : 8 * length written < fill_bits taken + 7 * n + 8 = omega arith in
    subst (λ (l : List ℕ). Packed (fill_bits taken) l written) (same_septets (unpacked (fill_bits taken) n written) septets is) (packed_unpacked (fill_bits taken) n written enough spare)

packed_in : (alphabet : Alphabet) (taken count : ℕ) (written septets : List ℕ) → count ≤ greatest_length alphabet → length_of_header alphabet taken ≤ count → length written ≡ octets_of_length alphabet count - taken → body_of alphabet taken count written ≡ body.Septets septets → Packed (fill_bits taken) septets written
packed_in Gsm7 taken count written septets small enough_room left is = septets_packed taken count written septets enough_room left is
packed_in EightBit taken count written septets small enough_room left is = absurd cc
packed_in Ucs2 taken count written septets small enough_room left is = absurd cc
packed_in Compressed taken count written septets small enough_room left is = absurd cc

-- user data that lie behind these octets of a header
kept_in : (header : Option (List ℕ)) (alphabet : Alphabet) (count : ℕ) (written octets : List ℕ) → count ≤ greatest_length alphabet → length_of_header alphabet (length (header_octets header)) ≤ count
    → length written ≡ octets_of_length alphabet count - length (header_octets header) → IsOctets (header_octets header) → IsOctets written → octets ≡ header_octets header ++ written
    → IsKept (has_header (user_data_in header alphabet count written)) alphabet count (user_data_in header alphabet count written) octets
kept_in header alphabet count written octets small has_room left head_are are parts =
    let taken : ℕ = length (header_octets header) in
    record {
      fits = (head_are, body_fits alphabet taken count written small has_room left are);
      headed = refl;
      counted = length_is alphabet taken count written has_room left;
      size = omega (arith, ap length parts, length-append (header_octets header) written, left, taken_fits alphabet taken count has_room);
      written = written;
      parts = parts;
      packed = λ septets is. packed_in alphabet taken count written septets small has_room left is;
      same = λ other. record { written = written; spells_body = octets_spelled alphabet taken count written other; parts = parts };
    }

pub alone_is_kept : (with_header : Bool) (alphabet : Alphabet) (count : ℕ) (user : UserData) (octets rest : List ℕ) → IsOctets octets → count_for with_header alphabet count ≡ Ok count → (data_of with_header alphabet count).reads user octets rest → IsKept with_header alphabet count user octets
unfolding data_of
alone_is_kept false alphabet count user octets rest are told r =
    let written : List ℕ = r.choice in
    let whole : octets ≡ written = r.parts ∙ ap (λ (l : List ℕ). r.front ++ l) r.of_second.1 ∙ append-nil r.front ∙ r.of_first.0 in
    subst (λ (u : UserData). IsKept false alphabet count u octets) (sym r.of_second.0)
    (kept_in None alphabet count written octets (few false alphabet count count told) (no_room alphabet count) (omega (arith, r.of_first.1)) tt (subst IsOctets whole are) whole)
alone_is_kept true alphabet count user octets rest are told r =
    let o : ℕ = r.of_first.0 in
    let second = r.of_second in
    let third = second.of_second in
    let header : List ℕ = second.choice in
    let written : List ℕ = third.choice in
    let h = room alphabet count o r.choice r.of_first.2 in
    let size : length header ≡ r.choice = second.of_first.1 in
    let next : r.choice + 1 ≡ suc (length header) = omega (arith, size) in
    let tail : second.back ≡ written = third.parts ∙ ap (λ (l : List ℕ). third.front ++ l) third.of_second.1 ∙ append-nil third.front ∙ third.of_first.0 in
    let back : r.back ≡ header ++ written = second.parts ∙ ap (λ (l : List ℕ). l ++ second.back) second.of_first.0 ∙ ap (λ (l : List ℕ). header ++ l) tail in
    let first : o ≡ length header = omega (arith, size, h.0) in
    let whole : octets ≡ length header ∷ (header ++ written) = r.parts ∙ ap (λ (l : List ℕ). l ++ r.back) r.of_first.1 ∙ ap (λ (l : List ℕ). o ∷ l) back ∙ ap (λ (n : ℕ). n ∷ (header ++ written)) first in
    let parts_are : IsOctets (length header ∷ (header ++ written)) = subst IsOctets whole are in
    let taken : o + 1 ≡ suc (length header) = omega (arith, first) in
    let user_is : user ≡ user_data_in (Some header) alphabet count written = third.of_second.0 ∙ ap (λ (n : ℕ). let u : UserData = record { header = Some header; body = body_of alphabet n count written } in u) next in
    subst (λ (u : UserData). IsKept true alphabet count u octets) (sym user_is)
    (kept_in (Some header) alphabet count written octets (few true alphabet count count told) (subst (λ (n : ℕ). length_of_header alphabet n ≤ count) taken h.1) (subst (λ (n : ℕ). length written ≡ octets_of_length alphabet count - n) next third.of_first.1) (parts_are.0, octets_front header written parts_are.1) (octets_back header written parts_are.1) whole)

pub alone_is_rewritten : (with_header : Bool) (alphabet : Alphabet) (count : ℕ) (user : UserData) (octets rest again more : List ℕ) → IsOctets octets → count_for with_header alphabet count ≡ Ok count → (data_of with_header alphabet count).reads user octets rest → SpellsAlone user again
    → (data_of with_header alphabet count).reads user again more × (length again ≡ length octets)
alone_is_rewritten with_header alphabet count user octets rest again more are told r spelled =
    let k = alone_is_kept with_header alphabet count user octets rest are told r in
    let back = (alone_again alphabet user again more k.fits spelled).1 in
    let read : (data_of with_header alphabet count).reads user again more = subst (λ (h : Bool). (data_of h alphabet count).reads user again more) k.headed (subst (λ (n : ℕ). (data_of (has_header user) alphabet n).reads user again more) k.counted back) in
    let are_again : IsOctets again = alone_are_octets alphabet user again k.fits spelled in
    (read, (alone_is_kept with_header alphabet count user again more are_again told read).size ∙ sym k.size)

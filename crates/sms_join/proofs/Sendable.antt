-- The segments of a text can be sent: there is room for the units of each, and their user data fit.
use Rattle.std.proofs.Common.{◌≡◌, ℕ, zero, suc, ◌+◌, ◌<◌, ◌≤◌, ◌≢◌, ◌⊎◌, inl, inr, Bool, true, false, cond, List, [], ◌∷◌, length, map, Some, None, refl, sym, ap, subst, ◌∙◌, arith}
use Rattle.std.specs.Prelude.{◌==◌, All}
use Rattle.std.proofs.lemmas.Bool.{cases_lt}
use Rattle.std.proofs.lemmas.Bool.Decides.{eqb_tells}
use Rattle.std.proofs.lemmas.List.Elements.{All-from_recursion}
use Rattle.std.specs.List.{flat_map, AllByRecursion, range_with_len}
use Rattle.sms_text.specs.Inside.Utf16Laws.{length-octets_high_first}
use Rattle.sms_text.specs.Octets.{IsOctets}
use Rattle.sms_tpdu.specs.declared.user_data.concat.Width.{Width}
use Rattle.sms_tpdu.specs.declared.user_data.concat.Width.TheVariants.{Eight, Sixteen}
use Rattle.sms_tpdu.specs.UserData.Elements.{element_octets}
use Rattle.sms_tpdu.specs.UserData.Concatenation.{element_for}
use Rattle.sms_tpdu.specs.UserData.{BodyFits, header_octets}
use Rattle.sms_join.specs.declared.units.Units.{Units}
use Rattle.sms_join.specs.declared.units.Units.TheVariants.{Gsm, Ucs2}
use Rattle.sms_join.specs.declared.segment.Segment.{Segment}
use Rattle.sms_join.specs.UnitsOfText.{Alphabet, Default, Wide, alphabet_of, units_of_character, units_of_text, units_in, numbers, alphabet_in}
use Rattle.sms_join.specs.Cut.{room_alone, room_beside, IsCut}
use Rattle.sms_join.specs.Segments.{AreNumbered}
use Rattle.sms_join.specs.Segments.User.{IsSendable, HasRange, coding_of, body_of, header_of}
use Rattle.sms_join.proofs.CutPlaces.{alphabet-in, numbers-in}

-- there is room for the units of a piece, as many as given
Bounded : Width → ℕ → Units → Type 0
Bounded width n piece = (n ≡ 1 → length (numbers piece) ≤ room_alone (alphabet_in piece)) × (1 < n → length (numbers piece) ≤ room_beside width (alphabet_in piece))

less_beside : (width : Width) (a : Alphabet) → room_beside width a ≤ room_alone a
less_beside Eight Default = omega arith
less_beside Eight Wide = omega arith
less_beside Sixteen Default = omega arith
less_beside Sixteen Wide = omega arith

parts_bounded : (width : Width) (n : ℕ) (a : Alphabet) (lists : List (List ℕ)) → AllByRecursion (λ l. length l ≤ room_beside width a) lists → AllByRecursion (Bounded width n) (map (units_in a) lists)
unfolding Bounded
parts_bounded width n a [] all = tt
parts_bounded width n a (l ∷ lists) all =
    let same_length : length (numbers (units_in a l)) ≡ length l = ap length (numbers-in a l) in
    let alone : room_alone (alphabet_in (units_in a l)) ≡ room_alone a = ap room_alone (alphabet-in a l) in
    let beside : room_beside width (alphabet_in (units_in a l)) ≡ room_beside width a = ap (room_beside width) (alphabet-in a l) in
    (((λ _. omega (arith, same_length, alone, all.0, less_beside width a)), (λ _. omega (arith, same_length, beside, all.0))), parts_bounded width n a lists all.1)

pieces_bounded : (width : Width) (text : List ℕ) (pieces : List Units) → IsCut width text pieces → AllByRecursion (Bounded width (length pieces)) pieces
unfolding Bounded
pieces_bounded width text pieces cut = go (cases_lt (room_alone (alphabet_of text)) (length (numbers (units_of_text text))))
  where
    alphabet : alphabet_in (units_of_text text) ≡ alphabet_of text
    alphabet = alphabet-in (alphabet_of text) (flat_map (units_of_character (alphabet_of text)) text)

    single : length (numbers (units_of_text text)) ≤ room_alone (alphabet_of text) → AllByRecursion (Bounded width 1) (units_of_text text ∷ [])
    single fits = (((λ _. omega (arith, fits, ap room_alone alphabet)), (λ more. absurd (omega (arith, more)))), tt)

    go : (room_alone (alphabet_of text) < length (numbers (units_of_text text))) ⊎ (length (numbers (units_of_text text)) ≤ room_alone (alphabet_of text)) → AllByRecursion (Bounded width (length pieces)) pieces
    go (inl more) =
        let parts = cut.parted more in
        subst (λ l. AllByRecursion (Bounded width (length pieces)) l) (sym parts.in_alphabet) (parts_bounded width (length pieces) (alphabet_of text) parts.lists parts.cut.none_over_room)
    go (inr fits) = subst (λ l. AllByRecursion (Bounded width (length l)) l) (sym (cut.alone fits)) (single fits)

all_sendable : (width : Width) (n a k : ℕ) (segments : List Segment) → 1 ≤ a → a + k ≤ n + 1 → AllByRecursion (Bounded width n) (map (λ (s : Segment). s.units) segments) → map (λ (s : Segment). s.sequence) segments ≡ range_with_len a k
    → AllByRecursion (λ (s : Segment). s.maximum ≡ n) segments → AllByRecursion (IsSendable width) segments
unfolding Bounded
all_sendable width n a k [] from to bounded sequences maximum = tt
all_sendable width n a zero (s ∷ segments) from to bounded sequences maximum = absurd cc
all_sendable width n a (suc k) (s ∷ segments) from to bounded sequences maximum =
    let first : s.sequence ≡ a = cc in
    let others : map (λ (s : Segment). s.sequence) segments ≡ range_with_len (a + 1) k = cc in (
      record {
        alone = λ e. bounded.0.0 (sym maximum.0 ∙ e);
        beside = λ more. bounded.0.1 (omega (arith, more, maximum.0));
        first = omega (arith, first, from);
        last = omega (arith, first, to, maximum.0);
      },
      all_sendable width n (a + 1) k segments (omega arith) (omega (arith, to)) bounded.1 others maximum.1,
    )

numbered_sendable : (width : Width) (text : List ℕ) (pieces : List Units) (segments : List Segment) → IsCut width text pieces → AreNumbered pieces segments → AllByRecursion (IsSendable width) segments
numbered_sendable width text pieces segments cut numbered =
    all_sendable width (length pieces) 1 (length pieces) segments (omega arith) (omega arith) (subst (λ l. AllByRecursion (Bounded width (length pieces)) l) (sym numbered.units) (pieces_bounded width text pieces cut)) numbered.sequences numbered.maximum

pub segments_sendable : (width : Width) (text : List ℕ) (pieces : List Units) (segments : List Segment) → IsCut width text pieces → AreNumbered pieces segments → All (IsSendable width) segments
segments_sendable width text pieces segments cut h = All-from_recursion (IsSendable width) segments (numbered_sendable width text pieces segments cut h)

-- ---- the user data

fits_alone : (units : Units) → length (numbers units) ≤ room_alone (alphabet_in units) → HasRange (body_of units) → BodyFits (coding_of units) 0 (body_of units)
fits_alone (Gsm septets) le range = (omega (arith, le), range)
fits_alone (Ucs2 units) le range = (omega (arith, le, length-octets_high_first units), range)

fits_beside : (width : Width) (units : Units) (reference maximum sequence : ℕ) → length (numbers units) ≤ room_beside width (alphabet_in units) → HasRange (body_of units)
    → BodyFits (coding_of units) (suc (length (element_octets (element_for width reference maximum sequence)))) (body_of units)
fits_beside Eight (Gsm septets) reference maximum sequence le range = (omega (arith, le), range)
fits_beside Eight (Ucs2 units) reference maximum sequence le range = (omega (arith, le, length-octets_high_first units), range)
fits_beside Sixteen (Gsm septets) reference maximum sequence le range = (omega (arith, le), range)
fits_beside Sixteen (Ucs2 units) reference maximum sequence le range = (omega (arith, le, length-octets_high_first units), range)

-- the header of a segment's place is octets
pub header_are_octets : (width : Width) (reference maximum sequence : ℕ) → (width ≡ Eight → reference < 256) → reference < 65536 → maximum < 256 → sequence < 256 → IsOctets (header_octets (Some (element_octets (element_for width reference maximum sequence))))
header_are_octets Eight reference maximum sequence narrow few many place = (omega arith, (omega arith, (omega arith, (narrow refl, (many, (place, tt))))))
header_are_octets Sixteen reference maximum sequence narrow few many place = (omega arith, (omega arith, (omega arith, (omega (arith, few), (omega arith, (many, (place, tt)))))))

-- the body of a segment's user data fits after its header
pub segment_fits : (width : Width) (segment : Segment) (reference : ℕ) → IsSendable width segment → HasRange (body_of segment.units)
    → BodyFits (coding_of segment.units) (length (header_octets (header_of width reference segment.maximum segment.sequence))) (body_of segment.units)
segment_fits width segment reference sendable range = go (segment.maximum == 1) (eqb_tells segment.maximum 1)
  where
    go : (b : Bool) → ((b ≡ true) × (segment.maximum ≡ 1)) ⊎ ((b ≡ false) × (segment.maximum ≢ 1))
        → BodyFits (coding_of segment.units) (length (header_octets (cond b None (Some (element_octets (element_for width reference segment.maximum segment.sequence)))))) (body_of segment.units)
    go true (inl e) = fits_alone segment.units (sendable.alone e.1) range
    go true (inr e) = absurd cc
    go false (inl e) = absurd cc
    go false (inr e) = fits_beside width segment.units reference segment.maximum segment.sequence (sendable.beside (omega (arith, e.1, sendable.first, sendable.last))) range

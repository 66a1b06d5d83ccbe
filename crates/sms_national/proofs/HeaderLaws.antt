-- The octets of a segment's header, and the room beside it.
use Rattle.std.proofs.Common.{◌≡◌, ◌≢◌, ℕ, zero, suc, ◌+◌, ◌<◌, ◌≤◌, ◌⊎◌, inl, inr, Bool, true, false, cond, List, [], ◌∷◌, ◌++◌, length, get_or, refl, sym, ap, subst, ◌∙◌, arith, append_assoc, length-append}
use Rattle.std.specs.Prelude.{◌==◌}
use Rattle.std.proofs.lemmas.Bool.Decides.{eqb_tells}
use Rattle.std.specs.List.{flat_map, AllByRecursion}
use Rattle.sms_text.specs.Octets.{IsOctets}
use Rattle.sms_field.specs.declared.coding.Alphabet.TheVariants.{Gsm7}
use Rattle.sms_language.specs.declared.tables.Locking.{Locking}
use Rattle.sms_language.specs.declared.tables.Locking.TheVariants as locking
use Rattle.sms_language.specs.declared.tables.Single.{Single}
use Rattle.sms_language.specs.declared.tables.Single.TheVariants as single
use Rattle.sms_language.specs.declared.tables.Tables.{Tables}
use Rattle.sms_tpdu.specs.declared.user_data.concat.Width.{Width}
use Rattle.sms_tpdu.specs.declared.user_data.concat.Width.TheVariants.{Eight, Sixteen}
use Rattle.sms_tpdu.specs.UserData.{header_octets}
use Rattle.sms_tpdu.specs.UserData.Elements.{Element, element_octets}
use Rattle.sms_tpdu.specs.UserData.Concatenation.{element_for}
use Rattle.sms_tpdu.specs.UserData.Lengths.{length_of_header}
use Rattle.sms_national.specs.Header.{single_elements, locking_elements, table_elements, header_of, segment_header}
use Rattle.sms_national.specs.Rooms.{room_after, table_octets, place_octets, room_alone, room_beside}

-- ---- they are octets

octets-append : (xs ys : List ℕ) → IsOctets xs → IsOctets ys → IsOctets (xs ++ ys)
octets-append [] ys a b = b
octets-append (x ∷ xs) ys a b = (a.0, octets-append xs ys a.1 b)

single_are : (s : Single) → IsOctets (flat_map element_octets (single_elements s))
single_are single.Default = tt
single_are single.Turkish = (omega arith, (omega arith, (omega arith, tt)))
single_are single.Spanish = (omega arith, (omega arith, (omega arith, tt)))
single_are single.Portuguese = (omega arith, (omega arith, (omega arith, tt)))

locking_are : (l : Locking) → IsOctets (flat_map element_octets (locking_elements l))
locking_are locking.Default = tt
locking_are locking.Turkish = (omega arith, (omega arith, (omega arith, tt)))
locking_are locking.Portuguese = (omega arith, (omega arith, (omega arith, tt)))

pub flat-append : (xs ys : List Element) → flat_map element_octets (xs ++ ys) ≡ flat_map element_octets xs ++ flat_map element_octets ys
flat-append [] ys = refl
flat-append (x ∷ xs) ys = ap (λ (l : List ℕ). element_octets x ++ l) (flat-append xs ys) ∙ sym (append_assoc (element_octets x) (flat_map element_octets xs) (flat_map element_octets ys))

tables_are : (tables : Tables) → IsOctets (flat_map element_octets (table_elements tables))
tables_are tables =
    subst IsOctets (sym (flat-append (single_elements tables.single) (locking_elements tables.locking)))
    (octets-append (flat_map element_octets (single_elements tables.single)) (flat_map element_octets (locking_elements tables.locking)) (single_are tables.single) (locking_are tables.locking))

-- the numbers of a place are octets, a reference of sixteen bits two
pub record IsPlaceOf (width : Width) (reference maximum sequence : ℕ) : Type 0 where
  pub narrow : width ≡ Eight → reference < 256
  pub few : reference < 65536
  pub many : maximum < 256
  pub place : sequence < 256

place_are : (width : Width) (reference maximum sequence : ℕ) → IsPlaceOf width reference maximum sequence → IsOctets (element_octets (element_for width reference maximum sequence))
place_are Eight reference maximum sequence h = (omega arith, (omega arith, (h.narrow refl, (h.many, (h.place, tt)))))
place_are Sixteen reference maximum sequence h = (omega arith, (omega arith, (omega (arith, h.few), (omega arith, (h.many, (h.place, tt))))))

-- ---- how many there are

single_few : (s : Single) → length (flat_map element_octets (single_elements s)) ≤ 3
single_few single.Default = omega arith
single_few single.Turkish = omega arith
single_few single.Spanish = omega arith
single_few single.Portuguese = omega arith

locking_few : (l : Locking) → length (flat_map element_octets (locking_elements l)) ≤ 3
locking_few locking.Default = omega arith
locking_few locking.Turkish = omega arith
locking_few locking.Portuguese = omega arith

pub tables_few : (tables : Tables) → table_octets tables ≤ 6
tables_few tables =
    omega (arith, single_few tables.single, locking_few tables.locking, ap length (flat-append (single_elements tables.single) (locking_elements tables.locking)), length-append (flat_map element_octets (single_elements tables.single)) (flat_map element_octets (locking_elements tables.locking)))

pub length-place : (width : Width) (reference maximum sequence : ℕ) → length (element_octets (element_for width reference maximum sequence)) ≡ place_octets width
length-place Eight reference maximum sequence = refl
length-place Sixteen reference maximum sequence = refl

place_few : (width : Width) → place_octets width ≤ 6
place_few Eight = omega arith
place_few Sixteen = omega arith

-- ---- the header that elements spell

header_are : (elements : List Element) → IsOctets (flat_map element_octets elements) → length (flat_map element_octets elements) < 256 → IsOctets (header_octets (header_of elements))
header_are [] all few = tt
header_are (element ∷ others) all few = (few, all)

has_room : (elements : List Element) (count : ℕ) → length (flat_map element_octets elements) ≤ 12 → count ≤ room_after (length (flat_map element_octets elements)) → length_of_header Gsm7 (length (header_octets (header_of elements))) + count ≤ 160
has_room [] count few fits = omega arith
has_room (element ∷ others) count few fits = omega arith

-- the header of a segment, and so many septets after it
pub record HasRoomFor (header : List ℕ) (count : ℕ) : Type 0 where
  pub are : IsOctets header
  pub fits : length_of_header Gsm7 (length header) + count ≤ 160

pub segment_has_room : (tables : Tables) (width : Width) (reference maximum sequence count : ℕ) → IsPlaceOf width reference maximum sequence
    → (maximum ≡ 1 → count ≤ room_alone tables) → (maximum ≢ 1 → count ≤ room_beside width tables) → HasRoomFor (header_octets (segment_header tables width reference maximum sequence)) count
segment_has_room tables width reference maximum sequence count h alone beside = go (maximum == 1) (eqb_tells maximum 1)
  where
    single : count ≤ room_alone tables → HasRoomFor (header_octets (header_of ([] ++ table_elements tables))) count
    single fits = record {
      are = header_are (table_elements tables) (tables_are tables) (omega (arith, tables_few tables));
      fits = has_room (table_elements tables) count (omega (arith, tables_few tables)) fits;
    }

    many : count ≤ room_beside width tables → HasRoomFor (header_octets (header_of ((element_for width reference maximum sequence ∷ []) ++ table_elements tables))) count
    many fits =
        let place : List ℕ = element_octets (element_for width reference maximum sequence) in
        let size : length (place ++ flat_map element_octets (table_elements tables)) ≡ place_octets width + table_octets tables = length-append place (flat_map element_octets (table_elements tables)) ∙ ap (λ (n : ℕ). n + table_octets tables) (length-place width reference maximum sequence) in
        record {
          are = header_are (element_for width reference maximum sequence ∷ table_elements tables) (octets-append place (flat_map element_octets (table_elements tables)) (place_are width reference maximum sequence h) (tables_are tables)) (omega (arith, size, tables_few tables, place_few width));
          fits = has_room (element_for width reference maximum sequence ∷ table_elements tables) count (omega (arith, size, tables_few tables, place_few width)) (subst (λ (n : ℕ). count ≤ room_after n) (sym size) fits);
        }

    go : (b : Bool) → ((b ≡ true) × (maximum ≡ 1)) ⊎ ((b ≡ false) × (maximum ≢ 1))
        → HasRoomFor (header_octets (header_of (cond b [] (element_for width reference maximum sequence ∷ []) ++ table_elements tables))) count
    go true (inl e) = single (alone e.1)
    go true (inr e) = absurd cc
    go false (inl e) = absurd cc
    go false (inr e) = many (beside e.1)

pub at_index : (P : List ℕ → Type 0) (xs : List (List ℕ)) (index : ℕ) (d : List ℕ) → index < length xs → AllByRecursion P xs → P (get_or xs index d)
at_index P [] index d lt all = absurd (omega (arith, lt))
at_index P (x ∷ xs) zero d lt all = all.0
at_index P (x ∷ xs) (suc index) d lt all = at_index P xs index d (omega (arith, lt)) all.1

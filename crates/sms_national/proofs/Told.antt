-- The header of a segment tells its tables and its place.
use Rattle.std.proofs.Common.{◌≡◌, ℕ, ◌≤◌, inl, Bool, true, false, cond, List, [], ◌∷◌, ◌++◌, Some, None, refl, sym, ap, ◌∙◌, arith}
use Rattle.std.specs.Prelude.{◌==◌}
use Rattle.std.specs.List.{flat_map, AllByRecursion}
use Rattle.sms_language.specs.Tables.{default_tables}
use Rattle.sms_language.specs.declared.tables.Locking.{Locking}
use Rattle.sms_language.specs.declared.tables.Locking.TheVariants as locking
use Rattle.sms_language.specs.declared.tables.Single.{Single}
use Rattle.sms_language.specs.declared.tables.Single.TheVariants as single
use Rattle.sms_language.specs.declared.tables.Tables.{Tables}
use Rattle.sms_tpdu.specs.declared.user_data.concat.Concat.{Concat}
use Rattle.sms_tpdu.specs.declared.user_data.concat.Width.{Width}
use Rattle.sms_tpdu.specs.declared.user_data.concat.Width.TheVariants.{Eight, Sixteen}
use Rattle.sms_tpdu.specs.UserData.Elements.{Element, element_octets, AreElements}
use Rattle.sms_tpdu.specs.UserData.Concatenation.{element_for, TellsNone}
use Rattle.sms_tpdu.specs.UserData.Languages.{tables_after, IsToldIn}
use Rattle.sms_national.specs.Header.{language_element, single_elements, locking_elements, table_elements, place_elements, header_of}
use Rattle.sms_national.specs.Told.{HeadersTellTables, HeadersTellPlaces, TellsConcat}

-- the tables after the elements that tell them
after_tables : (s : Single) (l : Locking) → tables_after default_tables (single_elements s ++ locking_elements l) ≡ record { locking = l; single = s }
after_tables single.Default locking.Default = refl
after_tables single.Default locking.Turkish = refl
after_tables single.Default locking.Portuguese = refl
after_tables single.Turkish locking.Default = refl
after_tables single.Turkish locking.Turkish = refl
after_tables single.Turkish locking.Portuguese = refl
after_tables single.Spanish locking.Default = refl
after_tables single.Spanish locking.Turkish = refl
after_tables single.Spanish locking.Portuguese = refl
after_tables single.Portuguese locking.Default = refl
after_tables single.Portuguese locking.Turkish = refl
after_tables single.Portuguese locking.Portuguese = refl

-- a place tells no tables
place_passed : (width : Width) (reference maximum sequence : ℕ) (others : List Element) → tables_after default_tables (element_for width reference maximum sequence ∷ others) ≡ tables_after default_tables others
place_passed Eight reference maximum sequence others = refl
place_passed Sixteen reference maximum sequence others = refl

elements_tell : (elements : List Element) (tables : Tables) → tables ≡ tables_after default_tables elements → IsToldIn (header_of elements) tables
elements_tell [] tables e = e
elements_tell (element ∷ others) tables e = record { elements = element ∷ others; are = inl refl; tables_are = e }

-- what else they would tell is the same
tell_no_other : (elements : List Element) (tables other : Tables) → ((header : List ℕ) (a b : List Element) → AreElements header a → AreElements header b → b ≡ a)
    → tables ≡ tables_after default_tables elements → IsToldIn (header_of elements) other → other ≡ tables
tell_no_other [] tables other one e told = told ∙ sym e
tell_no_other (element ∷ others) tables other one e told =
    told.tables_are ∙ ap (tables_after default_tables) (one (flat_map element_octets (element ∷ others)) (element ∷ others) told.elements (inl refl) told.are) ∙ sym e

tables_tell : (tables : Tables) (width : Width) (reference maximum sequence : ℕ) → tables ≡ tables_after default_tables (place_elements width reference maximum sequence ++ table_elements tables)
tables_tell tables width reference maximum sequence = go (maximum == 1)
  where
    go : (b : Bool) → tables ≡ tables_after default_tables (cond b [] (element_for width reference maximum sequence ∷ []) ++ table_elements tables)
    go true = sym (after_tables tables.single tables.locking)
    go false = sym (place_passed width reference maximum sequence (table_elements tables) ∙ after_tables tables.single tables.locking)

pub headers_tell_tables : ((header : List ℕ) (a b : List Element) → AreElements header a → AreElements header b → b ≡ a) → HeadersTellTables
headers_tell_tables one tables other width reference maximum sequence =
    let elements : List Element = place_elements width reference maximum sequence ++ table_elements tables in
    let e : tables ≡ tables_after default_tables elements = tables_tell tables width reference maximum sequence in
    (elements_tell elements tables e, tell_no_other elements tables other one e)

-- ---- the place

no_place : (element : Element) → 9 ≤ element.identifier → TellsNone element
no_place element high c told = go c.width refl
  where
    go : (w : Width) → c.width ≡ w → ⊥
    go Eight e = omega (arith, high, ap (λ (x : Element). x.identifier) told.0, ap (λ (x : Width). (element_for x c.reference c.maximum c.sequence).identifier) e)
    go Sixteen e = omega (arith, high, ap (λ (x : Element). x.identifier) told.0, ap (λ (x : Width). (element_for x c.reference c.maximum c.sequence).identifier) e)

both_none : (xs ys : List Element) → AllByRecursion TellsNone xs → AllByRecursion TellsNone ys → AllByRecursion TellsNone (xs ++ ys)
both_none [] ys a b = b
both_none (x ∷ xs) ys a b = (a.0, both_none xs ys a.1 b)

single_none : (s : Single) → AllByRecursion TellsNone (single_elements s)
single_none single.Default = tt
single_none single.Turkish = (no_place (language_element 36 1) (omega arith), tt)
single_none single.Spanish = (no_place (language_element 36 2) (omega arith), tt)
single_none single.Portuguese = (no_place (language_element 36 3) (omega arith), tt)

locking_none : (l : Locking) → AllByRecursion TellsNone (locking_elements l)
locking_none locking.Default = tt
locking_none locking.Turkish = (no_place (language_element 37 1) (omega arith), tt)
locking_none locking.Portuguese = (no_place (language_element 37 3) (omega arith), tt)

tells_none : (elements : List Element) → AllByRecursion TellsNone elements → TellsConcat None (header_of elements)
tells_none [] none = refl
tells_none (element ∷ others) none = record { elements = element ∷ others; are = inl refl; last = none }

pub headers_tell_places : HeadersTellPlaces
headers_tell_places tables width reference maximum sequence first last = go (maximum == 1)
  where
    others : AllByRecursion TellsNone (table_elements tables)
    others = both_none (single_elements tables.single) (locking_elements tables.locking) (single_none tables.single) (locking_none tables.locking)

    place : Concat
    place = record { width = width; reference = reference; maximum = maximum; sequence = sequence }

    go : (b : Bool) → TellsConcat (cond b None (Some place)) (header_of (cond b [] (element_for width reference maximum sequence ∷ []) ++ table_elements tables))
    go true = tells_none (table_elements tables) others
    go false = record {
      elements = element_for width reference maximum sequence ∷ table_elements tables;
      are = inl refl;
      last = record {
        front = [];
        element = element_for width reference maximum sequence;
        back = table_elements tables;
        parts = refl;
        tells = (refl, (first, last));
        others = others;
      };
    }

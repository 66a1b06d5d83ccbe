-- The elements of a header that are left, and the tables that they will tell.
use Rattle.std.proofs.Common.{◌≡◌, ℕ, List, [], ◌∷◌, ◌++◌, length, take, drop, refl, sym, ap, ◌∙◌}
use Rattle.std.proofs.lemmas.List.{take_at, drop_at}
use Rattle.sms_language.specs.Tables.{default_tables}
use Rattle.sms_language.specs.Told.{told_by}
use Rattle.sms_language.specs.declared.tables.Tables.{Tables}
use Rattle.sms_tpdu.specs.UserData.Elements.{Element, element_octets, Spells, AreElements, StartsAt}
use Rattle.sms_tpdu.specs.UserData.Languages.{tables_after, TellsTables}

-- what the elements that are left tell after the tables so far is what all of them tell
pub record Walked (header left : List ℕ) (tables : Tables) : Type 0 where
  pub all : List Element
  pub are : AreElements header all
  pub rest : List Element
  pub spelled : Spells rest left
  pub told : tables_after default_tables all ≡ tables_after tables rest

pub starts : (header left : List ℕ) → StartsAt header left → Walked header left default_tables
starts header left h = record { all = h.elements; are = h.are; rest = h.elements; spelled = h.spelled; told = refl }

-- of two elements at the front of the same octets
same_front : (d e : Element) (more next : List ℕ) → element_octets d ++ more ≡ element_octets e ++ next → (d.octets ≡ e.octets) × (d.identifier ≡ e.identifier) × (more ≡ next)
same_front d e more next is =
    let size : length d.octets ≡ length e.octets = cc in
    let parts : d.octets ++ more ≡ e.octets ++ next = cc in (
      sym (take_at d.octets more (length d.octets) refl) ∙ ap (take (length d.octets)) parts ∙ take_at e.octets next (length d.octets) (sym size),
      cc,
      sym (drop_at d.octets more (length d.octets) refl) ∙ ap (drop (length d.octets)) parts ∙ drop_at e.octets next (length d.octets) (sym size),
    )

pub goes_on : (header left next : List ℕ) (tables : Tables) (e : Element) → left ≡ element_octets e ++ next → Walked header left tables → Walked header next (told_by tables e.identifier e.octets)
goes_on header left next tables e is h = go h.rest h.spelled h.told
  where
    go : (rest : List Element) → Spells rest left → tables_after default_tables h.all ≡ tables_after tables rest → Walked header next (told_by tables e.identifier e.octets)
    go [] spelled told = absurd (let none : [] ≡ element_octets e ++ next = spelled ∙ is in cc)
    go (d ∷ others) spelled told =
        let same = same_front d e _ next (spelled ∙ is) in
        record {
          all = h.all;
          are = h.are;
          rest = others;
          spelled = same.2;
          told = told ∙ ap (λ (n : ℕ). tables_after (told_by tables n d.octets) others) same.1 ∙ ap (λ (l : List ℕ). tables_after (told_by tables e.identifier l) others) same.0;
        }

pub ended : (header left : List ℕ) (tables : Tables) → left ≡ [] → Walked header left tables → TellsTables header tables
ended header left tables none h = record { elements = h.all; are = h.are; tables_are = go h.rest h.spelled h.told }
  where
    go : (rest : List Element) → Spells rest left → tables_after default_tables h.all ≡ tables_after tables rest → tables ≡ tables_after default_tables h.all
    go [] spelled told = sym told
    go (d ∷ others) spelled told = absurd (let e : element_octets d ++ _ ≡ [] = spelled ∙ none in cc)

-- A joiner gives one answer to user data alone.
use Rattle.std.proofs.Common.{◌≡◌, ℕ, zero, suc, Bool, true, false, ◌&&◌, List, ◌∷◌, Option, None, Some, Result, Ok, Err, refl, sym, ap, subst, ◌∙◌}
use Rattle.std.specs.Prelude.{IfSome}
use Rattle.std.specs.Str.{chars, IsUtf8}
use Rattle.sms_field.specs.Address.Text.{address_of_text}
use Rattle.sms_field.specs.Address.Value.{AddressValue}
use Rattle.sms_field.specs.declared.fault.AddressFault.{AddressFault}
use Rattle.sms_tpdu.specs.UserData.ConcatenationFound.{concat_of_header}
use Rattle.sms_tpdu.specs.declared.user_data.UserData.{UserData}
use Rattle.sms_tpdu.specs.declared.user_data.concat.Concat.{Concat}
use Rattle.sms_join.specs.Joiner.Offering.{Says, SaysAnswer, is_first}
use Rattle.sms_join.specs.Joiner.Sets.{has, has_all, units_upto}
use Rattle.sms_join.specs.Joiner.{Joiner, answer, decided, has_room, is_repeat, is_whole}
use Rattle.sms_join.specs.Piece.{Piece, piece_of, piece_to}
use Rattle.sms_join.specs.declared.key.Key.{Key}
use Rattle.sms_join.specs.declared.offer.OfferFault.TheVariants.{TooManyOpen}
use Rattle.sms_join.specs.declared.units.Units.{Units}
use Rattle.sms_c.specs.DataOffers.{AreUnitsIn, IsFrom, IsTakenOrPassed, IsTextIn, OffersData, OpensTooManyData, WouldFinishData, WouldFinishOrPass, is_known}
use Rattle.sms_c.specs.Offers.{OnOkIs}
use Rattle.sms_c.specs.declared.joiner.data_offering.DataOffer.{DataOffer}
use Rattle.sms_c.specs.declared.joiner.inside.Inside.{Inside}

-- ---- what is said of a set too many does not depend on the units

module _ (seconds : ℕ) (to : Option AddressValue) (address : AddressValue) (stamp : List ℕ) (place : Option Concat) (u v : Units) where
  abbrev one : Piece
  one = piece_to seconds to address stamp place u

  abbrev other : Piece
  other = piece_to seconds to address stamp place v

  same_all : (ps : List Piece) (k : Key) (n : ℕ) → has_all (one ∷ ps) k n ≡ has_all (other ∷ ps) k n
  same_all ps k zero = refl
  same_all ps k (suc n) = ap (λ (b : Bool). has (other ∷ ps) k (suc n) && b) (same_all ps k n)

  too_many_by : (r w h first second : Bool) (us vs : List Units) → SaysAnswer (decided r w h us) first (Err TooManyOpen) → SaysAnswer (decided r w h vs) second (Err TooManyOpen)
  unfolding decided
  too_many_by true w h first second us vs said = absurd said
  too_many_by false true h first second us vs said = absurd said
  too_many_by false false true first second us vs said = absurd said
  too_many_by false false false first second us vs said = tt

  pub says_any : (open_max : ℕ) (j : Joiner) → Says open_max j one (Err TooManyOpen) → Says open_max j other (Err TooManyOpen)
  unfolding answer is_repeat is_whole has_room
  says_any open_max j said =
      too_many_by (is_repeat j other) (is_whole j other) (has_room open_max j other) (is_first j one) (is_first j other) (units_upto (one ∷ j.kept) one.key one.maximum) (units_upto (other ∷ j.kept) other.key other.maximum)
      (subst (λ (w : Bool). SaysAnswer (decided (is_repeat j other) w (has_room open_max j other) (units_upto (one ∷ j.kept) one.key one.maximum)) (is_first j one) (Err TooManyOpen)) (same_all j.kept one.key one.maximum) said)

-- ---- whom they are from

pub from_is : (origin lent : List ℕ) (address : AddressValue) → lent ≡ origin → IsUtf8 origin → address_of_text (chars lent) ≡ Ok address → IsFrom origin address
from_is origin lent address same utf8 said = record { utf8 = utf8; said = ap (λ (l : List ℕ). address_of_text (chars l)) (sym same) ∙ said }

one_address : (r : Result AddressValue AddressFault) (a b : AddressValue) → r ≡ Ok a → r ≡ Ok b → a ≡ b
one_address r a b e d = let both : Ok a ≡ Ok b = sym e ∙ d in cc

-- ---- what becomes of them

pub on_ok : {T E : Type 0} (r : Result T E) (P Q : T → Type 0) → ((value : T) → P value → Q value) → OnOkIs r P → OnOkIs r Q
on_ok (Ok value) P Q f p = f value p
on_ok (Err _) P Q f p = tt

pub offers_data : (before after : Inside) (seconds : ℕ) (offer : DataOffer) (origin octets : List ℕ) (outcome : ℕ) (value : UserData) (address : AddressValue) (stamp : List ℕ) (place : Option Concat) (units : Units) (known : Bool) → IsTextIn offer.form octets value → IsFrom origin address → stamp ≡ offer.stamp.octets → place ≡ concat_of_header value.header → AreUnitsIn offer.form value units → known ≡ is_known offer place → IsTakenOrPassed known before after (piece_of seconds address stamp place units) outcome → OffersData before after seconds offer origin octets outcome
offers_data before after seconds offer origin octets outcome value address stamp place units known text from stamp_is place_is units_are is taken =
    record {
      value = value;
      is_text = text;
      address = address;
      from = from;
      place = place;
      place_is = place_is;
      units = units;
      units_are = units_are;
      taken = subst (λ (b : Bool). IsTakenOrPassed b before after (piece_of seconds address offer.stamp.octets place units) outcome) is (subst (λ (s : List ℕ). IsTakenOrPassed known before after (piece_of seconds address s place units) outcome) stamp_is taken);
    }

pub opens_too_many : (before : Inside) (seconds : ℕ) (offer : DataOffer) (origin octets : List ℕ) (value : UserData) (address : AddressValue) (stamp : List ℕ) (place : Option Concat) (units : Units) → IsTextIn offer.form octets value → IsFrom origin address → stamp ≡ offer.stamp.octets → place ≡ concat_of_header value.header → is_known offer place ≡ true → Says before.joiner.open_max before.joiner.holds (piece_of seconds address stamp place units) (Err TooManyOpen) → OpensTooManyData before seconds offer origin octets
opens_too_many before seconds offer origin octets value address stamp place units text from stamp_is place_is known said =
    let there : Says before.joiner.open_max before.joiner.holds (piece_of seconds address offer.stamp.octets place units) (Err TooManyOpen) = subst (λ (s : List ℕ). Says before.joiner.open_max before.joiner.holds (piece_of seconds address s place units) (Err TooManyOpen)) stamp_is said in
    record {
      value = value;
      is_text = text;
      address = address;
      from = from;
      place = place;
      place_is = place_is;
      known = known;
      says = λ other. says_any seconds None address offer.stamp.octets place units other before.joiner.open_max before.joiner.holds there;
    }

pub is_turned : (before : Inside) (seconds : ℕ) (offer : DataOffer) (origin octets : List ℕ) → (o : OpensTooManyData before seconds offer origin octets) → (value : UserData) (address : AddressValue) (stamp : List ℕ) (place : Option Concat) (units : Units) → value ≡ o.value → IsFrom origin address → stamp ≡ offer.stamp.octets → place ≡ concat_of_header value.header → Says before.joiner.open_max before.joiner.holds (piece_of seconds address stamp place units) (Err TooManyOpen)
is_turned before seconds offer origin octets o value address stamp place units same from stamp_is place_is =
    let the_address : o.address ≡ address = one_address (address_of_text (chars origin)) o.address address o.from.said from.said in
    let the_place : o.place ≡ place = o.place_is ∙ ap (λ (x : UserData). concat_of_header x.header) (sym same) ∙ sym place_is in
    subst (λ (s : List ℕ). Says before.joiner.open_max before.joiner.holds (piece_of seconds address s place units) (Err TooManyOpen)) (sym stamp_is)
    (subst (λ (p : Option Concat). Says before.joiner.open_max before.joiner.holds (piece_of seconds address offer.stamp.octets p units) (Err TooManyOpen)) the_place
    (subst (λ (a : AddressValue). Says before.joiner.open_max before.joiner.holds (piece_of seconds a offer.stamp.octets o.place units) (Err TooManyOpen)) the_address (o.says units)))

pub not_passed : (before : Inside) (seconds : ℕ) (offer : DataOffer) (origin octets : List ℕ) → (o : OpensTooManyData before seconds offer origin octets) → (value : UserData) (place : Option Concat) → value ≡ o.value → place ≡ concat_of_header value.header → is_known offer place ≡ false → ⊥
not_passed before seconds offer origin octets o value place same place_is unknown =
    let the_place : o.place ≡ place = o.place_is ∙ ap (λ (x : UserData). concat_of_header x.header) (sym same) ∙ sym place_is in
    let both : true ≡ false = sym o.known ∙ ap (is_known offer) the_place ∙ unknown in cc

-- ---- a change that is counted is none of what was offered

taken_counted : (known : Bool) (before after : Inside) (piece : Piece) (outcome n : ℕ) → IsTakenOrPassed known before after piece outcome → IsTakenOrPassed known before (record after { changes = n }) piece outcome
taken_counted true before after piece outcome n t = record { answer = t.answer; says = t.says; outcome_is = t.outcome_is; holds = t.holds; limits = t.limits; text = t.text }
taken_counted false before after piece outcome n t = record { outcome_is = t.outcome_is; same = t.same; text = t.text }

offers_counted : (before after : Inside) (seconds : ℕ) (offer : DataOffer) (origin octets : List ℕ) (outcome n : ℕ) → OffersData before after seconds offer origin octets outcome → OffersData before (record after { changes = n }) seconds offer origin octets outcome
offers_counted before after seconds offer origin octets outcome n o =
    record {
      value = o.value;
      is_text = o.is_text;
      address = o.address;
      from = o.from;
      place = o.place;
      place_is = o.place_is;
      units = o.units;
      units_are = o.units_are;
      taken = taken_counted (is_known offer o.place) before after (piece_of seconds o.address offer.stamp.octets o.place o.units) outcome n o.taken;
    }

pub data_kept : (held kept : Option Inside) (before after mid new : Inside) (seconds : ℕ) (offer : DataOffer) (origin octets : List ℕ) (outcome n : ℕ) → held ≡ Some before → kept ≡ Some new → new ≡ record mid { changes = n } → mid ≡ after → OffersData before after seconds offer origin octets outcome → IfSome held (λ b. IfSome kept (λ a. OffersData b a seconds offer origin octets outcome))
data_kept held kept before after mid new seconds offer origin octets outcome n is are counted same o =
    let there : OffersData before new seconds offer origin octets outcome =
    subst (λ (i : Inside). OffersData before i seconds offer origin octets outcome) (sym counted)
    (subst (λ (i : Inside). OffersData before (record i { changes = n }) seconds offer origin octets outcome) (sym same) (offers_counted before after seconds offer origin octets outcome n o)) in
    subst (λ (h : Option Inside). IfSome h (λ b. IfSome kept (λ a. OffersData b a seconds offer origin octets outcome))) (sym is)
    (subst (λ (k : Option Inside). IfSome k (λ a. OffersData before a seconds offer origin octets outcome)) (sym are) there)

-- ---- whether they would finish their message

pub finishes_data : (inside : Inside) (offer : DataOffer) (origin octets : List ℕ) (answer : ℕ) (value : UserData) (address : AddressValue) (place : Option Concat) (known : Bool) → IsTextIn offer.form octets value → IsFrom origin address → place ≡ concat_of_header value.header → known ≡ is_known offer place → WouldFinishOrPass known inside answer (λ seconds units. piece_of seconds address offer.stamp.octets place units) → WouldFinishData inside offer origin octets answer
finishes_data inside offer origin octets answer value address place known text from place_is is finishes =
    record {
      value = value;
      is_text = text;
      address = address;
      from = from;
      place = place;
      place_is = place_is;
      is = subst (λ (b : Bool). WouldFinishOrPass b inside answer (λ seconds units. piece_of seconds address offer.stamp.octets place units)) is finishes;
    }

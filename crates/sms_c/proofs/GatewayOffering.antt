-- A joiner for many recipients gives one answer to what it is offered.
use Rattle.std.proofs.Common.{◌≡◌, ◌⊎◌, inl, inr, ℕ, Bool, true, false, cond, List, [], ◌∷◌, length, Option, None, Some, Result, Ok, Err, Global, refl, sym, ap, subst, ◌∙◌, arith}
use Rattle.std.specs.Prelude.{IfSome, String, option_and_then}
use Rattle.std.specs.Str.{chars, IsUtf8}
use Rattle.std.specs.String.{string_bytes}
use Rattle.sms_field.specs.Address.DigitText.{digits_of_text}
use Rattle.sms_field.specs.Address.Text.{address_of_text, address_text}
use Rattle.sms_field.specs.Address.Value.{AddressValue}
use Rattle.sms_field.specs.Coding.{alphabet_at}
use Rattle.sms_field.specs.Reading.{Reads}
use Rattle.sms_field.specs.declared.fault.AddressFault.{AddressFault}
use Rattle.sms_tpdu.specs.Deliver.{Delivery, deliver}
use Rattle.sms_tpdu.specs.UserData.ConcatenationFound.{concat_of_header}
use Rattle.sms_tpdu.specs.declared.user_data.UserData.{UserData}
use Rattle.sms_tpdu.specs.declared.user_data.concat.Concat.{Concat}
use Rattle.sms_join.specs.BodyUnits.{units_of_body}
use Rattle.sms_join.specs.Gateway.Answers.{gateway_would_finish, is_passed}
use Rattle.sms_join.specs.Gateway.Value.{GatewayValue}
use Rattle.sms_join.specs.Joiner.Offering.{SaysAnswer, is_first}
use Rattle.sms_join.specs.Joiner.{Finished, answer}
use Rattle.sms_join.specs.Key.{recipient_of}
use Rattle.sms_join.specs.OpenSets.{SetValue}
use Rattle.sms_join.specs.Piece.{Piece, piece_to}
use Rattle.sms_join.specs.declared.offer.OfferFault.TheVariants.{TooManyOpen}
use Rattle.sms_join.specs.declared.units.Units.{Units}
use Rattle.sms_c.specs.DataOffers.{AreUnitsIn, IsFrom, IsTextIn, is_known}
use Rattle.sms_c.specs.GatewayMessages.{OfRecipient, recipient_as}
use Rattle.sms_c.specs.GatewayOffers.{IsTo, IsTakenTo, IsTakenOrPassedTo, OffersTo, OffersDataTo, OpensTooManyTo, OpensTooManyDataTo, SayNoAddress, SaysTo, WouldFinishTo, WouldFinishDataTo, WouldFinishOrPassTo}
use Rattle.sms_c.specs.Offers.{has_text, HasText}
use Rattle.sms_c.specs.OpenMessages.{opened_as}
use Rattle.sms_c.specs.Parts.{bit}
use Rattle.sms_c.specs.Status.{status_of}
use Rattle.sms_c.specs.WritingFaults.{AreTexts, SaysNoAddress}
use Rattle.sms_c.specs.declared.status.Failure.{Failure}
use Rattle.sms_c.specs.declared.status.Failure.TheVariants.{BadAddress, Memory, NotUtf8}
use Rattle.sms_c.specs.declared.gateway.inside.Inside.{Inside}
use Rattle.sms_c.specs.declared.joiner.data_offering.DataOffer.{DataOffer}
use Rattle.sms_c.proofs.DataOffering.{says_any}
use Rattle.sms_c.proofs.Texts.{of_text}

-- ---- for whom it is

pub to_none : (text : List ℕ) → text ≡ [] → IsTo text None
to_none text empty = subst (λ (t : List ℕ). IsTo t None) (sym empty) refl

pub to_some : (text : List ℕ) (address : AddressValue) → (text ≡ [] → ⊥) → IsFrom text address → IsTo text (Some address)
to_some [] address some from = absurd (some refl)
to_some (o ∷ os) address some from = (address, from, refl)

-- the empty text is an address, of no digits
pub empty_says : (text : List ℕ) → length text ≡ 0 → SaysNoAddress text → ⊥
unfolding address_of_text chars digits_of_text
empty_says [] empty none = none _ refl
empty_says (o ∷ os) empty none = absurd (omega (arith, empty))

pub one_address : (r : Result AddressValue AddressFault) (a b : AddressValue) → r ≡ Ok a → r ≡ Ok b → a ≡ b
one_address r a b e d = let both : Ok a ≡ Ok b = sym e ∙ d in cc

no_octets : IsUtf8 []
no_octets = ([], (refl, refl))

pub to_text : (recipient : List ℕ) (to : Option AddressValue) → IsTo recipient to → IsUtf8 recipient × (SaysNoAddress recipient → ⊥)
to_text [] to is = (no_octets, empty_says [] refl)
to_text (o ∷ os) to is = (is.1.utf8, λ none. none is.0 is.1.said)

pub ends_are : (recipient origin : List ℕ) (to : Option AddressValue) (address : AddressValue) → IsTo recipient to → IsFrom origin address → AreTexts recipient origin × (SayNoAddress recipient origin → ⊥)
ends_are recipient origin to address is from = ((there.0, from.utf8), λ none. go none.1)
  where
    there : IsUtf8 recipient × (SaysNoAddress recipient → ⊥)
    there = to_text recipient to is

    go : SaysNoAddress recipient ⊎ SaysNoAddress origin → ⊥
    go (inl none) = there.1 none
    go (inr none) = none address from.said

-- an address that is told leaves want of memory alone to be told
pub memory_alone : (why : Failure) → ((why ≡ NotUtf8) ⊎ ((why ≡ Memory) ⊎ (why ≡ BadAddress))) → (status_of why ≡ 4 → ⊥) → (status_of why ≡ 5 → ⊥) → status_of why ≡ 2
memory_alone why (inl is) four five = absurd (four (ap status_of is))
memory_alone why (inr (inl is)) four five = ap status_of is
memory_alone why (inr (inr is)) four five = absurd (five (ap status_of is))

-- ---- an SMS-DELIVER that has a text

pub text_is_there : (octets : List ℕ) → HasText octets → ((value : Delivery) (used : ℕ) → Reads deliver value octets used → has_text value ≡ false) → ⊥
text_is_there octets has none = let both : true ≡ false = sym has.text ∙ none has.value has.used has.read in absurd cc

pub opens_has_text : (before : Inside) (seconds : ℕ) (recipient octets : List ℕ) → OpensTooManyTo before seconds recipient octets → HasText octets
opens_has_text before seconds recipient octets o = record { value = o.value; used = o.used; read = o.read; text = o.text }

pub one_recipient : (text : List ℕ) (a b : Option AddressValue) → IsTo text a → IsTo text b → a ≡ b
one_recipient [] a b e d = e ∙ sym d
one_recipient (o ∷ os) a b e d =
    e.2 ∙ ap (λ (x : AddressValue). Some x) (one_address (address_of_text (chars (o ∷ os))) e.0 d.0 e.1.said d.1.said) ∙ sym d.2

-- ---- what is said of a set too many does not depend on the units

pub says_to_any : (g : GatewayValue) (seconds : ℕ) (to : Option AddressValue) (origin : AddressValue) (stamp : List ℕ) (place : Option Concat) (u v : Units) → SaysTo g (piece_to seconds to origin stamp place u) (Err TooManyOpen) → SaysTo g (piece_to seconds to origin stamp place v) (Err TooManyOpen)
says_to_any g seconds to origin stamp place u v said =
    go (is_passed g.limits.alone (piece_to seconds to origin stamp place u).key) said
  where
    go : (b : Bool) → SaysAnswer (cond b (Finished (u ∷ [])) (answer g.limits.open_max g.holds (piece_to seconds to origin stamp place u))) (is_first g.holds (piece_to seconds to origin stamp place u)) (Err TooManyOpen) → SaysAnswer (cond b (Finished (v ∷ [])) (answer g.limits.open_max g.holds (piece_to seconds to origin stamp place v))) (is_first g.holds (piece_to seconds to origin stamp place v)) (Err TooManyOpen)
    go true passed = absurd passed
    go false kept = says_any seconds to origin stamp place u v g.limits.open_max g.holds kept

pub says_same : (g : GatewayValue) (seconds : ℕ) (to to' : Option AddressValue) (origin origin' : AddressValue) (stamp stamp' : List ℕ) (place place' : Option Concat) (units : Units) → to' ≡ to → origin' ≡ origin → stamp' ≡ stamp → place' ≡ place → SaysTo g (piece_to seconds to' origin' stamp' place' units) (Err TooManyOpen) → SaysTo g (piece_to seconds to origin stamp place units) (Err TooManyOpen)
says_same g seconds to to' origin origin' stamp stamp' place place' units a b c d said =
    let piece : piece_to seconds to' origin' stamp' place' units ≡ piece_to seconds to origin stamp place units = cc in
    subst (λ (p : Piece). SaysTo g p (Err TooManyOpen)) piece said

-- ---- a recipient that is told

pub recipient_in_set : (opening : ℕ) (told : List SetValue) (set : SetValue) → opened_as opening told ≡ Some set → recipient_as opening told ≡ recipient_of set.key
recipient_in_set opening told set is = ap (λ (o : Option SetValue). option_and_then (λ (s : SetValue). recipient_of s.key) o) is

pub no_recipient : (opening : ℕ) (told : List SetValue) → opened_as opening told ≡ None → recipient_as opening told ≡ None
no_recipient opening told is = ap (λ (o : Option SetValue). option_and_then (λ (s : SetValue). recipient_of s.key) o) is

pub of_recipient : (opening : ℕ) (told : List SetValue) (Out : List ℕ → Type 0) (text : String Global) (octets : List ℕ) → octets ≡ string_bytes text → ((recipient : AddressValue) × (recipient_as opening told ≡ Some recipient) × (chars (string_bytes text) ≡ address_text recipient)) → Out octets → OfRecipient opening told Out
of_recipient opening told Out text octets e found out =
    record { recipient = found.0; there = found.1; spelled = of_text (address_text found.0) Out text octets e found.2 out }

-- ---- a change that is counted is none of what was offered

taken_counted : (before after : Inside) (piece : Piece) (outcome n : ℕ) → IsTakenTo before after piece outcome → IsTakenTo before (record after { changes = n }) piece outcome
taken_counted before after piece outcome n t = record { answer = t.answer; says = t.says; outcome_is = t.outcome_is; holds = t.holds; finishings = t.finishings; passed = t.passed; limits = t.limits; text = t.text }

either_counted : (known : Bool) (before after : Inside) (piece : Piece) (outcome n : ℕ) → IsTakenOrPassedTo known before after piece outcome → IsTakenOrPassedTo known before (record after { changes = n }) piece outcome
either_counted true before after piece outcome n t = taken_counted before after piece outcome n t
either_counted false before after piece outcome n t = record { outcome_is = t.outcome_is; same = t.same; text = t.text }

-- what holds of a state whatever its number of changes holds of what is kept
pub counted_kept : (P : Inside → Inside → Type 0) → ((b a : Inside) (n : ℕ) → P b a → P b (record a { changes = n })) → (held kept : Option Inside) (before after mid new : Inside) (n : ℕ) → held ≡ Some before → kept ≡ Some new → new ≡ record mid { changes = n } → mid ≡ after → P before after → IfSome held (λ b. IfSome kept (λ a. P b a))
counted_kept P any held kept before after mid new n is are counted same o =
    let there : P before new =
    subst (λ (i : Inside). P before i) (sym counted)
    (subst (λ (i : Inside). P before (record i { changes = n })) (sym same) (any before after n o)) in
    subst (λ (h : Option Inside). IfSome h (λ b. IfSome kept (λ a. P b a))) (sym is)
    (subst (λ (k : Option Inside). IfSome k (λ a. P before a)) (sym are) there)

-- ---- an SMS-DELIVER

pub offers_to : (before after : Inside) (seconds : ℕ) (recipient octets : List ℕ) (outcome : ℕ) (value : Delivery) (used : ℕ) (to to' : Option AddressValue) (origin : AddressValue) (stamp : List ℕ) (place : Option Concat) (units : Units) → Reads deliver value octets used → IsTo recipient to → to' ≡ to → origin ≡ value.origin → stamp ≡ value.stamp → place ≡ concat_of_header value.user.header → units_of_body (alphabet_at value.dcs) value.user.body ≡ Some units → IsTakenTo before after (piece_to seconds to' origin stamp place units) outcome → OffersTo before after seconds recipient octets outcome
offers_to before after seconds recipient octets outcome value used to to' origin stamp place units read is_to to_is origin_is stamp_is place_is units_are taken =
    let piece : piece_to seconds to' origin stamp place units ≡ piece_to seconds to value.origin value.stamp place units = cc in
    record {
      value = value;
      used = used;
      read = read;
      to = to;
      is_to = is_to;
      place = place;
      place_is = place_is;
      units = units;
      units_are = units_are;
      taken = subst (λ (p : Piece). IsTakenTo before after p outcome) piece taken;
    }

pub opens_too_many_to : (before : Inside) (seconds : ℕ) (recipient octets : List ℕ) (value : Delivery) (used : ℕ) (to to' : Option AddressValue) (origin : AddressValue) (stamp : List ℕ) (place : Option Concat) (units : Units) → Reads deliver value octets used → has_text value ≡ true → IsTo recipient to → to' ≡ to → origin ≡ value.origin → stamp ≡ value.stamp → place ≡ concat_of_header value.user.header → SaysTo before.gateway (piece_to seconds to' origin stamp place units) (Err TooManyOpen) → OpensTooManyTo before seconds recipient octets
opens_too_many_to before seconds recipient octets value used to to' origin stamp place units read text is_to to_is origin_is stamp_is place_is said =
    record {
      value = value;
      used = used;
      read = read;
      text = text;
      to = to;
      is_to = is_to;
      place = place;
      place_is = place_is;
      says = λ other. says_to_any before.gateway seconds to value.origin value.stamp place units other (says_same before.gateway seconds to to' value.origin origin value.stamp stamp place place units to_is origin_is stamp_is refl said);
    }

pub is_turned_to : (before : Inside) (seconds : ℕ) (recipient octets : List ℕ) → (o : OpensTooManyTo before seconds recipient octets) → (value : Delivery) (to to' : Option AddressValue) (origin : AddressValue) (stamp : List ℕ) (place : Option Concat) (units : Units) → value ≡ o.value → IsTo recipient to → to' ≡ to → origin ≡ value.origin → stamp ≡ value.stamp → place ≡ concat_of_header value.user.header → SaysTo before.gateway (piece_to seconds to' origin stamp place units) (Err TooManyOpen)
is_turned_to before seconds recipient octets o value to to' origin stamp place units same is_to to_is origin_is stamp_is place_is =
    says_same before.gateway seconds to' o.to origin o.value.origin stamp o.value.stamp place o.place units
    (one_recipient recipient o.to to o.is_to is_to ∙ sym to_is)
    (ap (λ (v : Delivery). v.origin) (sym same) ∙ sym origin_is)
    (ap (λ (v : Delivery). v.stamp) (sym same) ∙ sym stamp_is)
    (o.place_is ∙ ap (λ (v : Delivery). concat_of_header v.user.header) (sym same) ∙ sym place_is)
    (o.says units)

pub to_counted : (seconds : ℕ) (recipient octets : List ℕ) (outcome : ℕ) (before after : Inside) (n : ℕ) → OffersTo before after seconds recipient octets outcome → OffersTo before (record after { changes = n }) seconds recipient octets outcome
to_counted seconds recipient octets outcome before after n o =
    record {
      value = o.value;
      used = o.used;
      read = o.read;
      to = o.to;
      is_to = o.is_to;
      place = o.place;
      place_is = o.place_is;
      units = o.units;
      units_are = o.units_are;
      taken = taken_counted before after (piece_to seconds o.to o.value.origin o.value.stamp o.place o.units) outcome n o.taken;
    }

-- ---- user data alone

pub offers_data_to : (before after : Inside) (seconds : ℕ) (offer : DataOffer) (recipient origin octets : List ℕ) (outcome : ℕ) (value : UserData) (to to' : Option AddressValue) (address : AddressValue) (stamp : List ℕ) (place : Option Concat) (units : Units) (known : Bool) → IsTextIn offer.form octets value → IsTo recipient to → to' ≡ to → IsFrom origin address → stamp ≡ offer.stamp.octets → place ≡ concat_of_header value.header → AreUnitsIn offer.form value units → known ≡ is_known offer place → IsTakenOrPassedTo known before after (piece_to seconds to' address stamp place units) outcome → OffersDataTo before after seconds offer recipient origin octets outcome
offers_data_to before after seconds offer recipient origin octets outcome value to to' address stamp place units known text is_to to_is from stamp_is place_is units_are is taken =
    let piece : piece_to seconds to' address stamp place units ≡ piece_to seconds to address offer.stamp.octets place units = cc in
    record {
      value = value;
      is_text = text;
      to = to;
      is_to = is_to;
      address = address;
      from = from;
      place = place;
      place_is = place_is;
      units = units;
      units_are = units_are;
      taken = subst (λ (b : Bool). IsTakenOrPassedTo b before after (piece_to seconds to address offer.stamp.octets place units) outcome) is (subst (λ (p : Piece). IsTakenOrPassedTo known before after p outcome) piece taken);
    }

pub opens_too_many_data_to : (before : Inside) (seconds : ℕ) (offer : DataOffer) (recipient origin octets : List ℕ) (value : UserData) (to to' : Option AddressValue) (address : AddressValue) (stamp : List ℕ) (place : Option Concat) (units : Units) → IsTextIn offer.form octets value → IsTo recipient to → to' ≡ to → IsFrom origin address → stamp ≡ offer.stamp.octets → place ≡ concat_of_header value.header → is_known offer place ≡ true → SaysTo before.gateway (piece_to seconds to' address stamp place units) (Err TooManyOpen) → OpensTooManyDataTo before seconds offer recipient origin octets
opens_too_many_data_to before seconds offer recipient origin octets value to to' address stamp place units text is_to to_is from stamp_is place_is known said =
    record {
      value = value;
      is_text = text;
      to = to;
      is_to = is_to;
      address = address;
      from = from;
      place = place;
      place_is = place_is;
      known = known;
      says = λ other. says_to_any before.gateway seconds to address offer.stamp.octets place units other (says_same before.gateway seconds to to' address address offer.stamp.octets stamp place place units to_is refl stamp_is refl said);
    }

pub is_turned_data_to : (before : Inside) (seconds : ℕ) (offer : DataOffer) (recipient origin octets : List ℕ) → (o : OpensTooManyDataTo before seconds offer recipient origin octets) → (value : UserData) (to to' : Option AddressValue) (address : AddressValue) (stamp : List ℕ) (place : Option Concat) (units : Units) → value ≡ o.value → IsTo recipient to → to' ≡ to → IsFrom origin address → stamp ≡ offer.stamp.octets → place ≡ concat_of_header value.header → SaysTo before.gateway (piece_to seconds to' address stamp place units) (Err TooManyOpen)
is_turned_data_to before seconds offer recipient origin octets o value to to' address stamp place units same is_to to_is from stamp_is place_is =
    says_same before.gateway seconds to' o.to address o.address stamp offer.stamp.octets place o.place units
    (one_recipient recipient o.to to o.is_to is_to ∙ sym to_is)
    (one_address (address_of_text (chars origin)) o.address address o.from.said from.said)
    (sym stamp_is)
    (o.place_is ∙ ap (λ (x : UserData). concat_of_header x.header) (sym same) ∙ sym place_is)
    (o.says units)

pub not_passed_to : (before : Inside) (seconds : ℕ) (offer : DataOffer) (recipient origin octets : List ℕ) → (o : OpensTooManyDataTo before seconds offer recipient origin octets) → (value : UserData) (place : Option Concat) → value ≡ o.value → place ≡ concat_of_header value.header → is_known offer place ≡ false → ⊥
not_passed_to before seconds offer recipient origin octets o value place same place_is unknown =
    let the_place : o.place ≡ place = o.place_is ∙ ap (λ (x : UserData). concat_of_header x.header) (sym same) ∙ sym place_is in
    let both : true ≡ false = sym o.known ∙ ap (is_known offer) the_place ∙ unknown in cc

pub data_to_counted : (seconds : ℕ) (offer : DataOffer) (recipient origin octets : List ℕ) (outcome : ℕ) (before after : Inside) (n : ℕ) → OffersDataTo before after seconds offer recipient origin octets outcome → OffersDataTo before (record after { changes = n }) seconds offer recipient origin octets outcome
data_to_counted seconds offer recipient origin octets outcome before after n o =
    record {
      value = o.value;
      is_text = o.is_text;
      to = o.to;
      is_to = o.is_to;
      address = o.address;
      from = o.from;
      place = o.place;
      place_is = o.place_is;
      units = o.units;
      units_are = o.units_are;
      taken = either_counted (is_known offer o.place) before after (piece_to seconds o.to o.address offer.stamp.octets o.place o.units) outcome n o.taken;
    }

-- ---- whether they would finish their message

pub finishes_to : (inside : Inside) (recipient octets : List ℕ) (answer : ℕ) (value : Delivery) (used : ℕ) (to to' : Option AddressValue) (origin : AddressValue) (stamp : List ℕ) (place : Option Concat) → Reads deliver value octets used → has_text value ≡ true → IsTo recipient to → to' ≡ to → origin ≡ value.origin → stamp ≡ value.stamp → place ≡ concat_of_header value.user.header → ((seconds : ℕ) (units : Units) → answer ≡ bit (gateway_would_finish inside.gateway.limits inside.gateway.holds (piece_to seconds to' origin stamp place units))) → WouldFinishTo inside recipient octets answer
finishes_to inside recipient octets answer value used to to' origin stamp place read text is_to to_is origin_is stamp_is place_is is =
    record {
      value = value;
      used = used;
      read = read;
      text = text;
      to = to;
      is_to = is_to;
      place = place;
      place_is = place_is;
      is = λ seconds units.
          let piece : piece_to seconds to' origin stamp place units ≡ piece_to seconds to value.origin value.stamp place units = cc in
          is seconds units ∙ ap (λ (p : Piece). bit (gateway_would_finish inside.gateway.limits inside.gateway.holds p)) piece;
    }

pub finishes_data_to : (inside : Inside) (offer : DataOffer) (recipient origin octets : List ℕ) (answer : ℕ) (value : UserData) (to to' : Option AddressValue) (address : AddressValue) (stamp : List ℕ) (place : Option Concat) → IsTextIn offer.form octets value → IsTo recipient to → to' ≡ to → IsFrom origin address → stamp ≡ offer.stamp.octets → place ≡ concat_of_header value.header → true ≡ is_known offer place → ((seconds : ℕ) (units : Units) → answer ≡ bit (gateway_would_finish inside.gateway.limits inside.gateway.holds (piece_to seconds to' address stamp place units))) → WouldFinishDataTo inside offer recipient origin octets answer
finishes_data_to inside offer recipient origin octets answer value to to' address stamp place text is_to to_is from stamp_is place_is known is =
    record {
      value = value;
      is_text = text;
      to = to;
      is_to = is_to;
      address = address;
      from = from;
      place = place;
      place_is = place_is;
      is = subst (λ (b : Bool). WouldFinishOrPassTo b inside answer (λ seconds units. piece_to seconds to address offer.stamp.octets place units)) known (λ seconds units.
          let piece : piece_to seconds to' address stamp place units ≡ piece_to seconds to address offer.stamp.octets place units = cc in
          is seconds units ∙ ap (λ (p : Piece). bit (gateway_would_finish inside.gateway.limits inside.gateway.holds p)) piece);
    }

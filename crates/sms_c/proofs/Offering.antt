-- A joiner gives one answer to a piece.
use Rattle.std.proofs.Common.{◌≡◌, ◌⊎◌, ℕ, true, false, List, Option, Some, is_some, Err, sym, ap, subst, ◌∙◌}
use Rattle.std.specs.Prelude.{IfSome}
use Rattle.sms_field.specs.Address.Value.{AddressValue}
use Rattle.sms_field.specs.Coding.{alphabet_at}
use Rattle.sms_field.specs.Reading.{Reads}
use Rattle.sms_tpdu.specs.Deliver.{Delivery, deliver}
use Rattle.sms_tpdu.specs.UserData.ConcatenationFound.{concat_of_header}
use Rattle.sms_tpdu.specs.declared.user_data.concat.Concat.{Concat}
use Rattle.sms_join.specs.BodyUnits.{units_of_body}
use Rattle.sms_join.specs.Joiner.Offering.{Says}
use Rattle.sms_join.specs.Piece.{Piece, piece_of}
use Rattle.sms_join.specs.declared.offer.OfferFault.TheVariants as faults
use Rattle.sms_join.specs.declared.units.Units.{Units}
use Rattle.sms_c.specs.DataOffers.{IsTaken}
use Rattle.sms_c.specs.Offers.{has_text, OpensTooMany, Offers}
use Rattle.sms_c.specs.declared.joiner.inside.Inside.{Inside}

pub is_text : (before : Inside) (seconds : ℕ) (octets : List ℕ) → (o : OpensTooMany before seconds octets) → has_text o.value ≡ false → ⊥
is_text before seconds octets o none =
    let there : has_text o.value ≡ true = ap is_some o.units_are in
    let both : true ≡ false = sym there ∙ none in absurd cc

some_one : (x : Option Units) (a b : Units) → x ≡ Some a → x ≡ Some b → a ≡ b
some_one x a b e d = let both : Some a ≡ Some b = sym e ∙ d in cc

pub is_turned : (before : Inside) (seconds : ℕ) (octets : List ℕ) → (o : OpensTooMany before seconds octets) → (value : Delivery) (origin : AddressValue) (stamp : List ℕ) (place : Option Concat) (units : Units) → value ≡ o.value → origin ≡ value.origin → stamp ≡ value.stamp → place ≡ concat_of_header value.user.header → units_of_body (alphabet_at value.dcs) value.user.body ≡ Some units → Says before.joiner.open_max before.joiner.holds (piece_of seconds origin stamp place units) (Err faults.TooManyOpen)
is_turned before seconds octets o value origin stamp place units same origin_is stamp_is place_is units_are =
    let the_origin : origin ≡ o.origin = origin_is ∙ ap (λ (v : Delivery). v.origin) same ∙ sym o.origin_is in
    let the_stamp : stamp ≡ o.stamp = stamp_is ∙ ap (λ (v : Delivery). v.stamp) same ∙ sym o.stamp_is in
    let the_place : place ≡ o.place = place_is ∙ ap (λ (v : Delivery). concat_of_header v.user.header) same ∙ sym o.place_is in
    let the_units : units ≡ o.units = some_one (units_of_body (alphabet_at value.dcs) value.user.body) units o.units units_are (ap (λ (v : Delivery). units_of_body (alphabet_at v.dcs) v.user.body) same ∙ o.units_are) in
    let piece : piece_of seconds origin stamp place units ≡ piece_of seconds o.origin o.stamp o.place o.units = cc in
    subst (λ (p : Piece). Says before.joiner.open_max before.joiner.holds p (Err faults.TooManyOpen)) (sym piece) o.says

pub offers_unit : (before after : Inside) (seconds : ℕ) (octets : List ℕ) (outcome used : ℕ) (value : Delivery) (origin : AddressValue) (stamp : List ℕ) (place : Option Concat) (units : Units) → Reads deliver value octets used → origin ≡ value.origin → stamp ≡ value.stamp → place ≡ concat_of_header value.user.header → units_of_body (alphabet_at value.dcs) value.user.body ≡ Some units → IsTaken before after (piece_of seconds origin stamp place units) outcome → Offers before after seconds octets outcome
offers_unit before after seconds octets outcome used value origin stamp place units read origin_is stamp_is place_is units_are t =
    record {
      value = value;
      used = used;
      read = read;
      origin = origin;
      origin_is = origin_is;
      stamp = stamp;
      stamp_is = stamp_is;
      place = place;
      place_is = place_is;
      units = units;
      units_are = units_are;
      answer = t.answer;
      says = t.says;
      outcome_is = t.outcome_is;
      holds = t.holds;
      limits = t.limits;
      text = t.text;
    }

pub turned_away : (held : Option Inside) (inside : Inside) (seconds : ℕ) (octets : List ℕ) (n m : ℕ) → held ≡ Some inside → n ≡ m → (OpensTooMany inside seconds octets → (m ≡ 9) ⊎ (m ≡ 2)) → IfSome held (λ before. OpensTooMany before seconds octets → (n ≡ 9) ⊎ (n ≡ 2))
turned_away held inside seconds octets n m is same law =
    subst (λ (h : Option Inside). IfSome h (λ before. OpensTooMany before seconds octets → (n ≡ 9) ⊎ (n ≡ 2))) (sym is)
    (subst (λ (k : ℕ). OpensTooMany inside seconds octets → (k ≡ 9) ⊎ (k ≡ 2)) (sym same) law)

-- a change that is counted is none of what was offered
pub offers_counted : (before after : Inside) (seconds : ℕ) (octets : List ℕ) (outcome n : ℕ) → Offers before after seconds octets outcome → Offers before (record after { changes = n }) seconds octets outcome
offers_counted before after seconds octets outcome n o =
    record {
      value = o.value;
      used = o.used;
      read = o.read;
      origin = o.origin;
      origin_is = o.origin_is;
      stamp = o.stamp;
      stamp_is = o.stamp_is;
      place = o.place;
      place_is = o.place_is;
      units = o.units;
      units_are = o.units_are;
      answer = o.answer;
      says = o.says;
      outcome_is = o.outcome_is;
      holds = o.holds;
      limits = o.limits;
      text = o.text;
    }

pub offers_kept : (held kept : Option Inside) (before after mid new : Inside) (seconds : ℕ) (octets : List ℕ) (outcome n : ℕ) → held ≡ Some before → kept ≡ Some new → new ≡ record mid { changes = n } → mid ≡ after → Offers before after seconds octets outcome → IfSome held (λ b. IfSome kept (λ a. Offers b a seconds octets outcome))
offers_kept held kept before after mid new seconds octets outcome n is are counted same o =
    let there : Offers before new seconds octets outcome =
    subst (λ (i : Inside). Offers before i seconds octets outcome) (sym counted)
    (subst (λ (i : Inside). Offers before (record i { changes = n }) seconds octets outcome) (sym same) (offers_counted before after seconds octets outcome n o)) in
    subst (λ (h : Option Inside). IfSome h (λ b. IfSome kept (λ a. Offers b a seconds octets outcome))) (sym is)
    (subst (λ (k : Option Inside). IfSome k (λ a. Offers before a seconds octets outcome)) (sym are) there)

use Rattle.std.proofs.Common.{◌≡◌, ◌≤◌, ◌∙◌, ℕ, List, Option, Some, take, drop, get_or, length, sym, ap, subst, arith}
use Rattle.std.proofs.Math.ListN.{length-set}
use Rattle.std.proofs.lemmas.List.{get_or_default, take_more_set, length-take}
use Rattle.sms_field.specs.Address.DigitText.{digits_of_text}
use Rattle.sms_field.proofs.DigitTexts.{with_digits, one_more_digit, no_character_left, digits_are_small, digits_are_ascii}
use Rattle.sms_field.proofs.Rooms.{IsZeroFrom, is_padded, zero_behind_set}
use Rattle.sms_field.proofs.digits.plain_digits.Goals as goal

pub loop-place-preserved : goal.loop-place-preserved
loop-place-preserved c =
    let octets : List ℕ = c.args.octets.now in
    let i : ℕ = c.loop-place.place in
    let values : List ℕ = c.loop-place.values in
    let octet : ℕ = get_or octets i 0 in
    let digit : ℕ = c.in_ok-values.field-0 in
    let size : length values ≡ 20 = c.loop-place.invariant.1 in (
      one_more_digit octets i octet digit (take i values) _ _ (c.loop-place-test.true, sym (get_or_default octets i octet 0 c.loop-place-test.true)) c.in_ok-values.ensures.is
          (take_more_set values i digit (omega (arith, size, c.loop-place-test.true, c.if-octets-gt-DIGITS_MAX.false))) c.loop-place.invariant.0,
      length-set values i digit ∙ size,
      zero_behind_set 20 i digit values c.loop-place.invariant.2,
    )

all_kept : (octets values : List ℕ) (i : ℕ) → length octets ≤ i → i ≤ length octets → with_digits (take i values) (digits_of_text (drop i octets)) ≡ digits_of_text octets → digits_of_text octets ≡ Some (take (length octets) values)
all_kept octets values i end within are =
    let same : i ≡ length octets = omega (arith, end, within) in
    no_character_left octets i (take i values) _ end are ∙ ap (λ (n : ℕ). let r : Option (List ℕ) = Some (take n values) in r) same

pub in_room-requires-clause-digits : goal.in_room-requires-clause-digits
in_room-requires-clause-digits c =
    let octets : List ℕ = c.args.octets.now in
    let values : List ℕ = c.loop-place.values in
    let is = all_kept octets values c.loop-place.place (omega (arith, c.loop-place-test.false, c.loop-place.auto.place-end)) (omega (arith, c.loop-place.auto.place-end)) c.loop-place.invariant.0 in
    record { few = omega (arith, length-take (length octets) values, c.if-octets-gt-DIGITS_MAX.false); each = digits_are_small octets (take (length octets) values) is }

pub returns-clause-digits : goal.returns-clause-digits
returns-clause-digits c =
    let octets : List ℕ = c.args.octets.now in
    let values : List ℕ = c.loop-place.values in
    rw c.in_room.ensures (all_kept octets values c.loop-place.place (omega (arith, c.loop-place-test.false, c.loop-place.auto.place-end)) (omega (arith, c.loop-place.auto.place-end)) c.loop-place.invariant.0)

pub in_room-requires-clause-rest : goal.in_room-requires-clause-rest
in_room-requires-clause-rest c =
    let octets : List ℕ = c.args.octets.now in
    let values : List ℕ = c.loop-place.values in
    let i : ℕ = c.loop-place.place in
    let end : i ≡ length octets = omega (arith, c.loop-place-test.false, c.loop-place.auto.place-end) in
    let zeros : IsZeroFrom 20 (length octets) values = subst (λ (n : ℕ). IsZeroFrom 20 n values) end c.loop-place.invariant.2 in
    is_padded 20 (length octets) values (omega (arith, c.if-octets-gt-DIGITS_MAX.false)) c.loop-place.invariant.1 zeros

are_kept : (octets values digits : List ℕ) (i : ℕ) → length octets ≤ i → i ≤ length octets → with_digits (take i values) (digits_of_text (drop i octets)) ≡ digits_of_text octets → digits ≡ take (length octets) values → digits_of_text octets ≡ Some digits
are_kept octets values digits i end within are is = all_kept octets values i end within are ∙ ap (λ (l : List ℕ). let r : Option (List ℕ) = Some l in r) (sym is)

pub returns-clause-are : goal.returns-clause-are
returns-clause-are c =
    let octets : List ℕ = c.args.octets.now in
    let values : List ℕ = c.loop-place.values in
    let is = are_kept octets values c.in_room.result c.loop-place.place (omega (arith, c.loop-place-test.false, c.loop-place.auto.place-end)) (omega (arith, c.loop-place.auto.place-end)) c.loop-place.invariant.0 c.in_room.ensures in
    record { few = omega (arith, ap length c.in_room.ensures, length-take (length octets) values, c.if-octets-gt-DIGITS_MAX.false); each = digits_are_small octets c.in_room.result is }

pub returns-clause-ascii : goal.returns-clause-ascii
returns-clause-ascii c =
    let octets : List ℕ = c.args.octets.now in
    let values : List ℕ = c.loop-place.values in
    digits_are_ascii octets c.in_room.result (are_kept octets values c.in_room.result c.loop-place.place (omega (arith, c.loop-place-test.false, c.loop-place.auto.place-end)) (omega (arith, c.loop-place.auto.place-end)) c.loop-place.invariant.0 c.in_room.ensures)

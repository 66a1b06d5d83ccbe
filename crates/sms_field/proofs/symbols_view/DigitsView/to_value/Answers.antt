use Rattle.std.proofs.Common.{◌≡◌, ◌≢◌, ℕ, ◌+◌, ◌*◌, ◌/◌, ◌%◌, ◌<◌, ◌≤◌, ◌∙◌, ◌++◌, ◌∷◌, [], List, ap, take, length, get_or, subst, refl, sym, arith}
use Rattle.std.proofs.Math.ListN.{set, length-set}
use Rattle.std.proofs.lemmas.List.{take_more_set, take-set}
use Rattle.std.proofs.lemmas.Grind.{take-set_at}
use Rattle.std.proofs.Math.Seq.{take-take}
use Rattle.sms_field.specs.Address.DigitValues.{AreDigits}
use Rattle.sms_field.specs.Inside.AddressSeen.{digits_in, AreDigitsIn}
use Rattle.sms_field.proofs.DigitsSeen.{digits_none, length-digits_in, both_more, first_digits}
use Rattle.sms_field.proofs.Rooms.{IsZeroFrom, is_padded, zero_behind_set, zero_at_last}
use Rattle.sms_field.proofs.symbols_view.DigitsView.to_value.Goals.{then-self-eq1, else-self-eq1}
use Rattle.sms_field.proofs.symbols_view.DigitsView.to_value.Goals as goal

pub loop-place-init : goal.loop-place-init
loop-place-init c = (digits_none c.self.inside.octets.now, refl, refl)

pub bounds-values-place : goal.bounds-values-place
bounds-values-place c = omega (arith, c.loop-place-test.true, c.self.invariant.whole, c.self.invariant.digits.few, length-digits_in c.self.inside.count c.self.inside.octets.now)

pub bounds-values-place-in-loop-place : goal.bounds-values-place-in-loop-place
bounds-values-place-in-loop-place c = omega (arith, c.loop-place-test.true, c.self.invariant.whole, c.self.invariant.digits.few, length-digits_in c.self.inside.count c.self.inside.octets.now)

both_set : (values : List ℕ) (i low high : ℕ) → i + 1 < length values → take (i + 2) (set (set values i low) (i + 1) high) ≡ (take i values ++ low ∷ []) ++ high ∷ []
both_set values i low high fits =
    take-set_at (set values i low) (i + 1) (i + 2) high (omega arith) (omega (arith, fits, length-set values i low))
    ∙ ap (λ (l : List ℕ). l ++ high ∷ []) (take_more_set values i low (omega (arith, fits)))

both_zero : (place low high : ℕ) (values : List ℕ) → IsZeroFrom 20 (2 * place) values → IsZeroFrom 20 (2 * (place + 1)) (set (set values (2 * place) low) (2 * place + 1) high)
both_zero place low high values zeros =
    let next : 2 * place + 1 + 1 ≡ 2 * (place + 1) = omega arith in
    let both : List ℕ = set (set values (2 * place) low) (2 * place + 1) high in
    subst (λ (n : ℕ). IsZeroFrom 20 n both) next (zero_behind_set 20 (2 * place + 1) high (set values (2 * place) low) (zero_behind_set 20 (2 * place) low values zeros))

pub loop-place-preserved : goal.loop-place-preserved
loop-place-preserved c =
    let octets : List ℕ = c.self.inside.octets.now in
    let place : ℕ = c.loop-place.place in
    let values : List ℕ = c.loop-place.values in
    let octet : ℕ = get_or octets place 0 in
    let size : length values ≡ 20 = c.loop-place.invariant.1 in
    let next : 2 * (place + 1) ≡ 2 * place + 2 = omega arith in (
      ap (λ (n : ℕ). take n (set (set values (2 * place) (octet % 16)) (2 * place + 1) (octet / 16))) next
          ∙ both_set values (2 * place) (octet % 16) (octet / 16) (omega (arith, size, c.loop-place-test.true, c.self.invariant.whole, c.self.invariant.digits.few, length-digits_in c.self.inside.count octets))
          ∙ both_more octets (take (2 * place) values) place octet c.loop-place.invariant.0 refl,
      length-set (set values (2 * place) (octet % 16)) (2 * place + 1) (octet / 16) ∙ length-set values (2 * place) (octet % 16) ∙ size,
      both_zero place (octet % 16) (octet / 16) values c.loop-place.invariant.2,
    )

kept : (count place : ℕ) (octets values : List ℕ) → length octets ≤ place → length octets ≡ (count + 1) / 2 → take (2 * place) values ≡ digits_in (2 * place) octets → take count values ≡ digits_in count octets
kept count place octets values end whole are =
    let few : count ≤ 2 * place = omega (arith, end, whole) in
    sym (take-take count (2 * place) values few) ∙ ap (take count) are ∙ first_digits count (2 * place) octets few

pub in_room-requires-clause-few : goal.in_room-requires-clause-few
in_room-requires-clause-few c = omega (arith, c.self.invariant.digits.few, length-digits_in c.self.inside.count c.self.inside.octets.now)

few_seen : (count : ℕ) (octets : List ℕ) → AreDigitsIn count octets → count ≤ 20
few_seen count octets are = omega (arith, are.digits.few, length-digits_in count octets)

pub bounds-values-from : goal.bounds-values-from
bounds-values-from c = omega (arith, c.from.ensures, c.if-self-eq1.true, few_seen c.self.inside.count c.self.inside.octets.now c.self.invariant)

-- the room holds as many digits as are counted, and 0 behind them
abbrev IsClosed : ℕ → List ℕ → List ℕ → Type 0
IsClosed count octets room = (take count room ≡ digits_in count octets) × (length room ≡ 20) × IsZeroFrom 20 count room

closed_odd : (count place at : ℕ) (octets values room : List ℕ) → AreDigitsIn count octets → length octets ≤ place → place ≤ length octets → count % 2 ≡ 1 → at ≡ count → room ≡ set values at 0 → (take (2 * place) values ≡ digits_in (2 * place) octets) × (length values ≡ 20) × IsZeroFrom 20 (2 * place) values → IsClosed count octets room
closed_odd count place at octets values room are end within odd there is inv =
    let same : room ≡ set values count 0 = is ∙ ap (λ (n : ℕ). set values n 0) there in
    let next : 2 * place ≡ count + 1 = omega (arith, end, within, are.whole, odd) in
    subst (λ (l : List ℕ). IsClosed count octets l) (sym same) (
      take-set values count 0 ∙ kept count place octets values end are.whole inv.0,
      length-set values count 0 ∙ inv.1,
      zero_at_last 20 count values (omega (arith, few_seen count octets are, odd)) inv.1 (subst (λ (n : ℕ). IsZeroFrom 20 n values) next inv.2),
    )

closed_even : (count place : ℕ) (octets values room : List ℕ) → AreDigitsIn count octets → length octets ≤ place → place ≤ length octets → count % 2 ≢ 1 → room ≡ values → (take (2 * place) values ≡ digits_in (2 * place) octets) × (length values ≡ 20) × IsZeroFrom 20 (2 * place) values → IsClosed count octets room
closed_even count place octets values room are end within even is inv =
    let same : 2 * place ≡ count = omega (arith, end, within, are.whole, even) in
    subst (λ (l : List ℕ). IsClosed count octets l) (sym is) (
      kept count place octets values end are.whole inv.0,
      inv.1,
      subst (λ (n : ℕ). IsZeroFrom 20 n values) same inv.2,
    )

closed : (c : goal.After-way_told-2-1) → IsClosed c.self.inside.count c.self.inside.octets.now c.if-self-eq1.values
closed c = elim c.if-self-eq1.branch [
  | then-self-eq1 w ↦ closed_odd c.self.inside.count c.loop-place.place w.from.result c.self.inside.octets.now c.loop-place.values c.if-self-eq1.values c.self.invariant c.loop-place-test.false c.loop-place.auto.place-end w.if-self-eq1.true w.from.ensures w.values-is c.loop-place.invariant
  | else-self-eq1 w ↦ closed_even c.self.inside.count c.loop-place.place c.self.inside.octets.now c.loop-place.values c.if-self-eq1.values c.self.invariant c.loop-place-test.false c.loop-place.auto.place-end w.if-self-eq1.false w.values-is c.loop-place.invariant
]

pub in_room-requires-clause-digits : goal.in_room-requires-clause-digits
in_room-requires-clause-digits c = subst AreDigits (sym (closed c).0) c.self.invariant.digits

pub in_room-requires-clause-rest : goal.in_room-requires-clause-rest
in_room-requires-clause-rest c = is_padded 20 c.self.inside.count c.if-self-eq1.values (few_seen c.self.inside.count c.self.inside.octets.now c.self.invariant) (closed c).1 (closed c).2

pub returns : goal.returns
returns c =
    let all : IsClosed c.self.inside.count c.self.inside.octets.now c.if-self-eq1.values = elim c.if-self-eq1.branch [
      | then-self-eq1 w ↦ closed_odd c.self.inside.count c.loop-place.place w.from.result c.self.inside.octets.now c.loop-place.values c.if-self-eq1.values c.self.invariant c.loop-place-test.false c.loop-place.auto.place-end w.if-self-eq1.true w.from.ensures w.values-is c.loop-place.invariant
      | else-self-eq1 w ↦ closed_even c.self.inside.count c.loop-place.place c.self.inside.octets.now c.loop-place.values c.if-self-eq1.values c.self.invariant c.loop-place-test.false c.loop-place.auto.place-end w.if-self-eq1.false w.values-is c.loop-place.invariant
    ] in
    c.in_room.ensures ∙ all.0 ∙ c.self.view_is

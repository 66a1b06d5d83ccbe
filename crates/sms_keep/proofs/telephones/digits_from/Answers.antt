use Rattle.std.proofs.Common.{◌≡◌, ◌≢◌, ℕ, ◌+◌, ◌*◌, ◌/◌, ◌%◌, ◌<◌, ◌≤◌, List, length, get_or, sym, subst, refl, arith}
use Rattle.std.proofs.Math.ListN.{set}
use Rattle.sms_keep.proofs.TelephonesRead.{Read, AreRead, none_read, pair_read, even_read, odd_read, are_digits, answered}
use Rattle.sms_keep.proofs.telephones.digits_from.Goals.{then-count-eq1+in_ok-values, else-count-eq1}
use Rattle.sms_keep.proofs.telephones.digits_from.Goals as goal

pub loop-place-init : goal.loop-place-init
loop-place-init c = none_read c.args.symbols.now _ refl refl

pub loop-place-preserved : goal.loop-place-preserved
loop-place-preserved c =
    let halves = c.in_ok-low.ensures in
    let at : ℕ = c.loop-place.place in
    pair_read c.args.symbols.now c.loop-place.values at c.in_ok-low.low c.in_ok-low.high
    (omega (arith, c.loop-place-test.true, c.from-pairs.ensures, c.requires.few)) (omega (arith, c.loop-place-test.true, c.from-pairs.ensures, c.requires.whole))
    halves.0 halves.1 halves.2 c.loop-place.invariant

-- the loop went over all pairs
read_up : (place pairs : ℕ) (symbols values : List ℕ) → pairs ≤ place → place ≤ pairs → Read symbols values place → Read symbols values pairs
read_up place pairs symbols values end within read = let same : place ≡ pairs = omega (arith, end, within) in subst (Read symbols values) same read

odd_values : (count place pairs digit : ℕ) (symbols values room : List ℕ) → count ≤ 20 → length symbols ≡ (count + 1) / 2 → pairs ≤ place → place ≤ pairs → pairs ≡ count / 2 → count % 2 ≡ 1
    → (get_or symbols pairs 0 ≡ 240 + digit) × (digit < 15) → room ≡ set values (2 * pairs) digit → Read symbols values place → AreRead count symbols room
odd_values count place pairs digit symbols values room few whole end within half odd last is read =
    subst (AreRead count symbols) (sym is) (odd_read count pairs digit symbols values few odd half whole last.0 last.1 (read_up place pairs symbols values end within read))

even_values : (count place pairs : ℕ) (symbols values room : List ℕ) → count ≤ 20 → length symbols ≡ (count + 1) / 2 → pairs ≤ place → place ≤ pairs → pairs ≡ count / 2 → count % 2 ≢ 1
    → room ≡ values → Read symbols values place → AreRead count symbols room
even_values count place pairs symbols values room few whole end within half even is read =
    subst (AreRead count symbols) (sym is) (even_read count pairs symbols values few (omega (arith, even)) half whole (read_up place pairs symbols values end within read))

pub in_room-requires-clause-digits : goal.in_room-requires-clause-digits
in_room-requires-clause-digits c =
    let all : AreRead c.args.count c.args.symbols.now c.if-count-eq1.values = elim c.if-count-eq1.branch [
      | then-count-eq1+in_ok-values w ↦
          odd_values c.args.count c.loop-place.place c.from-pairs.result w.in_ok-values.field-0 c.args.symbols.now c.loop-place.values c.if-count-eq1.values c.requires.few c.requires.whole
          c.loop-place-test.false c.loop-place.auto.place-end c.from-pairs.ensures w.if-count-eq1.true w.in_ok-values.ensures w.values-is c.loop-place.invariant
      | else-count-eq1 w ↦
          even_values c.args.count c.loop-place.place c.from-pairs.result c.args.symbols.now c.loop-place.values c.if-count-eq1.values c.requires.few c.requires.whole
          c.loop-place-test.false c.loop-place.auto.place-end c.from-pairs.ensures w.if-count-eq1.false w.values-is c.loop-place.invariant
    ] in
    are_digits c.args.count c.args.symbols.now c.if-count-eq1.values c.requires.few all

pub in_room-requires-clause-rest : goal.in_room-requires-clause-rest
in_room-requires-clause-rest c =
    let all : AreRead c.args.count c.args.symbols.now c.if-count-eq1.values = elim c.if-count-eq1.branch [
      | then-count-eq1+in_ok-values w ↦
          odd_values c.args.count c.loop-place.place c.from-pairs.result w.in_ok-values.field-0 c.args.symbols.now c.loop-place.values c.if-count-eq1.values c.requires.few c.requires.whole
          c.loop-place-test.false c.loop-place.auto.place-end c.from-pairs.ensures w.if-count-eq1.true w.in_ok-values.ensures w.values-is c.loop-place.invariant
      | else-count-eq1 w ↦
          even_values c.args.count c.loop-place.place c.from-pairs.result c.args.symbols.now c.loop-place.values c.if-count-eq1.values c.requires.few c.requires.whole
          c.loop-place-test.false c.loop-place.auto.place-end c.from-pairs.ensures w.if-count-eq1.false w.values-is c.loop-place.invariant
    ] in
    all.room

pub returns : goal.returns
returns c =
    let all : AreRead c.args.count c.args.symbols.now c.if-count-eq1.values = elim c.if-count-eq1.branch [
      | then-count-eq1+in_ok-values w ↦
          odd_values c.args.count c.loop-place.place c.from-pairs.result w.in_ok-values.field-0 c.args.symbols.now c.loop-place.values c.if-count-eq1.values c.requires.few c.requires.whole
          c.loop-place-test.false c.loop-place.auto.place-end c.from-pairs.ensures w.if-count-eq1.true w.in_ok-values.ensures w.values-is c.loop-place.invariant
      | else-count-eq1 w ↦
          even_values c.args.count c.loop-place.place c.from-pairs.result c.args.symbols.now c.loop-place.values c.if-count-eq1.values c.requires.few c.requires.whole
          c.loop-place-test.false c.loop-place.auto.place-end c.from-pairs.ensures w.if-count-eq1.false w.values-is c.loop-place.invariant
    ] in
    answered c.args.count c.args.symbols.now c.if-count-eq1.values c.in_room.result c.requires.few c.in_room.ensures all

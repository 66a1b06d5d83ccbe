use Rattle.std.proofs.Common.{◌≡◌, ◌&&◌, ◌<◌, Bool, false, get_or, refl, sym, ap, ◌∙◌, arith}
use Rattle.std.proofs.lemmas.Bool.{and_right, and_from}
use Rattle.sms_page.proofs.HexReads.{read_none, step_blank, step_first, step_second, wrong_behind, wrong_between, read_end, read_cut, waits_none, no_blank, number_or}
use Rattle.sms_page.proofs.hexadecimal.put_one_by_one.Goals as goal
use Rattle.sms_page.proofs.hexadecimal.put_one_by_one.Goals.{then-high-via-then-high, then-high-via-else-high+then-not-has_blanks, then-high-via-else-high+else-not-has_blanks+then-not-is_blank, then-number+else-high+else-not-has_blanks+else-not-is_blank, else-number+then-high-2, else-number+else-high-2}

pub loop-place-init : goal.loop-place-init
loop-place-init c = read_none c.args.has_blanks c.args.digits.now c.args.octets.now

pub returns-then-high : goal.returns-then-high
returns-then-high c =
    let b = c.args.has_blanks in
    let digits = c.args.digits.now in
    let octets = c.loop-place.octets in
    let none : number_or (get_or digits c.loop-place.place 0) ≡ 255 = sym c.number_of-number.ensures ∙ c.if-number.true in
    let byte : get_or digits c.loop-place.place 0 < 256 = (c.type_inv.digits c.loop-place.place).fits in
    elim c.then-high.branch [
      | then-high-via-then-high w ↦ wrong_behind b digits octets c.loop-place.count c.loop-place.place c.loop-place-test.true byte c.loop-place.high c.loop-place.invariant w.if-high.true none
      | then-high-via-else-high+then-not-has_blanks w ↦ wrong_between b digits octets c.loop-place.count c.loop-place.place c.loop-place-test.true byte (waits_none w.if-high.false c.loop-place.invariant) none (no_blank b _ w.if-not-has_blanks.true)
      | then-high-via-else-high+else-not-has_blanks+then-not-is_blank w ↦ wrong_between b digits octets c.loop-place.count c.loop-place.place c.loop-place-test.true byte (waits_none w.if-high.false c.loop-place.invariant) none
          (ap (λ (t : Bool). b && t) (sym w.is_blank.ensures ∙ w.if-not-is_blank.true) ∙ and_right b false refl)
    ]

pub loop-place-preserved : goal.loop-place-preserved
loop-place-preserved c =
    let b = c.args.has_blanks in
    let digits = c.args.digits.now in
    let octets = c.loop-place.octets in
    let place = c.loop-place.place in
    let byte : get_or digits place 0 < 256 = (c.type_inv.digits place).fits in
    elim c.if-number.branch [
      | then-number+else-high+else-not-has_blanks+else-not-is_blank w ↦
          rw (w.octets-is, w.count-is, w.high-is, w.if-high.false) (step_blank b digits octets c.loop-place.count place c.loop-place-test.true byte (waits_none w.if-high.false c.loop-place.invariant)
          (sym c.number_of-number.ensures ∙ w.if-number.true) (and_from b _ w.if-not-has_blanks.false (sym w.is_blank.ensures ∙ w.if-not-is_blank.false)))
      | else-number+then-high-2 w ↦
          rw (w.octets-is, w.count-is, w.high-is, c.number_of-number.ensures) (step_first b digits octets c.loop-place.count place c.loop-place-test.true byte (waits_none w.if-high-2.true c.loop-place.invariant)
          (λ e. w.if-number.false (c.number_of-number.ensures ∙ e)))
      | else-number+else-high-2 w ↦
          rw (w.octets-is, w.count-is, w.high-is, c.number_of-number.ensures) (step_second b digits octets c.loop-place.count place c.loop-place-test.true byte c.loop-place.high c.loop-place.invariant w.if-high-2.false
          (λ e. w.if-number.false (c.number_of-number.ensures ∙ e)) (omega (arith, c.loop-place.invariant.waits w.if-high-2.false)))
    ]

pub returns-then-high-3 : goal.returns-then-high-3
returns-then-high-3 c = read_cut c.args.has_blanks c.args.digits.now c.loop-place.octets c.loop-place.count c.loop-place.high c.loop-place.place (omega arith) c.if-high-3.true c.loop-place.invariant

pub returns : goal.returns
returns c =
    read_end c.args.has_blanks c.args.digits.now c.loop-place.octets c.loop-place.count c.loop-place.place (omega arith) (omega arith) (waits_none c.if-high-3.false c.loop-place.invariant)

use Rattle.std.proofs.Common.{◌++◌, ◌∷◌, [], length, refl, sym, ap, arith}
use Rattle.std.specs.Str.{chars}
use Rattle.std.proofs.lemmas.Iterator.{YieldsList-from_chars}
use Rattle.std.proofs.lemmas.Iterator.Consumers.{YieldsList-turn, YieldsList-end}
use Rattle.std.proofs.lemmas.List.{length_push}
use Rattle.sms_field.specs.Address.Text.{few_digits}
use Rattle.sms_field.proofs.DigitTexts.{one_more_digit, no_digit, no_character_left, digits_are_small, is_added, is_full, one_kept, too_many_digits, few_kept}
use Rattle.sms_field.proofs.digits.each_digit_of.Goals as goal

pub loop-c-preserved : goal.loop-c-preserved
loop-c-preserved c =
    let t = YieldsList-turn (YieldsList-from_chars c.args.text.now c.utf8.text cc) c.loop-c.yielded _ c.loop-c.yielded_by _ _ c.in-Some.c c.in-Some.is c.next.ensures.steps in
    let read = c.loop-c.invariant.0 in
    let value = c.is_err-is_long.ensures in
    let push = c.try_push.ensures in (
      read ++ c.in-Some-digit_of.digit ∷ [],
      rw (length_push c.loop-c.yielded c.in-Some.c) (one_more_digit (chars c.args.text.now) (length c.loop-c.yielded) c.in-Some.c c.in-Some-digit_of.digit read _ _ t (sym c.in-Some-digit_of.ensures) refl c.loop-c.invariant.1),
      one_kept c.loop-c.is_long c.is_err-is_long.result read c.loop-c.digits.items c.try_push.new.self.items c.in-Some-digit_of.digit c.loop-c.invariant.2
          (is_added c.try_push.result c.is_err-is_long.result (length c.loop-c.digits.items) 20 _ value.value push.variant.0 push.ok) (is_full c.try_push.result c.is_err-is_long.result _ value.value push.full),
    )

pub returns-in_default : goal.returns-in_default
returns-in_default c =
    let t = YieldsList-turn (YieldsList-from_chars c.args.text.now c.utf8.text cc) c.loop-c.yielded _ c.loop-c.yielded_by _ _ c.in-Some.c c.in-Some.is c.next.ensures.steps in
    sym (ap few_digits (no_digit (chars c.args.text.now) (length c.loop-c.yielded) c.in-Some.c c.loop-c.invariant.0 _ t (sym c.in_default.ensures) c.loop-c.invariant.1))

pub returns-then-is_long : goal.returns-then-is_long
returns-then-is_long c =
    let t = YieldsList-end (YieldsList-from_chars c.args.text.now c.utf8.text cc) c.loop-c.yielded _ c.loop-c.yielded_by _ _ c.in-None.is c.next.ensures.steps in
    too_many_digits _ c.loop-c.invariant.0 c.loop-c.digits.items c.loop-c.is_long (no_character_left (chars c.args.text.now) (length c.loop-c.yielded) c.loop-c.invariant.0 _ (omega (arith, t)) c.loop-c.invariant.1) c.if-is_long.true c.loop-c.invariant.2

pub of-requires : goal.of-requires
of-requires c =
    let t = YieldsList-end (YieldsList-from_chars c.args.text.now c.utf8.text cc) c.loop-c.yielded _ c.loop-c.yielded_by _ _ c.in-None.is c.next.ensures.steps in
    let kept = few_kept _ c.loop-c.invariant.0 c.loop-c.digits.items c.loop-c.is_long (no_character_left (chars c.args.text.now) (length c.loop-c.yielded) c.loop-c.invariant.0 _ (omega (arith, t)) c.loop-c.invariant.1) c.if-is_long.false c.loop-c.invariant.2 in
    record { few = kept.0; each = digits_are_small (chars c.args.text.now) c.loop-c.digits.items kept.1 }

pub returns : goal.returns
returns c =
    let t = YieldsList-end (YieldsList-from_chars c.args.text.now c.utf8.text cc) c.loop-c.yielded _ c.loop-c.yielded_by _ _ c.in-None.is c.next.ensures.steps in
    let kept = few_kept _ c.loop-c.invariant.0 c.loop-c.digits.items c.loop-c.is_long (no_character_left (chars c.args.text.now) (length c.loop-c.yielded) c.loop-c.invariant.0 _ (omega (arith, t)) c.loop-c.invariant.1) c.if-is_long.false c.loop-c.invariant.2 in
    rw c.of.ensures kept.2

use Rattle.std.proofs.Common.{◌≡◌, ◌∙◌, ◌++◌, Some, None, take, ap, subst, sym, length, arith, length-append}
use Rattle.std.specs.Str.{chars, IsUtf8}
use Rattle.std.specs.Char.{encode_utf8}
use Rattle.std.proofs.lemmas.Str.{chars_past_char, IsUtf8-past_char, length-encode, len_utf8_bounds}
use Rattle.sms_text.specs.SeptetsOfText.{appended}
use Rattle.sms_text.proofs.SameRuns.{after_character}
use Rattle.sms_text.proofs.coded.put_each.Goals as goal

pub returns-in_default-put_character-clause-septets : goal.returns-in_default-put_character-clause-septets
returns-in_default-put_character-clause-septets c =
    let rest = c.loop-rest.rest.now in
    let left = c.next.new.self.rest.now in
    let old = take c.loop-rest.place c.loop-rest.out in
    let parts : rest ≡ encode_utf8 c.in-Some.c ++ left = sym c.chars-characters.ensures.rest ∙ c.in-Some.ensures.steps.0 in
    sym (after_character old None _ c.in-Some.c (chars rest) (chars left) (chars_past_char rest left c.in-Some.c c.loop-rest.invariant.text parts) (ap (appended (Some old)) c.in_default-put_character.ensures.septets) c.loop-rest.invariant.so_far)

pub loop-rest-preserved : goal.loop-rest-preserved
loop-rest-preserved c =
    let rest = c.loop-rest.rest.now in
    let left = c.next.new.self.rest.now in
    let old = take c.loop-rest.place c.loop-rest.out in
    let new = take c.in-Some-put_character.after c.put_character.new.out in
    let parts : rest ≡ encode_utf8 c.in-Some.c ++ left = sym c.chars-characters.ensures.rest ∙ c.in-Some.ensures.steps.0 in
    record {
      text = subst IsUtf8 (sym c.as_str-rest.ensures) (IsUtf8-past_char rest left c.in-Some.c c.loop-rest.invariant.text parts);
      so_far = rw c.as_str-rest.ensures (after_character old (Some new) _ c.in-Some.c (chars rest) (chars left) (chars_past_char rest left c.in-Some.c c.loop-rest.invariant.text parts) c.in-Some-put_character.ensures.septets c.loop-rest.invariant.so_far);
      room = omega (arith, ap length c.as_str-rest.ensures, ap length parts, length-append (encode_utf8 c.in-Some.c) left, length-encode c.in-Some.c, len_utf8_bounds c.in-Some.c, c.in-Some-put_character.ensures.place, c.put_character.auto.out, c.loop-rest.invariant.room);
    }

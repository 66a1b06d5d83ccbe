use Rattle.std.proofs.Common.{◌∙◌, ◌++◌, ◌-◌, ℕ, List, take, drop, length, subst, sym, ap, arith, length-drop}
use Rattle.std.proofs.lemmas.List.{length-take}
use Rattle.std.proofs.lemmas.Str.{IsUtf8-append, IsUtf8-encode}
use Rattle.std.specs.Str.{IsUtf8}
use Rattle.std.proofs.Math.Utf8.{scalar_cases}
use Rattle.sms_text.proofs.Ucs2Text.{unit_spelled}
use Rattle.sms_text.proofs.ucs2_text.put_each.Goals as goal

pub loop-rest-preserved-in-Some : goal.loop-rest-preserved-in-Some
loop-rest-preserved-in-Some c =
    let rest : List ℕ = c.loop-rest.rest.now in
    let before : List ℕ = take c.loop-rest.place c.loop-rest.out in
    let spelled = c.in-Some.ensures.0 in
    let scalar = c.in-Some.ensures.1 in
    let new = c.put_word-place.ensures.octets in
    record {
      so_far = unit_spelled before _ rest _ c.unit.result c.in-Some.word c.in-len2-up.len_at_least c.unit.ensures (scalar_cases c.unit.result scalar) spelled new c.loop-rest.invariant.so_far;
      text = subst IsUtf8 (sym (new ∙ ap (λ (l : List ℕ). before ++ l) spelled.octets)) (IsUtf8-append _ _ c.loop-rest.invariant.text (IsUtf8-encode c.unit.result scalar));
      room = omega (arith, spelled.few, c.loop-rest.invariant.room, length-take (length rest - 2) (drop 2 rest), length-drop 2 rest);
    }

pub loop-rest-preserved : goal.loop-rest-preserved
loop-rest-preserved c = record {
  so_far = c.put_half.ensures.text ∙ c.loop-rest.invariant.so_far;
  text = c.put_half.ensures.utf8 c.loop-rest.invariant.text;
  room = omega (arith, c.put_half.ensures.room, c.put_half.auto.out, c.loop-rest.invariant.room);
}

use Rattle.std.proofs.Common.{◌≡◌, ◌≤◌, ◌+◌, ◌*◌, length, take, Some}
use denote.Text.{Utf8}
use denote.Shadow.{shadow}
use Rattle.std.specs.Str.{chars}
use Rattle.sms_text.specs.SeptetsOfText.{septets_of_text, appended}
use Rattle.sms_text.proofs.coded.put_each.Given as goal

abbrev pub invariant-loop-rest : goal.invariant-loop-rest
invariant-loop-rest l = record {
  text : shadow (Utf8 l.rest);
  so_far : appended (Some (take l.place l.out)) (septets_of_text (chars l.rest)) ≡ appended (Some (take l.at l.fn.out)) (septets_of_text (chars l.text));
  room : l.place + 2 * length l.rest ≤ length l.out;
}

abbrev pub decreases-loop-rest : goal.decreases-loop-rest
decreases-loop-rest l = length l.rest

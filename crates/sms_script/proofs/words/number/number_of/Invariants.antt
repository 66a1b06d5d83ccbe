use Rattle.std.proofs.Common.{◌≡◌, ◌<◌, ◌≤◌, ◌^◌, length, drop}
use Rattle.sms_script.specs.Words.Numbers.{are_digits, value_after, value}
use Rattle.sms_script.proofs.words.number.number_of.Given as goal

abbrev pub invariant-loop-digit : goal.invariant-loop-digit
invariant-loop-digit l = record {
  small : l.value < 10 ^ l.digit-index;
  few : length l.word ≤ 10;
  read : value_after l.value (drop l.digit-index l.word) ≡ value l.word;
  digits : are_digits (drop l.digit-index l.word) ≡ are_digits l.word;
}

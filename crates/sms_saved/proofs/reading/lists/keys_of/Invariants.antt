use Rattle.std.proofs.Common.{◌≡◌, ◌-◌, ◌++◌, []}
use Rattle.sms_saved.specs.Fits.{remembered_keys}
use Rattle.sms_saved.specs.Reading.Sets.{remembered_at}
use Rattle.sms_saved.specs.Reading.Lists.{judged_at, judge_key}
use Rattle.sms_saved.proofs.reading.lists.keys_of.Given as goal

abbrev pub invariant-loop : goal.invariant-loop
invariant-loop l = record {
  read : judged_at (judge_key l.fn.seen) remembered_at l.keys.items (l.count - l.counter) l.rest ≡ judged_at (judge_key l.fn.seen) remembered_at [] l.count l.bytes;
  seen_keys : l.seen ≡ l.fn.seen ++ remembered_keys l.keys.items;
}

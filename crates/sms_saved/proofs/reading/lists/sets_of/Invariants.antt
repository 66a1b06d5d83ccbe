use Rattle.std.proofs.Common.{◌≡◌, ◌-◌, []}
use Rattle.sms_saved.specs.Value.{view_sets}
use Rattle.sms_saved.specs.Fits.{set_keys}
use Rattle.sms_saved.specs.Reading.Sets.{set_at}
use Rattle.sms_saved.specs.Reading.Lists.{judged_at, judge_set, above}
use Rattle.sms_saved.proofs.reading.lists.sets_of.Given as goal

abbrev pub invariant-loop : goal.invariant-loop
invariant-loop l = record {
  read : judged_at (judge_set l.next) set_at (view_sets l.sets.items) (l.count - l.counter) l.rest ≡ judged_at (judge_set l.next) set_at [] l.count l.bytes;
  low : l.low ≡ above 0 (view_sets l.sets.items);
  keys : l.seen ≡ set_keys (view_sets l.sets.items);
}

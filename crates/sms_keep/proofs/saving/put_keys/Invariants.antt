use Rattle.std.proofs.Common.{◌≡◌, ◌-◌, ◌++◌, ◌<◌, ◌^◌, drop}
use Rattle.std.specs.List.{AllByRecursion}
use Rattle.sms_saved.specs.Spelling.{eight}
use Rattle.sms_keep.specs.Inside.Saving.{KeyIsSound}
use Rattle.sms_keep.proofs.Spelled.{written_from}
use Rattle.sms_keep.proofs.saving.put_keys.Given as goal

abbrev pub invariant-loop-done : goal.invariant-loop-done
invariant-loop-done l =
    (l.writer ≡ (l.fn.writer ++ eight l.count) ++ written_from l.gateway.holds.finished l.gateway.finishings (l.count - l.done))
    × AllByRecursion KeyIsSound (drop (l.count - l.done) l.gateway.holds.finished)
    × AllByRecursion (λ m. m < 2 ^ 64) (drop (l.count - l.done) l.gateway.finishings)

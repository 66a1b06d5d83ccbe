use Rattle.std.proofs.Common.{◌≡◌, length, take}
use Rattle.std.specs.Vec.{vec_len, vec_capacity}
use Rattle.sms_world.specs.Inside.Watching.{AllGoOnWatched}
use Rattle.sms_world.proofs.watched_run.let_happen_watched.Given as goal

abbrev pub invariant-loop-event : goal.invariant-loop-event
invariant-loop-event l =
    (length l.answers.items ≡ l.event-index) × AllGoOnWatched (take l.event-index l.events) l.answers.items l.fn.world l.world
    × (length l.world.world.parties.phones ≡ length l.fn.world.world.parties.phones)
    × (vec_len l.answers ≡ l.event-index) × (vec_capacity l.answers ≡ length l.events)

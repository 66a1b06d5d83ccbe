use Rattle.std.proofs.Common.{ℕ, List}
use Rattle.sms_feed.specs.Feed.{Awaits}
use Rattle.sms_feed.specs.Takers.{standing}
use Rattle.sms_work.proofs.Working.{AreDone}
use Rattle.sms_work.proofs.through.work_on.Given as goal

abbrev pub invariant-loop : goal.invariant-loop
invariant-loop g l =
    (octets : List ℕ) → Awaits l.fn.feed (g.R.Read.remaining l.fn.input) octets
    → AreDone g.T.Worker.does (standing l.fn.worker (g.W.Write.contents l.fn.output) l.fn.page) l.fn.feed.number octets l.feed (g.R.Read.remaining l.input) (standing l.worker (g.W.Write.contents l.output) l.page)

use Rattle.std.proofs.Common.{◌≡◌, ◌<◌, ℕ, List, []}
use Rattle.std.specs.Io.KnownBytes.{Keeps}
use Rattle.sms_feed.specs.Feed.{Awaits}
use Rattle.sms_feed.specs.Shown.{shown}
use Rattle.sms_feed.proofs.feed.Feed.find_end.Given as goal

abbrev pub invariant-loop : goal.invariant-loop
invariant-loop g l = record {
  awaits : (octets : List ℕ) → Awaits l.initial.self (g.R.Read.remaining l.initial.input) octets → Awaits l.self (g.R.Read.remaining l.input) octets;
  number : l.self.number ≡ l.initial.self.number;
  cut : l.page.is_cut ≡ l.initial.page.is_cut;
  shows : Keeps (shown (g.W.Write.contents l.initial.output) l.initial.page) (shown (g.W.Write.contents l.output) l.page);
  empty : 0 < l.counter → l.page.octets ≡ [];
}

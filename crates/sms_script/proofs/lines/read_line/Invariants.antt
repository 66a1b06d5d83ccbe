use Rattle.std.proofs.Common.{◌≡◌, ◌≤◌, ◌+◌, ◌-◌, length, vec_len, vec_capacity, false}
use Rattle.std.specs.Io.KnownBytes.{Consumes}
use Rattle.sms_script.specs.Lines.{line_limit, HasNoLineFeed}
use Rattle.sms_script.proofs.lines.read_line.Given as goal

abbrev pub invariant-loop-source : goal.invariant-loop-source
invariant-loop-source g l = record {
  works : g.S.Source.has_failed l.source ≡ false;
  goes_on : g.S.Source.has_ended l.source ≡ false;
  no_feed : HasNoLineFeed l.line.items;
  few : length l.line.items ≤ line_limit;
  room : line_limit + 1 ≤ vec_capacity l.line;
  taken : Consumes (g.S.Source.remaining l.initial.source) (g.S.Source.remaining l.source) l.line.items;
}

abbrev pub decreases-loop-source : goal.decreases-loop-source
decreases-loop-source g l = 4096 - vec_len l.line

use Rattle.std.proofs.Common.{sym, subst}
use Rattle.sms_feed.specs.Next.{StandsAtFirst}
use Rattle.sms_feed.proofs.FeedLemmas.{gives_line, gives_none}
use Rattle.sms_feed.proofs.feed.Feed.advance.Goals as goal

pub returns-in-Some-clause-line : goal.returns-in-Some-clause-line
returns-in-Some-clause-line g c = λ octets awaits.
    let ends = rw c.in-Some.is at c.in_ok-end.ensures.end in
    subst (λ feed. StandsAtFirst octets feed (g.R.Read.remaining c.find_end.new.input)) (sym c.step.ensures)
    (gives_line c.find_end.new.self c.in-Some.end (g.R.Read.remaining c.find_end.new.input) octets ends (c.find_end.ensures.awaits octets awaits))

pub returns-in-None-clause-line : goal.returns-in-None-clause-line
returns-in-None-clause-line g c = λ octets awaits.
    let no_end = rw c.in-None.is at c.in_ok-end.ensures.end in
    let ended = rw c.in-None.is at c.in_ok-end.ensures.ended in
    gives_none c.find_end.new.self (g.R.Read.remaining c.find_end.new.input) octets no_end ended (c.find_end.ensures.awaits octets awaits)

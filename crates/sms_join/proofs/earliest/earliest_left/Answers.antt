use Rattle.std.proofs.Common.{sym, subst, arith}
use Rattle.sms_join.specs.Inside.Lines.{AreSince}
use Rattle.sms_join.specs.Inside.Slots.{sets_of}
use Rattle.sms_join.proofs.Since.{since_least, since_none}
use Rattle.sms_join.proofs.earliest.earliest_left.Goals as goal

pub returns-then-not-in_time : goal.returns-then-not-in_time
returns-then-not-in_time c = λ h. subst (λ n. AreSince n (sets_of c.args.slots.now.entries)) (sym c.least_moment.ensures) (since_least c.args.slots.now.entries 18446744073709551615)

pub returns-then-is_empty : goal.returns-then-is_empty
returns-then-is_empty c = λ h. since_none 18446744073709551615 c.args.slots.now.entries (omega arith)

pub returns-in-Some : goal.returns-in-Some
returns-in-Some c = λ h.
    let time = c.requires.time c.if-not-in_time.false in
    c.in-Some.ensures c.requires.line.0 time.0 c.requires.line.1 time.1

use Rattle.std.proofs.Common.{sym, ◌∙◌}
use Rattle.sms_message.specs.Memory.{only_for}
use Rattle.sms_party.specs.Sender.Waits.{waits_for}
use Rattle.sms_party.proofs.Passing.{sender_received, err_same}
use Rattle.sms_party.proofs.sender.Sender.receive_look.Goals as goal

pub returns-then-not-waits_for-clause-receives : goal.returns-then-not-waits_for-clause-receives
returns-then-not-waits_for-clause-receives c =
    let some = c.octets_are_read_as_a_message.ensures c.args.look.now c.glance-seen.ensures.octets in
    sender_received c.args.look.now c.args.self.now c.args.self.now c.pass.result some.0 some.1 (c.pass.ensures.steps some.0 (c.glance-seen.ensures.seen some.0 some.1)) (err_same c.args.self.now c.pass.result)

pub returns-clause-memory : goal.returns-clause-memory
returns-clause-memory c =
    only_for (waits_for c.args.self.now) c.args.look.now c.glance-seen.result c.take.result c.glance-seen.ensures.seen (sym c.waits_for.ensures ∙ c.if-not-waits_for.false)

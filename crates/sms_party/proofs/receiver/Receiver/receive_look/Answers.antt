use Rattle.std.proofs.Common.{sym, ◌∙◌}
use Rattle.sms_message.specs.Memory.{only_for}
use Rattle.sms_party.specs.Receiver.Waits.{takes_up}
use Rattle.sms_party.proofs.Storing.{receives}
use Rattle.sms_party.proofs.Passing.{receiver_few}
use Rattle.sms_party.proofs.receiver.Receiver.receive_look.Goals as goal

pub returns-then-not-takes_up-clause-receives : goal.returns-then-not-takes_up-clause-receives
returns-then-not-takes_up-clause-receives c =
    let some = c.octets_are_read_as_a_message.ensures c.args.look.now c.glance-seen.ensures.octets in
    receives c.args.now c.args.look.now c.args.self.now c.args.self.now some.0 c.pass.result some.1 (c.pass.ensures.steps some.0 (c.glance-seen.ensures.seen some.0 some.1))

pub returns-clause-receives : goal.returns-clause-receives
returns-clause-receives c = receives c.args.now c.args.look.now c.args.self.now c.take.new.self c.in_ok-message.message c.take.result c.in_ok-message.ensures.read c.take.ensures.steps

pub returns-clause-few : goal.returns-clause-few
returns-clause-few c = receiver_few c.laws_of_joiners.ensures.same c.args.now c.in_ok-message.message c.args.self.now c.take.new.self c.take.result c.take.ensures.steps

pub returns-clause-memory : goal.returns-clause-memory
returns-clause-memory c =
    only_for takes_up c.args.look.now c.glance-seen.result c.take.result c.glance-seen.ensures.seen (sym c.takes_up.ensures ∙ c.if-not-takes_up.false)

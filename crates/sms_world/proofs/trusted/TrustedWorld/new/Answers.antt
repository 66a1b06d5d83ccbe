use Rattle.std.proofs.Common.{refl, sym, ◌∙◌}
use Rattle.sms_world.proofs.Trusting.{begins_trusted, new_trusted}
use Rattle.sms_world.proofs.trusted.TrustedWorld.new.Goals as goal

pub invariant_of-result : goal.invariant_of-result
invariant_of-result c = (
  record {
    senders = c.in_ok-notes.ensures.senders ∙ sym c.in_ok-watched.ensures.phones;
    outs = c.in_ok-notes.ensures.outs ∙ sym c.in_ok-watched.ensures.phones;
  },
  new_trusted c.args.limits c.args.phones.now c.in_ok-watched.watched c.in_ok-notes.notes c.in_ok-notes.ensures.alike c.in_ok-watched.ensures.begins,
)

pub returns-clause-begins : goal.returns-clause-begins
returns-clause-begins c =
    begins_trusted c.args.limits c.args.phones.now c.in_ok-watched.watched c.in_ok-notes.notes c.in_ok-notes.ensures.alike c.in_ok-watched.ensures.begins

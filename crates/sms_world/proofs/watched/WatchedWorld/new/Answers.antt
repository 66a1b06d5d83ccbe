use Rattle.std.proofs.Common.{◌≡◌, length, refl, sym, ap, ◌∙◌, subst}
use Rattle.sms_world.proofs.Beginning.{distinct}
use Rattle.sms_world.proofs.Followed.{begins_watched, new_watched}
use Rattle.sms_world.proofs.watched.WatchedWorld.new.Goals as goal

pub invariant_of-result : goal.invariant_of-result
invariant_of-result c = (
  record {
    senders = c.in_ok-notes.ensures.senders ∙ sym c.in_ok-world.ensures.phones;
    receivers = c.in_ok-notes.ensures.receivers ∙ sym c.in_ok-world.ensures.phones;
  },
  new_watched c.watching_goes_on.ensures c.args.limits c.args.phones.now c.in_ok-world.world c.in_ok-notes.notes (distinct c.args.phones.now c.requires.phones.0) c.in_ok-world.ensures.stands c.in_ok-notes.ensures.alike,
)

pub returns-clause-begins : goal.returns-clause-begins
returns-clause-begins c =
    begins_watched c.watching_goes_on.ensures c.args.limits c.args.phones.now c.in_ok-world.world c.in_ok-notes.notes (distinct c.args.phones.now c.requires.phones.0) c.in_ok-world.ensures.stands c.in_ok-notes.ensures.alike

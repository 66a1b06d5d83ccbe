use Rattle.std.proofs.Common.{◌≡◌, None, Err, OnErr, sym, ◌∙◌, subst}
use Rattle.sms_world.specs.Inside.NotesValue.{ledger_in}
use Rattle.sms_world.specs.World.Steps.{event_of}
use Rattle.sms_world.proofs.Followed.{passes}
use Rattle.sms_world.proofs.watched.happen_in_order.Goals as goal

pub returns-in-None-clause-follows : goal.returns-in-None-clause-follows
returns-in-None-clause-follows c =
    passes c.laws_below.ensures c.watching_goes_on.ensures c.args.world.now (ledger_in c.args.notes.now) (event_of c.args.event.now) c.requires.in_order c.step.result c.step.new.self c.step.ensures.steps
    (λ x. subst (λ t. OnErr t (c.step.new.self.packets ≡ c.args.world.now.packets)) x.1 c.step.ensures.kept) (sym c.way_of.ensures.way ∙ c.in-None.is)

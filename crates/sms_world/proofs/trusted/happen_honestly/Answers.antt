use Rattle.std.proofs.Common.{◌≡◌, None, Err, OnErr, sym, ap, ◌∙◌, subst}
use Rattle.sms_world.specs.Inside.Asked.{way_at}
use Rattle.sms_world.specs.World.Value.{WorldValue}
use Rattle.sms_world.specs.Inside.TraceValue.{traces_in}
use Rattle.sms_world.specs.World.Steps.{event_of}
use Rattle.sms_world.proofs.Trusting.{follows_nobody}
use Rattle.sms_world.proofs.trusted.happen_honestly.Goals as goal

pub returns-in-None-clause-follows : goal.returns-in-None-clause-follows
returns-in-None-clause-follows c =
    follows_nobody c.traces_tell.ensures (event_of c.args.event.now) c.args.watched.now.world (traces_in c.args.notes.now) c.step.new.self.world c.step.result
    (ap (λ (w : WorldValue). way_at w (event_of c.args.event.now)) (sym c.world.ensures) ∙ (sym c.way_of.ensures.way ∙ c.in-None.is))
    (λ why e. subst (λ t. OnErr t (c.step.new.self.world.packets ≡ c.args.watched.now.world.packets)) e c.step.ensures.kept)

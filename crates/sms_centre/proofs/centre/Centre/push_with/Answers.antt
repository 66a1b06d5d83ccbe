use Rattle.std.proofs.Common.{◌≤◌, List, length, ap, sym, subst, ◌∙◌}
use Rattle.sms_centre.specs.Centre.Pushes.{centre_pushes}
use Rattle.sms_centre.specs.Centre.Kept.{IsLater}
use Rattle.sms_centre.specs.Centre.Value.{LineValue, HeldValue, CentreValue, phones_of}
use Rattle.sms_centre.specs.Centre.Standing.{StandsFor}
use Rattle.sms_centre.specs.Centre.Calls.{CentreAnswers}
use Rattle.sms_centre.proofs.Pushing.{push_steps, push_waits, pushed_phones, pushed_few}
use Rattle.sms_centre.proofs.Later.{later_same, always_waits}
use Rattle.sms_centre.proofs.centre.Centre.push_with.Goals as goal

pub returns-clause-steps : goal.returns-clause-steps
returns-clause-steps c = λ limit phones clock s le stands.
    let v : CentreValue = record { limit = c.self.inside.limit; held = c.self.inside.holdings.held; lines = c.self.inside.holdings.lines } in
    let h = c.push.ensures.line in
    subst (λ (held : HeldValue). CentreAnswers limit phones c.args.now s (centre_pushes phones s c.args.now c.args.phone) c.push.result (record { limit = v.limit; held = held; lines = c.push.new.self.lines })) (sym c.push.ensures.held)
    (subst (λ (lines : List LineValue). CentreAnswers limit phones c.args.now s (centre_pushes phones s c.args.now c.args.phone) c.push.result (record { limit = v.limit; held = v.held; lines = lines })) (sym h.others_stay)
    (push_steps limit phones c.args.now v s c.args.phone h.before h.after h.is_there
    (subst (λ (w : CentreValue). StandsFor limit phones c.args.now w s) (sym c.self.view_is) (c.advance.ensures.stands limit phones clock s le stands)) c.push.result h.how))

pub returns-clause-phones : goal.returns-clause-phones
returns-clause-phones c =
    pushed_phones c.args.phone c.self.inside.holdings.lines c.push.new.self.lines c.push.result c.push.ensures.line ∙ (ap phones_of c.self.view_is ∙ c.advance.ensures.phones)

pub invariant_of-self : goal.invariant_of-self
invariant_of-self c = subst (λ (h : HeldValue). length h.endings ≤ c.self.inside.limit) (sym c.push.ensures.held) c.self.invariant

pub returns-clause-few : goal.returns-clause-few
returns-clause-few c = let h = c.push.ensures.line in pushed_few h.before h.after c.push.result h.how

pub returns-clause-waits : goal.returns-clause-waits
returns-clause-waits c =
    let v : CentreValue = record { limit = c.self.inside.limit; held = c.self.inside.holdings.held; lines = c.self.inside.holdings.lines } in
    let h = c.push.ensures.line in
    always_waits c.args.now c.args.phone c.args.self.now c.push.result (λ limit phones clock s le stands.
    push_waits limit phones c.args.now v s c.args.phone h.before h.after h.is_there
    (subst (λ (w : CentreValue). StandsFor limit phones c.args.now w s) (sym c.self.view_is) (c.advance.ensures.stands limit phones clock s le stands)) c.push.result h.how)

pub returns-clause-refused : goal.returns-clause-refused
returns-clause-refused c =
    later_same c.args.now c.args.self.now c.self.inside.limit c.self.inside.holdings c.push.new.self c.push.result c.push.ensures.refused
    (subst (λ (w : CentreValue). IsLater c.args.now c.args.self.now w) (sym c.self.view_is) c.advance.ensures.later)

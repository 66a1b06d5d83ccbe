use Rattle.std.proofs.Common.{◌≡◌, List, max, sym, ap, subst, ◌∙◌, Ok}
use Rattle.sms_field.specs.Address.Value.{AddressValue}
use Rattle.sms_tpdu.specs.Submit.{Submission}
use Rattle.sms_centre.specs.declared.centre.check.Check.{Check}
use Rattle.sms_centre.specs.Centre.State.{Acceptance}
use Rattle.sms_centre.specs.Centre.Submissions.{checked, accept}
use Rattle.sms_centre.specs.Centre.Value.{CentreValue, LineValue, phones_of}
use Rattle.sms_centre.specs.Centre.Standing.{StandsFor}
use Rattle.sms_centre.specs.Centre.Calls.{CentreAnswers}
use Rattle.sms_centre.specs.Inside.Calls.{IsCheckIn}
use Rattle.sms_centre.specs.Inside.Kept.{free_at, HoldsAlso}
use Rattle.sms_centre.specs.Centre.Kept.{key_of}
use Rattle.sms_centre.proofs.Taking.{puts_answer}
use Rattle.sms_centre.proofs.Accepting.{accepted_stands, accepted_phones, waiting_from, ending_in}
use Rattle.sms_centre.proofs.centre.Centre.settle.Goals as goal

pub returns-in-Refuse-clause-steps : goal.returns-in-Refuse-clause-steps
unfolding checked
returns-in-Refuse-clause-steps c = λ h limit phones s origin stands.
    subst (λ (k : Check). CentreAnswers limit phones c.args.now s (checked s c.args.now c.args.phone c.args.tag c.args.submission origin k) c.refusal.result c.args.self.now) (sym c.in-Refuse.is)
    (puts_answer limit phones c.args.now c.args.self.now s _ _ c.refusal.result stands c.refusal.ensures.puts)

pub returns-in_ok-hold-in-Accept-clause-steps : goal.returns-in_ok-hold-in-Accept-clause-steps
unfolding checked
returns-in_ok-hold-in-Accept-clause-steps c = λ h limit phones s origin stands.
    let v : CentreValue = record { limit = c.self.inside.limit; held = c.self.inside.holdings.held; lines = c.self.inside.holdings.lines } in
    let a : Acceptance = record { phone = c.args.phone; submission = c.args.submission; recipient = c.in-Accept.recipient; stamp = c.in-Accept.stamp; ends = c.in-Accept.ends; origin = origin } in
    let known = subst (λ (k : Check). IsCheckIn c.args.now c.args.phone c.args.submission k c.args.self.now) c.in-Accept.is h in
    let p = c.in_ok-step-in-Accept.ensures.puts in
    let back = sym c.self.view_is in
    let reference = ap (λ (x : Submission). x.reference) c.submission.view_is in
    let held = c.in_ok-hold-in-Accept.ensures.line in
    subst (λ (k : Check). CentreAnswers limit phones c.args.now s (checked s c.args.now c.args.phone c.args.tag c.args.submission origin k) (Ok c.in_ok-step-in-Accept.step)
    (record { limit = c.self.inside.limit; held = c.hold.new.self.held; lines = c.hold.new.self.lines })) (sym c.in-Accept.is) (
      ap Ok (sym p.0),
      p.1,
      subst (λ (lines : List LineValue). StandsFor limit phones c.args.now (record { limit = c.self.inside.limit; held = c.hold.new.self.held; lines = lines }) (accept s a)) (sym held.others_stay)
          (accepted_stands limit phones c.args.now v s (subst (λ (w : CentreValue). StandsFor limit phones c.args.now w s) back stands) a c.hold.new.self.held held.before held.after _
          held.is_there
          (subst (λ (w : CentreValue). c.in-Accept.stamp ≡ max (free_at w.lines c.in-Accept.recipient) c.args.now) back known.0)
          known.1
          (subst (λ n. HoldsAlso c.self.inside.holdings.held (key_of c.args.phone n c.in-Accept.recipient) (ending_in a) c.hold.new.self.held) reference c.in_ok-hold-in-Accept.ensures.held)
          held.how
          (ap (λ (o : AddressValue). waiting_from o a) (c.in_ok-origin-in-Accept.ensures.copy ∙ c.address.ensures))),
    )

pub returns-in_ok-hold-in-Accept-clause-phones : goal.returns-in_ok-hold-in-Accept-clause-phones
returns-in_ok-hold-in-Accept-clause-phones c =
    accepted_phones c.in-Accept.recipient c.self.inside.holdings.lines c.hold.new.self.lines _ c.in_ok-hold-in-Accept.ensures.line ∙ ap phones_of c.self.view_is

use Rattle.std.proofs.Common.{◌≡◌, ℕ, Bool, List, Option, length, refl, sym, ap, ◌∙◌, subst}
use Rattle.sms_centre.specs.Centre.Value.{phones_of}
use Rattle.sms_field.specs.Time.Computed.{end_of}
use Rattle.sms_message.specs.Address.{phone_at}
use Rattle.sms_tpdu.specs.Submit.{Submission}
use Rattle.sms_world.specs.Traces.{Seen, Submits, end_in}
use Rattle.sms_world.proofs.TraceRead.{submission_read, ok_end}
use Rattle.sms_world.proofs.traces.trace.submission_in.Goals as goal

pub returns-in_default : goal.returns-in_default
returns-in_default c = λ s spells. absurd (c.in_default.ensures.exact s (length c.args.octets.now) (submission_read s c.args.octets.now spells))

pub returns : goal.returns
returns c = λ s spells.
    let whole = c.view.view_is ∙ (c.in-Ok.ensures.exact s (length c.args.octets.now) (submission_read s c.args.octets.now spells)).0 in
    let r = ap (λ (x : Submission). x.reject) whole in
    let f = ap (λ (x : Submission). x.reference) whole in
    let t = c.recipient_of-recipient.ensures ∙ ap (phone_at (phones_of c.args.world.now.parties.centre)) (c.in-Ok-to_value.ensures.value ∙ ap (λ (x : Submission). x.target) whole) in
    let v = c.ok.ensures.value ∙ (ok_end c.ends.result ∙ ap end_in (c.ends.ensures.value
    ∙ (ap (λ (x : Submission). end_of x.validity c.clock.result) whole ∙ ap (end_of s.validity) c.clock.ensures.clock))) in
    λ i. Submits (r i) (f i) (t i) (v i)

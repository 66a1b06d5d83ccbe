use Rattle.std.proofs.Common.{◌≡◌, ℕ, List, ◌<◌, ◌≤◌, ◌%◌, ◌+◌, ◌∙◌, ap, sym, subst, arith, rules, false, length}
use Rattle.std.specs.Result.{IfOk}
use Rattle.std.proofs.lemmas.Result.{IfOk-weaker}
use Rattle.sms_field.specs.declared.validity.Validity.TheVariants.{Absent}
use Rattle.sms_tpdu.specs.Submit.{Submission, SpellsSubmit}
use Rattle.sms_tpdu.specs.Inside.SizeLaws.{submit_within}
use Rattle.sms_relay.specs.declared.user.TheConstants.{USER_DATA_MAX}
use Rattle.sms_join.specs.declared.units.Units.{Units}
use Rattle.sms_join.specs.declared.units.Units.TheVariants.{Gsm, Ucs2}
use Rattle.sms_join.specs.Segments.User.{dcs_of, user_of}
use Rattle.sms_party.specs.Sender.Value.{TextValue}
use Rattle.sms_party.specs.Inside.Sender.{submission_in}
use Rattle.sms_party.proofs.sender.typed_text.TypedText.submission.Goals as goal

dcs_range : (u : Units) → dcs_of u < 256
dcs_range (Gsm s) = omega arith
dcs_range (Ucs2 s) = omega arith

-- what is written of a submission has not too many octets for the relay
few_written : (s : Submission) (octets : List ℕ) → SpellsSubmit s octets → length octets ≤ USER_DATA_MAX
few_written s octets h = omega (arith, submit_within s octets h)

pub invariant_of-front : goal.invariant_of-front
invariant_of-front c =
    let dcs = c.coding_scheme.ensures.dcs in
    record {
      validity = tt;
      reference = omega arith;
      target = search rules;
      pid = omega arith;
      dcs = subst (λ n. n < 256) (sym dcs) (dcs_range c.args.segment.now.units);
    }

pub returns-clause-spelled : goal.returns-clause-spelled
returns-clause-spelled c =
    let target = c.in_ok-copy.ensures.copy in
    let dcs = c.coding_scheme.ensures.dcs in
    subst (λ (s : Submission). IfOk c.write_submit_in.result (λ octets. SpellsSubmit s octets.items))
    ((λ i. record {
      reject = c.args.reject;
      validity = Absent;
      report = false;
      reply = false;
      reference = (c.self.inside.reference + c.args.place) % 256;
      target = target i;
      pid = 0;
      dcs = dcs i;
      user = user_of c.self.inside.width c.self.inside.set_reference c.args.segment.now;
    })
    ∙ ap (λ (t : TextValue). submission_in t c.args.place c.args.segment.now c.args.reject) c.self.view_is)
    c.write_submit_in.ensures

pub returns-clause-few : goal.returns-clause-few
returns-clause-few c = IfOk-weaker c.write_submit_in.result _ _ (λ octets h. few_written _ octets.items h) c.write_submit_in.ensures

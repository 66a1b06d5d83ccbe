use Rattle.std.proofs.Common.{◌≡◌, ℕ, Bool, true, false, List, Option, refl, sym, ap, ◌∙◌, subst}
use Rattle.sms_centre.specs.Centre.Value.{phones_of}
use Rattle.sms_relay.specs.Carried.InnerSeen.{seen_inner}
use Rattle.sms_relay.specs.Cp.Value.{CpValue}
use Rattle.sms_relay.specs.Rp.Value.{RpValue}
use Rattle.sms_relay.specs.Rp.Seen.{seen_rp_body}
use Rattle.sms_relay.specs.declared.side.Side.TheVariants.{FromPhone, ToPhone}
use Rattle.sms_tpdu.specs.Submit.{SpellsSubmit}
use Rattle.sms_world.specs.Traces.{Answers}
use Rattle.sms_world.proofs.MayCall.{either}
use Rattle.sms_world.proofs.TraceRead.{not_seen, ack_not, fail_not, no_message, no_relay, transfer_found, answer_found}
use Rattle.sms_world.proofs.traces.trace.seen_in.Goals as goal

pub returns-in_default : goal.returns-in_default
returns-in_default c = λ v h. absurd (no_message c.args.octets.now c.in_default.ensures.carried v h)

pub returns-in_default-inner : goal.returns-in_default-inner
returns-in_default-inner c =
    no_relay (phones_of c.args.world.now.parties.centre) c.args.world.now.clock c.args.octets.now c.in-Ok.connection (seen_inner c.in-Ok.inner) c.in-Ok.ensures.carried (not_seen c.in-Ok.inner c.in_default-inner.not-Relay)

pub returns-then-not-connection : goal.returns-then-not-connection
returns-then-not-connection c =
    answer_found (phones_of c.args.world.now.parties.centre) c.args.world.now.clock c.args.octets.now c.in-Ok.connection (seen_inner c.in-Ok.inner) c.in-Ok.ensures.carried
    c.in-Relay.relay (ap seen_inner c.in-Relay.is) (λ address user e. either c.in-Ack.is
    (λ w. ack_not c.relay.inside.body w.0 w.1 address user (ap (λ (x : RpValue). x.body) c.relay.view_is ∙ e))
    (λ w. fail_not c.relay.inside.body w.0 w.1 w.2 w.3 address user (ap (λ (x : RpValue). x.body) c.relay.view_is ∙ e))) _ (λ e. let z : true ≡ false = sym (ap (λ (x : CpValue). x.flag) c.connection.view_is ∙ e) ∙ c.if-not-connection.true in cc) (λ e. refl)

pub returns-else-not-connection : goal.returns-else-not-connection
returns-else-not-connection c =
    answer_found (phones_of c.args.world.now.parties.centre) c.args.world.now.clock c.args.octets.now c.in-Ok.connection (seen_inner c.in-Ok.inner) c.in-Ok.ensures.carried
    c.in-Relay.relay (ap seen_inner c.in-Relay.is) (λ address user e. either c.in-Ack.is
    (λ w. ack_not c.relay.inside.body w.0 w.1 address user (ap (λ (x : RpValue). x.body) c.relay.view_is ∙ e))
    (λ w. fail_not c.relay.inside.body w.0 w.1 w.2 w.3 address user (ap (λ (x : RpValue). x.body) c.relay.view_is ∙ e))) _
    (λ e. let x = ap (λ (y : CpValue). y.value) c.connection.view_is in let y = ap (λ (z : RpValue). z.reference) c.relay.view_is in λ j. Answers (record { value = x j; reference = y j }))
    (λ e. let z : false ≡ true = sym e ∙ (sym (ap (λ (x : CpValue). x.flag) c.connection.view_is) ∙ c.if-not-connection.false) in cc)

pub returns-in-false-FromPhone : goal.returns-in-false-FromPhone
returns-in-false-FromPhone c =
    transfer_found (phones_of c.args.world.now.parties.centre) c.args.world.now.clock c.args.octets.now c.in-Ok.connection (seen_inner c.in-Ok.inner) c.in-Ok.ensures.carried
    c.in-Relay.relay (ap seen_inner c.in-Relay.is) _ _ (sym (ap (λ (x : RpValue). x.body) c.relay.view_is) ∙ ap seen_rp_body c.in-Transfer.is) _
    (λ f d s g. c.submission_in.ensures s (subst (SpellsSubmit s) (sym c.as_slice.ensures.same) g))
    (λ other. absurd (other (sym (ap (λ (x : CpValue). x.flag) c.connection.view_is) ∙ c.in-false-FromPhone.is-0) (sym (ap (λ (x : RpValue). x.side) c.relay.view_is) ∙ c.in-false-FromPhone.is-1)))

pub returns-in_default-2 : goal.returns-in_default-2
returns-in_default-2 c =
    transfer_found (phones_of c.args.world.now.parties.centre) c.args.world.now.clock c.args.octets.now c.in-Ok.connection (seen_inner c.in-Ok.inner) c.in-Ok.ensures.carried
    c.in-Relay.relay (ap seen_inner c.in-Relay.is) _ _ (sym (ap (λ (x : RpValue). x.body) c.relay.view_is) ∙ ap seen_rp_body c.in-Transfer.is) _
    (λ f d s g. let z : true ≡ false = sym c.in_default-2.is-0 ∙ (ap (λ (x : CpValue). x.flag) c.connection.view_is ∙ f) in absurd cc) (λ other. refl)

pub returns-in_default-2-2 : goal.returns-in_default-2-2
returns-in_default-2-2 c =
    transfer_found (phones_of c.args.world.now.parties.centre) c.args.world.now.clock c.args.octets.now c.in-Ok.connection (seen_inner c.in-Ok.inner) c.in-Ok.ensures.carried
    c.in-Relay.relay (ap seen_inner c.in-Relay.is) _ _ (sym (ap (λ (x : RpValue). x.body) c.relay.view_is) ∙ ap seen_rp_body c.in-Transfer.is) _
    (λ f d s g. let z : ToPhone ≡ FromPhone = sym c.in_default-2.is-1 ∙ (ap (λ (x : RpValue). x.side) c.relay.view_is ∙ d) in absurd cc) (λ other. refl)

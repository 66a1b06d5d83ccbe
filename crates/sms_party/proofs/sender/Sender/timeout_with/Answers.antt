use Rattle.std.proofs.Common.{true, ℕ, ◌+◌, ◌≡◌, length, drop, [], Ok, refl, ap, ◌∙◌, subst, arith}
use Rattle.sms_message.specs.declared.outcome.Outcome.TheVariants.{Idle, GaveUp, Repeated}
use Rattle.sms_message.specs.declared.outcome.Step.{Step}
use Rattle.sms_party.specs.declared.sender.Status.TheVariants.{Failed}
use Rattle.sms_message.specs.Does.{Does}
use Rattle.sms_party.specs.Sender.Value.{SenderValue}
use Rattle.sms_party.specs.Inside.Sender.{Did, puts_out, puts_again, ends_first, repeated, ended_with}
use Rattle.sms_party.proofs.SenderParts.{is_some_number, is_none, no_packets}
use Rattle.sms_party.proofs.SenderSteps.{carried_over, late, late_none, late_again, late_end}
use Rattle.sms_party.proofs.SenderFew.{few_did, out_few}
use Rattle.sms_party.proofs.sender.Sender.timeout_with.Goals as goal

pub returns-then-is_empty-clause-steps : goal.returns-then-is_empty-clause-steps
returns-then-is_empty-clause-steps c = λ phone x stands.
    let step : Step = record { outcome = Idle; packets = c.no_packets.result } in
    carried_over phone x c.args.self.now c.args.self.now _ _ (Ok step) stands (late phone x c.args.self.now stands)
    (late_none (λ (d : Does SenderValue). Did d c.args.self.now (Ok step) c.args.self.now) c.args.self.now c.args.self.now.pending
    (is_none _ _ _ c.is_empty.ensures c.if-is_empty.true (c.self.inside.pending.ok.0 ∙ ap (λ (v : SenderValue). length v.pending) c.self.view_is))
    (refl, no_packets step c.no_packets.ensures, refl))

pub returns-then-self-lt-REPEATS_MAX-clause-steps : goal.returns-then-self-lt-REPEATS_MAX-clause-steps
returns-then-self-lt-REPEATS_MAX-clause-steps c = λ phone x stands.
    carried_over phone x c.args.self.now c.repeat.new.self _ _ c.repeat.result stands (late phone x c.args.self.now stands)
    (late_again (λ (d : Does SenderValue). Did d c.args.self.now c.repeat.result c.repeat.new.self) c.args.self.now c.args.self.now.pending
    (is_some_number _ _ _ c.is_empty.ensures c.if-is_empty.false (c.self.inside.pending.ok.0 ∙ ap (λ (v : SenderValue). length v.pending) c.self.view_is))
    (let e : c.self.inside.repeats ≡ c.args.self.now.repeats = ap (λ (v : SenderValue). v.repeats) c.self.view_is in omega arith)
    c.repeat.ensures.did)

pub returns-else-self-lt-REPEATS_MAX-clause-steps : goal.returns-else-self-lt-REPEATS_MAX-clause-steps
returns-else-self-lt-REPEATS_MAX-clause-steps c = λ phone x stands.
    let number : c.len-text.result ≡ length c.args.self.now.ended = c.len-text.ensures ∙ (c.self.inside.ended.ok.0 ∙ ap (λ (v : SenderValue). length v.ended) c.self.view_is) in
    carried_over phone x c.args.self.now c.end.new.self _ _ c.end.result stands (late phone x c.args.self.now stands)
    (late_end (λ (d : Does SenderValue). Did d c.args.self.now c.end.result c.end.new.self) c.args.self.now c.args.self.now.pending
    (is_some_number _ _ _ c.is_empty.ensures c.if-is_empty.false (c.self.inside.pending.ok.0 ∙ ap (λ (v : SenderValue). length v.pending) c.self.view_is))
    (let e : c.self.inside.repeats ≡ c.args.self.now.repeats = ap (λ (v : SenderValue). v.repeats) c.self.view_is in omega arith)
    (subst (λ (n : ℕ). Did (puts_out (ended_with c.args.self.now (drop 1 c.args.self.now.pending) Failed) c.args.self.now.reject (GaveUp (n + 1)) []) c.args.self.now c.end.result c.end.new.self) number (c.end.ensures.did [] tt)))

pub returns-then-self-lt-REPEATS_MAX-clause-few : goal.returns-then-self-lt-REPEATS_MAX-clause-few
returns-then-self-lt-REPEATS_MAX-clause-few c =
    few_did (puts_again c.args.self.now) c.args.self.now c.repeat.new.self c.repeat.result (out_few (repeated c.args.self.now) true (Repeated (length c.args.self.now.ended + 1)) [] (omega arith)) c.repeat.ensures.did

pub returns-else-self-lt-REPEATS_MAX-clause-few : goal.returns-else-self-lt-REPEATS_MAX-clause-few
returns-else-self-lt-REPEATS_MAX-clause-few c =
    few_did (ends_first c.args.self.now (GaveUp (c.len-text.result + 1)) Failed []) c.args.self.now c.end.new.self c.end.result
    (out_few (ended_with c.args.self.now (drop 1 c.args.self.now.pending) Failed) c.args.self.now.reject (GaveUp (c.len-text.result + 1)) [] (omega arith)) (c.end.ensures.did [] tt)

use Rattle.std.proofs.Common.{◌≡◌, ◌<◌, List, length, Err, ap, ◌∙◌, subst, arith}
use Rattle.std.specs.Str.{chars}
use Rattle.sms_join.specs.declared.units.Units.{Units}
use Rattle.sms_join.specs.Cut.{IsCut}
use Rattle.sms_party.specs.Sender.Value.{TextValue, SenderValue}
use Rattle.sms_party.specs.Inside.Sender.{Did, enters}
use Rattle.sms_party.proofs.SenderSteps.{busy, types_so, refused_so, is_err_so}
use Rattle.sms_party.proofs.SenderFew.{few_did, enters_few, waiting_did}
use Rattle.sms_party.proofs.sender.Sender.type_text_with.Goals as goal

pub returns-then-len-ge-PENDING_MAX-clause-types : goal.returns-then-len-ge-PENDING_MAX-clause-types
returns-then-len-ge-PENDING_MAX-clause-types c = λ pieces phone x stands.
    let size : c.len.result ≡ length c.args.self.now.pending = c.len.ensures ∙ (c.self.inside.pending.ok.0 ∙ ap (λ (v : SenderValue). length v.pending) c.self.view_is) in
    busy phone x c.args.self.now c.args.target.now _ pieces stands (omega (arith, size, c.if-len-ge-PENDING_MAX.true))

pub returns-in_err-segments-clause-types : goal.returns-in_err-segments-clause-types
returns-in_err-segments-clause-types c =
    let size : c.len.result ≡ length c.args.self.now.pending = c.len.ensures ∙ (c.self.inside.pending.ok.0 ∙ ap (λ (v : SenderValue). length v.pending) c.self.view_is) in
    refused_so c.args.self.now c.args.target.now _ c.in_err-segments.field-0.0 c.from_residual.result
    (λ e. subst (λ (v : SenderValue). (pieces : List Units) × IsCut v.width (chars c.args.text.now) pieces × (255 < length pieces)) c.self.view_is (c.in_err-segments.ensures.too_many (ap Err e)))
    (omega (arith, size, c.if-len-ge-PENDING_MAX.false)) (is_err_so c.from_residual.result _ c.from_residual.ensures.1)

pub returns-clause-types : goal.returns-clause-types
returns-clause-types c =
    let size : c.len.result ≡ length c.args.self.now.pending = c.len.ensures ∙ (c.self.inside.pending.ok.0 ∙ ap (λ (v : SenderValue). length v.pending) c.self.view_is) in
    let s = c.in_ok-segments.ensures.segments in
    types_so c.args.self.now c.enter.new.self c.args.target.now _ s.0 c.in_ok-segments.segments
    (subst (λ (v : SenderValue). IsCut v.width (chars c.args.text.now) s.0) c.self.view_is s.1) s.2 c.in_ok-segments.ensures.few (omega (arith, size, c.if-len-ge-PENDING_MAX.false)) c.enter.result
    (subst (λ (t : TextValue). Did (enters c.args.self.now t) c.args.self.now c.enter.result c.enter.new.self) c.in_ok-text.ensures c.enter.ensures.did)

pub returns-clause-few : goal.returns-clause-few
returns-clause-few c = few_did (enters c.args.self.now c.in_ok-text.text) c.args.self.now c.enter.new.self c.enter.result (enters_few c.args.self.now c.in_ok-text.text) c.enter.ensures.did

pub returns-clause-waiting : goal.returns-clause-waiting
returns-clause-waiting c =
    let size : c.len.result ≡ length c.args.self.now.pending = c.len.ensures ∙ (c.self.inside.pending.ok.0 ∙ ap (λ (v : SenderValue). length v.pending) c.self.view_is) in
    waiting_did c.args.self.now c.enter.new.self c.in_ok-text.text c.enter.result (omega (arith, size, c.if-len-ge-PENDING_MAX.false)) c.enter.ensures.did

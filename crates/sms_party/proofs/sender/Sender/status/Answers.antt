use Rattle.std.proofs.Common.{◌-◌, ◌≡◌, length, get_or, Some, None, ap, ◌∙◌, subst, arith}
use Rattle.sms_party.specs.declared.sender.Status.TheVariants.{Waiting}
use Rattle.sms_party.specs.Sender.Value.{SenderValue}
use Rattle.sms_party.proofs.SenderStatus.{none_so, ended_so, waiting_so, beyond_so, tells}
use Rattle.sms_party.proofs.sender.Sender.status.Goals as goal

pub returns-then-number-eq0-clause-value : goal.returns-then-number-eq0-clause-value
returns-then-number-eq0-clause-value c = none_so c.args.self.now c.args.number c.if-number-eq0.true

pub returns-then-number-eq0-clause-tells : goal.returns-then-number-eq0-clause-tells
returns-then-number-eq0-clause-tells c = tells c.args.self.now c.args.number None (returns-then-number-eq0-clause-value c)

pub returns-then-number-len-clause-value : goal.returns-then-number-len-clause-value
returns-then-number-len-clause-value c =
    let ended : c.len.result ≡ length c.args.self.now.ended = c.len.ensures ∙ (c.self.inside.ended.ok.0 ∙ ap (λ (v : SenderValue). length v.ended) c.self.view_is) in
    ended_so c.args.self.now c.args.number c.index.result.now (omega (arith, c.if-number-eq0.false)) (omega (arith, ended, c.if-number-len.true))
    (subst (λ (v : SenderValue). c.index.result.now ≡ get_or v.ended (c.args.number - 1) c.index.result.now) c.self.view_is c.index.ensures)

pub returns-then-number-len-clause-tells : goal.returns-then-number-len-clause-tells
returns-then-number-len-clause-tells c = tells c.args.self.now c.args.number (Some c.index.result.now) (returns-then-number-len-clause-value c)

pub returns-then-number-len-2-clause-value : goal.returns-then-number-len-2-clause-value
returns-then-number-len-2-clause-value c =
    let ended : c.len.result ≡ length c.args.self.now.ended = c.len.ensures ∙ (c.self.inside.ended.ok.0 ∙ ap (λ (v : SenderValue). length v.ended) c.self.view_is) in
    let ended-2 : c.len-2.result ≡ length c.args.self.now.ended = c.len-2.ensures ∙ (c.self.inside.ended.ok.0 ∙ ap (λ (v : SenderValue). length v.ended) c.self.view_is) in
    let pending : c.len-3.result ≡ length c.args.self.now.pending = c.len-3.ensures ∙ (c.self.inside.pending.ok.0 ∙ ap (λ (v : SenderValue). length v.pending) c.self.view_is) in
    waiting_so c.args.self.now c.args.number (omega (arith, ended, c.if-number-len.false)) (omega (arith, ended-2, pending, c.if-number-len-2.true))

pub returns-then-number-len-2-clause-tells : goal.returns-then-number-len-2-clause-tells
returns-then-number-len-2-clause-tells c = tells c.args.self.now c.args.number (Some Waiting) (returns-then-number-len-2-clause-value c)

pub returns-clause-value : goal.returns-clause-value
returns-clause-value c =
    let ended : c.len.result ≡ length c.args.self.now.ended = c.len.ensures ∙ (c.self.inside.ended.ok.0 ∙ ap (λ (v : SenderValue). length v.ended) c.self.view_is) in
    let ended-2 : c.len-2.result ≡ length c.args.self.now.ended = c.len-2.ensures ∙ (c.self.inside.ended.ok.0 ∙ ap (λ (v : SenderValue). length v.ended) c.self.view_is) in
    let pending : c.len-3.result ≡ length c.args.self.now.pending = c.len-3.ensures ∙ (c.self.inside.pending.ok.0 ∙ ap (λ (v : SenderValue). length v.pending) c.self.view_is) in
    beyond_so c.args.self.now c.args.number (omega (arith, ended, c.if-number-len.false)) (omega (arith, ended-2, pending, c.if-number-len-2.false))

pub returns-clause-tells : goal.returns-clause-tells
returns-clause-tells c = tells c.args.self.now c.args.number None (returns-clause-value c)

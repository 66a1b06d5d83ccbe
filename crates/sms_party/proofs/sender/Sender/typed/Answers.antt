use Rattle.std.proofs.Common.{◌≡◌, length, ap, ◌∙◌, arith}
use Rattle.sms_party.specs.Sender.Value.{SenderValue}
use Rattle.sms_party.proofs.SenderStatus.{typed_many}
use Rattle.sms_party.proofs.sender.Sender.typed.Goals as goal

pub returns : goal.returns
returns c =
    let ended : c.len.result ≡ length c.args.self.now.ended = c.len.ensures ∙ (c.self.inside.ended.ok.0 ∙ ap (λ (v : SenderValue). length v.ended) c.self.view_is) in
    let pending : c.len-2.result ≡ length c.args.self.now.pending = c.len-2.ensures ∙ (c.self.inside.pending.ok.0 ∙ ap (λ (v : SenderValue). length v.pending) c.self.view_is) in
    let many = typed_many c.args.self.now in omega (arith, ended, pending, many)

use Rattle.std.proofs.Common.{ℕ, ◌+◌, List, Some, Vec, map, length, ◌≡◌, sym, ap, ◌∙◌, Ok}
use Rattle.std.specs.Global.{Global}
use Rattle.std.specs.Option.{option_to_list}
use Rattle.std.specs.List.{slice_get}
use Rattle.sms_message.specs.declared.message.Message.{Message}
use Rattle.sms_message.specs.declared.outcome.Outcome.TheVariants as outcome
use Rattle.sms_message.specs.Does.{CarriesEach}
use Rattle.sms_party.specs.Sender.Value.{SenderValue}
use Rattle.sms_party.specs.Inside.Sender.{text_put, counted, stepped}
use Rattle.sms_party.proofs.SenderParts.{carried, is_out}
use Rattle.sms_party.proofs.sender.Sender.go_on.Goals as goal

pub returns-clause-did : goal.returns-clause-did
returns-clause-did c = λ note sent.
    let messages : List Message = text_put c.args.self.now.next c.args.self.now.reject (c.args.self.now.accepted + 1) (slice_get c.args.self.now.pending 0) in
    let number : length c.args.self.now.ended ≡ c.len-text.result = sym (ap (λ (v : SenderValue). length v.ended) c.self.view_is) ∙ (sym c.self.inside.ended.ok.0 ∙ sym c.len-text.ensures) in
    let out : CarriesEach (map (λ (p : Vec ℕ Global). p.items) (option_to_list c.in_ok-submission.submission)) messages = c.in_ok-submission.ensures.carries in (
      ap (λ n. Ok (outcome.Segment (n + 1) (c.args.self.now.accepted + 1))) number ∙ ap (λ (v : SenderValue). Ok (outcome.Segment (c.len-text.result + 1) (v.accepted + 1))) (sym c.self.view_is) ∙ ap (λ n. Ok (outcome.Segment (c.len-text.result + 1) n)) (sym c.from.ensures),
      carried (λ (p : Vec ℕ Global). p.items) c.packets_of-packets.result.items (Some c.args.note) c.in_ok-submission.submission note messages c.packets_of-packets.ensures sent out,
      c.count.ensures messages (c.is_some-is_out.ensures ∙ is_out (λ (p : Vec ℕ Global). p.items) c.in_ok-submission.submission messages out) ∙ ap (λ (v : SenderValue). counted (stepped v) messages) c.self.view_is,
    )

use Rattle.std.proofs.Common.{true, ℕ, ◌+◌, List, [], None, Vec, map, length, ◌≡◌, sym, ap, ◌∙◌, Ok}
use Rattle.std.specs.Global.{Global}
use Rattle.std.specs.Option.{option_to_list}
use Rattle.std.specs.List.{slice_get}
use Rattle.sms_message.specs.declared.message.Message.{Message}
use Rattle.sms_message.specs.declared.outcome.Outcome.TheVariants as outcome
use Rattle.sms_message.specs.Does.{CarriesEach}
use Rattle.sms_party.specs.Sender.Value.{SenderValue}
use Rattle.sms_party.specs.Inside.Sender.{text_put, counted, repeated}
use Rattle.sms_party.proofs.SenderParts.{carried, is_out}
use Rattle.sms_party.proofs.sender.Sender.repeat.Goals as goal

pub returns-clause-did : goal.returns-clause-did
returns-clause-did c =
    let messages : List Message = text_put c.args.self.now.next true c.args.self.now.accepted (slice_get c.args.self.now.pending 0) in
    let number : length c.args.self.now.ended ≡ c.len-text.result = sym (ap (λ (v : SenderValue). length v.ended) c.self.view_is) ∙ (sym c.self.inside.ended.ok.0 ∙ sym c.len-text.ensures) in
    let out : CarriesEach (map (λ (p : Vec ℕ Global). p.items) (option_to_list c.in_ok-submission.submission)) messages = c.in_ok-submission.ensures.carries in (
      ap (λ n. Ok (outcome.Repeated (n + 1))) number,
      carried (λ (p : Vec ℕ Global). p.items) c.packets_of-packets.result.items None c.in_ok-submission.submission [] messages c.packets_of-packets.ensures tt out,
      c.count.ensures messages (c.is_some-is_out.ensures ∙ is_out (λ (p : Vec ℕ Global). p.items) c.in_ok-submission.submission messages out) ∙ ap (λ (v : SenderValue). counted (repeated v) messages) c.self.view_is,
    )

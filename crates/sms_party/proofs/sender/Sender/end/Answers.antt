use Rattle.std.proofs.Common.{ℕ, ◌++◌, List, [], ◌∷◌, Option, Vec, map, drop, ◌≡◌, refl, ap, ◌∙◌, subst}
use Rattle.std.specs.Global.{Global}
use Rattle.std.specs.Option.{option_to_list}
use Rattle.std.specs.List.{slice_get}
use Rattle.sms_message.specs.declared.message.Message.{Message}
use Rattle.sms_party.specs.declared.sender.Status.{Status}
use Rattle.sms_message.specs.Does.{CarriesEach}
use Rattle.sms_party.specs.Sender.Value.{TextValue, SenderValue}
use Rattle.sms_party.specs.Inside.Sender.{text_put, counted, ended_with}
use Rattle.sms_party.proofs.SenderParts.{carried, is_out, second_first}
use Rattle.sms_party.proofs.sender.Sender.end.Goals as goal

pub returns-clause-did : goal.returns-clause-did
returns-clause-did c = λ note sent.
    let messages : List Message = text_put c.args.self.now.next c.args.self.now.reject 0 (slice_get (drop 1 c.args.self.now.pending) 0) in
    let out : CarriesEach (map (λ (p : Vec ℕ Global). p.items) (option_to_list c.in_ok-submission.submission)) messages =
    subst (λ (o : Option TextValue). CarriesEach (map (λ (p : Vec ℕ Global). p.items) (option_to_list c.in_ok-submission.submission)) (text_put c.args.self.now.next c.args.self.now.reject 0 o)) (second_first c.args.self.now.pending) c.in_ok-submission.ensures.carries in
    let left : c.pop_front.new.self.items ≡ drop 1 c.self.inside.pending.items = c.pop_front.ensures.rest in
    let more : c.push_reserved.new.self.items ≡ c.self.inside.ended.items ++ c.args.status ∷ [] = c.push_reserved.ensures.items in
    let w : List TextValue → List Status → SenderValue = λ p e. record {
      width = c.self.inside.width;
      reject = c.self.inside.reject;
      pending = p;
      accepted = 0;
      repeats = 0;
      ended = e;
      message_reference = c.self.inside.message_reference;
      set_reference = c.self.inside.set_reference;
      next = c.self.inside.next;
      latest = c.self.inside.latest;
    } in (
      refl,
      carried (λ (p : Vec ℕ Global). p.items) c.packets_of-packets.result.items c.args.note c.in_ok-submission.submission note messages c.packets_of-packets.ensures sent out,
      c.count.ensures messages (c.is_some-is_out.ensures ∙ is_out (λ (p : Vec ℕ Global). p.items) c.in_ok-submission.submission messages out)
          ∙ (ap (λ (p : List TextValue). counted (w p c.push_reserved.new.self.items) messages) left
          ∙ (ap (λ (e : List Status). counted (w (drop 1 c.self.inside.pending.items) e) messages) more
          ∙ ap (λ (v : SenderValue). counted (ended_with v (drop 1 v.pending) c.args.status) messages) c.self.view_is)),
    )

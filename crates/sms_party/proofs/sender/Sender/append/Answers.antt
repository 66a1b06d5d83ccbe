use Rattle.std.proofs.Common.{ℕ, ◌+◌, ◌%◌, ◌++◌, ◌==◌, List, [], ◌∷◌, Vec, length, ◌≡◌, sym, ap, ◌∙◌, Ok}
use Rattle.std.specs.Global.{Global}
use Rattle.sms_message.specs.declared.message.Message.{Message}
use Rattle.sms_party.specs.declared.sender.Status.{Status}
use Rattle.sms_message.specs.declared.outcome.Outcome.TheVariants as outcome
use Rattle.sms_party.specs.Sender.Value.{TextValue, SenderValue}
use Rattle.sms_party.specs.Inside.Sender.{first_put, counted, entered, next_set}
use Rattle.sms_party.proofs.SenderParts.{are_out}
use Rattle.sms_party.proofs.sender.Sender.append.Goals as goal

pub returns-clause-did : goal.returns-clause-did
returns-clause-did c = λ out.
    let messages : List Message = first_put c.args.self.now c.args.text in
    let ended : c.len.result ≡ length c.args.self.now.ended = c.len.ensures ∙ (c.self.inside.ended.ok.0 ∙ ap (λ (v : SenderValue). length v.ended) c.self.view_is) in
    let pending : c.len-2.result ≡ length c.args.self.now.pending = c.len-2.ensures ∙ (c.self.inside.pending.ok.0 ∙ ap (λ (v : SenderValue). length v.pending) c.self.view_is) in
    let size : c.len-size.result ≡ length c.args.text.segments = c.len-size.ensures.count ∙ ap (λ (t : TextValue). length t.segments) c.text.view_is in
    let pushed : c.add.new.pending.items ≡ c.self.inside.pending.items ++ c.args.text ∷ [] = c.in_ok-add.ensures.added in
    let next : c.next_set-self-inside.result ≡ next_set c.self.inside.width c.len-size.result c.self.inside.set_reference = c.next_set-self-inside.ensures in
    let kept : c.reserve.new.self.items ≡ c.self.inside.ended.items = c.in_ok-reserve.ensures.items in
    let w : List TextValue → List Status → ℕ → ℕ → SenderValue = λ p e m r. record {
      width = c.self.inside.width;
      reject = c.self.inside.reject;
      pending = p;
      accepted = c.self.inside.accepted;
      repeats = c.self.inside.repeats;
      ended = e;
      message_reference = m;
      set_reference = r;
      next = c.self.inside.next;
      latest = c.self.inside.latest;
    } in (
      ap (λ n. Ok (outcome.Typed (n + length c.args.self.now.pending + 1))) (sym ended) ∙ ap (λ n. Ok (outcome.Typed (c.len.result + n + 1))) (sym pending),
      out,
      c.count.ensures messages (are_out (λ (p : Vec ℕ Global). p.items) c.args.packets.items messages c.is_empty-is_out.result c.is_empty-is_out.ensures out)
          ∙ (ap (λ (e : List Status). counted (w c.add.new.pending.items e ((c.self.inside.message_reference + c.len-size.result) % 256) c.next_set-self-inside.result) messages) kept
          ∙ (ap (λ (p : List TextValue). counted (w p c.self.inside.ended.items ((c.self.inside.message_reference + c.len-size.result) % 256) c.next_set-self-inside.result) messages) pushed
          ∙ (ap (λ (r : ℕ). counted (w (c.self.inside.pending.items ++ c.args.text ∷ []) c.self.inside.ended.items ((c.self.inside.message_reference + c.len-size.result) % 256) r) messages) next
          ∙ (ap (λ (n : ℕ). counted (w (c.self.inside.pending.items ++ c.args.text ∷ []) c.self.inside.ended.items ((c.self.inside.message_reference + n) % 256) (next_set c.self.inside.width n c.self.inside.set_reference)) messages) size
          ∙ ap (λ (v : SenderValue). counted (entered v c.args.text) messages) c.self.view_is)))),
    )

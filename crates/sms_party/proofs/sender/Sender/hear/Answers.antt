use Rattle.std.proofs.Common.{ℕ, ◌+◌, ◌<◌, ◌≡◌, ◌≢◌, true, false, [], ◌∷◌, length, drop, get_or, Option, Some, refl, sym, ap, ◌∙◌, subst, arith}
use Rattle.std.specs.Prelude.{MatchOption, unwrap_or}
use Rattle.sms_message.specs.declared.message.Message.TheVariants.{Note}
use Rattle.sms_message.specs.declared.message.Tag.{Tag}
use Rattle.sms_message.specs.declared.outcome.Outcome.{Outcome}
use Rattle.sms_message.specs.declared.outcome.Outcome.TheVariants as outcome
use Rattle.sms_party.specs.Sender.Answers.{accepts}
use Rattle.sms_party.specs.declared.sender.Status.TheVariants.{Accepted, Failed}
use Rattle.sms_message.specs.Message.{same_tag}
use Rattle.sms_message.specs.Does.{Does}
use Rattle.sms_party.specs.Sender.Value.{TextValue, SenderValue}
use Rattle.sms_party.specs.Inside.Sender.{Did, puts_out, ended_with}
use Rattle.sms_party.proofs.SenderSteps.{heard_failed, heard_more, heard_last}
use Rattle.sms_party.proofs.sender.Sender.hear.Goals as goal

some_pending : (m n k : ℕ) → 0 < m → m ≡ n → n ≡ k → k ≢ 0
some_pending m n k h e f g = omega arith

same_failed : (m n : ℕ) (a b : ℕ) (f g : Option ℕ) → m ≡ n → a ≡ b → f ≡ g → ◌≡◌ {A = Outcome} (outcome.Failed (m + 1) a f) (outcome.Failed (n + 1) b g)
same_failed m n a b f g x y z = cc

pub returns-in-Some-refusal_in-clause-did : goal.returns-in-Some-refusal_in-clause-did
returns-in-Some-refusal_in-clause-did c =
    let refused = subst (λ (o : Option ℕ). MatchOption o (accepts c.args.cause c.args.report.now ≡ true) (λ why. (c.args.cause ≡ Some why) × (accepts c.args.cause c.args.report.now ≡ false))) c.in-Some-refusal_in.is c.refusal_in.ensures in
    let number : c.len-text.result ≡ length c.args.self.now.ended = c.len-text.ensures ∙ (c.self.inside.ended.ok.0 ∙ ap (λ (v : SenderValue). length v.ended) c.self.view_is) in
    let latest : c.self.inside.latest ≡ c.args.self.now.latest = ap (λ (v : SenderValue). v.latest) c.self.view_is in
    heard_failed (λ (d : Does SenderValue). Did d c.args.self.now c.end.result c.end.new.self) c.args.self.now c.args.tag c.args.cause c.args.report.now
    (ap (λ (t : Tag). same_tag c.args.tag t) (sym latest) ∙ sym c.is_same.ensures ∙ c.if-not-is_same.false) c.in-Some.first.now c.args.self.now.pending
    (some_pending _ _ _ (c.in-Some.ensures.variant.0 refl) c.self.inside.pending.ok.0 (ap (λ (v : SenderValue). length v.pending) c.self.view_is))
    refused.1
    (subst (λ (o : Outcome). Did (puts_out (ended_with c.args.self.now (drop 1 c.args.self.now.pending) Failed) c.args.self.now.reject o (Note false c.args.tag.value ∷ [])) c.args.self.now c.end.result c.end.new.self)
    (same_failed _ _ _ _ _ _ number (sym (ap (λ (o : Option ℕ). unwrap_or o 0) refused.0)) c.failure_of-failure.ensures)
    (c.end.ensures.did (Note false c.args.tag.value ∷ []) (c.in_ok-note.ensures.carries, tt)))

pub returns-then-more-clause-did : goal.returns-then-more-clause-did
returns-then-more-clause-did c =
    let latest : c.self.inside.latest ≡ c.args.self.now.latest = ap (λ (v : SenderValue). v.latest) c.self.view_is in
    let accepted : c.from.result ≡ c.args.self.now.accepted = c.from.ensures ∙ ap (λ (v : SenderValue). v.accepted) c.self.view_is in
    let size : c.len.result ≡ length c.in-Some.first.now.segments = c.len.ensures.count ∙ ap (λ (t : TextValue). length t.segments) c.first.view_is in
    heard_more (λ (d : Does SenderValue). Did d c.args.self.now c.go_on.result c.go_on.new.self) c.args.self.now c.args.tag c.args.cause c.args.report.now
    (ap (λ (t : Tag). same_tag c.args.tag t) (sym latest) ∙ sym c.is_same.ensures ∙ c.if-not-is_same.false) c.in-Some.first.now c.args.self.now.pending
    (some_pending _ _ _ (c.in-Some.ensures.variant.0 refl) c.self.inside.pending.ok.0 (ap (λ (v : SenderValue). length v.pending) c.self.view_is))
    (subst (λ (v : SenderValue). c.in-Some.first.now ≡ get_or v.pending 0 c.in-Some.first.now) c.self.view_is c.in-Some.ensures.lookup)
    (subst (λ (o : Option ℕ). MatchOption o (accepts c.args.cause c.args.report.now ≡ true) (λ why. (c.args.cause ≡ Some why) × (accepts c.args.cause c.args.report.now ≡ false))) c.in_default-refusal_in.is c.refusal_in.ensures)
    (omega (arith, accepted, size, c.if-more.true))
    (c.go_on.ensures.did (Note false c.args.tag.value ∷ []) (c.in_ok-note.ensures.carries, tt))

pub returns-else-more-clause-did : goal.returns-else-more-clause-did
returns-else-more-clause-did c =
    let number : c.len-text.result ≡ length c.args.self.now.ended = c.len-text.ensures ∙ (c.self.inside.ended.ok.0 ∙ ap (λ (v : SenderValue). length v.ended) c.self.view_is) in
    let latest : c.self.inside.latest ≡ c.args.self.now.latest = ap (λ (v : SenderValue). v.latest) c.self.view_is in
    let accepted : c.from.result ≡ c.args.self.now.accepted = c.from.ensures ∙ ap (λ (v : SenderValue). v.accepted) c.self.view_is in
    let size : c.len.result ≡ length c.in-Some.first.now.segments = c.len.ensures.count ∙ ap (λ (t : TextValue). length t.segments) c.first.view_is in
    heard_last (λ (d : Does SenderValue). Did d c.args.self.now c.end-else-more.result c.end-else-more.new.self) c.args.self.now c.args.tag c.args.cause c.args.report.now
    (ap (λ (t : Tag). same_tag c.args.tag t) (sym latest) ∙ sym c.is_same.ensures ∙ c.if-not-is_same.false) c.in-Some.first.now c.args.self.now.pending
    (some_pending _ _ _ (c.in-Some.ensures.variant.0 refl) c.self.inside.pending.ok.0 (ap (λ (v : SenderValue). length v.pending) c.self.view_is))
    (subst (λ (v : SenderValue). c.in-Some.first.now ≡ get_or v.pending 0 c.in-Some.first.now) c.self.view_is c.in-Some.ensures.lookup)
    (subst (λ (o : Option ℕ). MatchOption o (accepts c.args.cause c.args.report.now ≡ true) (λ why. (c.args.cause ≡ Some why) × (accepts c.args.cause c.args.report.now ≡ false))) c.in_default-refusal_in.is c.refusal_in.ensures)
    (omega (arith, accepted, size, c.if-more.false))
    (subst (λ (n : ℕ). Did (puts_out (ended_with c.args.self.now (drop 1 c.args.self.now.pending) Accepted) c.args.self.now.reject (outcome.Accepted (n + 1)) (Note false c.args.tag.value ∷ [])) c.args.self.now c.end-else-more.result c.end-else-more.new.self)
    number (c.end-else-more.ensures.did (Note false c.args.tag.value ∷ []) (c.in_ok-note.ensures.carries, tt)))

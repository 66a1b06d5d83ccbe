use Rattle.std.proofs.Common.{◌<◌, length, Option, Some, None, MatchOption, sym, ap, arith, ◌∙◌}
use Rattle.sms_text.specs.Inside.PackingLaws.{septet_in, unpacked_septets}
use Rattle.sms_field.proofs.symbols_view.NameView.septet.Goals as goal

by_match : {T : Type 0} (o : Option T) (P R : Type 0) (Q S : T → Type 0) → MatchOption o P Q → (P → R) → ((x : T) → Q x → S x) → MatchOption o R S
by_match None P R Q S h f g = f h
by_match (Some x) P R Q S h f g = g x h

pub returns-then-index-self : goal.returns-then-index-self
returns-then-index-self c = omega (arith, (unpacked_septets 0 c.self.inside.count c.self.inside.octets.now).1, ap length c.self.view_is, c.if-index-self.true)

pub returns : goal.returns
returns c =
    let size = (unpacked_septets 0 c.self.inside.count c.self.inside.octets.now).1 in
    let below : c.args.index < c.self.inside.count = omega (arith, c.if-index-self.false) in
    rw (← c.self.view_is) (by_match c.septet_at.result _ _ _ _ c.septet_at.ensures
    (λ few. absurd (omega (arith, few, c.self.invariant.enough, below)))
    (λ septet is. (omega (arith, size, below), is ∙ sym (septet_in 0 c.self.inside.count c.args.index c.self.inside.octets.now below))))

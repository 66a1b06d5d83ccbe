use Rattle.std.proofs.Common.{List, ℕ, Option, Some, ◌∙◌, ap, sym, arith}
use Rattle.std.specs.Str.{chars}
use Rattle.sms_text.specs.Inside.TextLaws.{text_septets}
use Rattle.sms_text.proofs.Placed.{front_left}
use Rattle.sms_text.proofs.coded.septets_of_mixed.Goals as goal

pub returns-clause-septets : goal.returns-clause-septets
returns-clause-septets c =
    let kept = front_left _ c.put_septets.new.out _ c.resize.new.self.len c.in-Some.end c.truncate.ensures.items (omega (arith, c.put_septets.auto.out, c.deref_mut.ensures.len, c.in-Some.ensures.within)) c.in-Some.ensures.within in
    text_septets (chars c.args.text.now) c.truncate.new.self.items (c.in-Some.ensures.septets ∙ ap (λ (l : List ℕ). let r : Option (List ℕ) = Some l in r) (sym kept))

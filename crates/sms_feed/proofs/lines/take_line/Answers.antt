use Rattle.std.proofs.Common.{ℕ, List, Option, OnOk, option_copied, sym, ◌∙◌, subst, ap}
use Rattle.sms_feed.specs.Takers.{Hands}
use Rattle.sms_feed.proofs.Handing.{hands_unit, hands_nothing, on_ok}
use Rattle.sms_feed.proofs.lines.take_line.Goals as goal

pub returns-in_default : goal.returns-in_default
returns-in_default g c =
    subst (λ (o : Option (List ℕ)). OnOk c.take.result (Hands g.T.Taker.takes c.args.taker.now c.args.line.number o c.args.page.now c.take.new.self c.take.new.page))
    (sym (ap option_copied c.in_default.is)) c.take.ensures.taken

pub returns-then-is_nothing : goal.returns-then-is_nothing
returns-then-is_nothing g c =
    subst (λ (o : Option (List ℕ)). Hands g.T.Taker.takes c.args.taker.now c.args.line.number o c.args.page.now c.args.taker.now c.args.page.now)
    (sym (ap option_copied c.in-Some.is))
    (hands_nothing g.T.Taker.takes c.args.taker.now c.args.line.number c.in-Some.octets.now c.trim_ascii-octets.result.now c.args.page.now c.trim_ascii-octets.ensures.value (sym c.is_nothing.ensures ∙ c.if-is_nothing.true))

pub returns : goal.returns
returns g c =
    subst (λ (o : Option (List ℕ)). OnOk c.take-2.result (Hands g.T.Taker.takes c.args.taker.now c.args.line.number o c.args.page.now c.take-2.new.self c.take-2.new.page))
    (sym (ap option_copied c.in-Some.is))
    (on_ok c.take-2.result _ _ (hands_unit g.T.Taker.takes c.args.taker.now c.take-2.new.self c.args.line.number c.in-Some.octets.now c.trim_ascii-octets.result.now c.args.page.now c.take-2.new.page c.trim_ascii-octets.ensures.value (sym c.is_nothing.ensures ∙ c.if-is_nothing.false)) c.take-2.ensures.taken)

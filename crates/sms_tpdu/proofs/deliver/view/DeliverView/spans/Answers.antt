use Rattle.std.proofs.Common.{◌∙◌, ℕ, List, refl, ap, subst}
use Rattle.sms_field.specs.Address.{address}
use Rattle.sms_field.specs.Reading.Lies.{TakesOctets}
use Rattle.sms_tpdu.specs.Deliver.{Delivery}
use Rattle.sms_tpdu.specs.UserData.Spans.{spans_before}
use Rattle.sms_tpdu.proofs.UnitSpans.{some_octet, delivery_lies}
use Rattle.sms_tpdu.proofs.deliver.view.DeliverView.spans.Goals as goal

pub split_at-requires : goal.split_at-requires
split_at-requires c = some_octet c.args.self.now c.args.octets.now c.args.used c.requires

pub returns : goal.returns
returns c =
    delivery_lies c.args.self.now c.args.octets.now c.args.used _ c.requires refl
    (subst (λ (l : List ℕ). TakesOctets address l c.length_in.result) c.split_at.ensures.back c.length_in.ensures)
    (c.spans.ensures ∙ ap (λ (u : Delivery). spans_before c.args.used u.user) c.self.view_is)

use Rattle.std.proofs.Common.{length, sym, ap, ◌∙◌}
use Rattle.sms_tpdu.specs.UserData.{header_octets}
use Rattle.sms_tpdu.specs.UserData.Spans.{body_count}
use Rattle.sms_tpdu.specs.declared.user_data.UserData.{UserData}
use Rattle.sms_tpdu.proofs.BodyFits.{count_is}
use Rattle.sms_tpdu.proofs.user_data.view.UserDataView.body_count.Goals as goal

pub returns : goal.returns
returns c =
    let u = c.self.inside in
    c.self.invariant.counted ∙ sym (count_is u.alphabet (length (header_octets u.header)) u.count u.octets.now c.self.invariant.whole) ∙ ap (λ (v : UserData). body_count v.body) c.self.view_is

use Rattle.std.proofs.Common.{length, sym, ap, ◌∙◌}
use Rattle.sms_tpdu.specs.UserData.{header_octets, length_in}
use Rattle.sms_tpdu.proofs.BodyFits.{length_is}
use Rattle.sms_tpdu.proofs.user_data.view.UserDataView.length.Goals as goal

pub returns : goal.returns
returns c =
    let u = c.self.inside in
    sym (ap length_in (sym c.self.view_is) ∙ length_is u.alphabet (length (header_octets u.header)) u.count u.octets.now c.self.invariant.room c.self.invariant.whole)

use Rattle.std.proofs.Common.{length, ap, arith}
use Rattle.sms_text.specs.Inside.PackingLaws.{unpacked_septets}
use Rattle.sms_tpdu.proofs.user_data.view.body.SeptetsView.count.Goals as goal

pub returns : goal.returns
returns c =
    let h = unpacked_septets c.self.inside.fill c.self.inside.count c.self.inside.octets.now in
    omega (arith, h.1, ap length c.self.view_is)

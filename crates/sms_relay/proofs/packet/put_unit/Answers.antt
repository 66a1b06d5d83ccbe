use Rattle.std.proofs.Common.{◌∙◌}
use Rattle.sms_relay.proofs.Framed.{over_ok, user_closed}
use Rattle.sms_relay.proofs.packet.put_unit.Goals as goal

pub returns-clause-added : goal.returns-clause-added
returns-clause-added g c =
    let put = c.in_ok-put_behind_place.ensures in
    over_ok _ _
    (λ _ closed.
    let whole = user_closed c.args.out.now.items put.0 c.put_behind_place.new.out.items c.close_user.new.out.items c.len-place.result (g.met.U.Unit.laws.octets c.args.unit.now put.0 put.1) (c.len-place.ensures ∙ c.args.out.now.ok.0) put.2 closed.0 closed.1 in
    (put.0, put.1, whole.few, whole.is))
    c.close_user.result c.close_user.ensures.closed

use Rattle.std.proofs.Common.{Bool, ◌∙◌, sym, subst}
use Rattle.sms_split.specs.Octets.{HasOctets}
use Rattle.sms_split.proofs.Heads.{behind_length, writes_line}
use Rattle.sms_split.proofs.national.put_user.Goals as goal

pub returns : goal.returns
returns g c =
    let user = c.args.user.now in
    let rest = c.parted-udl.result.1.now in
    let parted = sym c.deref.ensures.value ∙ c.parted-udl.ensures in
    let alone = (behind_length user c.in_ok-octets.octets.items rest c.parted-udl.result.0 c.in_ok-octets.ensures parted).1 in
    writes_line c.put_line-2.result c.args.long.now _ c.head_in-head.result rest _ _ c.head_in-head.ensures
    (subst (λ (b : Bool). HasOctets b user rest) (sym c.if-long.false) alone) c.put_line-2.ensures

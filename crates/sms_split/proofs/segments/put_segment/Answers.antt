use Rattle.std.proofs.Common.{Bool, ◌∙◌, sym, subst}
use Rattle.sms_join.specs.Segments.User.{user_of}
use Rattle.sms_split.specs.Octets.{HasOctets}
use Rattle.sms_split.proofs.Heads.{behind_length, writes_line}
use Rattle.sms_split.proofs.segments.put_segment.Goals as goal

pub returns : goal.returns
returns g c =
    let user = user_of c.args.width c.args.long.now.reference c.args.segment.now in
    let rest = c.parted-udl.result.1.now in
    let parted = sym c.deref.ensures.value ∙ c.parted-udl.ensures in
    let behind = behind_length user c.in_ok-octets.octets.items rest c.parted-udl.result.0 c.in_ok-octets.ensures parted in
    writes_line c.put_line-2.result c.args.long.now _ c.head_of-head.result rest _ _ (c.head_of-head.ensures c.args.width c.args.long.now.reference c.requires.sendable behind.0)
    (subst (λ (b : Bool). HasOctets b user rest) (sym c.if-long.false) behind.1) c.put_line-2.ensures

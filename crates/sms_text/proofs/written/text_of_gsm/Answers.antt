use Rattle.std.proofs.Common.{◌∙◌}
use Rattle.sms_text.proofs.SameRuns.{same_whole, whole_text}
use Rattle.sms_text.proofs.written.text_of_gsm.Goals as goal

pub text_of_utf8-requires : goal.text_of_utf8-requires
text_of_utf8-requires c = (whole_text c.in_ok-octets.octets.items c.args.septets.now c.requires.septets (c.in_ok-octets.ensures.items ∙ same_whole c.args.septets.now (c.all_same.ensures c.if-not-all_same.false))).0

pub returns : goal.returns
returns c =
    let spelled = whole_text c.in_ok-octets.octets.items c.args.septets.now c.requires.septets (c.in_ok-octets.ensures.items ∙ same_whole c.args.septets.now (c.all_same.ensures c.if-not-all_same.false)) in
    rw c.text_of_utf8.ensures spelled.1

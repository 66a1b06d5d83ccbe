use Rattle.std.proofs.Common.{subst}
use Rattle.sms_text.specs.Inside.Same.{AreSame}
use Rattle.sms_text.proofs.SameRuns.{same_whole, whole_text}
use Rattle.sms_text.proofs.written.text_from_gsm.Goals as goal

pub text_of_utf8-requires : goal.text_of_utf8-requires
text_of_utf8-requires c = (whole_text c.args.septets.items c.args.septets.items c.requires.septets (same_whole c.args.septets.items (subst AreSame c.deref.ensures.value (c.all_same.ensures c.if-not-all_same.false)))).0

pub returns : goal.returns
returns c =
    let spelled = whole_text c.args.septets.items c.args.septets.items c.requires.septets (same_whole c.args.septets.items (subst AreSame c.deref.ensures.value (c.all_same.ensures c.if-not-all_same.false))) in
    rw c.text_of_utf8.ensures spelled.1

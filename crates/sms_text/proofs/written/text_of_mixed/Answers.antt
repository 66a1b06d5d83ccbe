use Rattle.std.proofs.Common.{◌∙◌, arith}
use Rattle.sms_text.proofs.SameRuns.{whole_text}
use Rattle.sms_text.proofs.Placed.{front_left}
use Rattle.sms_text.proofs.written.text_of_mixed.Goals as goal

pub text_of_utf8-requires : goal.text_of_utf8-requires
text_of_utf8-requires c = (whole_text c.truncate.new.self.items c.args.septets.now c.requires.septets (front_left _ c.put_text-end.new.out _ c.resize.new.self.len c.put_text-end.result c.truncate.ensures.items (omega (arith, c.put_text-end.auto.out, c.deref_mut.ensures.len, c.put_text-end.ensures.within)) c.put_text-end.ensures.within ∙ c.put_text-end.ensures.text)).0

pub returns : goal.returns
returns c =
    let spelled = whole_text c.truncate.new.self.items c.args.septets.now c.requires.septets (front_left _ c.put_text-end.new.out _ c.resize.new.self.len c.put_text-end.result c.truncate.ensures.items (omega (arith, c.put_text-end.auto.out, c.deref_mut.ensures.len, c.put_text-end.ensures.within)) c.put_text-end.ensures.within ∙ c.put_text-end.ensures.text) in
    rw c.text_of_utf8.ensures spelled.1

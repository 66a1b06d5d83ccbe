use Rattle.std.proofs.Common.{◌∙◌, arith}
use Rattle.sms_language.proofs.FrontLaws.{scalars_text, whole_text}
use Rattle.sms_language.proofs.WordTables.{escaped_scalar}
use Rattle.sms_language.proofs.Placed.{front_left}
use Rattle.sms_language.proofs.written.text_of_mixed.Goals as goal

pub text_of_utf8-requires : goal.text_of_utf8-requires
text_of_utf8-requires c =
    (whole_text c.args.tables c.truncate.new.self.items c.args.septets.now
    (scalars_text c.args.tables c.args.septets.now c.plain_words-plain.ensures.scalar (escaped_scalar c.args.tables c.plain_words-plain.result.now c.single_words-single.result.now c.plain_words-plain.ensures c.single_words-single.ensures) c.requires)
    (front_left _ c.put_text-end.new.out _ c.resize.new.self.len c.put_text-end.result c.truncate.ensures.items (omega (arith, c.put_text-end.auto.out, c.deref_mut.ensures.len, c.put_text-end.ensures.within)) c.put_text-end.ensures.within ∙ c.put_text-end.ensures.text)).0

pub returns : goal.returns
returns c =
    let spelled = whole_text c.args.tables c.truncate.new.self.items c.args.septets.now
    (scalars_text c.args.tables c.args.septets.now c.plain_words-plain.ensures.scalar (escaped_scalar c.args.tables c.plain_words-plain.result.now c.single_words-single.result.now c.plain_words-plain.ensures c.single_words-single.ensures) c.requires)
    (front_left _ c.put_text-end.new.out _ c.resize.new.self.len c.put_text-end.result c.truncate.ensures.items (omega (arith, c.put_text-end.auto.out, c.deref_mut.ensures.len, c.put_text-end.ensures.within)) c.put_text-end.ensures.within ∙ c.put_text-end.ensures.text) in
    rw c.text_of_utf8.ensures spelled.1

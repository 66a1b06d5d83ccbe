use Rattle.std.specs.Str.{chars}
use Rattle.sms_national.proofs.Sent.{sent_sendable}
use Rattle.sms_national.proofs.TextEscapes.{text_apart}
use Rattle.sms_national.proofs.cut.cut_under.Goals as goal

pub sent_pieces-requires-clause-apart : goal.sent_pieces-requires-clause-apart
sent_pieces-requires-clause-apart c = text_apart c.args.tables (chars c.args.text.now) c.in-Some.septets.items (rw c.in-Some.is at c.in_ok-septets.ensures.exact)

pub new-requires : goal.new-requires
new-requires c = sent_sendable _ _ _ _ c.in_ok-pieces.ensures.few c.in_ok-pieces.ensures.sent

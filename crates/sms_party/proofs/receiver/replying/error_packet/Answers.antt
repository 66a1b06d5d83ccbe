use Rattle.sms_tpdu.specs.Report.{SpellsDeliverError}
use Rattle.sms_tpdu.specs.Inside.SizeLaws.{deliver_error_within}
use Rattle.sms_message.specs.Inside.Short.{not_long}
use Rattle.sms_party.proofs.receiver.replying.error_packet.Goals as goal

pub wrapped-requires : goal.wrapped-requires
wrapped-requires c = λ e. let h = c.wrap_answer_in.ensures.too_long e in not_long SpellsDeliverError deliver_error_within _ h.0 h.1 h.2

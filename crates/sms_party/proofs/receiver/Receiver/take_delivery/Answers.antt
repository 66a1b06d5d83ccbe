use Rattle.std.proofs.Common.{sym, ap, ◌∙◌, subst}
use Rattle.sms_field.specs.Coding.{alphabet_at}
use Rattle.sms_field.specs.declared.coding.Alphabet.{Alphabet}
use Rattle.sms_tpdu.specs.Deliver.{Delivery}
use Rattle.sms_join.specs.BodyUnits.{units_of_body}
use Rattle.sms_party.specs.Receiver.Offers.{offers_units}
use Rattle.sms_party.specs.Receiver.Standing.{ReceiverAnswers}
use Rattle.sms_party.proofs.Storing.{units_offered}
use Rattle.sms_party.proofs.receiver.Receiver.take_delivery.Goals as goal

pub returns-clause-steps : goal.returns-clause-steps
returns-clause-steps c = λ limits s origin stands.
    let here : Delivery = record {
      more = c.delivery.inside.more;
      looped = c.delivery.inside.looped;
      report = c.delivery.inside.report;
      reply = c.delivery.inside.reply;
      origin = c.delivery.inside.origin;
      pid = c.delivery.inside.pid;
      dcs = c.delivery.inside.dcs;
      stamp = c.delivery.inside.stamp;
      user = c.delivery.inside.user;
    } in
    subst (λ (d : Delivery). ReceiverAnswers limits s (offers_units limits s c.args.now c.args.tag d origin (units_of_body (alphabet_at d.dcs) d.user.body)) c.take_piece.result c.take_piece.new.self) c.delivery.view_is
    (units_offered limits s c.args.now c.args.tag here origin (units_of_body (alphabet_at here.dcs) here.user.body) c.in-Some.units c.concat_of-concat.result c.take_piece.result c.take_piece.new.self
    (ap (λ (a : Alphabet). units_of_body a here.user.body) (sym c.alphabet_of-alphabet.ensures) ∙ (sym c.in_ok-of_body.ensures ∙ c.in-Some.is)) c.concat_of-concat.ensures.is (c.take_piece.ensures.steps limits s origin stands))

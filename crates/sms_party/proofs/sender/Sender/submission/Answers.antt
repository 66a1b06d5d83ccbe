use Rattle.std.proofs.Common.{◌+◌, ◌<◌, IfOk, OnErr, length, true, sym, subst}
use Rattle.std.specs.List.{slice_get}
use Rattle.sms_party.specs.declared.sender.putting.Putting.{Putting}
use Rattle.sms_party.specs.Sender.Value.{SenderValue}
use Rattle.sms_party.specs.Inside.Sender.{put_by, turn_of}
use Rattle.sms_party.specs.Inside.Sender.{text_put, CarriesOptional}
use Rattle.sms_party.proofs.sender.Sender.submission.Goals as goal

pub returns-in-Again-clause-carries : goal.returns-in-Again-clause-carries
returns-in-Again-clause-carries c =
    subst (λ (p : Putting). IfOk c.segment_at.result (λ packet. CarriesOptional packet (put_by c.args.self.now p))) (sym c.in-Again.is)
    (subst (λ (v : SenderValue). IfOk c.segment_at.result (λ packet. CarriesOptional packet (text_put c.args.self.now.next true v.accepted (slice_get c.args.self.now.pending 0)))) c.self.view_is c.segment_at.ensures.carries)

pub returns-in-NextSegment-clause-carries : goal.returns-in-NextSegment-clause-carries
returns-in-NextSegment-clause-carries c =
    subst (λ (p : Putting). IfOk c.segment_at-in-NextSegment.result (λ packet. CarriesOptional packet (put_by c.args.self.now p))) (sym c.in-NextSegment.is)
    (subst (λ (v : SenderValue). IfOk c.segment_at-in-NextSegment.result (λ packet. CarriesOptional packet (text_put c.args.self.now.next v.reject (v.accepted + 1) (slice_get c.args.self.now.pending 0)))) c.self.view_is c.segment_at-in-NextSegment.ensures.carries)

pub returns-in-NextText-clause-carries : goal.returns-in-NextText-clause-carries
returns-in-NextText-clause-carries c =
    subst (λ (p : Putting). IfOk c.segment_at-in-NextText.result (λ packet. CarriesOptional packet (put_by c.args.self.now p))) (sym c.in-NextText.is)
    (subst (λ (v : SenderValue). IfOk c.segment_at-in-NextText.result (λ packet. CarriesOptional packet (text_put c.args.self.now.next v.reject 0 (slice_get c.args.self.now.pending 1)))) c.self.view_is c.segment_at-in-NextText.ensures.carries)

pub returns-in-Again-clause-ample : goal.returns-in-Again-clause-ample
returns-in-Again-clause-ample c = subst (λ (p : Putting). OnErr c.segment_at.result (turn_of p < length c.args.self.now.pending)) (sym c.in-Again.is) c.segment_at.ensures.ample

pub returns-in-NextSegment-clause-ample : goal.returns-in-NextSegment-clause-ample
returns-in-NextSegment-clause-ample c = subst (λ (p : Putting). OnErr c.segment_at-in-NextSegment.result (turn_of p < length c.args.self.now.pending)) (sym c.in-NextSegment.is) c.segment_at-in-NextSegment.ensures.ample

pub returns-in-NextText-clause-ample : goal.returns-in-NextText-clause-ample
returns-in-NextText-clause-ample c = subst (λ (p : Putting). OnErr c.segment_at-in-NextText.result (turn_of p < length c.args.self.now.pending)) (sym c.in-NextText.is) c.segment_at-in-NextText.ensures.ample

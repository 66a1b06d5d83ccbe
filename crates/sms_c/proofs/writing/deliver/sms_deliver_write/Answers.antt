use Rattle.std.proofs.lemmas.Result.{IfOk-weaker}
use Rattle.sms_c.proofs.Cuts.{no_segment, of_deliver, too_many}
use Rattle.sms_c.proofs.writing.deliver.sms_deliver_write.Goals as goal

pub returns-clause-too_many : goal.returns-clause-too_many
returns-clause-too_many c =
    λ fits texts many. rw c.status_of.ensures.status (too_many c.texts_have_one_cut.ensures c.args.fields.now.segments c.args.text.now c.args.index c.put_deliver.new.count c.put_deliver.result texts.1 many (IfOk-weaker c.put_deliver.result _ _ (λ _ out. of_deliver _ _ _ _ _ _ out) c.put_deliver.ensures.put) (λ e. of_deliver _ _ _ _ _ _ (c.put_deliver.ensures.no_room e)) c.put_deliver.ensures.not_there (λ seven. c.put_deliver.ensures.range.0 seven fits) (λ four. (c.put_deliver.ensures.not_utf8.0 four).1 texts) c.put_deliver.ensures.answered.0 c.put_deliver.ensures.answered.1)

pub returns-clause-no_segment : goal.returns-clause-no_segment
returns-clause-no_segment c =
    λ n fits texts ends. rw c.status_of.ensures.status (no_segment c.texts_have_one_cut.ensures c.args.fields.now.segments c.args.text.now c.args.index c.put_deliver.new.count n c.put_deliver.result texts.1 ends (IfOk-weaker c.put_deliver.result _ _ (λ _ out. of_deliver _ _ _ _ _ _ out) c.put_deliver.ensures.put) (λ e. of_deliver _ _ _ _ _ _ (c.put_deliver.ensures.no_room e)) c.put_deliver.ensures.too_long (λ seven. c.put_deliver.ensures.range.0 seven fits) (λ four. (c.put_deliver.ensures.not_utf8.0 four).1 texts) c.put_deliver.ensures.answered.0 c.put_deliver.ensures.answered.1)

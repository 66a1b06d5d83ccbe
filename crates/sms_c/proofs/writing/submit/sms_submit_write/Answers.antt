use Rattle.std.proofs.lemmas.Result.{IfOk-weaker}
use Rattle.sms_c.proofs.Cuts.{no_segment, of_submit, too_many}
use Rattle.sms_c.proofs.writing.submit.sms_submit_write.Goals as goal

pub returns-clause-too_many : goal.returns-clause-too_many
returns-clause-too_many c =
    λ fits texts many. rw c.status_of.ensures.status (too_many c.texts_have_one_cut.ensures c.args.fields.now.segments c.args.text.now c.args.index c.put_submit.new.count c.put_submit.result texts.1 many (IfOk-weaker c.put_submit.result _ _ (λ _ out. of_submit _ _ _ _ _ _ out) c.put_submit.ensures.put) (λ e. of_submit _ _ _ _ _ _ (c.put_submit.ensures.no_room e)) c.put_submit.ensures.not_there (λ seven. c.put_submit.ensures.range.0 seven fits) (λ four. (c.put_submit.ensures.not_utf8.0 four).1 texts) c.put_submit.ensures.answered.0 c.put_submit.ensures.answered.1)

pub returns-clause-no_segment : goal.returns-clause-no_segment
returns-clause-no_segment c =
    λ n fits texts ends. rw c.status_of.ensures.status (no_segment c.texts_have_one_cut.ensures c.args.fields.now.segments c.args.text.now c.args.index c.put_submit.new.count n c.put_submit.result texts.1 ends (IfOk-weaker c.put_submit.result _ _ (λ _ out. of_submit _ _ _ _ _ _ out) c.put_submit.ensures.put) (λ e. of_submit _ _ _ _ _ _ (c.put_submit.ensures.no_room e)) c.put_submit.ensures.too_long (λ seven. c.put_submit.ensures.range.0 seven fits) (λ four. (c.put_submit.ensures.not_utf8.0 four).1 texts) c.put_submit.ensures.answered.0 c.put_submit.ensures.answered.1)

pub returns-clause-not_utf8 : goal.returns-clause-not_utf8
returns-clause-not_utf8 c = rw c.status_of.ensures.status c.put_submit.ensures.not_utf8

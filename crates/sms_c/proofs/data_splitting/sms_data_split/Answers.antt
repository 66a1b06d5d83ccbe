use Rattle.std.proofs.lemmas.Result.{IfOk-weaker}
use Rattle.sms_c.proofs.Cuts.{split_too_many}
use Rattle.sms_c.proofs.DataSplits.{data_cut_into}
use Rattle.sms_c.proofs.data_splitting.sms_data_split.Goals as goal

pub returns-clause-too_many : goal.returns-clause-too_many
returns-clause-too_many c =
    λ fits utf8 many. rw c.status_of.ensures.status (split_too_many c.texts_have_one_cut.ensures c.args.fields.now.segments c.args.text.now c.put_split.new.count c.put_split.result utf8 many (IfOk-weaker c.put_split.result _ _ (λ _ out. data_cut_into _ _ _ _ out) c.put_split.ensures.put) (λ e. data_cut_into _ _ _ _ (c.put_split.ensures.no_room e)) (λ seven. c.put_split.ensures.range.0 seven fits) (λ four. (c.put_split.ensures.not_utf8.0 four).1 utf8) c.put_split.ensures.answered.0 c.put_split.ensures.answered.1 c.put_split.ensures.answered.2)

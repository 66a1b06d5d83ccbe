use Rattle.std.proofs.lemmas.Result.{IfOk-weaker}
use Rattle.sms_c.specs.Splitting.{OfSplit, BothArePut}
use Rattle.sms_c.proofs.Splits.{of_split}
use Rattle.sms_c.proofs.splitting.put_split.Goals as goal

pub returns-clause-put : goal.returns-clause-put
returns-clause-put c =
    IfOk-weaker c.hand_out_both.result
    (λ _. BothArePut c.args.out.now c.hand_out_both.new.out c.hand_out_both.new.needed c.args.spans.now c.hand_out_both.new.spans c.deref.result.now c.deref-2.result.now)
    (λ _. OfSplit c.args.reference c.args.text.now c.len.result c.coding_scheme.result (BothArePut c.args.out.now c.hand_out_both.new.out c.hand_out_both.new.needed c.args.spans.now c.hand_out_both.new.spans))
    (λ _ out. of_split _ _ _ _ _ _ c.in_ok-width.width _ _ _ _ _ c.in_ok-width.ensures.width c.in_ok-text.ensures.text c.in_ok-segments.ensures.segments c.len.ensures.count c.len.ensures.few c.coding_scheme.ensures c.in_ok-octets.ensures c.deref.ensures.value c.deref-2.ensures.value out)
    c.hand_out_both.ensures.put

pub returns-clause-no_room : goal.returns-clause-no_room
returns-clause-no_room c =
    λ e. of_split _ _ _ _ _ _ c.in_ok-width.width _ _ _ _ _ c.in_ok-width.ensures.width c.in_ok-text.ensures.text c.in_ok-segments.ensures.segments c.len.ensures.count c.len.ensures.few c.coding_scheme.ensures c.in_ok-octets.ensures c.deref.ensures.value c.deref-2.ensures.value (rw e at c.hand_out_both.ensures.no_room).1

use Rattle.std.proofs.Common.{◌∙◌, sym, subst, length, None, arith}
use Rattle.std.proofs.lemmas.Bool.{eqb-true, eqb-false}
use Rattle.sms_text.specs.Octets.{IsOctets}
use Rattle.sms_tpdu.specs.UserData.ConcatenationFound.{IsPlace}
use Rattle.sms_tpdu.proofs.Headers.{concat_is_one, concat_is_place}
use Rattle.sms_tpdu.proofs.ElementLaws.{one_concat, further, at_end, cut_before_length, cut_after_length}
use Rattle.sms_tpdu.proofs.user_data.view.header.HeaderView.concat.Goals as goal

pub returns-then-after-length : goal.returns-then-after-length
returns-then-after-length c =
    let told = cut_after_length c.args.self.now c.loop-rest.rest.now c.loop-rest.last c.in-len2-up.len_at_least c.if-after-length.true c.loop-rest.invariant in
    let are : IsOctets c.args.self.now = subst IsOctets c.self.view_is c.self.invariant.1 in
    let same = concat_is_one c.args.self.now None are told in
    record { told = told; only = λ other o. one_concat c.args.self.now other None o told; value = same; in_range = subst IsPlace (sym same) (concat_is_place c.args.self.now are) }

pub loop-rest-preserved : goal.loop-rest-preserved
loop-rest-preserved c = rw c.or-last.ensures (further c.args.self.now c.loop-rest.rest.now c.split_at.result.0.now c.split_at.result.1.now c.told_by.result c.loop-rest.last c.in-len2-up.len_at_least c.if-after-length.false c.split_at.ensures.front c.split_at.ensures.back c.told_by.ensures c.loop-rest.invariant)

pub returns-then-is_empty : goal.returns-then-is_empty
returns-then-is_empty c =
    let told = at_end c.args.self.now c.loop-rest.rest.now c.loop-rest.last (eqb-true (length c.loop-rest.rest.now) 0 (sym c.is_empty.ensures ∙ c.if-is_empty.true)) c.loop-rest.invariant in
    let are : IsOctets c.args.self.now = subst IsOctets c.self.view_is c.self.invariant.1 in
    let same = concat_is_one c.args.self.now c.loop-rest.last are told in
    record { told = told; only = λ other o. one_concat c.args.self.now other c.loop-rest.last o told; value = same; in_range = subst IsPlace (sym same) (concat_is_place c.args.self.now are) }

pub returns-else-is_empty : goal.returns-else-is_empty
returns-else-is_empty c =
    let told = cut_before_length c.args.self.now c.loop-rest.rest.now c.loop-rest.last (omega (arith, eqb-false (length c.loop-rest.rest.now) 0 (sym c.is_empty.ensures ∙ c.if-is_empty.false))) (omega arith) c.loop-rest.invariant in
    let are : IsOctets c.args.self.now = subst IsOctets c.self.view_is c.self.invariant.1 in
    let same = concat_is_one c.args.self.now None are told in
    record { told = told; only = λ other o. one_concat c.args.self.now other None o told; value = same; in_range = subst IsPlace (sym same) (concat_is_place c.args.self.now are) }

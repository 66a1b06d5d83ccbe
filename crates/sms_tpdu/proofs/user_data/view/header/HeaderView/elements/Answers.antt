use Rattle.std.proofs.Common.{length, sym, arith, ◌∙◌}
use Rattle.std.proofs.lemmas.Bool.{eqb-false}
use Rattle.sms_tpdu.proofs.ElementWalk.{passed_on, starts_cut_after, starts_cut_before}
use Rattle.sms_tpdu.proofs.user_data.view.header.HeaderView.elements.Goals as goal

pub returns-then-after-length : goal.returns-then-after-length
returns-then-after-length c = rw (← c.as_slice-header.ensures.value) (starts_cut_after c.as_slice-header.result.now c.loop-rest.rest.now c.in-len2-up.len_at_least (rw (← c.from-length.ensures) c.if-after-length.true) c.loop-rest.invariant)

pub loop-rest-preserved : goal.loop-rest-preserved
loop-rest-preserved c = passed_on c.as_slice-header.result.now c.loop-rest.rest.now c.split_at.result.1.now c.in-len2-up.len_at_least (rw (← c.from-length.ensures) c.if-after-length.false) (rw (← c.from-length.ensures) c.split_at.ensures.back) c.loop-rest.invariant

pub returns-else-is_empty : goal.returns-else-is_empty
returns-else-is_empty c = rw (← c.as_slice-header.ensures.value) (starts_cut_before c.as_slice-header.result.now c.loop-rest.rest.now (omega (arith, eqb-false (length c.loop-rest.rest.now) 0 (sym c.is_empty.ensures ∙ c.if-is_empty.false))) (omega (arith, c.in_default.len_below)) c.loop-rest.invariant)

use Rattle.std.proofs.Common.{◌≡◌, ℕ, List, ◌++◌, length, Vec, Global, sym, ap, ◌∙◌, arith}
use Rattle.sms_c.specs.declared.parts.Span.{Span}
use Rattle.sms_c.proofs.Splits.{one_span, one_user_more, as_users, take_next, is_there}
use Rattle.sms_c.proofs.splitting.users_of.Goals.{in-Some+in_ok-user+in_ok-push+in_ok-extend_from_slice, in_default}
use Rattle.sms_c.proofs.splitting.users_of.Goals as goal

pub loop-index-preserved : goal.loop-index-preserved
loop-index-preserved c = elim c.match-get.branch [
  | in-Some+in_ok-user+in_ok-push+in_ok-extend_from_slice w ↦
      let start : w.len-in-Some.result ≡ length c.loop-index.octets.items = omega (arith, w.len-in-Some.ensures, c.loop-index.octets.ok.0) in
      let size : w.len-in-Some-2.result ≡ length w.in_ok-user.user.items = omega (arith, w.len-in-Some-2.ensures, w.in_ok-user.user.ok.0) in
      as_users _ _ _ _ _ _ _ _ (take_next c.args.segments.now c.loop-index.index w.in-Some.segment (sym c.get.ensures.value ∙ w.in-Some.is))
      (ap (λ (v : Vec ℕ Global). v.items) w.octets-is ∙ w.in_ok-extend_from_slice.ensures.items ∙ ap (λ (l : List ℕ). c.loop-index.octets.items ++ l) w.deref.ensures.value)
      (ap (λ (v : Vec Span Global). v.items) w.spans-is ∙ w.in_ok-push.ensures.items ∙ ap (λ (n : ℕ). c.loop-index.spans.items ++ one_span n w.len-in-Some-2.result) start ∙ ap (λ (n : ℕ). c.loop-index.spans.items ++ one_span (length c.loop-index.octets.items) n) size)
      (one_user_more c.args.width c.args.reference _ _ _ w.in-Some.segment w.in_ok-user.user.items c.loop-index.invariant w.in_ok-user.ensures)
  | in_default w ↦
      absurd (is_there c.args.segments.now c.loop-index.index (omega (arith, c.loop-index-test.true, c.len-index-end.ensures.count)) (sym c.get.ensures.value ∙ w.in_default.is))
]

use Rattle.std.proofs.Common.{◌+◌, take, sym, subst, ◌∙◌, arith}
use Rattle.sms_page.specs.Page.{PageValue}
use Rattle.sms_encode.specs.Inside.Pages.{PutsUnits}
use Rattle.sms_encode.proofs.Turns.{one_more, is_there}
use Rattle.sms_encode.proofs.lines.put_segments.Goals.{in-Some+in_ok-put_segment, in_default}
use Rattle.sms_encode.proofs.lines.put_segments.Goals as goal

pub loop-place-preserved : goal.loop-place-preserved
loop-place-preserved c = elim c.match-get.branch [
  | in-Some+in_ok-put_segment w ↦
      let draft = c.args.draft.now in
      let frame = c.args.frame.now in
      let segments = c.args.segments.now in
      let place = c.loop-place.place in
      let put = w.in_ok-put_segment.ensures in
      subst (λ (p : PageValue). PutsUnits draft frame (take (place + 1) segments) c.args.page.now p) (sym w.page-is)
      (one_more draft frame segments place w.in-Some.segment put.0 c.args.page.now c.loop-place.page w.put_segment.new.page (omega (arith, c.loop-place-test.true, c.len-place-end.ensures.count))
      (sym c.get.ensures.value ∙ w.in-Some.is) c.loop-place.invariant put.1 put.2)
  | in_default w ↦
      absurd (is_there c.args.segments.now c.loop-place.place (omega (arith, c.loop-place-test.true, c.len-place-end.ensures.count)) (sym c.get.ensures.value ∙ w.in_default.is))
]

use Rattle.std.proofs.Common.{arith, sym, ◌∙◌}
use Rattle.sms_split.proofs.Telling.{is_there, none_written, segment_more}
use Rattle.sms_split.proofs.segments.put_each.Goals.{in-Some+in_ok-put_segment, in_default}
use Rattle.sms_split.proofs.segments.put_each.Goals as goal

pub loop-index-init : goal.loop-index-init
loop-index-init g c = none_written c.args.long.now (g.W.Write.contents c.args.output.now)

pub loop-index-preserved : goal.loop-index-preserved
loop-index-preserved g c = elim c.match-get.branch [
  | in-Some+in_ok-put_segment w ↦
      rw w.output-is (segment_more c.args.long.now c.args.width c.args.long.now.reference c.args.segments.now c.loop-index.index w.in-Some.segment
      (g.W.Write.contents c.args.output.now) (g.W.Write.contents c.loop-index.output) (g.W.Write.contents w.put_segment.new.output)
      (sym c.get.ensures.value ∙ w.in-Some.is) c.loop-index.invariant w.in_ok-put_segment.ensures)
  | in_default w ↦
      absurd (is_there c.args.segments.now c.loop-index.index (omega (arith, c.loop-index-test.true, c.len-index-end.ensures.count)) (sym c.get.ensures.value ∙ w.in_default.is))
]

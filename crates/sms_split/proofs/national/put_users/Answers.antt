use Rattle.sms_split.proofs.Telling.{none_written, piece_more}
use Rattle.sms_split.proofs.national.put_users.Goals as goal

pub loop-index-init : goal.loop-index-init
loop-index-init g c = none_written c.args.long.now (g.W.Write.contents c.args.output.now)

pub loop-index-preserved : goal.loop-index-preserved
loop-index-preserved g c =
    piece_more c.args.long.now c.args.segments.now c.loop-index.index (g.W.Write.contents c.args.output.now) (g.W.Write.contents c.loop-index.output) (g.W.Write.contents c.put_at.new.output)
    c.loop-index.invariant c.in_ok-put_at.ensures

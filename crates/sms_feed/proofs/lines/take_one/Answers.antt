use Rattle.std.proofs.Common.{◌∙◌, subst, sym, option_copied}
use Rattle.sms_feed.specs.Shown.{Stays}
use Rattle.sms_feed.specs.Takers.{standing}
use Rattle.sms_feed.proofs.HandedOn.{one_then, one_after}
use Rattle.sms_feed.proofs.Staying.{stays_same}
use Rattle.sms_feed.proofs.lines.take_one.Goals.{then-not-has_room+in_ok-write_page, else-not-has_room, then-is_full+in_ok-write_page-2, else-is_full}
use Rattle.sms_feed.proofs.lines.take_one.Goals as goal

pub returns : goal.returns
returns g c =
    let before : Stays (g.W.Write.contents c.args.output.now) c.args.page.now (g.W.Write.contents c.if-not-has_room.output) c.if-not-has_room.page = elim c.if-not-has_room.branch [
      | then-not-has_room+in_ok-write_page w ↦
          subst (λ p. Stays (g.W.Write.contents c.args.output.now) p (g.W.Write.contents c.if-not-has_room.output) c.if-not-has_room.page) (c.has_room.ensures)
          (subst (λ o. Stays (g.W.Write.contents c.args.output.now) c.has_room.new.self (g.W.Write.contents o) c.if-not-has_room.page) (sym w.output-is)
          (subst (λ p. Stays (g.W.Write.contents c.args.output.now) c.has_room.new.self (g.W.Write.contents w.write_page.new.output) p) (sym w.page-is) w.in_ok-write_page.ensures.stays))
      | else-not-has_room w ↦
          subst (λ o. Stays (g.W.Write.contents c.args.output.now) c.args.page.now (g.W.Write.contents o) c.if-not-has_room.page) (sym w.output-is)
          (subst (λ p. Stays (g.W.Write.contents c.args.output.now) c.args.page.now (g.W.Write.contents c.args.output.now) p) (sym (w.page-is ∙ c.has_room.ensures)) (stays_same (g.W.Write.contents c.args.output.now) c.args.page.now))
    ] in
    let after : Stays (g.W.Write.contents c.take_or_again.new.output) c.take_or_again.new.page (g.W.Write.contents c.if-is_full.output) c.if-is_full.page = elim c.if-is_full.branch [
      | then-is_full+in_ok-write_page-2 w ↦
          subst (λ o. Stays (g.W.Write.contents c.take_or_again.new.output) c.take_or_again.new.page (g.W.Write.contents o) c.if-is_full.page) (sym w.output-is)
          (subst (λ p. Stays (g.W.Write.contents c.take_or_again.new.output) c.take_or_again.new.page (g.W.Write.contents w.write_page-then-is_full.new.output) p) (sym w.page-is) w.in_ok-write_page-2.ensures.stays)
      | else-is_full w ↦
          subst (λ o. Stays (g.W.Write.contents c.take_or_again.new.output) c.take_or_again.new.page (g.W.Write.contents o) c.if-is_full.page) (sym w.output-is)
          (subst (λ p. Stays (g.W.Write.contents c.take_or_again.new.output) c.take_or_again.new.page (g.W.Write.contents c.take_or_again.new.output) p) (sym w.page-is) (stays_same (g.W.Write.contents c.take_or_again.new.output) c.take_or_again.new.page))
    ] in
    one_then g.T.Taker.takes (standing c.args.taker.now (g.W.Write.contents c.args.output.now) c.args.page.now) c.args.line.number (option_copied c.args.line.octets) c.take_or_again.new.taker (g.W.Write.contents c.take_or_again.new.output) c.take_or_again.new.page (g.W.Write.contents c.if-is_full.output) c.if-is_full.page
    (one_after g.T.Taker.takes c.args.taker.now (g.W.Write.contents c.args.output.now) c.args.page.now (g.W.Write.contents c.if-not-has_room.output) c.if-not-has_room.page c.args.line.number (option_copied c.args.line.octets) (standing c.take_or_again.new.taker (g.W.Write.contents c.take_or_again.new.output) c.take_or_again.new.page)
    before c.in_ok-take_or_again.ensures) after

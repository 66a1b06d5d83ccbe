use Rattle.std.proofs.Common.{subst, ◌∙◌, ap}
use Rattle.sms_join.specs.declared.segment.Segment.{Segment}
use Rattle.sms_join.specs.Segments.User.{HasRange, body_of}
use Rattle.sms_join.proofs.Sendable.{segment_fits}
use Rattle.sms_join.proofs.segment.SegmentView.write_submit_in.Goals as goal

pub write_with_in-requires-clause-fits : goal.write_with_in-requires-clause-fits
write_with_in-requires-clause-fits c =
    let body = c.in_range.ensures.body ∙ ap (λ (s : Segment). body_of s.units) c.self.view_is in
    (c.place-place.ensures.octets, rw (c.requires.alphabet, c.place-place.ensures.header, body) (segment_fits c.args.width c.args.self.now c.args.reference c.requires.sendable (subst HasRange body c.in_range.ensures.range)))

use Rattle.std.proofs.Common.{◌≡◌, ℕ, List, Option, Some, None, ap, subst, ◌∙◌}
use Rattle.std.specs.Prelude.{MatchOption}
use Rattle.sms_tpdu.specs.UserData.Concatenation.{IsConcatOf}
use Rattle.sms_tpdu.specs.declared.user_data.concat.Width.{Width}
use Rattle.sms_tpdu.specs.declared.user_data.concat.Concat.{Concat}
use Rattle.sms_join.specs.declared.segment.Segment.{Segment}
use Rattle.sms_join.specs.Segments.User.{HasRange, TellsPlace, body_of, header_of}
use Rattle.sms_join.proofs.Sendable.{segment_fits}
use Rattle.sms_join.proofs.segment.SegmentView.user.Goals as goal

tells : (width : Width) (reference maximum sequence : ℕ) (place : Option Concat) (header : Option (List ℕ))
    → MatchOption place (maximum ≡ 1) (λ p. p ≡ record { width = width; reference = reference; maximum = maximum; sequence = sequence })
    → MatchOption place (header ≡ None) (λ p. MatchOption header ⊥ (λ h. IsConcatOf h (Some p))) → TellsPlace width reference maximum sequence header
tells width reference maximum sequence None None is told = is
tells width reference maximum sequence None (Some header) is told = absurd cc
tells width reference maximum sequence (Some place) None is told = absurd told
tells width reference maximum sequence (Some place) (Some header) is told = subst (λ (p : Concat). IsConcatOf header (Some p)) is told

pub returns-clause-told : goal.returns-clause-told
returns-clause-told c =
    tells c.args.width c.args.reference c.args.self.now.maximum c.args.self.now.sequence c.place.result c.in_ok-header.header c.place.ensures.place c.in_ok-header.ensures.told

pub returns-clause-fits : goal.returns-clause-fits
returns-clause-fits c =
    let body : c.in_ok-body.body ≡ body_of c.args.self.now.units = c.in_ok-body.ensures.body ∙ ap (λ (s : Segment). body_of s.units) c.self.view_is in
    let header : c.in_ok-header.header ≡ header_of c.args.width c.args.reference c.args.self.now.maximum c.args.self.now.sequence = c.in_ok-header.ensures.header ∙ c.place.ensures.header in
    (c.in_ok-header.ensures.octets, rw (header, body) (segment_fits c.args.width c.args.self.now c.args.reference c.requires.sendable (subst HasRange body c.in_ok-body.ensures.range)))

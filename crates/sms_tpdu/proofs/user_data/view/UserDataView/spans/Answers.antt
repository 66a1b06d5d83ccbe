use Rattle.std.proofs.Common.{ap, ◌∙◌}
use Rattle.sms_tpdu.specs.UserData.Spans.{spans_before}
use Rattle.sms_tpdu.specs.Inside.SpansLaws.{spans_are}
use Rattle.sms_tpdu.proofs.user_data.view.UserDataView.spans.Goals as goal

pub returns : goal.returns
returns c =
    let u = c.self.inside in
    spans_are u.header u.alphabet u.count u.octets.now c.args.end c.saturating_sub-offset.result u.fill c.header_span.result c.self.invariant.room c.self.invariant.whole c.header_span.ensures c.saturating_sub-offset.ensures c.self.invariant.filled ∙ ap (spans_before c.args.end) c.self.view_is

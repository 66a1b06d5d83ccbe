use Rattle.std.proofs.Common.{◌∙◌, ap}
use Rattle.sms_tpdu.specs.StatusReport.{StatusReportValue}
use Rattle.sms_tpdu.specs.DataSpans.{data_before_if}
use Rattle.sms_tpdu.proofs.DataPlaces.{status_report_lies}
use Rattle.sms_tpdu.proofs.status_report.view.StatusReportView.spans.Goals as goal

pub returns : goal.returns
returns c =
    status_report_lies c.args.self.now c.args.octets.now c.args.used _ c.requires c.address_after.ensures.begins c.address_after.ensures.takes
    (c.report_data_spans.ensures ∙ ap (λ (y : StatusReportValue). data_before_if c.args.used y.has_header y.user) c.self.view_is)

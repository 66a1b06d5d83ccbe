use Rattle.std.proofs.Common.{◌∙◌, sym, ap, subst}
use Rattle.sms_tpdu.specs.Report.{ReportValue}
use Rattle.sms_tpdu.specs.DataSpans.{DataLieIf, data_before_if}
use Rattle.sms_tpdu.proofs.DataPlaces.{report_lies}
use Rattle.sms_tpdu.proofs.report.view.ReportView.spans.Goals as goal

pub returns : goal.returns
returns g c input read =
    let x = c.args.self.now in
    subst (DataLieIf x.has_header x.user input c.args.used)
    (sym (c.report_data_spans.ensures ∙ ap (λ (y : ReportValue _ _). data_before_if c.args.used y.has_header y.user) c.self.view_is))
    (report_lies _ _ _ x input c.args.used read)

use Rattle.std.proofs.Common.{◌∙◌, ℕ, List, ap}
use Rattle.sms_tpdu.specs.Command.{CommandValue}
use Rattle.sms_tpdu.specs.DataSpans.{data_before}
use Rattle.sms_tpdu.proofs.DataPlaces.{command_lies}
use Rattle.sms_tpdu.proofs.command.view.CommandView.spans.Goals as goal

pub returns : goal.returns
returns c =
    command_lies c.args.self.now c.args.octets.now c.args.used _ c.requires c.address_after.ensures.begins c.address_after.ensures.takes
    (c.data_spans.ensures ∙ ap (λ (l : List ℕ). data_before c.args.used c.self.inside.has_header l) c.as_slice.ensures.same ∙ ap (λ (y : CommandValue). data_before c.args.used y.has_header y.octets) c.self.view_is)

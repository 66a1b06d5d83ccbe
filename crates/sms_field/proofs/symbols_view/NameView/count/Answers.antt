use Rattle.std.proofs.Common.{length, sym, ap, ◌∙◌}
use Rattle.sms_text.specs.Inside.PackingLaws.{unpacked_septets}
use Rattle.sms_field.proofs.symbols_view.NameView.count.Goals as goal

pub returns-clause-is : goal.returns-clause-is
returns-clause-is c = sym (unpacked_septets 0 c.self.inside.count c.self.inside.octets.now).1 ∙ ap length c.self.view_is

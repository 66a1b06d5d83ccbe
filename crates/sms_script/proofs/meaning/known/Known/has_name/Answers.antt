use Rattle.std.proofs.Common.{◌∙◌}
use Rattle.sms_script.proofs.KnownLemmas.{any-names}
use Rattle.sms_script.proofs.meaning.known.Known.has_name.Goals as goal

pub returns : goal.returns
returns c = rw (← c.self.view_is) (c.contains.ensures ∙ any-names c.args.name.now c.self.inside.names.keys)

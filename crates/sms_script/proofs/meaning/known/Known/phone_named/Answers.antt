use Rattle.std.proofs.Common.{◌∙◌}
use Rattle.sms_script.proofs.KnownLemmas.{position-names}
use Rattle.sms_script.proofs.meaning.known.Known.phone_named.Goals as goal

pub returns : goal.returns
returns c = rw (← c.self.view_is) (c.get_index_of.ensures.index ∙ position-names c.args.name.now c.self.inside.names.keys)

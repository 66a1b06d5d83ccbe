use Rattle.std.proofs.Common.{ℕ, List, [], Option, ap, ◌∙◌}
use Rattle.std.specs.Prelude.{unwrap_or}
use Rattle.std.proofs.lemmas.Option.{unwrap_or-slice_get}
use Rattle.sms_script.proofs.script.Script.name.Goals as goal

pub returns-in-None : goal.returns-in-None
returns-in-None c =
    rw (← c.self.view_is) (ap (λ (o : Option (List ℕ)). unwrap_or o []) c.in-None.ensures ∙ unwrap_or-slice_get c.self.inside.known.names c.args.phone [])

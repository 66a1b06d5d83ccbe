-- A reader may pass this by: contracts of private functions, and proofs, alone cite it.
--
-- Whether a piece has come, of what lies in memory.
use Rattle.std.specs.Prelude.{Bool, true, false, Option, Some, None}
use Rattle.sms_saved.specs.declared.state.Units.{Units}

abbrev pub lies_there : Option Units → Bool
lies_there None = false
lies_there (Some units) = true

abbrev pub lies_not_there : Option Units → Bool
lies_not_there None = true
lies_not_there (Some units) = false

-- What it means that a call of the parties is what the machine does.
use Rattle.std.specs.Prelude.{ℕ, Bool, if◌then◌else◌}
use Rattle.sms_party.specs.Sent.{Place, Centre, Phone}

-- where octets come that go this way
abbrev pub place_at : Bool → ℕ → Place
place_at up phone = if up then Centre phone else Phone phone

-- A world that tells whether `accepted` means accepted, as the network of a script.
use Rattle.sms_script.specs.Play.Network.{Conduct}
use Rattle.sms_world.specs.Network.{conduct_with}
use Rattle.sms_world.specs.Trusted.{TrustedValue, BeginsTrusted, GoesOnTrusted}

abbrev pub trusted_conduct : Conduct TrustedValue
trusted_conduct = conduct_with (λ (w : TrustedValue). w.watched.world) BeginsTrusted GoesOnTrusted

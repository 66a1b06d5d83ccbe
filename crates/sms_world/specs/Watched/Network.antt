-- A watched world as the network of a script.
use Rattle.sms_script.specs.Play.Network.{Conduct}
use Rattle.sms_world.specs.Network.{conduct_with}
use Rattle.sms_world.specs.Watched.{WatchedValue, BeginsWatched, GoesOnWatched}

abbrev pub watched_conduct : Conduct WatchedValue
watched_conduct = conduct_with (λ (w : WatchedValue). w.world) BeginsWatched GoesOnWatched

use Rattle.sms_world.specs.Watched.{WatchedValue, BeginsWatched, GoesOnWatched}
use Rattle.sms_world.proofs.WorldPlayed.{begins_empty, begun_stands}
use Rattle.sms_world.proofs.network.WatchedWorldNetwork.begin.Goals as goal

pub returns-clause-packets : goal.returns-clause-packets
returns-clause-packets c = begins_empty (λ (w : WatchedValue). w.world) BeginsWatched GoesOnWatched begun_stands c.new.result c.args.limits c.args.phones.now c.new.ensures.begins

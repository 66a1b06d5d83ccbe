use Rattle.sms_world.specs.Trusted.{TrustedValue, BeginsTrusted, GoesOnTrusted}
use Rattle.sms_world.proofs.WorldPlayed.{begins_empty, begun_trusted}
use Rattle.sms_world.proofs.network.TrustedWorldNetwork.begin.Goals as goal

pub returns-clause-packets : goal.returns-clause-packets
returns-clause-packets c = begins_empty (λ (w : TrustedValue). w.watched.world) BeginsTrusted GoesOnTrusted begun_trusted c.new.result c.args.limits c.args.phones.now c.new.ensures.begins

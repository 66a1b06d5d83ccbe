use Rattle.sms_world.proofs.Transcribing.{transcribes}
use Rattle.sms_world.proofs.playing.play.Goals as goal

pub returns-clause-transcribes : goal.returns-clause-transcribes
returns-clause-transcribes g c =
    transcribes c.claims_hold.ensures c.deliveries_are_refused_only_where_full.ensures c.told_stores_stand.ensures _ _ _ _ c.play.result c.play.ensures.plays

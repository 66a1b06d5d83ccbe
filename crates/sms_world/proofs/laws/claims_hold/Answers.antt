use Rattle.sms_world.proofs.Claimed.{claims}
use Rattle.sms_world.proofs.laws.claims_hold.Goals as goal

pub returns : goal.returns
returns c =
    claims c.stores_stand.ensures c.finished_texts_are_whole.ensures c.deliveries_are_refused_only_where_full.ensures
    c.segments_are_accepted_once.ensures c.accepted_texts_were_accepted.ensures c.copies_may_come_in_time.ensures c.ended_texts_are_typed.ensures

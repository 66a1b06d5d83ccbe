use Rattle.std.proofs.Common.{◌≡◌, ◌++◌, ◌<◌, ◌^◌, ℕ, List, map, ap, ◌∙◌, subst, arith}
use Rattle.std.specs.List.{flat_map, AllByRecursion}
use Rattle.sms_saved.specs.Fits.{LimitsFit}
use Rattle.sms_keep.specs.Held.{CanBeSaved}
use Rattle.sms_keep.specs.Inside.Saving.{SetIsSound}
use Rattle.sms_keep.proofs.Savable.{can_be_saved, on_ok_always}
use Rattle.std.specs.Result.{IfOk}
use Rattle.sms_join.specs.OpenSets.{SetValue}
use Rattle.sms_join.specs.Gateway.Value.{LimitsValue}
use Rattle.sms_saved.specs.Spelling.{set, digest}
use Rattle.sms_keep.specs.Saved.{saved_limits, saved_set, next_opening}
use Rattle.sms_keep.proofs.Spelled.{body_written}
use Rattle.sms_keep.proofs.saving.written.Goals as goal

pub returns-clause-spelled : goal.returns-clause-spelled
returns-clause-spelled c =
    ap (λ (b : List ℕ). b ++ digest b)
    (body_written c.args.gateway.now c.args.taken c.limits_of-limits.result c.in_ok-next.next c.open_count.result c.in_ok-writer.writer c.put_sets.new.writer c.put_keys.new.writer
    (c.limits_of-limits.ensures.value ∙ ap (λ (l : LimitsValue). saved_limits l) c.limits.ensures)
    (c.in_ok-next.ensures.value ∙ ap (λ (ss : List SetValue). next_opening ss) c.open_sets.ensures.told)
    c.open_count.ensures.told
    c.in_ok-writer.ensures
    (c.in_ok-put_sets.ensures.value ∙ ap (λ (ss : List SetValue). c.in_ok-writer.writer ++ flat_map set (map saved_set ss)) c.open_sets-2.ensures.told)
    c.in_ok-put_keys.ensures.value)

pub returns-clause-fits : goal.returns-clause-fits
returns-clause-fits c =
    can_be_saved c.keys_have_own_octets.ensures c.args.gateway.now c.args.taken
    (subst (λ (l : LimitsValue). LimitsFit (saved_limits l)) c.limits.ensures c.limits_of-limits.ensures.fit)
    c.ranges.taken.fits
    (subst (λ (ss : List SetValue). next_opening ss < 2 ^ 64) c.open_sets.ensures.told c.in_ok-next.ensures.fits)
    (subst (AllByRecursion SetIsSound) c.open_sets-2.ensures.told c.in_ok-put_sets.ensures.sound)
    c.in_ok-put_keys.ensures.sound c.in_ok-put_keys.ensures.moments
    c.open_sets.ensures.open c.open_sets.ensures.rise c.open_sets.ensures.pieces
    (let e = c.open_count.ensures.told in omega (arith, e, c.open_count.ensures.few))
    (let e = c.remembered_count-count.ensures.count in omega (arith, e, c.remembered_count-count.ensures.few))
    c.remembered_count-count.ensures.moments c.remembered_count-count.ensures.fall c.remembered_count-count.ensures.distinct

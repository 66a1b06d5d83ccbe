use Rattle.std.proofs.Common.{ap, sym, ◌∙◌}
use Rattle.sms_join.specs.Key.{maximum_of}
use Rattle.sms_told.specs.Sets.{SharedValue, behind_blank, missing, set_line}
use Rattle.sms_told.proofs.Composed.{Puts-then, Puts-same}
use Rattle.sms_told.proofs.set_parts.put_set_line.Goals as goal

pub returns : goal.returns
returns c =
    let numbers = missing (maximum_of c.args.set.now.key) c.args.set.now.sequences in
    Puts-same (ap (λ (s : SharedValue). set_line s numbers) c.parts.view_is)
    (Puts-then _ _ (Puts-then _ _ (Puts-then _ _ (Puts-then _ _ (Puts-then _ _ (Puts-then _ _ c.put_recipient.ensures c.put_party.ensures) (Puts-same (ap behind_blank c.bits_of.ensures) c.put_behind_blank.ensures)) (Puts-same (ap behind_blank c.from.ensures) c.put_behind_blank-2.ensures)) (Puts-same (ap behind_blank c.from-2.ensures) c.put_behind_blank-3.ensures)) c.put.ensures) c.put_missing.ensures)

use Rattle.std.proofs.Common.{ap, sym, ◌∙◌}
use Rattle.std.specs.Prelude.{codes}
use Rattle.sms_join.specs.Key.{maximum_of}
use Rattle.sms_told.specs.Sets.{SharedValue, number_member, missing, set_object}
use Rattle.sms_told.proofs.Composed.{Writes-then, Writes-same}
use Rattle.sms_told.proofs.set_parts.put_set_object.Goals as goal

pub returns : goal.returns
returns c =
    let numbers = missing (maximum_of c.args.set.now.key) c.args.set.now.sequences in
    Writes-same (ap (λ (s : SharedValue). set_object s numbers) c.parts.view_is)
    (Writes-then _ _ (Writes-then _ _ (Writes-then _ _ (Writes-then _ _ (Writes-then _ _ (Writes-then _ _ (Writes-then _ _ (Writes-then _ _ (Writes-then _ _ (Writes-then _ _ (Writes-then _ _ c.open.ensures c.put_recipient_member.ensures) c.name.ensures) c.put_party_object.ensures) (Writes-same (ap (number_member (codes "width")) c.bits_of.ensures) c.number_named.ensures)) (Writes-same (ap (number_member (codes "reference")) c.from.ensures) c.number_named-2.ensures)) (Writes-same (ap (number_member (codes "maximum")) c.from-2.ensures) c.number_named-3.ensures)) c.name-2.ensures) c.open_list.ensures) c.put_missing_values.ensures) c.close_list.ensures) c.close.ensures)

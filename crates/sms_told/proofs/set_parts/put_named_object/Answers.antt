use Rattle.std.proofs.Common.{◌∷◌, [], ◌++◌}
use Rattle.sms_join.specs.Key.{maximum_of}
use Rattle.sms_page.specs.Object.{object, end_object, name}
use Rattle.sms_told.specs.Sets.{missing, set_object}
use Rattle.sms_told.proofs.Composed.{Puts-object, Writes-then}
use Rattle.sms_told.proofs.set_parts.put_named_object.Goals as goal

pub returns : goal.returns
returns c =
    let numbers = missing (maximum_of c.args.set.now.key) c.args.set.now.sequences in
    Puts-object ((object ∷ []) ++ (name c.args.name.now ∷ []) ++ set_object c.args.parts.now numbers ++ (end_object ∷ [])) c.take.ensures.taken c.new-object.ensures
    (Writes-then _ _ (Writes-then _ _ (Writes-then _ _ c.open.ensures c.name.ensures) c.put_set_object.ensures) c.close.ensures) c.into_line.ensures

use Rattle.std.proofs.Common.{◌≡◌, arith}
use Rattle.std.proofs.lemmas.Result.{err_from_is_err_and}
use Rattle.sms_field.specs.declared.fault.FieldFault.TheVariants.{Short}
use Rattle.sms_field.specs.declared.refusal.Refusal.TheVariants.{Memory, At}
use Rattle.sms_field.specs.Time.Stamp.{stamp}
use Rattle.sms_field.proofs.StampLaws.{stamp_lawful}
use Rattle.sms_field.specs.Inside.ReadingLaws.{read_found, read_refused, read_exact, refused_without}
use Rattle.sms_field.proofs.stamp.Stamp.read.Goals as goal

pub returns-in_err-stamp-clause-refused : goal.returns-in_err-stamp-clause-refused
returns-in_err-stamp-clause-refused c =
    let p = err_from_is_err_and c.from_residual.result c.from_residual.ensures.1 in
    let f = c.in_err-stamp.field-0.0 in
    rw (p.1, p.2) (read_refused (stamp Short) Short (stamp_lawful Short) _ (λ i. omega (arith, c.type_inv.input i)) c.new-cursor.result c.read_at.new.input c.new-cursor.ensures.place c.new-cursor.ensures.rest (At f.place f.why) c.in_err-stamp.ensures.read)

pub returns-in_err-stamp-clause-exact : goal.returns-in_err-stamp-clause-exact
returns-in_err-stamp-clause-exact c v n r =
    let f = c.in_err-stamp.field-0.0 in
    let none : At f.place f.why ≡ Memory = refused_without (stamp Short) Short (stamp_lawful Short) _ (λ i. omega (arith, c.type_inv.input i)) c.new-cursor.result c.read_at.new.input c.new-cursor.ensures.place c.new-cursor.ensures.rest v n r (At f.place f.why) c.in_err-stamp.ensures.read in
    absurd cc

pub returns-clause-found : goal.returns-clause-found
returns-clause-found c = read_found (stamp Short) Short (stamp_lawful Short) _ (λ i. omega (arith, c.type_inv.input i)) c.new-cursor.result c.read_at.new.input c.new-cursor.ensures.place c.new-cursor.ensures.rest _ _ c.place.ensures c.in_ok-stamp.ensures.read

pub returns-clause-exact : goal.returns-clause-exact
returns-clause-exact c v n r = read_exact (stamp Short) Short (stamp_lawful Short) _ (λ i. omega (arith, c.type_inv.input i)) c.new-cursor.result c.read_at.new.input c.new-cursor.ensures.place c.new-cursor.ensures.rest v _ n _ r c.place.ensures c.in_ok-stamp.ensures.read

pub returns-clause-lawful : goal.returns-clause-lawful
returns-clause-lawful c = stamp_lawful Short

pub returns-in_err-stamp-clause-lawful : goal.returns-in_err-stamp-clause-lawful
returns-in_err-stamp-clause-lawful c = stamp_lawful Short

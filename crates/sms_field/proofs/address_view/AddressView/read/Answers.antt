use Rattle.std.proofs.Common.{◌≡◌, arith}
use Rattle.std.proofs.lemmas.Result.{err_from_is_err_and}
use Rattle.sms_field.specs.declared.fault.FieldFault.TheVariants.{Short}
use Rattle.sms_field.specs.declared.refusal.Refusal.TheVariants.{Memory, At}
use Rattle.sms_field.specs.Address.{address}
use Rattle.sms_field.specs.Inside.AddressLaws.{address_lawful}
use Rattle.sms_field.specs.Inside.ReadingLaws.{read_found, read_refused, read_exact, refused_without}
use Rattle.sms_field.proofs.address_view.AddressView.read.Goals as goal

pub returns-in_err-address-clause-refused : goal.returns-in_err-address-clause-refused
returns-in_err-address-clause-refused c =
    let p = err_from_is_err_and c.from_residual.result c.from_residual.ensures.1 in
    let f = c.in_err-address.field-0.0 in
    rw (p.1, p.2) (read_refused address Short address_lawful _ (λ i. omega (arith, c.type_inv.input i)) c.new-cursor.result c.read_at.new.input c.new-cursor.ensures.place c.new-cursor.ensures.rest (At f.place f.why) c.in_err-address.ensures.read)

pub returns-in_err-address-clause-exact : goal.returns-in_err-address-clause-exact
returns-in_err-address-clause-exact c v n r =
    let f = c.in_err-address.field-0.0 in
    let none : At f.place f.why ≡ Memory = refused_without address Short address_lawful _ (λ i. omega (arith, c.type_inv.input i)) c.new-cursor.result c.read_at.new.input c.new-cursor.ensures.place c.new-cursor.ensures.rest v n r (At f.place f.why) c.in_err-address.ensures.read in
    absurd cc

pub returns-clause-found : goal.returns-clause-found
returns-clause-found c = read_found address Short address_lawful _ (λ i. omega (arith, c.type_inv.input i)) c.new-cursor.result c.read_at.new.input c.new-cursor.ensures.place c.new-cursor.ensures.rest _ _ c.place.ensures c.in_ok-address.ensures.read

pub returns-clause-exact : goal.returns-clause-exact
returns-clause-exact c v n r = read_exact address Short address_lawful _ (λ i. omega (arith, c.type_inv.input i)) c.new-cursor.result c.read_at.new.input c.new-cursor.ensures.place c.new-cursor.ensures.rest v _ n _ r c.place.ensures c.in_ok-address.ensures.read

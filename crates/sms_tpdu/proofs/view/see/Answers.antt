use Rattle.std.proofs.Common.{◌≡◌, arith}
use Rattle.std.proofs.lemmas.Result.{err_from_is_err_and}
use Rattle.sms_field.specs.declared.refusal.Refusal.TheVariants.{Memory, At}
use Rattle.sms_field.specs.Inside.ReadingLaws.{read_found, read_refused, read_exact, refused_without}
use Rattle.sms_tpdu.proofs.view.see.Goals as goal

pub returns-in_err-view-clause-refused : goal.returns-in_err-view-clause-refused
returns-in_err-view-clause-refused g c =
    let p = err_from_is_err_and c.from_residual.result c.from_residual.ensures.1 in
    let f = c.in_err-view.field-0.0 in
    rw (p.1, p.2) (read_refused _ _ g.met.V.Owned.Unit.laws.lawful _ (λ i. omega (arith, c.type_inv.input i)) c.new-cursor.result c.read_at.new.input c.new-cursor.ensures.place c.new-cursor.ensures.rest (At f.place f.why) c.in_err-view.ensures)

pub returns-in_err-view-clause-exact : goal.returns-in_err-view-clause-exact
returns-in_err-view-clause-exact g c v n r =
    let p = err_from_is_err_and c.from_residual.result c.from_residual.ensures.1 in
    let f = c.in_err-view.field-0.0 in
    let none : At f.place f.why ≡ Memory = refused_without _ _ g.met.V.Owned.Unit.laws.lawful _ (λ i. omega (arith, c.type_inv.input i)) c.new-cursor.result c.read_at.new.input c.new-cursor.ensures.place c.new-cursor.ensures.rest v n r (At f.place f.why) c.in_err-view.ensures in
    absurd cc

pub returns-clause-found : goal.returns-clause-found
returns-clause-found g c = read_found _ _ g.met.V.Owned.Unit.laws.lawful _ (λ i. omega (arith, c.type_inv.input i)) c.new-cursor.result c.read_at.new.input c.new-cursor.ensures.place c.new-cursor.ensures.rest _ _ c.place.ensures c.in_ok-view.ensures

pub returns-clause-exact : goal.returns-clause-exact
returns-clause-exact g c v n r = read_exact _ _ g.met.V.Owned.Unit.laws.lawful _ (λ i. omega (arith, c.type_inv.input i)) c.new-cursor.result c.read_at.new.input c.new-cursor.ensures.place c.new-cursor.ensures.rest v _ n _ r c.place.ensures c.in_ok-view.ensures

use Rattle.std.proofs.Common.{arith}
use Rattle.std.proofs.lemmas.Result.{err_from_is_err_and}
use Rattle.sms_field.specs.Inside.ReadingLaws.{read_found, read_refused, read_exact, refused_without}
use Rattle.sms_tpdu.proofs.unit.Unit.read.Goals as goal

pub returns-in_err-unit-clause-refused : goal.returns-in_err-unit-clause-refused
returns-in_err-unit-clause-refused g c =
    let p = err_from_is_err_and c.from_residual.result c.from_residual.ensures.1 in
    rw (p.1, p.2) (read_refused _ _ g.met.Self.Unit.laws.lawful _ (λ i. omega (arith, c.type_inv.input i)) c.new-cursor.result c.read_at.new.input c.new-cursor.ensures.place c.new-cursor.ensures.rest _ c.in_err-unit.ensures)

pub returns-in_err-unit-clause-exact : goal.returns-in_err-unit-clause-exact
returns-in_err-unit-clause-exact g c v n r =
    let p = err_from_is_err_and c.from_residual.result c.from_residual.ensures.1 in
    rw (p.1, p.2) (refused_without _ _ g.met.Self.Unit.laws.lawful _ (λ i. omega (arith, c.type_inv.input i)) c.new-cursor.result c.read_at.new.input c.new-cursor.ensures.place c.new-cursor.ensures.rest v n r _ c.in_err-unit.ensures)

pub returns-clause-found : goal.returns-clause-found
returns-clause-found g c = read_found _ _ g.met.Self.Unit.laws.lawful _ (λ i. omega (arith, c.type_inv.input i)) c.new-cursor.result c.read_at.new.input c.new-cursor.ensures.place c.new-cursor.ensures.rest _ _ c.place.ensures c.in_ok-unit.ensures

pub returns-clause-exact : goal.returns-clause-exact
returns-clause-exact g c v n r = read_exact _ _ g.met.Self.Unit.laws.lawful _ (λ i. omega (arith, c.type_inv.input i)) c.new-cursor.result c.read_at.new.input c.new-cursor.ensures.place c.new-cursor.ensures.rest v _ n _ r c.place.ensures c.in_ok-unit.ensures

use Rattle.std.proofs.Common.{[], length, refl, sym}
use Rattle.std.proofs.lemmas.List.{append-nil}
use Rattle.std.proofs.lemmas.Result.{err_from_is_err_and}
use Rattle.sms_field.specs.Reading.{Reads}
use Rattle.sms_tpdu.proofs.unit.reread.Goals as goal

pub returns-in_err-again-clause-err : goal.returns-in_err-again-clause-err
returns-in_err-again-clause-err g c =
    let p = err_from_is_err_and c.from_residual-in_err-again.result c.from_residual-in_err-again.ensures.1 in
    let octets = c.in_ok-octets.octets.items in
    let back : Reads g.U.Unit.field c.args.unit.now octets (length octets) = record { octets = octets; rest = []; parts = sym (append-nil octets); used_is = refl; read = g.met.U.Unit.laws.again c.args.unit.now octets [] c.in_ok-octets.ensures c.requires } in
    rw (p.1, p.2) (c.in_err-again.ensures.exact c.args.unit.now (length octets) (rw c.deref.ensures.value back))

pub returns-clause-same : goal.returns-clause-same
returns-clause-same g c =
    let octets = c.in_ok-octets.octets.items in
    let back : Reads g.U.Unit.field c.args.unit.now octets (length octets) = record { octets = octets; rest = []; parts = sym (append-nil octets); used_is = refl; read = g.met.U.Unit.laws.again c.args.unit.now octets [] c.in_ok-octets.ensures c.requires } in
    (c.in_ok-again.ensures.exact c.args.unit.now (length octets) (rw c.deref.ensures.value back)).0

use Rattle.std.proofs.Common.{true, Err, refl, arith, rules}
use Rattle.sms_c.specs.DataAlone.{are_single, RefusesSingles}
use Rattle.sms_c.proofs.DataAlone.{singles_exact, singles_found, refuses_by}
use Rattle.sms_c.proofs.joiner.data_view.singles.Goals as goal

pub returns-in-Ok-clause-read : goal.returns-in-Ok-clause-read
returns-in-Ok-clause-read c =
    (c.in-Ok.field-0-1, singles_found c.args.form c.args.octets.now c.is_set.result c.in-Ok.view c.in-Ok.field-0-1 c.is_set.ensures c.requires c.in-Ok.ensures)

pub returns-in-Ok-clause-exact : goal.returns-in-Ok-clause-exact
returns-in-Ok-clause-exact c =
    λ value used read. (singles_exact c.args.form c.args.octets.now c.is_set.result _ c.is_set.ensures c.requires c.in-Ok.ensures value used read).0

pub returns-in-Ok-clause-unread : goal.returns-in-Ok-clause-unread
returns-in-Ok-clause-unread c =
    (λ one. absurd (omega (arith, one)), λ is. absurd (is.none c.in-Ok.view c.in-Ok.field-0-1 (singles_found c.args.form c.args.octets.now c.is_set.result c.in-Ok.view c.in-Ok.field-0-1 c.is_set.ensures c.requires c.in-Ok.ensures)))

pub returns-in-Err-clause-exact : goal.returns-in-Err-clause-exact
returns-in-Err-clause-exact c =
    λ value used read. singles_exact c.args.form c.args.octets.now c.is_set.result (Err c.in-Err.fault) c.is_set.ensures c.requires c.in-Err.ensures value used read

pub returns-in-Err-clause-unread : goal.returns-in-Err-clause-unread
returns-in-Err-clause-unread c =
    (λ one. record { none = λ value used read. singles_exact c.args.form c.args.octets.now c.is_set.result (Err c.in-Err.fault) c.is_set.ensures c.requires c.in-Err.ensures value used read }, λ is. refl)

pub returns-in-Err-clause-refused : goal.returns-in-Err-clause-refused
returns-in-Err-clause-refused c =
    let there : RefusesSingles c.args.form c.args.octets.now c.data_refused.new.out = search rules in
    (refl, refuses_by (are_single c.args.form) true c.args.form c.args.octets.now c.data_refused.new.out c.requires there)

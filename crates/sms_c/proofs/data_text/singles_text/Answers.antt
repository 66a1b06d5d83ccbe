use Rattle.std.proofs.Common.{Err, refl, arith, rules}
use Rattle.sms_c.proofs.DataAlone.{singles_exact, singles_found, singles_text}
use Rattle.sms_c.proofs.data_text.singles_text.Goals as goal

pub returns-in_default-clause-refused : goal.returns-in_default-clause-refused
returns-in_default-clause-refused c =
    (λ one. record { none = λ value used read. singles_exact c.args.form c.args.octets.now c.is_set.result (Err c.in_default.field-0) c.is_set.ensures c.requires c.in_default.ensures value used read }, λ is. refl)

pub returns-in_err-text_of_singles-clause-refused : goal.returns-in_err-text_of_singles-clause-refused
returns-in_err-text_of_singles-clause-refused c =
    (λ one. absurd (search (rules, arith)), λ is. absurd (is.none c.in-Ok.view c.in-Ok.field-0-1 (singles_found c.args.form c.args.octets.now c.is_set.result c.in-Ok.view c.in-Ok.field-0-1 c.is_set.ensures c.requires c.in-Ok.ensures)))

pub returns-clause-text : goal.returns-clause-text
returns-clause-text c =
    singles_text c.args.form c.args.octets.now c.is_set.result c.is_set-2.result c.in-Ok.view c.in-Ok.field-0-1 _ c.is_set.ensures c.is_set-2.ensures c.requires c.in-Ok.ensures c.in_ok-text_of_singles.ensures

pub returns-clause-refused : goal.returns-clause-refused
returns-clause-refused c =
    (λ one. absurd (omega (arith, one)), λ is. absurd (is.none c.in-Ok.view c.in-Ok.field-0-1 (singles_found c.args.form c.args.octets.now c.is_set.result c.in-Ok.view c.in-Ok.field-0-1 c.is_set.ensures c.requires c.in-Ok.ensures)))

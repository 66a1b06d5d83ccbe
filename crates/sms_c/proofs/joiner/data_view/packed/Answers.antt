use Rattle.std.proofs.Common.{false, Err, refl, arith}
use Rattle.sms_c.specs.DataAlone.{are_single, RefusesPacked}
use Rattle.sms_c.proofs.DataAlone.{packed_exact, packed_found, packed_refused, refuses_by}
use Rattle.sms_c.proofs.joiner.data_view.packed.Goals as goal

pub returns-in-Ok-clause-read : goal.returns-in-Ok-clause-read
returns-in-Ok-clause-read c =
    (c.in-Ok.field-0-1, packed_found c.args.form c.args.octets.now c.is_set-headed.result c.alphabet_of-alphabet.result c.length_told.result c.in-Ok.view c.in-Ok.field-0-1 c.is_set-headed.ensures c.alphabet_of-alphabet.ensures c.length_told.ensures c.requires c.in-Ok.ensures.seen)

pub returns-in-Ok-clause-exact : goal.returns-in-Ok-clause-exact
returns-in-Ok-clause-exact c =
    λ value used read. (packed_exact c.args.form c.args.octets.now c.is_set-headed.result c.alphabet_of-alphabet.result c.length_told.result _ c.is_set-headed.ensures c.alphabet_of-alphabet.ensures c.length_told.ensures c.requires c.in-Ok.ensures.seen value used read).0

pub returns-in-Ok-clause-unread : goal.returns-in-Ok-clause-unread
returns-in-Ok-clause-unread c =
    (λ one. absurd (omega (arith, one)), λ is. absurd (is.none c.in-Ok.view c.in-Ok.field-0-1 (packed_found c.args.form c.args.octets.now c.is_set-headed.result c.alphabet_of-alphabet.result c.length_told.result c.in-Ok.view c.in-Ok.field-0-1 c.is_set-headed.ensures c.alphabet_of-alphabet.ensures c.length_told.ensures c.requires c.in-Ok.ensures.seen)))

pub returns-in-Err-clause-exact : goal.returns-in-Err-clause-exact
returns-in-Err-clause-exact c =
    λ value used read. packed_exact c.args.form c.args.octets.now c.is_set-headed.result c.alphabet_of-alphabet.result c.length_told.result (Err c.in-Err.fault) c.is_set-headed.ensures c.alphabet_of-alphabet.ensures c.length_told.ensures c.requires c.in-Err.ensures.seen value used read

pub returns-in-Err-clause-unread : goal.returns-in-Err-clause-unread
returns-in-Err-clause-unread c =
    (λ one. record { none = λ value used read. packed_exact c.args.form c.args.octets.now c.is_set-headed.result c.alphabet_of-alphabet.result c.length_told.result (Err c.in-Err.fault) c.is_set-headed.ensures c.alphabet_of-alphabet.ensures c.length_told.ensures c.requires c.in-Err.ensures.seen value used read }, λ is. refl)

pub returns-in-Err-clause-refused : goal.returns-in-Err-clause-refused
returns-in-Err-clause-refused c =
    let there : RefusesPacked c.args.form c.args.octets.now c.unit_refused.new.out = packed_refused c.args.form c.args.octets.now c.is_set-headed.result c.alphabet_of-alphabet.result c.length_told.result c.in-Err.fault c.unit_refused.new.out c.is_set-headed.ensures c.alphabet_of-alphabet.ensures c.length_told.ensures c.in-Err.ensures.seen c.unit_refused.ensures.told in
    (refl, refuses_by (are_single c.args.form) false c.args.form c.args.octets.now c.unit_refused.new.out c.requires there)

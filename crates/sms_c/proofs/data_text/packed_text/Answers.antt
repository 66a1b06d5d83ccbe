use Rattle.std.proofs.Common.{◌≡◌, false, Err, refl, arith, rules}
use Rattle.sms_c.specs.DataAlone.{alphabet_in, is_text}
use Rattle.sms_c.proofs.DataAlone.{packed_exact, packed_found, packed_text}
use Rattle.sms_c.proofs.data_text.packed_text.Goals as goal

pub returns-in_default-clause-refused : goal.returns-in_default-clause-refused
returns-in_default-clause-refused c =
    (λ one. record { none = λ value used read. packed_exact c.args.form c.args.octets.now c.is_set-headed.result c.alphabet_of-alphabet.result c.length_told.result (Err c.in_default.field-0) c.is_set-headed.ensures c.alphabet_of-alphabet.ensures c.length_told.ensures c.requires c.in_default.ensures.seen value used read }, λ is. refl)

pub returns-in_default-clause-not_there : goal.returns-in_default-clause-not_there
returns-in_default-clause-not_there c =
    (λ eight. absurd (omega (arith, eight)), λ is. absurd (packed_exact c.args.form c.args.octets.now c.is_set-headed.result c.alphabet_of-alphabet.result c.length_told.result (Err c.in_default.field-0) c.is_set-headed.ensures c.alphabet_of-alphabet.ensures c.length_told.ensures c.requires c.in_default.ensures.seen is.value is.used is.read))

pub returns-then-not-is_text-clause-refused : goal.returns-then-not-is_text-clause-refused
returns-then-not-is_text-clause-refused c =
    (λ one. absurd (omega (arith, one)), λ is. absurd (is.none c.in-Ok.view c.in-Ok.field-0-1 (packed_found c.args.form c.args.octets.now c.is_set-headed.result c.alphabet_of-alphabet.result c.length_told.result c.in-Ok.view c.in-Ok.field-0-1 c.is_set-headed.ensures c.alphabet_of-alphabet.ensures c.length_told.ensures c.requires c.in-Ok.ensures.seen)))

pub returns-then-not-is_text-clause-not_there : goal.returns-then-not-is_text-clause-not_there
returns-then-not-is_text-clause-not_there c =
    let lacks : is_text (alphabet_in c.args.form) ≡ false = search rules in
    (λ eight. record { value = c.in-Ok.view; used = c.in-Ok.field-0-1; read = packed_found c.args.form c.args.octets.now c.is_set-headed.result c.alphabet_of-alphabet.result c.length_told.result c.in-Ok.view c.in-Ok.field-0-1 c.is_set-headed.ensures c.alphabet_of-alphabet.ensures c.length_told.ensures c.requires c.in-Ok.ensures.seen; none = lacks }, λ is. refl)

pub returns-in_err-text_of_packed-clause-refused : goal.returns-in_err-text_of_packed-clause-refused
returns-in_err-text_of_packed-clause-refused c =
    (λ one. absurd (search (rules, arith)), λ is. absurd (is.none c.in-Ok.view c.in-Ok.field-0-1 (packed_found c.args.form c.args.octets.now c.is_set-headed.result c.alphabet_of-alphabet.result c.length_told.result c.in-Ok.view c.in-Ok.field-0-1 c.is_set-headed.ensures c.alphabet_of-alphabet.ensures c.length_told.ensures c.requires c.in-Ok.ensures.seen)))

pub returns-clause-text : goal.returns-clause-text
returns-clause-text c =
    packed_text c.args.form c.args.octets.now c.is_set.result c.alphabet_of-alphabet.result c.in-Ok.view c.in-Ok.field-0-1 _ c.is_set.ensures c.alphabet_of-alphabet.ensures (packed_found c.args.form c.args.octets.now c.is_set-headed.result c.alphabet_of-alphabet.result c.length_told.result c.in-Ok.view c.in-Ok.field-0-1 c.is_set-headed.ensures c.alphabet_of-alphabet.ensures c.length_told.ensures c.requires c.in-Ok.ensures.seen) c.in_ok-text_of_packed.ensures

pub returns-clause-refused : goal.returns-clause-refused
returns-clause-refused c =
    (λ one. absurd (omega (arith, one)), λ is. absurd (is.none c.in-Ok.view c.in-Ok.field-0-1 (packed_found c.args.form c.args.octets.now c.is_set-headed.result c.alphabet_of-alphabet.result c.length_told.result c.in-Ok.view c.in-Ok.field-0-1 c.is_set-headed.ensures c.alphabet_of-alphabet.ensures c.length_told.ensures c.requires c.in-Ok.ensures.seen)))

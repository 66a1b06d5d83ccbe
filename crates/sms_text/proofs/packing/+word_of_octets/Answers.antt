use Rattle.std.proofs.Common.{◌-◌, length, drop, refl, arith}
use Rattle.std.proofs.lemmas.List.{length-take, length-drop}
use Rattle.sms_text.proofs.Words.{octet_in_front, nothing_in_octets, few_bits, one_more_octet_bound}
use Rattle.sms_text.proofs.packing.+word_of_octets.Goals as goal

pub overflow_mul-result : goal.overflow_mul-result
overflow_mul-result t c =
    let small = few_bits c.word_of_octets.result _ 48 c.word_of_octets.ensures.bound (omega (arith, length-take (length c.args.octets.now - 1) (drop 1 c.args.octets.now))) in
    omega (arith, small)

pub overflow_add-result : goal.overflow_add-result
overflow_add-result t c =
    let small = few_bits c.word_of_octets.result _ 48 c.word_of_octets.ensures.bound (omega (arith, length-take (length c.args.octets.now - 1) (drop 1 c.args.octets.now))) in
    omega (arith, small, c.type_inv.octets 0)

pub returns-in-empty-clause-octets : goal.returns-in-empty-clause-octets
returns-in-empty-clause-octets t c = nothing_in_octets c.args.octets.now 0 c.in-empty.len_below

pub returns-in-len1-up-clause-octets : goal.returns-in-len1-up-clause-octets
returns-in-len1-up-clause-octets t c = octet_in_front c.args.octets.now _ c.word_of_octets.result c.in-len1-up.len_at_least refl (omega (arith, c.type_inv.octets 0)) c.word_of_octets.ensures.octets

pub returns-in-len1-up-clause-bound : goal.returns-in-len1-up-clause-bound
returns-in-len1-up-clause-bound t c = one_more_octet_bound _ c.word_of_octets.result _ (length c.args.octets.now) (omega (arith, c.type_inv.octets 0)) c.word_of_octets.ensures.bound (omega (arith, c.in-len1-up.len_at_least, length-take (length c.args.octets.now - 1) (drop 1 c.args.octets.now), length-drop 1 c.args.octets.now))

use Rattle.std.proofs.Common.{◌-◌, length, drop, refl, arith}
use Rattle.std.proofs.lemmas.List.{length-take, length-drop}
use Rattle.sms_text.proofs.Words.{septet_in_front, nothing_in_septets, few_bits, one_more_bound, first_fits}
use Rattle.sms_text.proofs.packing.+word_of_septets.Goals as goal

pub overflow_mul-result : goal.overflow_mul-result
overflow_mul-result t c =
    let small = few_bits c.word_of_septets.result _ 42 c.word_of_septets.ensures.bound (omega (arith, length-take (length c.args.septets.now - 1) (drop 1 c.args.septets.now))) in
    omega (arith, small)

pub overflow_add-result : goal.overflow_add-result
overflow_add-result t c =
    let small = few_bits c.word_of_septets.result _ 42 c.word_of_septets.ensures.bound (omega (arith, length-take (length c.args.septets.now - 1) (drop 1 c.args.septets.now))) in
    omega (arith, small, c.type_inv.septets 0)

pub returns-in-empty-clause-septets : goal.returns-in-empty-clause-septets
returns-in-empty-clause-septets t c = nothing_in_septets c.args.septets.now 0 c.in-empty.len_below

pub returns-in-len1-up-clause-septets : goal.returns-in-len1-up-clause-septets
returns-in-len1-up-clause-septets t c = septet_in_front c.args.septets.now _ c.word_of_septets.result c.in-len1-up.len_at_least refl c.requires.septets c.word_of_septets.ensures.septets

pub returns-in-len1-up-clause-bound : goal.returns-in-len1-up-clause-bound
returns-in-len1-up-clause-bound t c = one_more_bound _ c.word_of_septets.result _ (length c.args.septets.now) (first_fits c.args.septets.now (omega arith) c.requires.septets) c.word_of_septets.ensures.bound (omega (arith, c.in-len1-up.len_at_least, length-take (length c.args.septets.now - 1) (drop 1 c.args.septets.now), length-drop 1 c.args.septets.now))

use Rattle.std.proofs.Common.{◌≡◌, ◌+◌, ◌*◌, ◌/◌, ◌%◌, ◌^◌, take, drop, ℕ, List, subst, ◌∙◌, arith}
use Rattle.sms_text.specs.Bits.{from_bits, octet_bits}
use Rattle.sms_text.specs.Inside.Words.{low_octets}
use Rattle.sms_text.proofs.SeptetAt.{septet_there}
use Rattle.sms_text.proofs.packing.septet_at.Goals as goal

pub returns : goal.returns
returns c =
    let first : ℕ = c.from.result + 7 * c.from-2.result in
    let rest : List ℕ = c.split_at.result.1.now in
    let size = c.split_at-2.ensures.front_len in
    let low = subst (λ k. low_octets k c.word_of_octets.result ≡ take c.min.result rest) size (c.word_of_octets.ensures.octets ∙ c.split_at-2.ensures.front) in
    let there = septet_there first c.word_of_octets.result c.min.result c.args.octets.now rest c.split_at.ensures.back (omega (arith, size, c.if-block-fill_there.false)) low in
    subst (λ (n : ℕ). (c.word_of_octets.result / 2 ^ (first % 8)) % 128 ≡ from_bits (take 7 (drop n (octet_bits c.args.octets.now)))) (omega (arith, c.from.ensures, c.from-2.ensures)) there

use Rattle.std.proofs.Common.{◌≡◌, ◌∙◌, ◌≤◌, ◌+◌, ◌-◌, ◌*◌, ◌/◌, ℕ, List, length, take, drop, refl, sym, ap, subst, length-drop, arith}
use Rattle.std.proofs.lemmas.List.{take_rest}
use Rattle.sms_text.specs.Bits.{AreSeptets, octet_bits}
use Rattle.sms_text.specs.Inside.Words.{low_septets}
use Rattle.sms_text.proofs.Words.{block_packed, octets_more, eight_are, eight_taken, septets-take, first_eight}
use Rattle.sms_text.proofs.Spread.{block_written}
use Rattle.sms_text.proofs.packing.put_packed.Goals as goal

pub loop-block-init : goal.loop-block-init
unfolding octet_bits
loop-block-init c = record { bits_are = refl; written = tt; are = c.requires.septets; place = omega arith; fewer = omega arith }

pub eight_word-requires : goal.eight_word-requires
eight_word-requires c = subst AreSeptets (sym c.in-Some.ensures.cases.same) (septets-take 8 c.loop-block.rest.now c.loop-block.invariant.are).0

pub loop-block-preserved : goal.loop-block-preserved
loop-block-preserved c =
    let rest : List ℕ = c.loop-block.rest.now in
    let at : ℕ = c.loop-block.at in
    let w : ℕ = c.eight_word.result in
    let written : List ℕ = c.copy_from_slice.new.self in
    let before : List ℕ = take at c.loop-block.octets in
    let enough : 8 ≤ length rest = c.in-Some.ensures.cases.enough in
    let is : low_septets 8 w ≡ first_eight rest = c.eight_word.ensures ∙ c.in-Some.ensures.cases.same ∙ sym (eight_taken rest enough) in
    let left : length (take (length rest - 8) (drop 8 rest)) ≡ length rest - 8 = ap length (take_rest rest 8) ∙ length-drop 8 rest in
    let new = block_written c.loop-block.octets written at (at + 8 - at) w (c.copy_from_slice.ensures.after ∙ c.to_le_bytes.ensures) (omega arith) (omega (arith, enough, c.loop-block.auto.octets)) in
    record {
      bits_are = block_packed rest before _ w _ enough is new c.loop-block.invariant.bits_are;
      written = octets_more before _ 7 w c.loop-block.invariant.written new;
      are = (eight_are rest enough c.loop-block.invariant.are).1;
      place = omega (arith, left, enough);
      fewer = omega (arith, left, enough);
    }

pub returns-clause-octets : goal.returns-clause-octets
returns-clause-octets c =
    let place : c.loop-block.at ≡ 7 * (length c.args.septets.now / 8) = omega (arith, c.in_default.ensures.cases) in
    rw place at c.loop-block.invariant.written

pub returns-clause-bits : goal.returns-clause-bits
returns-clause-bits c =
    let place : c.loop-block.at ≡ 7 * (length c.args.septets.now / 8) = omega (arith, c.in_default.ensures.cases) in
    rw place at c.loop-block.invariant.bits_are

use Rattle.std.proofs.Common.{◌≡◌, ◌++◌, ℕ, List}
use Rattle.sms_text.proofs.UnitOctets.{eight_more_pairs, eight_pairs}
use Rattle.sms_text.proofs.ucs2.push_eights.Goals as goal

pub loop-rest-preserved : goal.loop-rest-preserved
loop-rest-preserved c =
    let octets : List ℕ = c.loop-rest.rest.now in
    let pushed : c.extend_from_slice.new.self.items ≡ c.loop-rest.units.items ++ eight_pairs octets = cc (c.in_ok-extend_from_slice.ensures.items, c.unit.ensures, c.unit-in-len16-up.ensures, c.unit-in-len16-up-2.ensures, c.unit-in-len16-up-3.ensures, c.unit-in-len16-up-4.ensures, c.unit-in-len16-up-5.ensures, c.unit-in-len16-up-6.ensures, c.unit-in-len16-up-7.ensures) in
    eight_more_pairs octets c.loop-rest.units.items c.extend_from_slice.new.self.items _ c.in-len16-up.len_at_least pushed c.loop-rest.invariant

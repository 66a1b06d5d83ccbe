use Rattle.std.proofs.Common.{◌≤◌, ◌+◌, ◌-◌, ◌/◌, ℕ, List, length, ap, arith}
use Rattle.sms_text.specs.Inside.PackingLaws.{packed_octets, plain_is_packed}
use Rattle.sms_tpdu.specs.UserData.Lengths.{fill_bits}
use Rattle.sms_tpdu.specs.UserData.{SpellsBody}
use Rattle.sms_tpdu.specs.declared.user_data.body.Body.TheVariants as body
use Rattle.sms_tpdu.proofs.user_data.writing.room_for_body.Goals as goal

room_of_septets : (taken : ℕ) (septets written : List ℕ) → SpellsBody taken (body.Septets septets) written → length written ≤ length septets - length septets / 8 + 1
room_of_septets taken septets written spelled =
    let many = packed_octets (fill_bits taken) septets written (plain_is_packed (fill_bits taken) septets written spelled.0) in
    omega (arith, many)

room_of_octets : (taken : ℕ) (octets written : List ℕ) → SpellsBody taken (body.Octets octets) written → length written ≤ length octets
room_of_octets taken octets written spelled = omega (arith, ap length spelled)

pub returns-in-Septets-clause-enough : goal.returns-in-Septets-clause-enough
returns-in-Septets-clause-enough c = λ taken written spelled. rw (c.room_for_septets.ensures, c.as_slice.ensures.same) (room_of_septets taken c.in-Septets.septets written (rw c.in-Septets.is at spelled))

pub returns-in-Octets-clause-enough : goal.returns-in-Octets-clause-enough
returns-in-Octets-clause-enough c = λ taken written spelled. rw c.as_slice-in-Octets.ensures (room_of_octets taken c.in-Octets.octets written (rw c.in-Octets.is at spelled))

-- The octets of user data that a line tells (3GPP TS 23.040, 9.2.3.24).
use Rattle.std.specs.Prelude.{◌≡◌, ℕ, Bool, true, false, List}
use Rattle.sms_tpdu.specs.declared.user_data.body.Body.{Body}
use Rattle.sms_tpdu.specs.declared.user_data.body.Body.TheVariants as body
use Rattle.sms_tpdu.specs.declared.user_data.UserData.{UserData}
use Rattle.sms_tpdu.specs.UserData.Alone.{SpellsAlone}
use Rattle.sms_tpdu.specs.UserData.Singles.{single_octets}

-- septets stand one an octet; octets stand as they are
abbrev pub SpellsSingles : Body → UserData → List ℕ → Type 0
SpellsSingles (body.Septets septets) user octets = octets ≡ single_octets user
SpellsSingles (body.Octets written) user octets = SpellsAlone user octets

-- the octets behind TP-UDL, or those with septets one an octet
abbrev pub HasOctets : Bool → UserData → List ℕ → Type 0
HasOctets false user octets = SpellsAlone user octets
HasOctets true user octets = SpellsSingles user.body user octets

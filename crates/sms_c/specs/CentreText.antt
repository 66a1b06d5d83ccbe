-- The text of the address of a service centre, as C has seen it in an RP-DATA.
use Rattle.std.specs.Prelude.{◌≡◌, ℕ, ◌⊎◌, false, true, List, Option, Some, None, Result, Ok, Err}
use Rattle.sms_field.specs.Reading.{Reads}
use Rattle.sms_field.specs.Reading.WholeAnswer.{IsFaultOf}
use Rattle.sms_field.specs.RelayAddress.{relay_address}
use Rattle.sms_field.specs.RelayAddress.Text.{relay_address_text}
use Rattle.sms_field.specs.RelayAddress.Value.{RelayAddressValue}
use Rattle.sms_field.specs.declared.refusal.Fault.{Fault}
use Rattle.sms_field.specs.declared.fault.FieldFault.{FieldFault}
use Rattle.sms_field.specs.declared.fault.FieldFault.TheVariants.{Short}
use Rattle.sms_c.specs.Lying.{lies_in}
use Rattle.sms_c.specs.HandedOut.{OfText}
use Rattle.sms_c.specs.Parts.{octets_at}
use Rattle.sms_c.specs.Writing.{is_set}
use Rattle.sms_c.specs.declared.relay.RpSeen.{RpSeen}
use Rattle.sms_c.specs.declared.status.Failure.{Failure}
use Rattle.sms_c.specs.declared.status.Failure.TheVariants.{NotThere}

-- an address is there, and lies in the octets
pub record LiesThere (octets : List ℕ) (rp : RpSeen) : Type 0 where
  pub there : is_set rp.has_address ≡ true
  pub lies : lies_in octets rp.address ≡ true

-- an address is there, and its span goes beyond the octets
pub record LiesAstray (octets : List ℕ) (rp : RpSeen) : Type 0 where
  pub there : is_set rp.has_address ≡ true
  pub astray : lies_in octets rp.address ≡ false

-- its octets are read as an address, or as none
abbrev pub IsCentreAt : List ℕ → RpSeen → Option RelayAddressValue → ℕ → Type 0
IsCentreAt octets rp address used =
    LiesThere octets rp × Reads relay_address address (octets_at octets rp.address) used

-- they are refused
pub record IsRefusedCentre (octets : List ℕ) (rp : RpSeen) : Type 0 where
  pub lies : LiesThere octets rp
  pub fault : Fault FieldFault
  pub refused : IsFaultOf relay_address Short (octets_at octets rp.address) fault

-- no address is there, or its length octet is 0
abbrev pub HasNoCentre : List ℕ → RpSeen → Type 0
HasNoCentre octets rp =
    (is_set rp.has_address ≡ false) ⊎ ((used : ℕ) × IsCentreAt octets rp None used)

-- the text of an address that is there
abbrev pub text_of_centre : Option RelayAddressValue → Result (List ℕ) Failure
text_of_centre None = Err NotThere
text_of_centre (Some address) = Ok (relay_address_text address)

-- what becomes of the text of the address
pub record OfCentre (octets : List ℕ) (rp : RpSeen) (Out : List ℕ → Type 0) : Type 0 where
  pub address : RelayAddressValue
  pub used : ℕ
  pub read : IsCentreAt octets rp (Some address) used
  pub told : OfText (relay_address_text address) Out

-- A reader may pass this by: the invariant of a look, and proofs, alone cite it.
--
-- What was found in a packet that was looked at.
use Rattle.std.specs.Prelude.{ℕ, Bool, List}
use Rattle.sms_text.specs.Octets.{IsOctets}
use Rattle.sms_relay.specs.Carried.Unwrapped.{IsReadAs}
use Rattle.sms_relay.specs.declared.inner.Inner.{Inner}
use Rattle.sms_message.specs.declared.message.Tag.{Tag}
use Rattle.sms_message.specs.declared.message.Message.TheVariants.{NotCp, Note, Tiny}
use Rattle.sms_message.specs.declared.glance.Glance.{Glance}
use Rattle.sms_message.specs.declared.glance.Glance.TheVariants as glance
use Rattle.sms_message.specs.Message.Glance.{IsSeenAs, HasGlanceTag}
use Rattle.sms_message.specs.Message.Reading.{ReadsAs, ReadsData, IsSecond}

-- The packet is a CP-DATA of this flag and transaction value. The second of its octets is the
-- reference, and this is what they are read as.
pub record HoldsData (packet : List ℕ) (flag : Bool) (tag : Tag) (inner : Inner) : Type 0 where
  pub octets : List ℕ
  pub read : ReadsData packet flag tag.value octets
  pub second : IsSecond tag.reference octets
  pub found : IsReadAs octets inner

-- The packet is no CP message, a CP-ACK or CP-ERROR, or a CP-DATA, as it is told at a glance.
abbrev pub IsFoundAs : List ℕ → Glance → Inner → Type 0
IsFoundAs packet glance.NotCp inner = ReadsAs packet NotCp
IsFoundAs packet (glance.Note flag value) inner = ReadsAs packet (Note flag value)
IsFoundAs packet (glance.Tiny flag value) inner = ReadsAs packet (Tiny flag value)
IsFoundAs packet (glance.Data flag tag relay) inner = HoldsData packet flag tag inner

-- A packet was looked at: at a glance it is this, and this is found in its CP-DATA.
pub record IsLookedAt (packet : List ℕ) (told : Glance) (inner : Inner) : Type 0 where
  pub octets : IsOctets packet
  pub seen : IsSeenAs packet told
  pub tagged : HasGlanceTag told
  pub found : IsFoundAs packet told inner

-- The cause of an RP-ERROR (3GPP TS 24.011, 8.2.5.4). Bit 7 of the cause octet is no part of the
-- cause.
use Rattle.std.specs.Prelude.{◌≡◌, ℕ, ◌%◌, ◌<◌, ◌==◌, Bool, true, false, List, [], ◌∷◌, Option, Some, None, IfSome, Result, Ok, Err, if◌then◌else◌}
use Rattle.sms_field.specs.Field.{Field, ◌>>=◌, always, octet, octet_by}
use Rattle.sms_field.specs.Field.Optional.{part_if}
use Rattle.sms_relay.specs.declared.fault.RelayFault.{RelayFault}
use Rattle.sms_relay.specs.declared.fault.RelayFault.TheVariants.{Short, BadCause}

-- the length of RP-Cause, 1 or 2: whether a diagnostic field follows the cause value
abbrev pub has_diagnostic : ℕ → Result Bool RelayFault
has_diagnostic count =
    if count == 1 then Ok false else (if count == 2 then Ok true else Err BadCause)

-- the length of RP-Cause, the cause value with an extension bit, and the diagnostic field where the
-- length is 2
unfoldable pub rp_cause : Field (ℕ × Option ℕ) RelayFault
rp_cause = do
  -- the length of RP-Cause; neither 1 nor 2: BadCause
  more ← octet_by Short has_diagnostic
  -- the extension bit and the cause value
  cause ← octet Short
  -- the diagnostic field
  added ← part_if more (octet Short)
  always (cause % 128, added)

abbrev pub cause_octets : ℕ → Option ℕ → List ℕ
cause_octets cause None = 1 ∷ cause ∷ []
cause_octets cause (Some added) = 2 ∷ cause ∷ added ∷ []

-- what has a spelling
abbrev pub IsCause : ℕ → Option ℕ → Type 0
IsCause cause added = (cause < 128) × IfSome added (λ octet. octet < 256)

-- how a cause is written, with its diagnostic
abbrev pub SpellsCause : ℕ × Option ℕ → List ℕ → Type 0
SpellsCause reason octets = IsCause reason.0 reason.1 × (octets ≡ cause_octets reason.0 reason.1)

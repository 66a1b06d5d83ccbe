-- The indicator of a report and the parts that it says are there, or nothing at all (3GPP TS
-- 23.040, 9.2.2.3: TP-PI stands where one of these parts follows, and else need not).
use Rattle.std.specs.Prelude.{◌≡◌, ℕ, Bool, false, ◌||◌, List, [], ◌∷◌, None, if◌then◌else◌}
use Rattle.sms_field.specs.Field.{Field, ◌>>=◌}
use Rattle.sms_tpdu.specs.IfMore.{if_more}
use Rattle.sms_tpdu.specs.Report.ParameterIndicator.{indicator, indicator_octet}
use Rattle.sms_tpdu.specs.Report.AnnouncedParts.{Parts, parts, indicator_of, parts_octets}
use Rattle.sms_tpdu.specs.declared.report.indicator.Indicator.{Indicator}
use Rattle.sms_tpdu.specs.declared.fault.UnitFault.{UnitFault}

unfoldable pub indicated_parts : Field Parts UnitFault
indicated_parts = do
  -- TP-PI
  there ← indicator
  -- TP-PID, TP-DCS, TP-UDL and TP-UD, where they are there
  parts there

abbrev pub no_parts : Parts
no_parts = record { pid = None; dcs = None; user = None }

-- where no octet follows there are no parts
abbrev pub optional_parts : Field Parts UnitFault
optional_parts = if_more no_parts indicated_parts

-- ---- as they are written: an indicator where one of the parts is there

abbrev pub is_any : Indicator → Bool
is_any there = there.pid || there.dcs || there.user

abbrev pub optional_parts_octets : Parts → List ℕ
optional_parts_octets those =
    if is_any (indicator_of those) then indicator_octet (indicator_of those) ∷ parts_octets those
    else []

-- after no parts nothing may follow: it would be read as an indicator
abbrev pub MayFollowParts : Parts → List ℕ → Type 0
MayFollowParts those more = is_any (indicator_of those) ≡ false → more ≡ []

-- The parameter indicator of a report, TP-PI (3GPP TS 23.040, 9.2.3.27): which parts are there.
use Rattle.std.specs.Prelude.{◌≡◌, ℕ, ◌+◌, Bool, true, false, List, [], ◌∷◌}
use Rattle.sms_field.specs.Bit.{bit, weight}
use Rattle.sms_field.specs.Field.{Outcome, found, refused, Field, ◌>>=◌, always, octet}
use Rattle.sms_tpdu.specs.declared.report.indicator.Indicator.{Indicator}
use Rattle.sms_tpdu.specs.declared.fault.UnitFault.{UnitFault}
use Rattle.sms_tpdu.specs.declared.fault.UnitFault.TheVariants.{Short}

-- ---- while bit 7 of an octet, the extension bit, is 1 another one follows: further octets are
-- skipped, whatever else they hold

-- these are all that follow an octet whose bit 7 is known
abbrev pub AreFurther : Bool → List ℕ → Type 0
AreFurther false octets = octets ≡ []
AreFurther true [] = ⊥
AreFurther true (octet ∷ others) = AreFurther (bit 7 octet) others

abbrev pub further_at : {W : Type 0} → W → Bool → ℕ → List ℕ → Outcome (Unit {0}) W
further_at short false at input = found tt at input
further_at short true at [] = refused at short
further_at short true at (octet ∷ rest) = further_at short (bit 7 octet) (at + 1) rest

abbrev pub further : {W : Type 0} → W → Bool → Field (Unit {0}) W
further short more = record {
  reads = λ value octets rest. AreFurther more octets;
  reason = λ front octet why. ⊥;
  read = further_at short more;
}

-- ---- the first octet says which parts are there: bit 0 TP-PID, bit 1 TP-DCS, bit 2 TP-UDL and
-- TP-UD

abbrev pub indicated : ℕ → Indicator
indicated octet = record { pid = bit 0 octet; dcs = bit 1 octet; user = bit 2 octet }

unfoldable pub indicator : Field Indicator UnitFault
indicator = do
  -- the first octet of TP-PI
  first ← octet Short
  -- its further octets
  skipped ← further Short (bit 7 first)
  always (indicated first)

-- as it is written: one octet, and its other bits are 0
abbrev pub indicator_octet : Indicator → ℕ
indicator_octet there = weight 0 there.pid + weight 1 there.dcs + weight 2 there.user

-- What an address is (3GPP TS 23.040, 9.1.2.5).
use Rattle.std.specs.Prelude.{◌≡◌, ◌≢◌, ℕ, ◌<◌}
use Rattle.sms_field.specs.Address.DigitValues.{AreDigits}
use Rattle.sms_field.specs.Address.NameOctets.{IsName}
use Rattle.sms_field.specs.declared.symbols.Symbols.{Symbols}
use Rattle.sms_field.specs.declared.symbols.Symbols.TheVariants.{Digits, Name}

-- the type of number, the plan, and digits or a name
pub record AddressValue : Type 0 where
  -- Type-of-number
  pub kind : ℕ
  -- Numbering-plan-identification
  pub plan : ℕ
  -- Address-Value
  pub symbols : Symbols

-- the type of number of a name
abbrev pub alphanumeric : ℕ
alphanumeric = 5

-- a name exactly where the type of number says so
abbrev pub AreSymbolsOf : ℕ → Symbols → Type 0
AreSymbolsOf kind (Digits digits) = (kind ≢ alphanumeric) × AreDigits digits
AreSymbolsOf kind (Name septets) = (kind ≡ alphanumeric) × IsName septets

pub record HasSpelling (n : AddressValue) : Type 0 where
  pub kind : n.kind < 8
  pub plan : n.plan < 16
  pub symbols : AreSymbolsOf n.kind n.symbols

-- Faults that are not of the options.
use Rattle.sms_encode.specs.declared.fault.EncodeFault.{EncodeFault}
use Rattle.sms_encode.specs.declared.fault.EncodeFault.TheVariants.{WrongOption}

abbrev pub IsOther : EncodeFault → Type 0
IsOther WrongOption = ⊥
IsOther _ = Unit {0}

-- Exit statuses of faults: 1 where the input is refused, 2 where the words are, 3 where memory or a
-- device fails.
use Rattle.std.specs.Prelude.{ℕ}
use Rattle.sms_script.specs.declared.fault.PlayFault.{PlayFault}
use Rattle.sms_script.specs.declared.fault.PlayFault.TheVariants.{Script}
use Rattle.sms_command.specs.declared.fault.Fault.{Fault}
use Rattle.sms_command.specs.declared.fault.Fault.TheVariants as faults

-- of a script that is not played to its end
abbrev pub status_of_play : PlayFault → ℕ
status_of_play (Script line why) = 1
status_of_play _ = 3

abbrev pub status_of : Fault → ℕ
status_of (faults.Play fault) = status_of_play fault
status_of faults.WrongOption = 2
status_of faults.ReferenceTooLarge = 2
status_of faults.BadScheme = 2
status_of (faults.File fault) = 3
status_of faults.Read = 3
status_of faults.Write = 3
status_of faults.Memory = 3
status_of _ = 1

-- What TP-CT asks of the service centre (3GPP TS 23.040, 9.2.3.19).
use Rattle.std.specs.Prelude.{ℕ, List, [], ◌∷◌, get_or, nat_le, if◌then◌else◌}
use Rattle.sms_tpdu.specs.declared.command.kind.CommandKind.{CommandKind}
use Rattle.sms_tpdu.specs.declared.command.kind.CommandKind.TheVariants.{Enquiry, CancelReport, Delete, EnableReport, CentreSpecific, Reserved}

-- the values that the standard names, in their order
abbrev pub named_kinds : List CommandKind
named_kinds = Enquiry ∷ CancelReport ∷ Delete ∷ EnableReport ∷ []

-- from E0 on, in hexadecimal, the values are the service centre's own, and all that have no name
-- are reserved
abbrev pub kind_of : ℕ → CommandKind
kind_of octet = if nat_le 224 octet then CentreSpecific else get_or named_kinds octet Reserved

-- The message class of a text that is written (3GPP TS 23.038, 4), and fields that are spare.
use Rattle.std.specs.Prelude.{ℕ, ◌+◌, ◌==◌, Bool, ◌&&◌, nat_le, List, if◌then◌else◌}
use Rattle.std.specs.List.{list_all}
use Rattle.sms_join.specs.Segments.User.{dcs_of}
use Rattle.sms_join.specs.declared.units.Units.{Units}

-- spare octets are 0
abbrev pub are_spare : List ℕ → Bool
are_spare octets = list_all (λ octet. octet == 0) octets

-- 0 is no class, and 1 to 4 are class 0 to 3
abbrev pub are_allowed : ℕ → List ℕ → Bool
are_allowed class spare = nat_le class 4 && are_spare spare

-- TP-DCS: without a class that of the alphabet; with one bit 4 says so, and bits 1 and 0 are the class
abbrev pub scheme_of : ℕ → Units → ℕ
scheme_of class units = if class == 0 then dcs_of units else dcs_of units + (15 + class)

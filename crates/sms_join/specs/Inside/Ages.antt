-- A reader may pass this by: contracts of private functions, and proofs, alone cite it.
--
-- Which open sets are old.
use Rattle.std.specs.Prelude.{◌+◌, Bool, not, nat_le, List}
use Rattle.std.specs.List.{filter}
use Rattle.sms_join.specs.declared.age.Age.{Age}
use Rattle.sms_join.specs.OpenSets.{SetValue}

-- As many seconds as the age says have gone since its first piece, by the age's moment.
abbrev pub is_past : Age → SetValue → Bool
is_past age s = nat_le (s.opened + age.longest) age.now

abbrev pub old_of : Age → List SetValue → List SetValue
old_of age ss = filter (λ s. is_past age s) ss

abbrev pub young_of : Age → List SetValue → List SetValue
young_of age ss = filter (λ s. not (is_past age s)) ss

-- A reader may pass this by: contracts of private functions, and proofs, alone cite it.
--
-- What is kept of a line whose end was not read.
use Rattle.std.specs.Prelude.{ℕ, ◌+◌, nat_lt, if◌then◌else◌, List, [], length}
use Rattle.sms_script.specs.Lines.{line_limit}

-- nothing, where it is longer than a line may be
abbrev pub kept : List ℕ → List ℕ
kept left = if nat_lt (line_limit + 1) (length left) then [] else left

-- Whether a span that C gives lies in the octets that it gives.
use Rattle.std.specs.Prelude.{ℕ, ◌+◌, Bool, nat_le, List, length}
use Rattle.sms_c.specs.declared.parts.Span.{Span}

abbrev pub lies_in : List ℕ → Span → Bool
lies_in octets span = nat_le (span.offset + span.length) (length octets)

use Rattle.std.proofs.Common.{ℕ, arith}
use Rattle.sms_text.specs.Inside.Utf16Laws.{octets_are, units_from_reads}
use Rattle.sms_join.proofs.segment.have_octets.Goals as goal

pub returns : goal.returns
returns c = octets_are c.args._units.now (units_from_reads c.args._units.now (λ (k : ℕ). omega (arith, c.type_inv._units k)))

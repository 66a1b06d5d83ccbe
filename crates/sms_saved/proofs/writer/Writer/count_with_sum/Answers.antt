use Rattle.std.proofs.Common.{◌≡◌, ◌+◌, ◌++◌, ℕ, List, length, ap, ◌∙◌, arith}
use Rattle.std.proofs.lemmas.List.{length-append}
use Rattle.sms_saved.specs.Spelling.{digest}
use Rattle.sms_saved.proofs.Whole.{length_digest}
use Rattle.sms_saved.proofs.writer.Writer.count_with_sum.Goals as goal

counted : (octets : List ℕ) (n : ℕ) → n ≡ length octets → n + 32 ≡ length (octets ++ digest octets)
counted octets n e = omega (arith, e, length-append octets (digest octets), length_digest octets)

pub returns : goal.returns
returns c = counted c.args.self.now c.len.result (c.len.ensures ∙ c.self.inside.octets.ok.0 ∙ ap (λ (l : List ℕ). length l) c.self.view_is)

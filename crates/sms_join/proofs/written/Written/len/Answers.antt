use Rattle.std.proofs.Common.{ℕ, List, length, sym, ap, ◌∙◌}
use Rattle.sms_join.proofs.WrittenParts.{length-octets_at}
use Rattle.sms_join.proofs.written.Written.len.Goals as goal

pub returns : goal.returns
returns c =
    let ends : List ℕ = c.self.inside.ends.items in
    c.len.ensures ∙ c.self.inside.ends.ok.0 ∙ sym (length-octets_at c.self.inside.octets.items 0 ends) ∙ ap (λ (l : List (List ℕ)). length l) c.self.view_is

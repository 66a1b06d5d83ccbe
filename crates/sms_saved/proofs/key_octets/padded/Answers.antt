use Rattle.std.proofs.Common.{◌++◌, ◌∙◌, List, ℕ, drop, length, replicate, ap}
use Rattle.std.proofs.lemmas.List.{drop-replicate}
use Rattle.sms_saved.proofs.key_octets.padded.Goals as goal

pub returns : goal.returns
returns g c =
    let octets : List ℕ = c.args.octets.now in
    ap (λ (l : List ℕ). l ++ drop (length octets) (replicate g.row.N 0)) c.copy_from_slice.ensures.after
    ∙ ap (λ (l : List ℕ). octets ++ l) (drop-replicate (length octets) g.row.N 0)

-- What is kept after an aging, in order of opening.
use Rattle.std.proofs.Common.{◌≡◌, ℕ, refl, ap, ◌∙◌}
use Rattle.sms_join.specs.declared.age.Age.{Age}
use Rattle.sms_join.specs.Joiner.{Joiner}
use Rattle.sms_join.specs.Joiner.Aging.{aged, aged_after}
use Rattle.sms_join.specs.Joiner.Value.{JoinerValue}
use Rattle.sms_join.specs.Inside.Ages.{young_of}
use Rattle.sms_join.specs.Inside.Keeping.{in_order}
use Rattle.sms_join.specs.Inside.Turns.{arranged}
use Rattle.sms_join.specs.OpenSets.{AreOpen, all_pieces}
use Rattle.sms_join.proofs.AgedSets.{sets_age}
use Rattle.sms_join.proofs.Arranged.{arranged_open}

-- the pieces of the young sets, in their order
pub kept_aged : (age : Age) (v w : JoinerValue) → AreOpen v.told → arranged w.told ≡ young_of age (arranged v.told) → w.holds.finished ≡ v.holds.finished
    → (in_order w).holds ≡ aged_after age.longest age.now (in_order v).holds
unfolding aged_after
kept_aged age v w opened told finished =
    let ps : all_pieces (arranged w.told) ≡ (aged_after age.longest age.now (in_order v).holds).kept =
    ap all_pieces told ∙ sets_age age (arranged v.told) (arranged_open v.told opened) in
    λ i. record { kept = ps i; finished = finished i }

pub week_aged : (now : ℕ) (j : Joiner) → aged_after 604800 now j ≡ aged now j
unfolding aged aged_after
week_aged now j = refl

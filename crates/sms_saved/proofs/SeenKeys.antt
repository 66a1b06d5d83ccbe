-- Keys that were read, as their octets.
use Rattle.std.proofs.Common.{◌≡◌, ℕ, false, List, [], ◌∷◌, ◌++◌, if◌then◌else◌, refl, ◌∙◌}
use Rattle.sms_saved.specs.Fits.{is_among}

pub noted : (keys later : List (List ℕ)) (key : List ℕ) → is_among keys key ≡ false → later ≡ (if is_among keys key then keys else keys ++ key ∷ []) → later ≡ keys ++ key ∷ []
noted keys later key new e = e ∙ rw new refl

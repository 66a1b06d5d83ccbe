-- A text of the program is characters.
use Rattle.std.proofs.Common.{◌≡◌, ℕ, Bool, true, false, ◌&&◌, List, [], ◌∷◌, refl}
use Rattle.std.proofs.Math.Utf8.{scalar, scalars}
use Rattle.sms_join.specs.UnitsOfText.{IsText}

both : (a b : Bool) → (a && b) ≡ true → (a ≡ true) × (b ≡ true)
both true true e = (refl, refl)
both true false e = absurd cc
both false b e = absurd cc

pub text_is : (text : List ℕ) → scalars text ≡ true → IsText text
text_is [] e = tt
text_is (c ∷ text) e = let h = both (scalar c) (scalars text) e in (h.0, text_is text h.1)

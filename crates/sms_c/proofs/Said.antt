-- The address that a text says, where it is UTF-8 and where it is none.
use Rattle.std.proofs.Common.{◌≡◌, ℕ, List, Bool, true, false, Err, if◌then◌else◌, ap, refl, sym, ◌∙◌}
use Rattle.std.proofs.lemmas.Str.{IsUtf8-from_is_utf8, is_utf8-from_IsUtf8}
use Rattle.std.specs.Str.{chars, is_utf8, IsUtf8}
use Rattle.sms_field.specs.Address.Text.{address_of_text}
use Rattle.sms_c.specs.AddressGiven.{address_given, address_or}
use Rattle.sms_c.specs.declared.status.Failure.TheVariants.{NotUtf8}

pub in_utf8 : (text lent : List ℕ) → lent ≡ text → IsUtf8 text → address_or (address_of_text (chars lent)) ≡ address_given text
in_utf8 text lent same is = ap (λ (l : List ℕ). address_or (address_of_text (chars l))) same ∙ sym (ap (λ (b : Bool). if b then address_or (address_of_text (chars text)) else Err NotUtf8) (is_utf8-from_IsUtf8 text is))

is_false : (b : Bool) → (b ≡ true → ⊥) → b ≡ false
is_false true never = absurd (never refl)
is_false false never = refl

pub no_utf8 : (text : List ℕ) → (IsUtf8 text → ⊥) → Err NotUtf8 ≡ address_given text
no_utf8 text never = sym (ap (λ (b : Bool). if b then address_or (address_of_text (chars text)) else Err NotUtf8) (is_false (is_utf8 text) (λ is. never (IsUtf8-from_is_utf8 text is))))

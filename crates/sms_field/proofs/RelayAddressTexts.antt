-- The relay address of a text, with + in front and without.
use Rattle.std.proofs.Common.{◌≡◌, ◌≢◌, ℕ, Bool, true, false, cond, eqb, List, [], ◌∷◌, refl, ap}
use Rattle.std.proofs.lemmas.Bool.{eqb-true}
use Rattle.sms_field.specs.Address.DigitText.{digits_of_text}
use Rattle.sms_field.specs.Address.Text.{few_digits}
use Rattle.sms_field.specs.RelayAddress.Text.{relay_telephone_of, relay_address_of_text}

pub after_plus : (text rest : List ℕ) → text ≡ 43 ∷ rest → relay_address_of_text text ≡ relay_telephone_of 1 (few_digits (digits_of_text rest))
unfolding relay_address_of_text
after_plus text rest e = ap relay_address_of_text e

pub no_plus : (text : List ℕ) → ((rest : List ℕ) → text ≢ 43 ∷ rest) → relay_address_of_text text ≡ relay_telephone_of 0 (few_digits (digits_of_text text))
unfolding relay_address_of_text
no_plus [] other = refl
no_plus (c ∷ text) other = go (eqb c 43) refl
  where
    go : (b : Bool) → eqb c 43 ≡ b → cond b (relay_telephone_of 1 (few_digits (digits_of_text text))) (relay_telephone_of 0 (few_digits (digits_of_text (c ∷ text)))) ≡ relay_telephone_of 0 (few_digits (digits_of_text (c ∷ text)))
    go true is = absurd (other text (ap (λ (n : ℕ). n ∷ text) (eqb-true c 43 is)))
    go false is = refl

use Rattle.std.proofs.Common.{◌≡◌, ℕ, inl, List, Option, Some, None, Ok, refl, sym, ap, subst, ◌∙◌}
use Rattle.sms_field.specs.RelayAddress.Text.{relay_address_text}
use Rattle.sms_field.specs.RelayAddress.Value.{RelayAddressValue}
use Rattle.sms_c.specs.Answered.{Fails}
use Rattle.sms_c.specs.CentreText.{text_of_centre}
use Rattle.sms_c.specs.declared.status.Failure.TheVariants.{NotThere}
use Rattle.sms_c.proofs.Told.{known_value}
use Rattle.sms_c.proofs.centre_text.text_of.Goals as goal

no_centre : (address : Option RelayAddressValue) → None ≡ address → Fails (text_of_centre address) NotThere
no_centre address is = subst (λ (a : Option RelayAddressValue). Fails (text_of_centre a) NotThere) is (inl refl)

is_text : (address : Option RelayAddressValue) (view value : RelayAddressValue) (text : List ℕ) → Some view ≡ address → value ≡ view → text ≡ relay_address_text value → text_of_centre address ≡ Ok text
is_text address view value text is same made = ap text_of_centre (sym is) ∙ ap (λ (a : RelayAddressValue). text_of_centre (Some a)) (sym same) ∙ ap (λ (t : List ℕ). known_value t) (sym made)

pub returns-in_err-view-clause-exact : goal.returns-in_err-view-clause-exact
returns-in_err-view-clause-exact c = λ address used at. absurd (c.in_err-view.ensures.exact address used at)

pub returns-in_default-clause-exact : goal.returns-in_default-clause-exact
returns-in_default-clause-exact c = λ address used at. no_centre address (sym c.in_default.is ∙ c.in_ok-view.ensures.exact address used at)

pub returns-clause-exact : goal.returns-clause-exact
returns-clause-exact c = λ address used at. is_text address _ _ _ (sym c.in-Some.is ∙ c.in_ok-view.ensures.exact address used at) c.in_ok-to_value.ensures.value c.in_ok-to_text.ensures

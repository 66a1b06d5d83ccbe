-- Octets that are read as an address and are not plain are none.
use Rattle.std.proofs.Common.{◌≡◌, ℕ, Bool, true, List, length, Result, Ok, Err, sym, ap, ◌∙◌}
use Rattle.std.specs.Prelude.{MatchResult}
use Rattle.sms_field.specs.declared.fault.FieldFault.{FieldFault}
use Rattle.sms_field.specs.declared.refusal.Refusal.{Refusal}
use Rattle.sms_field.specs.declared.refusal.Refusal.TheVariants.{Memory}
use Rattle.sms_field.specs.Address.{address}
use Rattle.sms_field.specs.Address.Value.{AddressValue}
use Rattle.sms_field.specs.Reading.WholeAnswer.{ReadsExactly}
use Rattle.sms_keep.specs.Held.{IsAddress}
use Rattle.sms_keep.specs.Inside.Plain.{is_plain}
use Rattle.sms_keep.proofs.OneSaved.{reads_itself}
use Rattle.sms_keep.proofs.PlainAddress.{written_is_plain}

read_as : (octets : List ℕ) (result : Result (AddressValue × ℕ) (Refusal FieldFault)) → ReadsExactly address octets result → (h : IsAddress octets)
    → MatchResult result (λ x. (x.0 ≡ h.address) × (x.1 ≡ length octets)) (λ e. e ≡ Memory)
read_as octets result exact h = exact h.address (length octets) (reads_itself h.address octets h.is_one h.written)

pub refused_is_none : (octets : List ℕ) (e : Refusal FieldFault) → ReadsExactly address octets (Err e) → (e ≡ Memory → ⊥) → IsAddress octets → ⊥
refused_is_none octets e exact memory h = memory (read_as octets (Err e) exact h)

pub address_is_plain : (octets : List ℕ) → IsAddress octets → is_plain octets ≡ true
address_is_plain octets h = ap is_plain h.written ∙ written_is_plain h.address h.is_one

-- Texts that are handed out, and octets that are none.
use Rattle.std.proofs.Common.{◌≡◌, ◌⊎◌, ◌↔◌, ℕ, Bool, true, false, List, refl, sym, ap, subst, ◌∙◌, Global, arith}
use Rattle.std.proofs.lemmas.Str.{IsUtf8-string_bytes, IsUtf8-from_is_utf8}
use Rattle.std.specs.Str.{chars, is_utf8, IsUtf8}
use Rattle.std.specs.Prelude.{String, Some, Result, Ok, Err}
use Rattle.std.specs.String.{string_bytes}
use Rattle.sms_field.specs.Address.{address}
use Rattle.sms_field.specs.Address.Text.{address_text}
use Rattle.sms_field.specs.Address.Value.{AddressValue}
use Rattle.sms_field.specs.Reading.{Reads}
use Rattle.sms_field.specs.RelayAddress.Text.{relay_address_text}
use Rattle.sms_field.specs.RelayAddress.Value.{RelayAddressValue}
use Rattle.sms_c.specs.Answered.{OfTextIn}
use Rattle.sms_c.specs.CentreText.{IsCentreAt, OfCentre}
use Rattle.sms_c.specs.declared.relay.RpSeen.{RpSeen}
use Rattle.sms_c.specs.declared.status.Failure.{Failure}
use Rattle.sms_c.specs.Fitting.{EndsWithin, HoldNoAddress, IsAtNoAddress}
use Rattle.sms_c.specs.HandedOut.{OfText}
use Rattle.sms_c.specs.Parts.{octets_at, OfAddress}
use Rattle.sms_c.specs.declared.parts.Span.{Span}

pub utf8_untold : (octets : List ℕ) → (IsUtf8 octets → ⊥) → is_utf8 octets ≡ false
utf8_untold octets never = go (is_utf8 octets) refl
  where
    go : (b : Bool) → is_utf8 octets ≡ b → is_utf8 octets ≡ false
    go true e = absurd (never (IsUtf8-from_is_utf8 octets e))
    go false e = e

pub of_text : (T : List ℕ) (Out : List ℕ → Type 0) (text : String Global) (octets : List ℕ) → octets ≡ string_bytes text → chars (string_bytes text) ≡ T → Out octets → OfText T Out
of_text T Out text octets e spelled out =
    record { octets = octets; utf8 = subst IsUtf8 (sym e) (IsUtf8-string_bytes text); spelled = ap chars e ∙ spelled; out = out }

pub of_address : (octets inner : List ℕ) (Out : List ℕ → Type 0) (text : String Global) (bytes : List ℕ) → inner ≡ octets → bytes ≡ string_bytes text → ((value : AddressValue) × (used : ℕ) × Reads address value inner used × (chars (string_bytes text) ≡ address_text value)) → Out bytes → OfAddress octets Out
of_address octets inner Out text bytes same e read out =
    record {
      value = read.0;
      used = read.1;
      read = subst (λ (l : List ℕ). Reads address read.0 l read.1) same read.2;
      told = of_text (address_text read.0) Out text bytes e read.3 out;
    }

-- what is read there is refused as it is where it lies
pub refused_there : (s t : ℕ) (octets inner : List ℕ) (span : Span) → s ≡ t → inner ≡ octets_at octets span → EndsWithin octets span → ((t ≡ 1) ↔ HoldNoAddress inner) → (s ≡ 1) ↔ IsAtNoAddress octets span
refused_there s t octets inner span e same within law =
    (λ one. (within, subst HoldNoAddress same (law.0 (sym e ∙ one))), λ is. e ∙ law.1 (subst HoldNoAddress (sym same) is.1))

pub not_refused : (s : ℕ) (octets inner : List ℕ) (span : Span) → (s ≡ 0) ⊎ (s ≡ 3) → inner ≡ octets_at octets span → (value : AddressValue) (used : ℕ) → Reads address value inner used → (s ≡ 1) ↔ IsAtNoAddress octets span
not_refused s octets inner span other same value used read =
    (λ one. absurd (omega (arith, one, other)), λ is. absurd (is.1.none value used (subst (λ (l : List ℕ). Reads address value l used) same read)))

pub of_centre : (octets : List ℕ) (rp : RpSeen) (Out : List ℕ → Type 0) (text : String Global) (bytes : List ℕ) → bytes ≡ string_bytes text → ((address : RelayAddressValue) × (used : ℕ) × IsCentreAt octets rp (Some address) used × (chars (string_bytes text) ≡ relay_address_text address)) → Out bytes → OfCentre octets rp Out
of_centre octets rp Out text bytes e read out =
    record { address = read.0; used = read.1; read = read.2; told = of_text (relay_address_text read.0) Out text bytes e read.3 out }

pub of_text_in : (known : Result (List ℕ) Failure) (Out : List ℕ → Type 0) (text : String Global) (bytes : List ℕ) → bytes ≡ string_bytes text → known ≡ Ok (chars (string_bytes text)) → Out bytes → OfTextIn known Out
of_text_in (Ok told) Out text bytes e is out = of_text told Out text bytes e (let same : chars (string_bytes text) ≡ told = cc in same) out
of_text_in (Err why) Out text bytes e is out = absurd cc

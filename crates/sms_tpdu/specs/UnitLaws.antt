-- The laws of a unit.
use Rattle.std.proofs.Common.{◌≡◌, List, ℕ, sym, subst}
use Rattle.sms_text.specs.Octets.{IsOctets}
use Rattle.sms_field.specs.Field.{Field, IsLawful}

-- it is a lawful field, it is written in octets, and what is written is read back
pub record AreUnitLaws {V W : Type 0} (short : W) (field : Field V W) (spells : V → List ℕ → Type 0) (may_follow : V → List ℕ → Type 0) : Type 0 where
  pub lawful : IsLawful short field
  pub octets : (v : V) (octets : List ℕ) → spells v octets → IsOctets octets
  pub again : (v : V) (octets more : List ℕ) → spells v octets → may_follow v more → field.reads v octets more

-- by `IsSpelling is octets_of` each value that is one is spelled by its octets
abbrev pub IsSpelling : {V : Type 0} → (V → Type 0) → (V → List ℕ) → V → List ℕ → Type 0
IsSpelling is octets_of v octets = is v × (octets ≡ octets_of v)

pub laws_by : {V W : Type 0} (short : W) (field : Field V W) (is : V → Type 0) (octets_of : V → List ℕ) → IsLawful short field → ((v : V) → is v → IsOctets (octets_of v)) → ((v : V) (rest : List ℕ) → is v → field.reads v (octets_of v) rest)
    → AreUnitLaws short field (IsSpelling is octets_of) (λ _ _. Unit {0})
laws_by short field is octets_of lawful octets again = record {
  lawful = lawful;
  octets = λ v l s. subst IsOctets (sym s.1) (octets v s.0);
  again = λ v l more s free. subst (λ (k : List ℕ). field.reads v k more) (sym s.1) (again v more s.0);
}

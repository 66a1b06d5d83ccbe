-- Keys of held messages are equal just where their parts are.
use Rattle.std.proofs.Common.{◌≡◌, ℕ, Bool, true, false, ◌&&◌, refl, arith}
use Rattle.std.specs.Prelude.{◌==◌}
use Rattle.std.specs.Cmp.{IsEquivalence}
use Rattle.std.proofs.lemmas.Cmp.{nat_eq_equiv, on_equiv, and_equiv}
use Rattle.std.proofs.lemmas.Bool.Decides.{nat_tests}
use Rattle.sms_centre.specs.Centre.Value.{key_eq}
use Rattle.sms_centre.specs.declared.centre.held.HeldKey.{HeldKey}

pub key_laws : IsEquivalence key_eq
key_laws = and_equiv (on_equiv (λ (k : HeldKey). k.phone) nat_eq_equiv) (and_equiv (on_equiv (λ (k : HeldKey). k.reference) nat_eq_equiv) (on_equiv (λ (k : HeldKey). k.recipient) nat_eq_equiv))

pub key_parts : (a b : HeldKey) → key_eq a b ≡ (a.phone == b.phone && (a.reference == b.reference && a.recipient == b.recipient))
key_parts a b = refl

both : (b c : Bool) → (b && c) ≡ true → (b ≡ true) × (c ≡ true)
both true c e = (refl, e)
both false c e = absurd cc

keys : (p q r s t u : ℕ) → p ≡ s → q ≡ t → r ≡ u → ◌≡◌ {A = HeldKey} (record { phone = p; reference = q; recipient = r }) (record { phone = s; reference = t; recipient = u })
keys p q r s t u e f g = cc

same_number : (a b : ℕ) → (a == b) ≡ true → a ≡ b
same_number a b e = grind (arith, nat_tests)

pub same_key : (a b : HeldKey) → key_eq a b ≡ true → a ≡ b
same_key a b e =
    let h = both (a.phone == b.phone) (a.reference == b.reference && a.recipient == b.recipient) e in
    let k = both (a.reference == b.reference) (a.recipient == b.recipient) h.1 in
    keys a.phone a.reference a.recipient b.phone b.reference b.recipient (same_number _ _ h.0) (same_number _ _ k.0) (same_number _ _ k.1)

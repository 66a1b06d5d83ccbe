-- A reader may pass this by: lemmas, for the proofs of this crate and of those above it.
--
-- Addresses are the same just where they are equal.
use Rattle.std.proofs.Common.{◌≡◌, Bool, true, false, ◌&&◌, eqb, refl, sym, ap, ◌∙◌}
use Rattle.std.proofs.lemmas.Bool.{eqb-true, eq-eqb, and_parts, and_from}
use Rattle.std.proofs.lemmas.Slice.Eq.{bytes_eq-Decides}
use Rattle.sms_field.specs.Address.Value.{AddressValue}
use Rattle.sms_field.specs.declared.symbols.Symbols.{Symbols}
use Rattle.sms_field.specs.declared.symbols.Symbols.TheVariants.{Digits, Name}
use Rattle.sms_field.specs.Address.Same.{same_symbols, same_address, SameIsEqual, SameIsReflexive, SameIsSymmetric, SameIsTransitive}

same_symbols_refl : (s : Symbols) → same_symbols s s ≡ true
same_symbols_refl (Digits xs) = (bytes_eq-Decides xs xs).1 refl
same_symbols_refl (Name xs) = (bytes_eq-Decides xs xs).1 refl

same_symbols_true : (s t : Symbols) → same_symbols s t ≡ true → s ≡ t
same_symbols_true (Digits xs) (Digits ys) h = ap Digits ((bytes_eq-Decides xs ys).0 h)
same_symbols_true (Name xs) (Name ys) h = ap Name ((bytes_eq-Decides xs ys).0 h)
same_symbols_true (Digits xs) (Name ys) h = cc
same_symbols_true (Name xs) (Digits ys) h = cc

pub same_address_refl : SameIsReflexive
unfolding same_address
same_address_refl a =
    and_from _ _ (eq-eqb a.kind a.kind refl) (and_from _ _ (eq-eqb a.plan a.plan refl) (same_symbols_refl a.symbols))

pub same_address_true : (a b : AddressValue) → same_address a b ≡ true → a ≡ b
unfolding same_address
same_address_true a b h =
    let p = and_parts (eqb a.kind b.kind) (eqb a.plan b.plan && same_symbols a.symbols b.symbols) h in
    let q = and_parts (eqb a.plan b.plan) (same_symbols a.symbols b.symbols) p.1 in
    let x : a.kind ≡ b.kind = eqb-true _ _ p.0 in
    let y : a.plan ≡ b.plan = eqb-true _ _ q.0 in
    let z : a.symbols ≡ b.symbols = same_symbols_true _ _ q.1 in
    λ i. record { kind = x i; plan = y i; symbols = z i }

pub same_address_is_equal : SameIsEqual
same_address_is_equal a b = (same_address_true a b, λ e. ap (same_address a) (sym e) ∙ same_address_refl a)

symmetric_by : (a b : AddressValue) (p q : Bool) → same_address a b ≡ p → same_address b a ≡ q → p ≡ q
symmetric_by a b true true e f = refl
symmetric_by a b false false e f = refl
symmetric_by a b true false e f =
    let one : same_address b a ≡ true = (same_address_is_equal b a).1 (sym (same_address_true a b e)) in cc
symmetric_by a b false true e f =
    let one : same_address a b ≡ true = (same_address_is_equal a b).1 (sym (same_address_true b a f)) in cc

pub same_address_symmetric : SameIsSymmetric
same_address_symmetric a b = symmetric_by a b _ _ refl refl

pub same_address_transitive : SameIsTransitive
same_address_transitive a b c h k = ap (same_address a) (sym (same_address_true b c k)) ∙ h

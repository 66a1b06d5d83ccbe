-- A reader may pass this by: lemmas, for proofs.
--
-- Keys are the same just where they are equal, and `==` answers that they are.
use Rattle.std.proofs.Common.{◌≡◌, ℕ, Bool, true, ◌&&◌, eqb, List, refl, sym, ap, ◌∙◌}
use Rattle.std.proofs.lemmas.Bool.{eqb-true, and_parts}
use Rattle.std.proofs.lemmas.Slice.Eq.{bytes_eq-Decides}
use Rattle.std.specs.Str.{bytes_eq}
use Rattle.sms_field.specs.Address.Value.{AddressValue}
use Rattle.sms_field.specs.declared.symbols.Symbols.{Symbols}
use Rattle.sms_field.specs.declared.symbols.Symbols.TheVariants.{Digits, Name}
use Rattle.sms_field.specs.Address.Same.{same_address}
use Rattle.sms_field.specs.Inside.SameAddressLaws.{same_address_true}
use Rattle.sms_tpdu.specs.declared.user_data.concat.Width.{Width}
use Rattle.sms_tpdu.specs.declared.user_data.concat.Width.TheVariants.{Eight, Sixteen}
use Rattle.sms_join.specs.declared.key.Key.{Key}
use Rattle.sms_field.specs.contracts.address.AddressPartialEq.TheImpl as address_derived
use Rattle.sms_tpdu.specs.contracts.user_data.concat.WidthPartialEq.TheImpl as width_derived
use Rattle.sms_join.specs.declared.key.Key.TheVariants.{Single, Segmented, SingleTo, SegmentedTo}
use Rattle.sms_join.specs.Key.{same_width, same_key}
use Rattle.sms_join.specs.Inside.Slots.{key_eq}

bytes_true : (xs ys : List ℕ) → bytes_eq xs ys ≡ true → xs ≡ ys
bytes_true xs ys = (bytes_eq-Decides xs ys).0

same_width_true : (w v : Width) → same_width w v ≡ true → w ≡ v
unfolding same_width
same_width_true Eight Eight h = refl
same_width_true Sixteen Sixteen h = refl
same_width_true Eight Sixteen h = cc
same_width_true Sixteen Eight h = cc

pub both : (x y a b : Bool) → x ≡ y → a ≡ b → (x && a) ≡ (y && b)
both x y a b e f = cc

-- what segments share besides origins
places_true : (w v : Width) (r q m n : ℕ) → (same_width w v && (eqb r q && eqb m n)) ≡ true → (w ≡ v) × (r ≡ q) × (m ≡ n)
places_true w v r q m n h =
    let p = and_parts (same_width w v) (eqb r q && eqb m n) h in
    let p' = and_parts (eqb r q) (eqb m n) p.1 in
    (same_width_true w v p.0, eqb-true r q p'.0, eqb-true m n p'.1)

pub same_key_true : (k l : Key) → same_key k l ≡ true → k ≡ l
unfolding same_key
same_key_true (Single a s) (Single b t) h =
    let p = and_parts (same_address a b) (bytes_eq s t) h in
    let x : a ≡ b = same_address_true a b p.0 in
    let y : s ≡ t = bytes_true s t p.1 in
    cc
same_key_true (Segmented a w r m) (Segmented b v q n) h =
    let p = and_parts (same_address a b) (same_width w v && (eqb r q && eqb m n)) h in
    let x : a ≡ b = same_address_true a b p.0 in
    let e = places_true w v r q m n p.1 in
    let y : w ≡ v = e.0 in
    let z : r ≡ q = e.1 in
    let u : m ≡ n = e.2 in
    cc
same_key_true (SingleTo to a s) (SingleTo for b t) h =
    let p = and_parts (same_address to for) (same_address a b && bytes_eq s t) h in
    let p' = and_parts (same_address a b) (bytes_eq s t) p.1 in
    let o : to ≡ for = same_address_true to for p.0 in
    let x : a ≡ b = same_address_true a b p'.0 in
    let y : s ≡ t = bytes_true s t p'.1 in
    cc
same_key_true (SegmentedTo to a w r m) (SegmentedTo for b v q n) h =
    let p = and_parts (same_address to for) (same_address a b && (same_width w v && (eqb r q && eqb m n))) h in
    let p' = and_parts (same_address a b) (same_width w v && (eqb r q && eqb m n)) p.1 in
    let o : to ≡ for = same_address_true to for p.0 in
    let x : a ≡ b = same_address_true a b p'.0 in
    let e = places_true w v r q m n p'.1 in
    let y : w ≡ v = e.0 in
    let z : r ≡ q = e.1 in
    let u : m ≡ n = e.2 in
    cc
same_key_true _ _ h = cc

-- what `==` answers for keys

abbrev address_eq : AddressValue → AddressValue → Bool
address_eq = (address_derived.ghosts).eq

abbrev width_eq : Width → Width → Bool
width_eq = (width_derived.ghosts).eq

abbrev address_of : ℕ → ℕ → Symbols → AddressValue
address_of kind plan symbols = record { kind = kind; plan = plan; symbols = symbols }

addresses : (k p : ℕ) (x : Symbols) (l q : ℕ) (y : Symbols) → address_eq (address_of k p x) (address_of l q y) ≡ same_address (address_of k p x) (address_of l q y)
unfolding same_address
addresses k p (Digits xs) l q (Digits ys) = refl
addresses k p (Digits xs) l q (Name ys) = refl
addresses k p (Name xs) l q (Digits ys) = refl
addresses k p (Name xs) l q (Name ys) = refl

address_eq_is : (a b : AddressValue) → address_eq a b ≡ same_address a b
address_eq_is a b = addresses a.kind a.plan a.symbols b.kind b.plan b.symbols

width_eq_is : (w v : Width) → width_eq w v ≡ same_width w v
unfolding same_width
width_eq_is Eight Eight = refl
width_eq_is Eight Sixteen = refl
width_eq_is Sixteen Eight = refl
width_eq_is Sixteen Sixteen = refl

places_eq : (w v : Width) (r q m n : ℕ) → (width_eq w v && (eqb r q && eqb m n)) ≡ (same_width w v && (eqb r q && eqb m n))
places_eq w v r q m n = ap (λ (x : Bool). x && (eqb r q && eqb m n)) (width_eq_is w v)

pub key_eq_is : (k l : Key) → key_eq k l ≡ same_key k l
unfolding same_key
key_eq_is (Single a s) (Single b t) = both _ _ _ _ (address_eq_is a b) refl
key_eq_is (Segmented a w r m) (Segmented b v q n) = both _ _ _ _ (address_eq_is a b) (places_eq w v r q m n)
key_eq_is (SingleTo to a s) (SingleTo for b t) = both _ _ _ _ (address_eq_is to for) (both _ _ _ _ (address_eq_is a b) refl)
key_eq_is (SegmentedTo to a w r m) (SegmentedTo for b v q n) =
    both _ _ _ _ (address_eq_is to for) (both _ _ _ _ (address_eq_is a b) (places_eq w v r q m n))
key_eq_is _ _ = refl

-- what `==` answers for equal keys alone
pub key_eq_true : (k l : Key) → key_eq k l ≡ true → k ≡ l
key_eq_true k l e = same_key_true k l (sym (key_eq_is k l) ∙ e)

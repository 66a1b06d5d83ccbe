-- Keys are the same just where they are equal.
use Rattle.std.proofs.Common.{◌≡◌, ℕ, true, ◌&&◌, eqb, List, refl}
use Rattle.std.proofs.lemmas.Bool.{eqb-true, eq-eqb, and_parts, and_from}
use Rattle.std.proofs.lemmas.Slice.Eq.{bytes_eq-Decides}
use Rattle.std.specs.Str.{bytes_eq}
use Rattle.sms_field.specs.Address.Same.{same_address}
use Rattle.sms_field.specs.Inside.SameAddressLaws.{same_address_refl, same_address_true}
use Rattle.sms_tpdu.specs.declared.user_data.concat.Width.{Width}
use Rattle.sms_tpdu.specs.declared.user_data.concat.Width.TheVariants.{Eight, Sixteen}
use Rattle.sms_join.specs.declared.key.Key.{Key}
use Rattle.sms_join.specs.declared.key.Key.TheVariants.{Single, Segmented, SingleTo, SegmentedTo}
use Rattle.sms_join.specs.Key.{same_width, same_key}

bytes_refl : (xs : List ℕ) → bytes_eq xs xs ≡ true
bytes_refl xs = (bytes_eq-Decides xs xs).1 refl

bytes_true : (xs ys : List ℕ) → bytes_eq xs ys ≡ true → xs ≡ ys
bytes_true xs ys = (bytes_eq-Decides xs ys).0

same_width_refl : (w : Width) → same_width w w ≡ true
unfolding same_width
same_width_refl Eight = refl
same_width_refl Sixteen = refl

same_width_true : (w v : Width) → same_width w v ≡ true → w ≡ v
unfolding same_width
same_width_true Eight Eight h = refl
same_width_true Sixteen Sixteen h = refl
same_width_true Eight Sixteen h = cc
same_width_true Sixteen Eight h = cc

pub same_key_refl : (k : Key) → same_key k k ≡ true
unfolding same_key
same_key_refl (Single a s) = and_from _ _ (same_address_refl a) (bytes_refl s)
same_key_refl (Segmented a w r m) =
    and_from _ _ (same_address_refl a)
    (and_from _ _ (same_width_refl w) (and_from _ _ (eq-eqb r r refl) (eq-eqb m m refl)))
same_key_refl (SingleTo to a s) =
    and_from _ _ (same_address_refl to) (and_from _ _ (same_address_refl a) (bytes_refl s))
same_key_refl (SegmentedTo to a w r m) =
    and_from _ _ (same_address_refl to) (and_from _ _ (same_address_refl a)
    (and_from _ _ (same_width_refl w) (and_from _ _ (eq-eqb r r refl) (eq-eqb m m refl))))

-- what segments share besides origins
places_true : (w v : Width) (r q m n : ℕ) → (same_width w v && (eqb r q && eqb m n)) ≡ true → (w ≡ v) × (r ≡ q) × (m ≡ n)
places_true w v r q m n h =
    let p = and_parts (same_width w v) (eqb r q && eqb m n) h in
    let p' = and_parts (eqb r q) (eqb m n) p.1 in
    (same_width_true w v p.0, eqb-true r q p'.0, eqb-true m n p'.1)

pub same_key_true : (k l : Key) → same_key k l ≡ true → k ≡ l
unfolding same_key
same_key_true (Single a s) (Single b t) h =
    let p = and_parts (same_address a b) (bytes_eq s t) h in
    let x : a ≡ b = same_address_true a b p.0 in
    let y : s ≡ t = bytes_true s t p.1 in
    cc
same_key_true (Segmented a w r m) (Segmented b v q n) h =
    let p = and_parts (same_address a b) (same_width w v && (eqb r q && eqb m n)) h in
    let x : a ≡ b = same_address_true a b p.0 in
    let e = places_true w v r q m n p.1 in
    let y : w ≡ v = e.0 in
    let z : r ≡ q = e.1 in
    let u : m ≡ n = e.2 in
    cc
same_key_true (SingleTo to a s) (SingleTo for b t) h =
    let p = and_parts (same_address to for) (same_address a b && bytes_eq s t) h in
    let p' = and_parts (same_address a b) (bytes_eq s t) p.1 in
    let o : to ≡ for = same_address_true to for p.0 in
    let x : a ≡ b = same_address_true a b p'.0 in
    let y : s ≡ t = bytes_true s t p'.1 in
    cc
same_key_true (SegmentedTo to a w r m) (SegmentedTo for b v q n) h =
    let p = and_parts (same_address to for) (same_address a b && (same_width w v && (eqb r q && eqb m n))) h in
    let p' = and_parts (same_address a b) (same_width w v && (eqb r q && eqb m n)) p.1 in
    let o : to ≡ for = same_address_true to for p.0 in
    let x : a ≡ b = same_address_true a b p'.0 in
    let e = places_true w v r q m n p'.1 in
    let y : w ≡ v = e.0 in
    let z : r ≡ q = e.1 in
    let u : m ≡ n = e.2 in
    cc
same_key_true _ _ h = cc

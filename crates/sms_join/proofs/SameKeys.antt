-- Keys are the same just where they are equal.
use Rattle.std.proofs.Common.{◌≡◌, ℕ, Bool, true, false, ◌&&◌, List, Option, Some, None, refl, sym, ap, ◌∙◌}
use Rattle.std.proofs.lemmas.Bool.{eq-eqb, and_from}
use Rattle.std.proofs.lemmas.Slice.Eq.{bytes_eq-Decides}
use Rattle.std.specs.Str.{bytes_eq}
use Rattle.sms_field.specs.Address.Value.{AddressValue}
use Rattle.sms_field.specs.Address.Same.{same_address}
use Rattle.sms_field.specs.Inside.SameAddressLaws.{same_address_refl}
use Rattle.sms_tpdu.specs.declared.user_data.concat.Width.{Width}
use Rattle.sms_tpdu.specs.declared.user_data.concat.Width.TheVariants.{Eight, Sixteen}
use Rattle.sms_join.specs.declared.key.Key.{Key}
use Rattle.sms_tpdu.specs.declared.user_data.concat.Concat.{Concat}
use Rattle.sms_join.specs.declared.key.Key.TheVariants.{Single, Segmented, SingleTo, SegmentedTo}
use Rattle.sms_join.specs.Key.{same_width, same_key, same_recipient, is_for, origin_of}
use Rattle.sms_join.specs.Piece.{key_to}
use Rattle.sms_join.specs.Inside.KeyParts.{same_place, has_numbers}
pub use Rattle.sms_join.specs.Inside.SameKeyLaws.{both, same_key_true, key_eq_is}

bytes_refl : (xs : List ℕ) → bytes_eq xs xs ≡ true
bytes_refl xs = (bytes_eq-Decides xs xs).1 refl

same_width_refl : (w : Width) → same_width w w ≡ true
unfolding same_width
same_width_refl Eight = refl
same_width_refl Sixteen = refl

and_turned : (a b : Bool) → (a && (true && b)) ≡ (b && a)
and_turned true true = refl
and_turned true false = refl
and_turned false true = refl
and_turned false false = refl

three_turned : (a b c : Bool) → (a && (b && c)) ≡ (b && (c && a))
three_turned true true true = refl
three_turned true true false = refl
three_turned true false c = refl
three_turned false true true = refl
three_turned false true false = refl
three_turned false false c = refl

pub and_false : (a : Bool) → (a && false) ≡ false
and_false true = refl
and_false false = refl

pub same_key_refl : (k : Key) → same_key k k ≡ true
unfolding same_key
same_key_refl (Single a s) = and_from _ _ (same_address_refl a) (bytes_refl s)
same_key_refl (Segmented a w r m) =
    and_from _ _ (same_address_refl a)
    (and_from _ _ (same_width_refl w) (and_from _ _ (eq-eqb r r refl) (eq-eqb m m refl)))
same_key_refl (SingleTo to a s) =
    and_from _ _ (same_address_refl to) (and_from _ _ (same_address_refl a) (bytes_refl s))
same_key_refl (SegmentedTo to a w r m) =
    and_from _ _ (same_address_refl to) (and_from _ _ (same_address_refl a)
    (and_from _ _ (same_width_refl w) (and_from _ _ (eq-eqb r r refl) (eq-eqb m m refl))))

-- the key of a message, part by part

pub parts_same : (k : Key) (to : Option AddressValue) (origin : AddressValue) (stamp : List ℕ) (concat : Option Concat)
    → (has_numbers k stamp concat && (is_for to k && same_address (origin_of k) origin)) ≡ same_key k (key_to to origin stamp concat)
unfolding same_key same_recipient
parts_same (Single a s) None origin stamp None = and_turned (bytes_eq s stamp) (same_address a origin)
parts_same (Segmented a w r m) None origin stamp (Some c) =
    and_turned (same_place w r m c) (same_address a origin)
parts_same (SingleTo own a s) (Some to) origin stamp None = three_turned (bytes_eq s stamp) (same_address own to) (same_address a origin)
parts_same (SegmentedTo own a w r m) (Some to) origin stamp (Some c) =
    three_turned (same_place w r m c) (same_address own to) (same_address a origin)
parts_same (Single a s) (Some to) origin stamp None = and_false (bytes_eq s stamp)
parts_same (Segmented a w r m) (Some to) origin stamp (Some c) = and_false (same_place w r m c)
parts_same (SingleTo own a s) None origin stamp None = and_false (bytes_eq s stamp)
parts_same (SegmentedTo own a w r m) None origin stamp (Some c) = and_false (same_place w r m c)
parts_same _ _ origin stamp _ = refl

module _ (k : Key) (to : Option AddressValue) (origin : AddressValue) (stamp : List ℕ) (concat : Option Concat) where
  pub other_numbers : has_numbers k stamp concat ≡ false → false ≡ same_key k (key_to to origin stamp concat)
  other_numbers n = sym (ap (λ (b : Bool). b && (is_for to k && same_address (origin_of k) origin)) n) ∙ parts_same k to origin stamp concat

  pub other_recipient : has_numbers k stamp concat ≡ true → is_for to k ≡ false → false ≡ same_key k (key_to to origin stamp concat)
  other_recipient n i = sym (both (has_numbers k stamp concat) true _ _ n (ap (λ (b : Bool). b && same_address (origin_of k) origin) i)) ∙ parts_same k to origin stamp concat

  pub by_origin : has_numbers k stamp concat ≡ true → is_for to k ≡ true → same_address (origin_of k) origin ≡ same_key k (key_to to origin stamp concat)
  by_origin n i = sym (both (has_numbers k stamp concat) true _ _ n (ap (λ (b : Bool). b && same_address (origin_of k) origin) i)) ∙ parts_same k to origin stamp concat

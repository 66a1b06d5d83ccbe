-- The phones' addresses as keys of a set: they are found by their equality.
use Rattle.std.proofs.Common.{◌≡◌, ℕ, zero, suc, ◌+◌, ◌<◌, Bool, true, false, not, cond, List, [], ◌∷◌, ◌++◌, take, map, get_or, length, Some, refl, sym, ap, ◌∙◌, rules}
use Rattle.std.specs.Prelude.{◌||◌}
use Rattle.std.specs.List.{list_any, slice_get}
use Rattle.std.proofs.Math.Path.{fun_ext}
use Rattle.std.proofs.lemmas.Bool.{or_parts, and_parts, not-true}
use Rattle.std.proofs.lemmas.List.{take_more, map_more}
use Rattle.std.proofs.lemmas.Option.{slice_get_read}
use Rattle.indexmap.specs.IndexSet.{insert_key}
use Rattle.sms_field.specs.Address.Value.{AddressValue}
use Rattle.sms_field.specs.Address.Same.{same_address}
use Rattle.sms_field.specs.Inside.SameAddressLaws.{same_address_symmetric}
use Rattle.sms_field.specs.contracts.address.AddressPartialEq.TheImpl as derived
use Rattle.sms_message.specs.Address.{are_distinct}
use Rattle.sms_centre.specs.Centre.Value.{LineValue}
use Rattle.sms_centre.specs.Inside.Lines.{new_line}

is_same : (a b : AddressValue) → (derived.ghosts).eq a b ≡ same_address a b
unfolding same_address
is_same a b = search rules

pub same_test : (a : AddressValue) → (derived.ghosts).eq a ≡ same_address a
same_test a = fun_ext (is_same a)

pub either_way : (a : AddressValue) → same_address a ≡ (λ b. same_address b a)
either_way a = fun_ext (same_address_symmetric a)

-- ---- an address that none before it has

other : (a : AddressValue) (phones : List AddressValue) (x : AddressValue) (i : ℕ) → list_any (same_address a) phones ≡ false → slice_get phones i ≡ Some x → same_address a x ≡ false
other a [] x i h e = absurd cc
other a (y ∷ phones) x zero h e =
    let is : x ≡ y = cc in
    ap (same_address a) is ∙ (or_parts (same_address a y) (list_any (same_address a) phones) h).0
other a (y ∷ phones) x (suc i) h e = other a phones x i (or_parts (same_address a y) (list_any (same_address a) phones) h).1 e

none_or : (a b : Bool) → a ≡ false → b ≡ false → (a || b) ≡ false
none_or a b e f = rw (e, f) refl

none_before : (phones : List AddressValue) (x : AddressValue) (i : ℕ) → are_distinct phones ≡ true → slice_get phones i ≡ Some x → list_any (same_address x) (take i phones) ≡ false
none_before [] x i d e = absurd cc
none_before (a ∷ phones) x zero d e = refl
none_before (a ∷ phones) x (suc i) d e =
    let parts = and_parts (not (list_any (same_address a) phones)) (are_distinct phones) d in
    none_or (same_address x a) (list_any (same_address x) (take i phones)) (same_address_symmetric x a ∙ other a phones x i (not-true _ parts.0) e) (none_before phones x i parts.1 e)

added_by : (keys : List AddressValue) (x : AddressValue) (b : Bool) → b ≡ false → cond b keys (keys ++ x ∷ []) ≡ keys ++ x ∷ []
added_by keys x b e = rw e refl

-- one more address goes to the end
pub added : (phones : List AddressValue) (x y : AddressValue) (i : ℕ) (keys : List AddressValue) → are_distinct phones ≡ true → i < length phones → x ≡ get_or phones i x → keys ≡ take i phones → y ≡ x → insert_key (derived.ghosts).eq keys y ≡ take (i + 1) phones
added phones x y i keys d within at is new =
    let none : list_any ((derived.ghosts).eq x) keys ≡ false =
    ap (λ (t : AddressValue → Bool). list_any t keys) (same_test x) ∙ (ap (list_any (same_address x)) is ∙ none_before phones x i d (slice_get_read phones (length phones) i x refl within at)) in
    ap (λ (z : AddressValue). insert_key (derived.ghosts).eq keys z) new ∙ (added_by keys x _ none ∙ (ap (λ (l : List AddressValue). l ++ x ∷ []) is ∙ (ap (λ (y : AddressValue). take i phones ++ y ∷ []) at ∙ sym (take_more phones i x within))))

pub line_added : (phones : List AddressValue) (x : AddressValue) (i : ℕ) (lines : List LineValue) (line : LineValue) → i < length phones → x ≡ get_or phones i x → lines ≡ map new_line (take i phones) → line ≡ new_line x → lines ++ line ∷ [] ≡ map new_line (take (i + 1) phones)
line_added phones x i lines line within at is new =
    ap (λ (l : List LineValue). l ++ line ∷ []) is
    ∙ (ap (λ (l : LineValue). map new_line (take i phones) ++ l ∷ []) (new ∙ ap new_line at) ∙ sym (map_more new_line phones i x within))

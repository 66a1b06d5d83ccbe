-- Names and addresses of phones.
use Rattle.std.proofs.Common.{◌≡◌, ℕ, List, [], ◌∷◌, ◌++◌, length, position, Bool, true, false, not, ◌||◌, refl, ◌∙◌, String}
use Rattle.std.specs.List.{list_any, prefix_len}
use Rattle.std.specs.String.{string_bytes, string_eq}
use Rattle.std.specs.Str.{bytes_eq}
use Rattle.std.proofs.lemmas.List.{map-append, length-map}
use Rattle.std.proofs.lemmas.List.Folds.{list_any-append}
use Rattle.sms_field.specs.Address.Value.{AddressValue}
use Rattle.sms_script.specs.Meaning.Known.{names_of, AreDistinct}
use Rattle.sms_field.specs.Address.Same.{same_address}

length-names : {A : Type 0} → (names : List (String A)) → length (names_of names) ≡ length names
length-names names = length-map names string_bytes

prefix_len-names : {A : Type 0} → (p : List ℕ → Bool) (names : List (String A)) → prefix_len p (names_of names) ≡ prefix_len (λ k. p (string_bytes k)) names
prefix_len-names p [] = refl
prefix_len-names p (name ∷ names) = rw (prefix_len-names p names) refl

-- a name is sought among the texts as among their octets
pub position-names : {A : Type 0} → (name : List ℕ) (names : List (String A)) → position (λ k. bytes_eq name (string_bytes k)) names ≡ position (bytes_eq name) (names_of names)
position-names name names = rw (length-names names, prefix_len-names (λ k. not (bytes_eq name k)) names) refl

pub any-names : {A : Type 0} → (name : List ℕ) (names : List (String A)) → list_any (λ k. bytes_eq name (string_bytes k)) names ≡ list_any (bytes_eq name) (names_of names)
any-names name [] = refl
any-names name (k ∷ names) = rw (any-names name names) refl

-- the name of a phone more
pub names-more : {A : Type 0} → (names : List (String A)) (name : String A) → names_of (names ++ name ∷ []) ≡ names_of names ++ string_bytes name ∷ []
names-more names name = map-append string_bytes names (name ∷ [])

-- a name that is not among the texts is new to the set of them
pub name-new : {A : Type 0} → (name : String A) (word : List ℕ) (names : List (String A)) → string_bytes name ≡ word → list_any (bytes_eq word) (names_of names) ≡ false → list_any (string_eq name) names ≡ false
name-new name word names is new = any-names (string_bytes name) names ∙ rw is new

or-false : (a b : Bool) → (a || b) ≡ false → (a ≡ false) × (b ≡ false)
or-false true b e = cc
or-false false b e = (refl, e)

-- an address that none of the others is
pub distinct-more : (addresses : List AddressValue) (address : AddressValue) → AreDistinct addresses → list_any (λ a. same_address a address) addresses ≡ false → AreDistinct (addresses ++ address ∷ [])
distinct-more [] address h e = (refl, tt)
distinct-more (a ∷ others) address h e =
    let parts = or-false (same_address a address) (list_any (λ b. same_address b address) others) e in
    (list_any-append (same_address a) others (address ∷ []) ∙ rw (h.0, parts.0) refl, distinct-more others address h.1 parts.1)

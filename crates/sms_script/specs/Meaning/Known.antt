-- What the lines so far have told that later lines rest on.
use Rattle.std.specs.Prelude.{◌≡◌, ℕ, ◌<◌, ◌≤◌, List, [], ◌∷◌, ◌++◌, length, map, slice_index_or, Bool, true, false, String}
use Rattle.std.specs.List.{list_any}
use Rattle.std.specs.Str.{bytes_eq}
use Rattle.std.specs.String.{string_bytes}
use Rattle.sms_field.specs.Address.Value.{AddressValue}
use Rattle.sms_field.specs.Address.Same.{same_address}
use Rattle.sms_script.specs.declared.meaning.known.TheConstants.{PHONE_LIMIT}
use Rattle.sms_script.specs.declared.meaning.statement.Phone.{Phone}

-- the names and the addresses of the phones, in their order, and whether an event came
pub record KnownValue : Type 0 where
  pub names : List (List ℕ)
  pub addresses : List AddressValue
  pub is_running : Bool

-- the name of a phone
abbrev pub name_of : List (List ℕ) → ℕ → List ℕ
name_of names phone = slice_index_or names phone []

abbrev pub no_phones : KnownValue
no_phones = record { names = []; addresses = []; is_running = false }

-- an event came
abbrev pub running : KnownValue → KnownValue
running known = record { names = known.names; addresses = known.addresses; is_running = true }

-- one phone more
abbrev pub with_phone : KnownValue → Phone → KnownValue
with_phone known phone =
    record {
      names = known.names ++ phone.name ∷ [];
      addresses = known.addresses ++ phone.address ∷ [];
      is_running = known.is_running;
    }

-- no phone has the name or the address of this one, and there is a place for it
abbrev pub IsNew : KnownValue → Phone → Type 0
IsNew known phone =
    (list_any (bytes_eq phone.name) known.names ≡ false)
    × (list_any (λ a. same_address a phone.address) known.addresses ≡ false)
    × (length known.addresses < PHONE_LIMIT)

-- no two of the addresses are the same
abbrev pub AreDistinct : List AddressValue → Type 0
AreDistinct [] = Unit {0}
AreDistinct (address ∷ others) =
    (list_any (same_address address) others ≡ false) × AreDistinct others

-- the addresses of different phones, as many as there may be
abbrev pub ArePhones : List AddressValue → Type 0
ArePhones addresses = AreDistinct addresses × (length addresses ≤ PHONE_LIMIT)

-- each of the phones has a name
abbrev pub AreNamed : {A : Type 0} → List A → List AddressValue → Type 0
AreNamed names addresses = (length names ≡ length addresses) × ArePhones addresses

-- the octets of texts
abbrev pub names_of : {A : Type 0} → List (String A) → List (List ℕ)
names_of names = map string_bytes names

-- What has a spelling.
use Rattle.std.specs.Prelude.{◌≡◌, ℕ, ◌+◌, ◌<◌, ◌≤◌, ◌^◌, Bool, true, false, ◌&&◌, List, [], ◌∷◌, ◌++◌, length, map, Option, Some, None, IfSome}
use Rattle.std.specs.List.{AllByRecursion, list_any}
use Rattle.std.specs.Str.{bytes_eq}
use Rattle.sms_saved.specs.declared.state.Limits.{Limits}
use Rattle.sms_saved.specs.declared.state.Message.{Message}
use Rattle.sms_saved.specs.declared.state.Message.TheVariants.{Single, Segmented}
use Rattle.sms_saved.specs.declared.address.TheConstants.{ADDRESS_MAX}
use Rattle.sms_saved.specs.declared.state.Key.{Key}
use Rattle.sms_saved.specs.declared.state.Remembered.{Remembered}
use Rattle.sms_saved.specs.Value.{UnitsValue, SetValue, StateValue, maximum_of}
use Rattle.sms_saved.specs.Spelling.{key}

pub record LimitsFit (l : Limits) : Type 0 where
  pub sets : l.sets < 2 ^ 64
  pub keys : l.keys < 2 ^ 64
  pub age_of_sets : l.age_of_sets < 2 ^ 64
  pub age_of_keys : IfSome l.age_of_keys (λ n. n < 2 ^ 64)

abbrev pub MessageFits : Message → Type 0
MessageFits (Single stamp) = length stamp ≡ 7
MessageFits (Segmented width reference maximum) = (reference < 2 ^ 16) × (maximum < 2 ^ 8)

abbrev pub AddressFits : List ℕ → Type 0
AddressFits octets = length octets ≤ ADDRESS_MAX

pub record KeyFits (k : Key) : Type 0 where
  pub origin : AddressFits k.origin
  pub recipient : IfSome k.recipient AddressFits
  pub message : MessageFits k.message

-- septets are below 128
abbrev pub unit_limit : Bool → ℕ
unit_limit false = 2 ^ 7
unit_limit true = 2 ^ 16

pub record UnitsFit (u : UnitsValue) : Type 0 where
  pub count : length u.numbers < 2 ^ 64
  pub each : AllByRecursion (λ n. n < unit_limit u.is_wide) u.numbers

abbrev pub has_come : Option UnitsValue → Bool
has_come None = false
has_come (Some units) = true

abbrev pub is_missing : Option UnitsValue → Bool
is_missing None = true
is_missing (Some units) = false

-- some of the pieces have come, and some have not
abbrev pub is_open : List (Option UnitsValue) → Bool
is_open places = list_any has_come places && list_any is_missing places

pub record SetFits (s : SetValue) : Type 0 where
  pub key : KeyFits s.key
  pub moment : s.moment < 2 ^ 64
  pub opening : s.opening < 2 ^ 64
  -- a place for each piece
  pub count : length s.places ≡ maximum_of s.key.message
  pub places : AllByRecursion (λ p. IfSome p UnitsFit) s.places
  pub is_open : is_open s.places ≡ true

pub record RememberedFits (r : Remembered) : Type 0 where
  pub key : KeyFits r.key
  pub moment : r.moment < 2 ^ 64

-- The numbers of the openings rise strictly from low on, and are below next.
abbrev pub AreRising : (low next : ℕ) → List SetValue → Type 0
AreRising low next [] = Unit {0}
AreRising low next (s ∷ sets) =
    (low ≤ s.opening) × (s.opening < next) × AreRising (s.opening + 1) next sets

-- whether one of these is this
abbrev pub is_among : List (List ℕ) → List ℕ → Bool
is_among texts text = list_any (bytes_eq text) texts

-- None of the second list is among those before it, of which the first list has the first.
abbrev pub AreApart : (before texts : List (List ℕ)) → Type 0
AreApart before [] = Unit {0}
AreApart before (text ∷ texts) =
    (is_among before text ≡ false) × AreApart (before ++ text ∷ []) texts

-- the keys of open sets, as their octets
abbrev pub set_keys : List SetValue → List (List ℕ)
set_keys sets = map (λ s. key s.key) sets

-- the keys of finished messages
abbrev pub remembered_keys : List Remembered → List (List ℕ)
remembered_keys keys = map (λ r. key r.key) keys

pub record StateFits (s : StateValue) : Type 0 where
  pub limits : LimitsFit s.limits
  pub taken : s.taken < 2 ^ 64
  pub next : s.next < 2 ^ 64
  -- no more than the limits say
  pub sets_count : length s.sets ≤ s.limits.sets
  pub sets : AllByRecursion SetFits s.sets
  pub rise : AreRising 0 s.next s.sets
  pub keys_count : length s.keys ≤ s.limits.keys
  pub keys : AllByRecursion RememberedFits s.keys
  -- No key twice, be it of an open set or of a finished message.
  pub apart : AreApart [] (set_keys s.sets ++ remembered_keys s.keys)

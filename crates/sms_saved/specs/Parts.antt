-- A state in parts: what stands before its remembered keys, these, and the checksum.
use Rattle.std.specs.Prelude.{◌≡◌, ℕ, ◌-◌, ◌<◌, ◌≤◌, ◌^◌, Bool, List, [], ◌++◌, length, take, drop, Ok}
use Rattle.std.specs.List.{AllByRecursion, flat_map}
use Rattle.std.specs.Str.{bytes_eq}
use Rattle.sms_saved.specs.declared.parts.Front.{Front}
use Rattle.sms_saved.specs.declared.state.Limits.{Limits}
use Rattle.sms_saved.specs.declared.state.Remembered.{Remembered}
use Rattle.sms_saved.specs.Value.{SetValue, StateValue, view_sets}
use Rattle.sms_saved.specs.Fits.{LimitsFit, SetFits, RememberedFits, StateFits, AreRising, AreApart, set_keys, remembered_keys}
use Rattle.sms_saved.specs.Spelling.{eight, counted, set, remembered, front, digest, spelling}
use Rattle.sms_saved.specs.Reading.Whole.{state_at}

pub record FrontValue : Type 0 where
  pub taken : ℕ
  pub next : ℕ
  pub sets : List SetValue
  -- how many keys are remembered
  pub count : ℕ
  -- the octets from the first of them on
  pub rest : List ℕ

abbrev pub view_front : Front → FrontValue
view_front f =
    record {
      taken = f.taken;
      next = f.next;
      sets = view_sets f.sets.items;
      count = f.count;
      rest = f.rest.now;
    }

-- The octets begin as a state of a joiner with these limits.
pub record IsFront (own : Limits) (bytes : List ℕ) (f : FrontValue) : Type 0 where
  pub octets : bytes ≡ front own f.taken f.next ++ counted set f.sets ++ eight f.count ++ f.rest
  pub limits : LimitsFit own
  pub taken : f.taken < 2 ^ 64
  pub next : f.next < 2 ^ 64
  pub sets_count : length f.sets ≤ own.sets
  pub sets : AllByRecursion SetFits f.sets
  pub rise : AreRising 0 f.next f.sets
  pub apart : AreApart [] (set_keys f.sets)
  pub count : f.count ≤ own.keys

-- how many octets stand before a checksum, of so many with it
abbrev pub unsealed : List ℕ → ℕ
unsealed bytes = length bytes - 32

-- whether the last 32 octets are the checksum of those before them
abbrev pub is_sealed : List ℕ → Bool
is_sealed bytes = bytes_eq (drop (unsealed bytes) bytes) (digest (take (unsealed bytes) bytes))

-- Behind the front stand these keys, as many as it says, and then the checksum of all. No key stands
-- twice, nor is one that of an open set.
pub record HasKeys (bytes : List ℕ) (f : FrontValue) (keys : List Remembered) : Type 0 where
  pub octets : f.rest ≡ flat_map remembered keys ++ digest (take (unsealed bytes) bytes)
  pub count : length keys ≡ f.count
  pub fit : AllByRecursion RememberedFits keys
  pub apart : AreApart (set_keys f.sets) (remembered_keys keys)

-- the state of these parts
abbrev pub state_of : Limits → FrontValue → List Remembered → StateValue
state_of own f keys =
    record { limits = own; taken = f.taken; next = f.next; sets = f.sets; keys = keys }

-- The octets spell this state of a joiner with these limits, and are read as it.
pub record AreRead (own : Limits) (bytes : List ℕ) (s : StateValue) : Type 0 where
  pub fits : StateFits s
  pub limits : s.limits ≡ own
  pub spelled : bytes ≡ spelling s
  pub read : state_at own bytes ≡ Ok s

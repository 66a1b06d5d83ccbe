-- What the code of the centre holds, as contracts see it.
use Rattle.std.specs.Prelude.{ℕ, Bool, nat_lt, List, map, Option}
use Rattle.std.specs.List.{filter}
use Rattle.sms_field.specs.Address.Value.{AddressValue}
use Rattle.sms_tpdu.specs.Submit.{Submission}
use Rattle.sms_message.specs.declared.message.Tag.{Tag}
use Rattle.sms_centre.specs.declared.centre.held.HeldKey.{HeldKey}
use Rattle.sms_centre.specs.declared.centre.held.Ending.{Ending}
use Rattle.sms_centre.specs.contracts.centre.held.HeldKeyPartialEq.TheImpl as derived
use Rattle.sms_centre.specs.declared.centre.waiting.Push.{Push}

-- A message that is to be delivered, with the address of its originator.
pub record WaitingValue : Type 0 where
  pub origin : AddressValue
  pub submission : Submission
  pub stamp : ℕ
  pub ends : ℕ

pub record LineValue : Type 0 where
  pub address : AddressValue
  -- in order of its latest acceptance or push
  pub queue : List WaitingValue
  -- no stamp below this one is given
  pub free : ℕ
  -- of the next push
  pub next : Tag
  -- until it is answered
  pub latest : Option Push

-- what `==` answers for keys of held messages
abbrev pub key_eq : HeldKey → HeldKey → Bool
key_eq = (derived.ghosts).eq

pub record HeldValue : Type 0 where
  -- of the held messages, the earliest first
  pub endings : List Ending
  -- each ending with the key of its message, in the same order
  pub messages : List (Ending × HeldKey)
  -- for each of their keys the greatest end of those that have it
  pub last : List (HeldKey × ℕ)

pub record HoldingsValue : Type 0 where
  pub held : HeldValue
  -- one for each phone
  pub lines : List LineValue

pub record CentreValue : Type 0 where
  pub limit : ℕ
  pub held : HeldValue
  -- one for each phone
  pub lines : List LineValue

abbrev pub addresses : List LineValue → List AddressValue
addresses lines = map (λ line. line.address) lines

-- the addresses of the phones
abbrev pub phones_of : CentreValue → List AddressValue
phones_of v = addresses v.lines

-- ---- what is left at a moment

abbrev pub endings_after : ℕ → List Ending → List Ending
endings_after now endings = filter (λ e. nat_lt now e.end) endings

abbrev pub waiting_at : ℕ → List WaitingValue → List WaitingValue
waiting_at now queue = filter (λ m. nat_lt now m.ends) queue

abbrev pub line_at : ℕ → LineValue → LineValue
line_at now line = record line { queue = waiting_at now line.queue }

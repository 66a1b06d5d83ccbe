-- What a receiving phone holds. The lists have the newest first.
use Rattle.std.specs.Prelude.{ℕ, List, []}
use Rattle.sms_field.specs.Address.Value.{AddressValue}
use Rattle.sms_join.specs.Joiner.{Joiner, new_joiner}
use Rattle.sms_join.specs.Arrivals.{Arrival}

-- A text of the store: whom it is from, and its characters.
pub record Entry : Type 0 where
  -- TP-OA
  pub origin : AddressValue
  pub characters : List ℕ

-- How many sets may be open, how many keys are remembered, how many texts may be stored.
pub record ReceiverLimits : Type 0 where
  pub open_max : ℕ
  pub remembered : ℕ
  pub store : ℕ

abbrev pub limits_of : ℕ → ℕ → ℕ → ReceiverLimits
limits_of open_max remembered store =
    record { open_max = open_max; remembered = remembered; store = store }

pub record ReceiverState : Type 0 where
  -- the pieces of messages that are not whole, and the keys of those that finished last
  pub joiner : Joiner
  pub store : List Entry
  -- the pieces of typed texts that were taken: nothing that the phone does rests on them
  pub taken : List Arrival

unfoldable pub new_receiver : ReceiverState
new_receiver = record { joiner = new_joiner; store = []; taken = [] }

-- What is to stand in a phone's store.
use Rattle.std.specs.Prelude.{ℕ, List, [], map, Option, Some, None}
use Rattle.sms_field.specs.Address.Value.{AddressValue}
use Rattle.sms_message.specs.Address.{address_of}
use Rattle.sms_party.specs.Sent.{nth}
use Rattle.sms_party.specs.Sender.Texts.{Text}
use Rattle.sms_party.specs.Receiver.State.{Entry}
use Rattle.sms_world.specs.Machine.{Machine}
use Rattle.sms_world.specs.Texts.Finished.{finished}

-- A text as it was typed: the address of the phone that it was typed at, and its characters.
abbrev pub entry_in : List AddressValue → Option Text → Entry
entry_in phones None = record { origin = address_of [] 0; characters = [] }
entry_in phones (Some t) = record { origin = address_of phones t.phone; characters = t.characters }

-- Each text that has finished at the phone, in order of completion, the one that was completed last
-- first.
unfoldable pub stands : Machine → ℕ → List Entry
stands m phone = map (λ n. entry_in m.phones (nth m.senders.texts n)) (finished m phone)

-- What holds of messages and packets, whatever they are.
use Rattle.std.specs.Prelude.{◌≡◌, ℕ, List}
use Rattle.sms_text.specs.Octets.{IsOctets}
use Rattle.sms_message.specs.declared.message.Message.{Message}
use Rattle.sms_message.specs.Message.Carrying.{Carries}
use Rattle.sms_message.specs.Message.Reading.{ReadsAs}

abbrev pub EachIsRead : Type 0
EachIsRead = (octets : List ℕ) → IsOctets octets → (message : Message) × ReadsAs octets message

abbrev pub OneMessageIsRead : Type 0
OneMessageIsRead =
    (octets : List ℕ) (m n : Message) → IsOctets octets
    → ReadsAs octets m → ReadsAs octets n → n ≡ m

abbrev pub CarriedIsRead : Type 0
CarriedIsRead = (packet : List ℕ) (m : Message) → Carries packet m → ReadsAs packet m

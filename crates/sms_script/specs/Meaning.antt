-- What a line of a script means, or the first reason for which it means nothing.
pub mod Commands
pub mod Known
pub mod Limits
pub mod Memory
use Rattle.std.specs.Prelude.{◌≡◌, ◌≤◌, ◌-◌, ℕ, List, [], ◌∷◌, length, Bool, true, false, ◌&&◌, ◌||◌, not, nat_lt, position, Result, Ok, Err, if◌then◌else◌, ◌==◌}
use Rattle.std.specs.List.{list_any}
use Rattle.std.specs.Str.{bytes_eq, is_utf8}
use Rattle.sms_field.specs.Address.Value.{AddressValue}
use Rattle.sms_field.specs.Address.Same.{same_address}
use Rattle.sms_field.specs.Time.Computed.{end_of_2099}
use Rattle.sms_script.specs.declared.fault.ScriptFault.{ScriptFault}
use Rattle.sms_script.specs.declared.fault.ScriptFault.TheVariants.{NotUtf8, SettingAfterEvent, BadName, BadAddress, UnknownPhone, NameTaken, AddressTaken, TooManyPhones}
use Rattle.sms_script.specs.declared.meaning.command.Command.{Command}
use Rattle.sms_script.specs.declared.meaning.command.Command.TheVariants as commands
use Rattle.sms_script.specs.declared.meaning.event.Event.{Event}
use Rattle.sms_script.specs.declared.meaning.event.Event.TheVariants.{Compose, Carry, Timeout, Push, Tick, Inject}
use Rattle.sms_script.specs.declared.meaning.known.TheConstants.{PHONE_LIMIT}
use Rattle.sms_script.specs.declared.meaning.statement.Limit.{Limit}
use Rattle.sms_script.specs.declared.meaning.statement.Limit.TheVariants as limits
use Rattle.sms_script.specs.declared.meaning.statement.Statement.{Statement}
use Rattle.sms_script.specs.declared.meaning.statement.Statement.TheVariants as statements
use Rattle.sms_script.specs.Reasons.{◌>>=◌, ◌>>◌, demand, some_or}
use Rattle.sms_script.specs.Words.{words, no_word, one_word, two_words, two_words_and_text}
use Rattle.sms_script.specs.Words.Numbers.{in_range}
use Rattle.sms_script.specs.Words.Names.{is_name}
use Rattle.sms_script.specs.Words.Addresses.{address, can_be_phone}
use Rattle.sms_script.specs.Words.Hexadecimal.{hexadecimal}
use Rattle.sms_script.specs.Meaning.Commands.{command, is_setting}
use Rattle.sms_script.specs.Meaning.Known.{KnownValue, IsNew}
use Rattle.sms_script.specs.Meaning.Limits.{greatest}

-- the greatest number of ten digits
abbrev pub greatest_number : ℕ
greatest_number = 9999999999

-- the last second at which a clock can stand
abbrev pub last_second : ℕ
last_second = end_of_2099 - 1

-- the phone of this name, counted from 0
abbrev pub phone : KnownValue → List ℕ → Result ℕ ScriptFault
phone known word = do
  demand (is_name word) BadName
  some_or (position (bytes_eq word) known.names) UnknownPhone

-- a name that no phone has
abbrev pub new_name : KnownValue → List ℕ → Result (List ℕ) ScriptFault
new_name known word = do
  demand (is_name word) BadName
  demand (not (list_any (bytes_eq word) known.names)) NameTaken
  Ok word

-- the address of a phone, which no other phone has
abbrev pub new_address : KnownValue → List ℕ → Result AddressValue ScriptFault
new_address known word = do
  a ← address word
  demand (can_be_phone a) BadAddress
  demand (not (list_any (λ b. same_address b a) known.addresses)) AddressTaken
  Ok a

-- `held`, `open`, `remembered`, `store`: one number
abbrev pub limit : Limit → List (List ℕ) → Result Statement ScriptFault
limit which rest = do
  word ← one_word rest
  n ← in_range 1 (greatest which) word
  Ok (statements.Limit which n)

-- `clock`: one number
abbrev pub clock : List (List ℕ) → Result Statement ScriptFault
clock rest = do
  word ← one_word rest
  n ← in_range 0 last_second word
  Ok (statements.Clock n)

-- `brief`, `wide`, `reject`: no word
abbrev pub switch : Statement → List (List ℕ) → Result Statement ScriptFault
switch statement rest = do
  no_word rest
  Ok statement

-- `phone`: a name and an address
abbrev pub new_phone : KnownValue → List (List ℕ) → Result Statement ScriptFault
new_phone known rest = do
  both ← two_words rest
  name ← new_name known both.0
  a ← new_address known both.1
  demand (nat_lt (length known.addresses) PHONE_LIMIT) TooManyPhones
  Ok (statements.Phone (record { name = name; address = a }))

-- `type`: a phone, an address and a text
abbrev pub typing : KnownValue → List (List ℕ) → Result Statement ScriptFault
typing known rest = do
  all ← two_words_and_text rest
  p ← phone known all.0
  a ← address all.1
  Ok (statements.Event (Compose p a all.2))

-- `carry`, `tick`: one number
abbrev pub event_number : List (List ℕ) → Result ℕ ScriptFault
event_number rest = do
  word ← one_word rest
  in_range 0 greatest_number word

abbrev pub number_event : (ℕ → Event) → List (List ℕ) → Result Statement ScriptFault
number_event event rest = do
  n ← event_number rest
  Ok (statements.Event (event n))

-- `timeout`, `push`: one phone
abbrev pub one_phone : KnownValue → List (List ℕ) → Result ℕ ScriptFault
one_phone known rest = do
  word ← one_word rest
  phone known word

abbrev pub phone_event : KnownValue → (ℕ → Event) → List (List ℕ) → Result Statement ScriptFault
phone_event known event rest = do
  p ← one_phone known rest
  Ok (statements.Event (event p))

-- `inject up`, `inject down`: a phone and octets
abbrev pub injection : KnownValue → Bool → List (List ℕ) → Result Statement ScriptFault
injection known up rest = do
  both ← two_words rest
  p ← phone known both.0
  octets ← hexadecimal both.1
  Ok (statements.Event (Inject up p octets))

-- what the words after a command say
unfoldable pub said : KnownValue → Command → List (List ℕ) → Result Statement ScriptFault
said known commands.Held rest = limit limits.Held rest
said known commands.Open rest = limit limits.Open rest
said known commands.Remembered rest = limit limits.Remembered rest
said known commands.Store rest = limit limits.Store rest
said known commands.Clock rest = clock rest
said known commands.Brief rest = switch statements.Brief rest
said known commands.Wide rest = switch statements.Wide rest
said known commands.Reject rest = switch statements.Reject rest
said known commands.Phone rest = new_phone known rest
said known commands.Compose rest = typing known rest
said known commands.Carry rest = number_event Carry rest
said known commands.Timeout rest = phone_event known Timeout rest
said known commands.Push rest = phone_event known Push rest
said known commands.Tick rest = number_event Tick rest
said known (commands.Inject up) rest = injection known up rest

-- empty lines, and lines that begin with `#`, do nothing
abbrev pub is_comment : List ℕ → Bool
is_comment [] = true
is_comment (c ∷ more) = c == 35

-- what a line of words says
abbrev pub said_by_words : KnownValue → List (List ℕ) → Result Statement ScriptFault
said_by_words known line = do
  found ← command line
  demand (not (is_setting found.0 && known.is_running)) SettingAfterEvent
  said known found.0 found.1

abbrev pub in_utf8 : List ℕ → Result (List ℕ) ScriptFault
in_utf8 line = do
  demand (is_utf8 line) NotUtf8
  Ok line

-- what a line means, after lines that told what is known
abbrev pub meaning : KnownValue → List ℕ → Result Statement ScriptFault
meaning known line = do
  text ← in_utf8 line
  if is_comment text then Ok statements.Nothing else said_by_words known (words text)

-- a limit is from 1 to the greatest, and a phone is new
abbrev pub Fits : KnownValue → Statement → Type 0
Fits known (statements.Limit which n) = (1 ≤ n) × (n ≤ greatest which)
Fits known (statements.Phone phone) = IsNew known phone
Fits known _ = Unit {0}

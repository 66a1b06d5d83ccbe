-- What a line means fits what is known.
use Rattle.std.proofs.Common.{◌≡◌, ◌≤◌, ℕ, List, length, Bool, true, false, Result, Ok, Err, Some, None, refl, subst, not, ◌&&◌, cond, ◌∙◌}
use Rattle.std.specs.List.{list_any}
use Rattle.std.specs.Prelude.{nat_lt, nat_le, IfOk}
use Rattle.std.specs.Str.{bytes_eq}
use Rattle.std.proofs.lemmas.Bool.{ltb-true, leb-true}
use Rattle.sms_field.specs.Address.Value.{AddressValue}
use Rattle.sms_field.specs.Address.Same.{same_address}
use Rattle.sms_script.specs.Meaning.{phone, new_name, new_address, limit, new_phone, said, event_number, one_phone, said_by_words, last_second, Fits}
use Rattle.sms_script.specs.Meaning.Commands.{command, is_setting}
use Rattle.sms_script.specs.Meaning.Known.{KnownValue}
use Rattle.sms_script.specs.declared.meaning.known.TheConstants.{PHONE_LIMIT}
use Rattle.sms_script.specs.Meaning.Limits.{greatest}
use Rattle.sms_script.specs.Reasons.{◌>>=◌, ◌>>◌, demand, some_or, Gives}
use Rattle.sms_script.specs.declared.fault.MeaningFault.{MeaningFault}
use Rattle.sms_script.specs.Words.{no_word, one_word, two_words, two_words_and_text}
use Rattle.sms_script.specs.Words.Addresses.{address, can_be_phone}
use Rattle.sms_script.specs.Words.Hexadecimal.{hexadecimal}
use Rattle.sms_script.specs.Words.Names.{is_name}
use Rattle.sms_script.specs.Words.Numbers.{in_range, is_number, is_within, value}
use Rattle.sms_script.specs.declared.fault.ScriptFault.{ScriptFault}
use Rattle.sms_script.specs.declared.fault.ScriptFault.TheVariants.{SettingAfterEvent, BadName, BadAddress, BadNumber, NameTaken, AddressTaken, TooManyPhones}
use Rattle.sms_script.specs.declared.meaning.command.Command.{Command}
use Rattle.sms_script.specs.declared.meaning.command.Command.TheVariants as commands
use Rattle.sms_script.specs.declared.meaning.event.Event.TheVariants as events
use Rattle.sms_script.specs.declared.meaning.statement.Limit.{Limit}
use Rattle.sms_script.specs.declared.meaning.statement.Limit.TheVariants as limits
use Rattle.sms_script.specs.declared.meaning.statement.Statement.{Statement}
use Rattle.sms_script.specs.declared.meaning.statement.Statement.TheVariants as statements

-- a step that answered, and what follows it
pub bound : {A B : Type 0} (P : B → Type 0) (r : Result A ScriptFault) (f : A → Result B ScriptFault)
    → ((x : A) (y : B) → r ≡ Ok x → f x ≡ Ok y → P y) → (y : B) → (r >>= f) ≡ Ok y → P y
bound P (Ok x) f k y e = k x y refl e
bound P (Err why) f k y e = cc

-- a demand that was met, and what follows it
pub demanded : {B : Type 0} (P : B → Type 0) (test : Bool) (why : ScriptFault) (r : Result B ScriptFault)
    → ((y : B) → test ≡ true → r ≡ Ok y → P y) → (y : B) → (demand test why >> r) ≡ Ok y → P y
demanded P true why r k y e = k y refl e
demanded P false why r k y e = cc

abbrev pub says : Statement → Result Statement ScriptFault
says st = Ok st

and-true : (a b : Bool) → (a && b) ≡ true → (a ≡ true) × (b ≡ true)
and-true true b e = (refl, e)
and-true false b e = cc

not-true : (b : Bool) → not b ≡ true → b ≡ false
not-true true e = cc
not-true false e = refl

-- a number in range
range_fits : (low high : ℕ) (word : List ℕ) (n : ℕ) → in_range low high word ≡ Ok n → (low ≤ n) × (n ≤ high)
range_fits low high word n e = by_test (is_number word) (is_within low high (value word)) refl e
  where
    both : (b : Bool) → is_within low high (value word) ≡ b → b ≡ true → (low ≤ value word) × (value word ≤ high)
    both b is t = let q = and-true (nat_le low (value word)) (nat_le (value word) high) (is ∙ t) in (leb-true _ _ q.0, leb-true _ _ q.1)

    by_test : (a b : Bool) → is_within low high (value word) ≡ b → some_or (cond (a && b) (Some (value word)) None) BadNumber ≡ Ok n → (low ≤ n) × (n ≤ high)
    by_test true true is k = let q : value word ≡ n = cc in rw (← q) (both true is refl)
    by_test true false is k = cc
    by_test false true is k = cc
    by_test false false is k = cc

limit_fits : (known : KnownValue) (which : Limit) (rest : List (List ℕ)) (st : Statement) → limit which rest ≡ says st → Fits known st
limit_fits known which rest st e =
    bound (Fits known) (one_word rest) _ (λ word s o k.
    bound (Fits known) (in_range 1 (greatest which) word) _ (λ n t r l.
    let q : statements.Limit which n ≡ t = cc in subst (Fits known) q (range_fits 1 (greatest which) word n r)) s k) st e

-- a statement that asks for nothing
free : (known : KnownValue) (st other : Statement) → Fits known st → says st ≡ says other → Fits known other
free known st other h e = let q : st ≡ other = cc in subst (Fits known) q h

name_fits : (known : KnownValue) (word name : List ℕ) → new_name known word ≡ Ok name → list_any (bytes_eq name) known.names ≡ false
name_fits known word name e =
    demanded (λ n. list_any (bytes_eq n) known.names ≡ false) (is_name word) BadName _ (λ n t k.
    demanded (λ m. list_any (bytes_eq m) known.names ≡ false) (not (list_any (bytes_eq word) known.names)) NameTaken _ (λ m u l.
    let q : word ≡ m = cc in rw (← q) (not-true _ u)) n k) name e

address_fits : (known : KnownValue) (word : List ℕ) (a : AddressValue) → new_address known word ≡ Ok a → list_any (λ b. same_address b a) known.addresses ≡ false
address_fits known word a e =
    bound (λ x. list_any (λ b. same_address b x) known.addresses ≡ false) (address word) _ (λ x y o k.
    demanded (λ z. list_any (λ b. same_address b z) known.addresses ≡ false) (can_be_phone x) BadAddress _ (λ z t l.
    demanded (λ v. list_any (λ b. same_address b v) known.addresses ≡ false) (not (list_any (λ b. same_address b x) known.addresses)) AddressTaken _ (λ v u m.
    let q : x ≡ v = cc in rw (← q) (not-true _ u)) z l) y k) a e

phone_fits : (known : KnownValue) (rest : List (List ℕ)) (st : Statement) → new_phone known rest ≡ says st → Fits known st
phone_fits known rest st e =
    bound (Fits known) (two_words rest) _ (λ both s o k.
    bound (Fits known) (new_name known both.0) _ (λ name t n l.
    bound (Fits known) (new_address known both.1) _ (λ a u x m.
    demanded (Fits known) (nat_lt (length known.addresses) PHONE_LIMIT) TooManyPhones _ (λ v few w.
    free known (statements.Phone (record { name = name; address = a })) v
    (name_fits known both.0 name n, address_fits known both.1 a x, ltb-true _ _ few) w) u m) t l) s k) st e

-- a step that gave nothing, and what follows it
followed : {B : Type 0} (P : B → Type 0) (r : Result (Unit {0}) ScriptFault) (next : Result B ScriptFault) → ((y : B) → next ≡ Ok y → P y) → (y : B) → (r >> next) ≡ Ok y → P y
followed P (Ok done) next k y e = k y e
followed P (Err why) next k y e = cc

said_fits : (known : KnownValue) (c : Command) (rest : List (List ℕ)) (st : Statement) → said known c rest ≡ says st → Fits known st
unfolding said
said_fits known commands.Held rest st e = limit_fits known limits.Held rest st e
said_fits known commands.Open rest st e = limit_fits known limits.Open rest st e
said_fits known commands.Remembered rest st e = limit_fits known limits.Remembered rest st e
said_fits known commands.Store rest st e = limit_fits known limits.Store rest st e
said_fits known commands.Clock rest st e =
    bound (Fits known) (one_word rest) _ (λ word s o k. bound (Fits known) (in_range 0 last_second word) _ (λ n t r l. free known (statements.Clock n) t tt l) s k) st e
said_fits known commands.Brief rest st e = followed (Fits known) (no_word rest) _ (λ s k. free known statements.Brief s tt k) st e
said_fits known commands.Wide rest st e = followed (Fits known) (no_word rest) _ (λ s k. free known statements.Wide s tt k) st e
said_fits known commands.Reject rest st e = followed (Fits known) (no_word rest) _ (λ s k. free known statements.Reject s tt k) st e
said_fits known commands.Phone rest st e = phone_fits known rest st e
said_fits known commands.Compose rest st e =
    bound (Fits known) (two_words_and_text rest) _ (λ all s o k. bound (Fits known) (phone known all.0) _ (λ p t q l. bound (Fits known) (address all.1) _ (λ a u r m. free known (statements.Event (events.Compose p a all.2)) u tt m) t l) s k) st e
said_fits known commands.Carry rest st e = bound (Fits known) (event_number rest) _ (λ n s o k. free known (statements.Event (events.Carry n)) s tt k) st e
said_fits known commands.Timeout rest st e = bound (Fits known) (one_phone known rest) _ (λ p s o k. free known (statements.Event (events.Timeout p)) s tt k) st e
said_fits known commands.Push rest st e = bound (Fits known) (one_phone known rest) _ (λ p s o k. free known (statements.Event (events.Push p)) s tt k) st e
said_fits known commands.Tick rest st e = bound (Fits known) (event_number rest) _ (λ n s o k. free known (statements.Event (events.Tick n)) s tt k) st e
said_fits known (commands.Inject up) rest st e =
    bound (Fits known) (two_words rest) _ (λ both s o k. bound (Fits known) (phone known both.0) _ (λ p t q l. bound (Fits known) (hexadecimal both.1) _ (λ octets u r m. free known (statements.Event (events.Inject up p octets)) u tt m) t l) s k) st e

words_fit : (known : KnownValue) (line : List (List ℕ)) (st : Statement) → said_by_words known line ≡ says st → Fits known st
words_fit known line st e =
    bound (Fits known) (command line) _ (λ found t o l.
    demanded (Fits known) (not (is_setting found.0 && known.is_running)) SettingAfterEvent _ (λ u m n. said_fits known found.0 found.1 u n) t l) st e

-- what was answered for words fits what is known
pub answer_fits : (may : Result Statement ScriptFault → Type 0) (known : KnownValue) (line : List (List ℕ)) (answer : Result Statement MeaningFault) → Gives may (λ st. st) answer (said_by_words known line) → IfOk answer (λ st. Fits known st)
answer_fits may known line (Ok st) e = words_fit known line st e
answer_fits may known line (Err fault) e = tt

-- After an event no setting is said.
use Rattle.std.proofs.Common.{◌≡◌, ℕ, List, Bool, true, false, refl, inl, inr, ◌⊎◌, not, ◌&&◌, cond}
use Rattle.sms_script.proofs.FitLemmas.{says, bound}
use Rattle.sms_script.specs.Meaning.{said, event_number, one_phone, phone, in_utf8, is_comment, said_by_words, meaning}
use Rattle.sms_script.specs.Meaning.Commands.{command, is_setting}
use Rattle.sms_script.specs.Meaning.Known.{KnownValue}
use Rattle.sms_script.specs.Reasons.{◌>>◌, demand}
use Rattle.sms_script.specs.Words.{words, two_words, two_words_and_text}
use Rattle.sms_script.specs.Words.Addresses.{address}
use Rattle.sms_script.specs.Words.Hexadecimal.{hexadecimal}
use Rattle.sms_script.specs.declared.fault.ScriptFault.TheVariants.{SettingAfterEvent}
use Rattle.sms_script.specs.declared.meaning.command.Command.{Command}
use Rattle.sms_script.specs.declared.meaning.command.Command.TheVariants as commands
use Rattle.sms_script.specs.declared.meaning.event.Event.{Event}
use Rattle.sms_script.specs.declared.meaning.event.Event.TheVariants.{Compose, Carry, Timeout, Push, Tick, Inject}
use Rattle.sms_script.specs.declared.meaning.statement.Statement.{Statement}
use Rattle.sms_script.specs.declared.meaning.statement.Statement.TheVariants as statements

-- an event, or nothing
abbrev pub IsNoSetting : Statement → Type 0
IsNoSetting st = (st ≡ statements.Nothing) ⊎ ((event : Event) × (st ≡ statements.Event event))

is_event : (event : Event) (st : Statement) → says (statements.Event event) ≡ says st → IsNoSetting st
is_event event st e = let h : st ≡ statements.Event event = cc in inr (event, h)

said_event : (known : KnownValue) (c : Command) (rest : List (List ℕ)) (st : Statement) → is_setting c ≡ false → said known c rest ≡ says st → IsNoSetting st
unfolding said
said_event known commands.Held rest st h e = cc
said_event known commands.Open rest st h e = cc
said_event known commands.Remembered rest st h e = cc
said_event known commands.Store rest st h e = cc
said_event known commands.Clock rest st h e = cc
said_event known commands.Brief rest st h e = cc
said_event known commands.Wide rest st h e = cc
said_event known commands.Reject rest st h e = cc
said_event known commands.Phone rest st h e = cc
said_event known commands.Compose rest st h e =
    bound IsNoSetting (two_words_and_text rest) _ (λ all s o k. bound IsNoSetting (phone known all.0) _ (λ p t q l. bound IsNoSetting (address all.1) _ (λ a u r m. is_event (Compose p a all.2) u m) t l) s k) st e
said_event known commands.Carry rest st h e = bound IsNoSetting (event_number rest) _ (λ n t o k. is_event (Carry n) t k) st e
said_event known commands.Timeout rest st h e = bound IsNoSetting (one_phone known rest) _ (λ p t o k. is_event (Timeout p) t k) st e
said_event known commands.Push rest st h e = bound IsNoSetting (one_phone known rest) _ (λ p t o k. is_event (Push p) t k) st e
said_event known commands.Tick rest st h e = bound IsNoSetting (event_number rest) _ (λ n t o k. is_event (Tick n) t k) st e
said_event known (commands.Inject up) rest st h e =
    bound IsNoSetting (two_words rest) _ (λ both s o k. bound IsNoSetting (phone known both.0) _ (λ p t q l. bound IsNoSetting (hexadecimal both.1) _ (λ octets u r m. is_event (Inject up p octets) u m) t l) s k) st e

words_event : (known : KnownValue) (found : Command × List (List ℕ)) (st : Statement) → known.is_running ≡ true
    → (demand (not (is_setting found.0 && known.is_running)) SettingAfterEvent >> said known found.0 found.1) ≡ says st → IsNoSetting st
words_event known found st h e = by_test (is_setting found.0) refl
  where
    by_test : (b : Bool) → is_setting found.0 ≡ b → IsNoSetting st
    by_test false s = said_event known found.0 found.1 st s (rw s at e)
    by_test true s = let k = rw (s, h) at e in cc k

-- after an event a line is an event, or nothing
pub running_says : (known : KnownValue) (line : List ℕ) (st : Statement) → known.is_running ≡ true → meaning known line ≡ says st → IsNoSetting st
running_says known line st h e = bound IsNoSetting (in_utf8 line) _ (λ text s o k. by_comment (is_comment text) text s k) st e
  where
    by_comment : (b : Bool) (text : List ℕ) (s : Statement) → cond b (says statements.Nothing) (said_by_words known (words text)) ≡ says s → IsNoSetting s
    by_comment true text s k = let q : s ≡ statements.Nothing = cc in inl q
    by_comment false text s k = bound IsNoSetting (command (words text)) _ (λ found t o l. words_event known found t h l) s k

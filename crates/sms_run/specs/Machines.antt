-- What a script is played on.
use Rattle.std.specs.Prelude.{◌≡◌, ℕ, List, Option, None, Some, MatchOption}
use Rattle.sms_field.specs.Address.Value.{AddressValue}
use Rattle.sms_script.specs.Script.Settings.{SettingsValue}
use Rattle.sms_script.specs.declared.meaning.event.Event.{Event}
use Rattle.sms_script.specs.declared.meaning.event.Event.TheVariants.{Tick}
use Rattle.sms_script.specs.declared.script.limits.Limits.{Limits}

-- `Begins`: the machine that is made in this way begins with these limits and phones. `Steps`: an
-- event may lead from one machine to another, and answer this. `put_out`: how many packets were
-- ever put out.
pub record Conduct (M W A : Type 0) : Type 1 where
  pub Begins : W → Limits → List AddressValue → M → Type 0
  pub Steps : M → Event → A → M → Type 0
  pub put_out : M → ℕ

-- where the clock starts is a tick, which is neither counted nor told
abbrev pub Clocked : {M W A : Type 0} → Conduct M W A → Option ℕ → M → M → Type 0
Clocked c None first m = m ≡ first
Clocked {M} {W} {A} c (Some seconds) first m = (answer : A) × c.Steps first (Tick seconds) answer m

-- a machine before the first event of a script, made in this way
abbrev pub Starts : {M W A : Type 0} → Conduct M W A → W → SettingsValue → M → Type 0
Starts {M} c way s m =
    (first : M) × c.Begins way s.limits s.known.addresses first × Clocked c s.clock first m

-- the machine that there is, or one that starts as the script has set
abbrev pub Opens : {M W A : Type 0} → Conduct M W A → W → SettingsValue → Option M → M → Type 0
Opens c way s machine m = MatchOption machine (Starts c way s m) (λ there. m ≡ there)

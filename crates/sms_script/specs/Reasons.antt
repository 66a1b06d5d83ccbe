-- What words say, or the first reason for which they say nothing. In a definition by steps, the
-- order of the steps is the order of the reasons: each one after the first counts only where the
-- steps before it gave none.
use Rattle.std.specs.Prelude.{◌≡◌, Bool, true, false, Result, Ok, Err, Option, Some, None}
use Rattle.sms_script.specs.declared.fault.ScriptFault.{ScriptFault}
use Rattle.sms_script.specs.declared.fault.MeaningFault.{MeaningFault}
use Rattle.sms_script.specs.declared.fault.MeaningFault.TheVariants.{Memory, Script}

infixl 10 ◌>>=◌
abbrev pub ◌>>=◌ : {A B : Type 0} → Result A ScriptFault → (A → Result B ScriptFault)
    → Result B ScriptFault
(Ok x) >>= next = next x
(Err why) >>= next = Err why

infixl 10 ◌>>◌
abbrev pub ◌>>◌ : {B : Type 0} → Result (Unit {0}) ScriptFault → Result B ScriptFault
    → Result B ScriptFault
(Ok done) >> next = next
(Err why) >> next = Err why

-- nothing, where the test holds, and else this reason
abbrev pub demand : Bool → ScriptFault → Result (Unit {0}) ScriptFault
demand true why = Ok tt
demand false why = Err why

-- the value, or this reason where there is none
abbrev pub some_or : {A : Type 0} → Option A → ScriptFault → Result A ScriptFault
some_or (Some x) why = Ok x
some_or None why = Err why

-- what was answered is what the words say
abbrev pub Says : {A B : Type 0} → (A → B) → Result A ScriptFault → Result B ScriptFault → Type 0
Says view (Ok x) said = said ≡ Ok (view x)
Says view (Err why) said = said ≡ Err why

-- the same, or that memory ran out, where it may
abbrev pub Gives : {A B : Type 0} → (Result B ScriptFault → Type 0) → (A → B)
    → Result A MeaningFault → Result B ScriptFault → Type 0
Gives MayRunOut view (Ok x) said = said ≡ Ok (view x)
Gives MayRunOut view (Err (Script why)) said = said ≡ Err why
Gives MayRunOut view (Err Memory) said = MayRunOut said

-- What a call answers that hands something out, where that is known: what it is, or why there is
-- none.
use Rattle.std.specs.Prelude.{◌≡◌, ℕ, ◌⊎◌, List, Result, Ok, Err}
use Rattle.sms_c.specs.HandedOut.{OfText}
use Rattle.sms_c.specs.Status.{status_of}
use Rattle.sms_c.specs.declared.status.Failure.{Failure}
use Rattle.sms_c.specs.declared.status.Failure.TheVariants.{Memory, NoRoom}

-- it is handed out, or has no room; or else the status tells why there is none. Want of memory, 2,
-- may come before either
abbrev pub Answers : {T : Type 0} → Result T Failure → ℕ → Type 0
Answers (Ok _) status = (status ≡ 0) ⊎ ((status ≡ 3) ⊎ (status ≡ 2))
Answers (Err why) status = (status ≡ status_of why) ⊎ (status ≡ 2)

-- what becomes of a text, where there is one
abbrev pub OfTextIn : Result (List ℕ) Failure → (List ℕ → Type 0) → Type 0
OfTextIn (Ok text) Out = OfText text Out
OfTextIn (Err _) Out = ⊥

-- what becomes of octets, where there are some
abbrev pub OfOctetsIn : Result (List ℕ) Failure → (List ℕ → Type 0) → Type 0
OfOctetsIn (Ok octets) Out = Out octets
OfOctetsIn (Err _) Out = ⊥

-- what becomes of the octets that spell a value, where there is one
abbrev pub OfSpelling : {V : Type 0} → (V → List ℕ → Type 0) → Result V Failure
    → (List ℕ → Type 0) → Type 0
OfSpelling spells (Ok value) Out = (octets : List ℕ) × spells value octets × Out octets
OfSpelling spells (Err _) Out = ⊥

-- ---- before it is told as a status

abbrev pub Fails : {T : Type 0} → Result T Failure → Failure → Type 0
Fails (Ok _) got = (got ≡ NoRoom) ⊎ (got ≡ Memory)
Fails (Err why) got = (got ≡ why) ⊎ (got ≡ Memory)

abbrev pub AnswersSo : {T S : Type 0} → Result T Failure → Result S Failure → Type 0
AnswersSo (Ok _) (Ok _) = Unit {0}
AnswersSo (Err _) (Ok _) = ⊥
AnswersSo known (Err got) = Fails known got

-- What is dropped puts nothing out: where a party's answer is an error, there is no message.
use Rattle.std.proofs.Common.{◌≡◌, Bool, true, false, cond, List, [], Ok, Err}
use Rattle.sms_message.specs.Does.{Does}
use Rattle.sms_message.specs.declared.outcome.Outcome.{Outcome}
use Rattle.sms_message.specs.declared.outcome.Dropped.{Dropped}

abbrev pub DoesOrDrops : {S : Type 0} → Does S → Type 0
DoesOrDrops d = (why : Dropped) → d.answer ≡ Err why → d.put ≡ []

-- what was done was not dropped
pub not_dropped : {X : Type 0} (word : Outcome) (why : Dropped) (put : List X) → Ok word ≡ Err why → put ≡ []
not_dropped word why put e = absurd (let f : Ok word ≡ Err why = e in cc)

-- a test, whichever way it goes
pub either_drops : {S : Type 0} (b : Bool) (d e : Does S) → DoesOrDrops d → DoesOrDrops e → DoesOrDrops (cond b d e)
either_drops true d e h k = h
either_drops false d e h k = k

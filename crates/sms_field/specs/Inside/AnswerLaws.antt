-- A reader may pass this by: lemmas, for the proofs of this crate and of those above it.
--
-- What an answer by a test says.
use Rattle.std.proofs.Common.{◌≡◌, ℕ, Result, Ok, Err, inl, inr, refl, sym}
use Rattle.sms_field.specs.declared.refusal.Fault.{Fault}
use Rattle.sms_field.specs.Field.{octet_by}
use Rattle.sms_field.specs.Reading.Spot.{Spot}
use Rattle.sms_field.specs.Reading.Answer.{Sees, SeesAs, SeesBy}

-- a test that is a meaning, of a reader whose value contracts see in another way
pub sees_as_by_meaning : {X V W : Type 0} (view : X → V) (short : W) (test : ℕ → Result X W → Type 0) (meaning : ℕ → Result V W) (here next : Spot) (result : Result X (Fault W)) → SeesBy short test here result next → ((o : ℕ) (x : X) → test o (Ok x) → meaning o ≡ Ok (view x)) → ((o : ℕ) (why : W) → test o (Err why) → meaning o ≡ Err why) → SeesAs view (octet_by short meaning) here result next
sees_as_by_meaning view short test meaning here next (Ok x) p good bad = rw (p.1, good p.0 x p.2) refl
sees_as_by_meaning view short test meaning here next (Err fault) (inl p) good bad = rw p refl
sees_as_by_meaning view short test meaning here next (Err fault) (inr p) good bad = rw (p.1, p.2, bad p.0 fault.why p.3) refl

-- a test that is a meaning
pub sees_by_meaning : {V W : Type 0} (short : W) (test : ℕ → Result V W → Type 0) (meaning : ℕ → Result V W) (here next : Spot) (result : Result V (Fault W)) → SeesBy short test here result next → ((o : ℕ) (r : Result V W) → test o r → r ≡ meaning o) → Sees (octet_by short meaning) here result next
sees_by_meaning short test meaning here next (Ok v) p same = rw (p.1, sym (same p.0 (Ok v) p.2)) refl
sees_by_meaning short test meaning here next (Err fault) (inl p) same = rw p refl
sees_by_meaning short test meaning here next (Err fault) (inr p) same = rw (p.1, p.2, sym (same p.0 (Err fault.why) p.3)) refl

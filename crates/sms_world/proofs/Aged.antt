-- The clock moves for one phone after another.
use Rattle.std.proofs.Common.{◌≡◌, ℕ, zero, suc, ◌≤◌, List, [], ◌∷◌, length, Some, refl, sym, ◌∙◌, subst, arith}
use Rattle.std.specs.List.{slice_get}
use Rattle.std.proofs.Math.ListN.{set}
use Rattle.sms_centre.specs.Centre.Calls.{StandsLater}
use Rattle.sms_party.specs.Phone.{PhoneValue}
use Rattle.sms_party.specs.Receiver.Aging.{ages}
use Rattle.sms_party.specs.Sender.Stands.{SenderStands}
use Rattle.sms_party.specs.Sender.Texts.{size_of}
use Rattle.sms_party.specs.Sent.{nth}
use Rattle.sms_world.specs.Machine.Next.{receiver_limits, ticked}
use Rattle.sms_world.specs.World.Value.{PartiesValue}
use Rattle.sms_world.specs.Inside.Phones.{IsAged}
use Rattle.sms_world.specs.Inside.Parties.{MovesTo}

-- it has moved for the first ones, as many as given
abbrev pub AreAged : (now n : ℕ) → (old new : List PhoneValue) → Type 0
AreAged now zero old new = new ≡ old
AreAged now (suc n) [] [] = Unit {0}
AreAged now (suc n) (x ∷ old) (y ∷ new) = IsAged now x y × AreAged now n old new
AreAged now (suc n) _ _ = ⊥

pub one_more : (now n : ℕ) (old new : List PhoneValue) (x y : PhoneValue) → slice_get new n ≡ Some x → IsAged now x y → AreAged now n old new → AreAged now (suc n) old (set new n y)
one_more now zero old [] x y there a h = absurd cc
one_more now zero [] (z ∷ new) x y there a h = absurd cc
one_more now zero (w ∷ old) (z ∷ new) x y there a h =
    let is : z ≡ x = cc in
    let first : z ≡ w = cc in
    let rest : new ≡ old = cc in
    (subst (λ (k : PhoneValue). IsAged now k y) (sym is ∙ first) a, rest)
one_more now (suc n) [] [] x y there a h = absurd cc
one_more now (suc n) [] (z ∷ new) x y there a h = absurd h
one_more now (suc n) (w ∷ old) [] x y there a h = absurd h
one_more now (suc n) (w ∷ old) (z ∷ new) x y there a h = (h.0, one_more now n old new x y there a h.1)

-- in the end for all
record WasAged (now : ℕ) (old : List PhoneValue) (p : ℕ) (new : PhoneValue) : Type 0 where
  before : PhoneValue
  is_there : slice_get old p ≡ Some before
  aged : IsAged now before new

all_aged : (now n : ℕ) (old new : List PhoneValue) → length old ≤ n → AreAged now n old new → (p : ℕ) (y : PhoneValue) → slice_get new p ≡ Some y → WasAged now old p y
all_aged now zero [] [] le h p y e = absurd cc
all_aged now zero [] (z ∷ new) le h p y e = absurd cc
all_aged now zero (w ∷ old) new le h p y e = absurd (let l : suc (length old) ≤ 0 = le in omega (arith, l))
all_aged now (suc n) [] [] le h p y e = absurd cc
all_aged now (suc n) [] (z ∷ new) le h p y e = absurd h
all_aged now (suc n) (w ∷ old) [] le h p y e = absurd h
all_aged now (suc n) (w ∷ old) (z ∷ new) le h zero y e =
    let is : z ≡ y = cc in record { before = w; is_there = refl; aged = subst (λ (k : PhoneValue). IsAged now w k) is h.0 }
all_aged now (suc n) (w ∷ old) (z ∷ new) le h (suc p) y e =
    let l : length old ≤ n = omega (arith, le) in
    let was = all_aged now n old new l h.1 p y e in record { before = was.before; is_there = was.is_there; aged = was.aged }

pub moves : (now n : ℕ) (v new : PartiesValue) → StandsLater now v.centre new.centre → length new.phones ≡ length v.phones → length v.phones ≤ n → AreAged now n v.phones new.phones → MovesTo now v new
unfolding ticked ages
moves now n v new stands many le a m h before =
    record {
      centre_stands = stands m.limits.held m.phones m.clock m.centre before h.centre_stands;
      as_many = many ∙ h.as_many;
      senders_stand = λ p phone e.
          let was = all_aged now n v.phones new.phones le a p phone e in
          subst (λ s. SenderStands p s m.senders) (sym was.aged.sends) (h.senders_stand p was.before was.is_there);
      receivers_stand = λ p phone e.
          let was = all_aged now n v.phones new.phones le a p phone e in
          was.aged.receives (receiver_limits m.limits) (m.receiver p) (λ t. size_of (nth m.senders.texts t)) (h.receivers_stand p was.before was.is_there);
    }

pub clock_seen : (now : ℕ) (v old new : PartiesValue) → v ≡ old → MovesTo now v new → MovesTo now old new
clock_seen now v old new e h = subst (λ (w : PartiesValue). MovesTo now w new) e h

-- What is told of octets that are read.
use Rattle.std.proofs.Common.{◌≡◌, ℕ, ◌≤◌, List, [], ◌∷◌, ◌++◌, map, Result, Ok, Err, refl, sym, ap, subst, ◌∙◌, arith, inl, inr}
use Rattle.std.specs.List.{AllByRecursion}
use Rattle.sms_join.specs.declared.key.Key.{Key}
use Rattle.sms_join.specs.OpenSets.{SetValue}
use Rattle.sms_join.specs.Gateway.Finishings.{Fall, FallFrom}
use Rattle.sms_join.specs.Gateway.Value.{GatewayValue}
use Rattle.sms_saved.specs.declared.fault.Fault.{Fault as StateFaultAt}
use Rattle.sms_saved.specs.declared.fault.ReadFault.{ReadFault as StateReadFault}
use Rattle.sms_saved.specs.declared.fault.ReadFault.TheVariants as states
use Rattle.sms_saved.specs.declared.state.Remembered.{Remembered as SavedFinishing}
use Rattle.sms_saved.specs.Reading.Whole.{FailsSo}
use Rattle.sms_saved.specs.Value.{SetValue as SavedSet, StateValue}
use Rattle.sms_keep.specs.declared.fault.Fault.{Fault}
use Rattle.sms_keep.specs.declared.fault.HeldFault.{HeldFault}
use Rattle.sms_keep.specs.declared.fault.HeldFault.TheVariants.{State}
use Rattle.sms_keep.specs.declared.fault.ReadFault.{ReadFault}
use Rattle.sms_keep.specs.declared.fault.ReadFault.TheVariants.{Memory, At}
use Rattle.sms_keep.specs.declared.restoring.Restored.{Restored}
use Rattle.sms_keep.specs.Saved.{saved, saved_key, saved_set, saved_finishings}
use Rattle.sms_keep.specs.Held.{HasAddresses, SetsHaveAddresses, KeysHaveAddresses, AreInTime, CanHold, KeyIsSpelled, IsJoiner, HoldsAs, CanBeSaved, AreAlike}
use Rattle.sms_keep.specs.Restored.{IsBad, BadAddress, TooEarly, IsBadSet, IsBadKey, IsFirstBad, last_moment, HoldsRestored, Restores}
use Rattle.sms_keep.specs.Inside.Restoring.{FailsBy, TellsOf}
use Rattle.sms_keep.proofs.KeysBack.{all_more, last_more, in_time_more, key_has}
use Rattle.sms_keep.proofs.OneSaved.{one_joiner}

-- ---- what is saved can be held

sets_have : (ss : List SetValue) → AllByRecursion (λ s. KeyIsSpelled s.key) ss → SetsHaveAddresses (map saved_set ss)
sets_have [] h = tt
sets_have (s ∷ ss) h = (key_has s.key h.0, sets_have ss h.1)

keys_have : (ks : List Key) (ms : List ℕ) → AllByRecursion KeyIsSpelled ks → KeysHaveAddresses (saved_finishings ks ms)
keys_have [] ms h = tt
keys_have (k ∷ ks) [] h = tt
keys_have (k ∷ ks) (m ∷ ms) h =
    all_more (λ (r : SavedFinishing). HasAddresses r.key) (saved_finishings ks ms) (record { key = saved_key k; moment = m }) (keys_have ks ms h.1) (key_has k h.0)

falls : (m : ℕ) (ms : List ℕ) → FallFrom m ms → Fall ms
falls m [] h = tt
falls m (n ∷ ms) h = h.1

last_falls : (ks : List Key) (ms : List ℕ) (m : ℕ) → FallFrom m ms → last_moment 0 (saved_finishings ks ms) ≤ m
last_falls [] ms m h = omega arith
last_falls (k ∷ ks) [] m h = omega arith
last_falls (k ∷ ks) (n ∷ ms) m h =
    let e = last_more 0 (saved_finishings ks ms) (record { key = saved_key k; moment = n }) in
    omega (arith, e, h.0)

are_in_time : (ks : List Key) (ms : List ℕ) → Fall ms → AreInTime 0 (saved_finishings ks ms)
are_in_time [] ms h = tt
are_in_time (k ∷ ks) [] h = tt
are_in_time (k ∷ ks) (m ∷ ms) h =
    in_time_more 0 (saved_finishings ks ms) (record { key = saved_key k; moment = m }) (are_in_time ks ms (falls m ms h)) (last_falls ks ms m h)

pub can_hold_saved : (g : GatewayValue) (taken : ℕ) → IsJoiner g → CanHold (saved g taken)
can_hold_saved g taken h =
    record {
      sets = sets_have g.told h.sets;
      keys = keys_have g.holds.finished g.finishings h.keys;
      in_time = are_in_time g.holds.finished g.finishings h.fall;
    }

-- ---- what can be held has no first that cannot

all_at : {X : Type 0} (P : X → Type 0) (before : List X) (own : X) (after : List X) → AllByRecursion P (before ++ own ∷ after) → P own
all_at P [] own after h = h.0
all_at P (x ∷ before) own after h = all_at P before own after h.1

in_time_at : (low : ℕ) (before : List SavedFinishing) (own : SavedFinishing) (after : List SavedFinishing) → AreInTime low (before ++ own ∷ after) → last_moment low before ≤ own.moment
in_time_at low [] own after h = h.0
in_time_at low (r ∷ before) own after h = in_time_at r.moment before own after h.1

no_bad_set : (s : StateValue) (f : Fault) → CanHold s → IsBadSet s f → ⊥
no_bad_set s f can bad = bad.bad (all_at (λ (t : SavedSet). HasAddresses t.key) bad.before bad.own bad.after (subst SetsHaveAddresses bad.parts can.sets))

not_bad : (before : List SavedFinishing) (own : SavedFinishing) (why : HeldFault) → HasAddresses own.key → last_moment 0 before ≤ own.moment → IsBad before own why → ⊥
not_bad before own why h l (BadAddress none) = none h
not_bad before own why h l (TooEarly has early) = omega (arith, l, early)

no_bad_key : (s : StateValue) (f : Fault) → CanHold s → IsBadKey s f → ⊥
no_bad_key s f can bad =
    not_bad bad.before bad.own f.why
    (all_at (λ (r : SavedFinishing). HasAddresses r.key) bad.before bad.own bad.after (subst KeysHaveAddresses bad.parts can.keys))
    (in_time_at 0 bad.before bad.own bad.after (subst (AreInTime 0) bad.parts can.in_time))
    bad.bad

none_bad : (s : StateValue) (f : Fault) → CanHold s → IsFirstBad s f → ⊥
none_bad s f can (inl h) = no_bad_set s f can h
none_bad s f can (inr h) = no_bad_key s f can h

pub only_memory : (s : StateValue) (e : ReadFault) → CanHold s → FailsBy (IsFirstBad s) e → e ≡ Memory
only_memory s Memory can h = refl
only_memory s (At f) can h = absurd (none_bad s f can h)

-- ---- octets that are no state

pub refused : (fault : StateReadFault) (e : ReadFault) (read : Result StateValue StateFaultAt) → TellsOf fault e → FailsSo fault read → Restores (Err e) read
refused states.Memory e (Ok s) told fails = subst (λ x. Restores (Err x) (Ok s)) (sym told) tt
refused states.Memory e (Err f) told fails = subst (λ x. Restores (Err x) (Err f)) (sym told) tt
refused (states.At f) e (Ok s) told fails = absurd cc
refused (states.At f) e (Err g) told fails =
    let same : g ≡ f = cc in
    subst (λ x. Restores (Err x) (Err g)) (sym told) (ap (λ (h : StateFaultAt). record { place = h.place; why = State h.why }) (sym same))

pub refused_memory : (fault : StateReadFault) (e : ReadFault) (s : StateValue) → TellsOf fault e → FailsSo fault (Ok s) → e ≡ Memory
refused_memory states.Memory e s told fails = told
refused_memory (states.At f) e s told fails = absurd cc

-- ---- a state

pub restored : (s : StateValue) (r : Restored) (read : Result StateValue StateFaultAt) → read ≡ Ok s → CanHold s → HoldsRestored s r → Restores (Ok r) read
restored s r read is can holds = subst (λ x. Restores (Ok r) x) (sym is) (can, holds)

pub not_restored : (s : StateValue) (e : ReadFault) (read : Result StateValue StateFaultAt) → read ≡ Ok s → FailsBy (IsFirstBad s) e → Restores (Err e) read
not_restored s Memory read is bad = subst (λ x. Restores (Err Memory) x) (sym is) tt
not_restored s (At f) read is bad = subst (λ x. Restores (Err (At f)) x) (sym is) bad

-- what was saved comes back
pub alike : (g : GatewayValue) (taken : ℕ) (s : StateValue) (r : Restored) → CanBeSaved g taken → saved g taken ≡ s → HoldsRestored s r → (r.taken ≡ taken) × AreAlike r.gateway g
alike g taken s r can is holds =
    (holds.0 ∙ sym (ap (λ (x : StateValue). x.taken) is), one_joiner g r.gateway taken can.is_joiner (subst (λ x. HoldsAs x r.gateway) (sym is) holds.1))

pub one_ok : (s t : StateValue) (r : Result StateValue StateFaultAt) → r ≡ Ok s → r ≡ Ok t → s ≡ t
one_ok s t r e f = cc

-- What a world shows is what its phones hold.
use Rattle.std.proofs.Common.{◌≡◌, ℕ, zero, suc, ◌<◌, List, [], ◌∷◌, ◌++◌, length, reverse, Option, Some, refl, ap, ◌∙◌, arith}
use Rattle.std.specs.List.{slice_get}
use Rattle.sms_party.specs.Phone.{PhoneValue}
use Rattle.sms_party.specs.declared.sender.Status.{Status}
use Rattle.sms_party.specs.declared.sender.Status.TheVariants.{Waiting}
use Rattle.sms_party.specs.Sender.Texts.{Text}
use Rattle.sms_party.specs.Sender.Value.{TextValue, all_waiting, status_among}
use Rattle.sms_party.specs.Sender.Stands.{ArePending, status_of}
use Rattle.sms_world.specs.Machine.{Machine}
use Rattle.sms_world.specs.World.Value.{WorldValue}
use Rattle.sms_world.specs.World.Standing.{StandsFor}
use Rattle.sms_world.specs.World.Phones.{store_of, store_in, statuses_of_phone, statuses_at}
use Rattle.sms_world.specs.Inside.Phones.{TellsStatusAt}

some_phone : (xs : List PhoneValue) (n : ℕ) → n < length xs → (x : PhoneValue) × (slice_get xs n ≡ Some x)
some_phone [] n l = absurd (let k : n < 0 = l in omega (arith, k))
some_phone (x ∷ xs) zero l = (x, refl)
some_phone (x ∷ xs) (suc n) l = let k : n < length xs = omega (arith, l) in some_phone xs n k

pub store_stands : (v : WorldValue) (m : Machine) (p : ℕ) → p < length v.parties.phones → StandsFor v m → store_in v.parties.phones p ≡ reverse (m.receiver p).store
store_stands v m p l h =
    let x = some_phone v.parties.phones p l in
    ap store_of x.1 ∙ (h.parties_stand.receivers_stand p x.0 x.1).store_is

pub status_stands : (v : WorldValue) (m : Machine) (p number : ℕ) (told : Option Status) → p < length v.parties.phones → TellsStatusAt v.parties.phones p number told → StandsFor v m → told ≡ status_of m.senders p number
status_stands v m p number told l t h =
    let x = some_phone v.parties.phones p l in
    t x.0 x.1 p m.senders (h.parties_stand.senders_stand p x.0 x.1)

waiting_alike : (phone ended : ℕ) (texts : List Text) (vs : List TextValue) (ns : List ℕ) → ArePending phone ended texts vs ns → all_waiting vs ≡ all_waiting ns
waiting_alike phone ended texts [] [] h = refl
waiting_alike phone ended texts [] (n ∷ ns) h = absurd h
waiting_alike phone ended texts (v ∷ vs) [] h = absurd h
waiting_alike phone ended texts (v ∷ vs) (n ∷ ns) h = ap (λ l. Waiting ∷ l) (waiting_alike phone (suc ended) texts vs ns h.1)

-- what is told of a text by the value is what is told of it by the state
pub statuses_stand : (v : WorldValue) (m : Machine) (p number : ℕ) → p < length v.parties.phones → StandsFor v m → status_among (statuses_at v.parties.phones p) number ≡ status_of m.senders p number
statuses_stand v m p number l h =
    let x = some_phone v.parties.phones p l in
    let s = x.0.sender in
    let k = (h.parties_stand.senders_stand p x.0 x.1).keeps in
    let pending = (m.senders.sender p).pending in
    ap (λ (o : Option PhoneValue). status_among (statuses_of_phone o) number) x.1
    ∙ ap (λ w. status_among (s.ended ++ w) number) (waiting_alike p (length s.ended) m.senders.texts s.pending pending k.pending_are)
    ∙ ap (λ e. status_among (e ++ all_waiting pending) number) k.ended_are

-- What stands at a phone, among what stands at all of them.
use Rattle.std.proofs.Common.{◌≡◌, ◌≤◌, ◌-◌, ◌∙◌, ℕ, zero, suc, List, [], ◌∷◌, Some, Result, Ok, Err, IfOk, OnOk, map, option_map, slice_get, refl, sym, ap, subst, arith}
use Rattle.std.specs.Str.{chars, IsUtf8}
use Rattle.std.proofs.lemmas.Str.{encodes-chars}
use Rattle.std.proofs.lemmas.Option.{slice_get-map}
use Rattle.sms_field.specs.Address.Value.{AddressValue}
use Rattle.sms_party.specs.Phone.{PhoneValue}
use Rattle.sms_party.specs.Receiver.State.{Entry}
use Rattle.sms_party.specs.Sender.Value.{status_among}
use Rattle.sms_party.specs.declared.sender.Status.{Status}
use Rattle.sms_script.specs.Play.Runs as script
use Rattle.sms_script.specs.Transcript.Lines.{EntryValue, PacketValue}
use Rattle.sms_script.specs.declared.script.limits.Limits.{Limits}
use Rattle.sms_world.specs.Machine.{start}
use Rattle.sms_world.specs.Network.{entry_of, ended_of}
use Rattle.sms_world.specs.Words.{status_text}
use Rattle.sms_world.specs.World.Phones.{store_in, statuses_at}
use Rattle.sms_world.specs.World.Standing.{StandsFor, ArePacketsOf}
use Rattle.sms_world.specs.World.Value.{WorldValue}

pub statuses_at-map : (phones : List PhoneValue) (p : ℕ) → script.statuses_at (map ended_of phones) p ≡ map status_text (statuses_at phones p)
statuses_at-map [] p = refl
statuses_at-map (phone ∷ phones) zero = refl
statuses_at-map (phone ∷ phones) (suc p) = statuses_at-map phones p

pub store_at-map : (phones : List PhoneValue) (p : ℕ) → script.store_at (map ended_of phones) p ≡ map entry_of (store_in phones p)
store_at-map [] p = refl
store_at-map (phone ∷ phones) zero = refl
store_at-map (phone ∷ phones) (suc p) = store_at-map phones p

-- texts are counted from 1
status_among-map : (all : List Status) (k : ℕ) → slice_get (map status_text all) k ≡ option_map status_text (status_among all (suc k))
status_among-map [] k = refl
status_among-map (s ∷ all) zero = refl
status_among-map (s ∷ all) (suc k) = status_among-map all k

pub status_at : (phones : List PhoneValue) (p n : ℕ) → 1 ≤ n
    → slice_get (script.statuses_at (map ended_of phones) p) (n - 1) ≡ option_map status_text (status_among (statuses_at phones p) n)
status_at phones p zero few = absurd (omega (arith, few))
status_at phones p (suc k) few =
    let place : suc k - 1 ≡ k = omega arith in
    ap (λ all. slice_get all (suc k - 1)) (statuses_at-map phones p)
    ∙ ap (slice_get (map status_text (statuses_at phones p))) place
    ∙ status_among-map (statuses_at phones p) k

-- an entry that is lent, at its place of the store
pub entry_at : (phones : List PhoneValue) (p place : ℕ) (e : Entry) (v : EntryValue)
    → slice_get (store_in phones p) place ≡ Some e → v ≡ entry_of e → Some v ≡ slice_get (script.store_at (map ended_of phones) p) place
entry_at phones p place e v found same =
    ap Some same
    ∙ ap (option_map entry_of) (sym found)
    ∙ sym (slice_get-map entry_of (store_in phones p) place)
    ∙ ap (λ all. slice_get all place) (sym (store_at-map phones p))

-- the octets of a text are those of its characters
pub entry_again : (e : Entry) (origin : AddressValue) (text octets : List ℕ)
    → IsUtf8 octets → record { origin = origin; characters = chars text } ≡ e → octets ≡ text
    → record { origin = origin; text = octets } ≡ entry_of e
entry_again e origin text octets utf8 is same =
    ap (λ t. record { origin = origin; text = t }) (same ∙ sym (encodes-chars text (subst IsUtf8 same utf8))) ∙ ap entry_of is

no_packets : (packets : List PacketValue) → ArePacketsOf packets [] → packets ≡ []
no_packets [] none = refl
no_packets (p ∷ packets) none = absurd none

pub starts_empty : (limits : Limits) (phones : List AddressValue) (world : WorldValue) → StandsFor world (start limits phones) → world.packets ≡ []
unfolding start
starts_empty limits phones world stands = no_packets world.packets stands.packets_are

-- a world that begins has put out nothing
pub begins_empty : {E : Type 0} (result : Result WorldValue E) (limits : Limits) (phones : List AddressValue)
    → IfOk result (λ world. StandsFor world (start limits phones)) → IfOk result (λ world. world.packets ≡ [])
begins_empty (Ok world) limits phones stands = starts_empty limits phones world stands
begins_empty (Err e) limits phones stands = tt

-- the words, unless memory ran out for them
pub words_of : {E : Type 0} (result : Result (Unit {0}) E) (words written : List ℕ) → OnOk result (written ≡ words) → script.AreWords words written result
words_of (Ok done) words written are = are
words_of (Err e) words written are = tt

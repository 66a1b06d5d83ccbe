-- Right notes can be kept: their counters are small, and they are of phones that there are.
use Rattle.std.proofs.Common.{◌≡◌, ℕ, zero, suc, ◌+◌, ◌-◌, ◌^◌, ◌<◌, ◌≤◌, max, Bool, true, false, cond, eqb, List, [], ◌∷◌, map, length, Option, Some, None, refl, sym, ap, ◌∙◌, subst, arith}
use Rattle.std.specs.List.{AllByRecursion}
use Rattle.std.specs.Option.{option_map}
use Rattle.std.proofs.lemmas.List.Quantifiers.{position-Some}
use Rattle.sms_field.specs.Address.Value.{AddressValue}
use Rattle.sms_field.specs.Time.Computed.{end_of_2099}
use Rattle.sms_relay.specs.declared.side.Side.TheVariants.{FromPhone, ToPhone}
use Rattle.sms_message.specs.declared.message.TransferUnit.TheVariants.{Submit, Deliver, OtherUnit, BadUnit}
use Rattle.sms_message.specs.declared.message.Relay.TheVariants.{Transfer, Answer, UnknownType, Unreadable}
use Rattle.sms_message.specs.declared.message.Message.{Message}
use Rattle.sms_message.specs.declared.message.Message.TheVariants.{NotCp, Note, Tiny, Data}
use Rattle.sms_message.specs.Address.{phone_at}
use Rattle.sms_field.specs.Address.Same.{same_address}
use Rattle.sms_message.specs.Message.{Origin}
use Rattle.sms_centre.specs.Centre.State.{Acceptance}
use Rattle.sms_centre.specs.Centre.Held.{next_stamp}
use Rattle.sms_party.specs.Sent.{nth, Place, Centre, Phone, Sent}
use Rattle.sms_party.specs.Sender.Texts.{Text, Sender, size_of}
use Rattle.sms_world.specs.declared.world.way.Way.{Way}
use Rattle.sms_world.specs.Claims.Pieces.{IsUnderWay, EachHasItsPiece}
use Rattle.sms_world.specs.Ledger.{Mark, mark_of, message_mark, mark_at, TextNote, note_of, SenderNote, SenderNoted, Ledger, IsLedgerOf}
use Rattle.sms_world.specs.Machine.{Machine}
use Rattle.sms_world.specs.Machine.Event.{Event, Compose, Carry, Timeout, Push, Tick, Inject}
use Rattle.sms_world.specs.Machine.Next.{packet}
use Rattle.sms_world.specs.Noted.{recipient_of}
use Rattle.sms_world.specs.Inside.NotesValue.{IsCounted, IsMarkFor, IsFor}
use Rattle.sms_world.specs.Texts.{size_in}
use Rattle.sms_world.specs.Inside.Asked.{way_at}
use Rattle.sms_world.specs.World.Parties.{place_at}
use Rattle.sms_world.specs.World.Standing.{StandsFor}
use Rattle.sms_world.specs.World.Value.{WorldValue}
use Rattle.sms_world.proofs.Checked.{IsFitting, TextsFit, fitting, nth_map}
use Rattle.sms_world.proofs.Factual.{phone_there, goes_so}
use Rattle.sms_world.proofs.Stamped.{Fits}

-- ---- a sender

pub few_accepted : (m : Machine) → TextsFit m → (ns : List ℕ) (k : ℕ) → IsUnderWay m.senders.texts ns k → k ≤ 255
few_accepted m fit [] k u = omega (arith, u)
few_accepted m fit (n ∷ later) k u = go (nth m.senders.texts n) refl u
  where
    go : (v : Option Text) → nth m.senders.texts n ≡ v → k < size_in m.senders.texts n → k ≤ 255
    go None e u = let z : size_in m.senders.texts n ≡ 0 = ap size_of e in omega (arith, u, z)
    go (Some t) e u =
        let z : size_in m.senders.texts n ≡ length t.pieces = ap size_of e in
        let l = (fitting m fit n t e).few in omega (arith, u, z, l)

pub counted : (m : Machine) (l : Ledger) → TextsFit m → EachHasItsPiece m → IsLedgerOf l m → (phone : ℕ) → IsCounted (l.sender phone)
counted m l fit sound h phone =
    let s = h.senders phone in
    let few = few_accepted m fit (m.senders.sender phone).pending (m.senders.sender phone).accepted (sound.senders phone).under_way in
    let same = s.accepted in
    (s.some, omega (arith, few, same))

-- ---- the centre

stamps_left : (phones : List AddressValue) (accepted : List Acceptance) (r : ℕ) → AllByRecursion (Fits phones) accepted → next_stamp accepted r 0 ≤ end_of_2099
stamps_left phones [] r h = omega arith
stamps_left phones (a ∷ past) r h = go (eqb a.recipient r) (stamps_left phones past r h.1)
  where
    go : (b : Bool) → next_stamp past r 0 ≤ end_of_2099 → cond b (max (suc a.stamp) (next_stamp past r 0)) (next_stamp past r 0) ≤ end_of_2099
    go true k = let l = h.0.moment in omega (arith, k, l)
    go false k = k

pub free_left : (m : Machine) (l : Ledger) → AllByRecursion (Fits m.phones) m.centre.accepted → IsLedgerOf l m → (r : ℕ) → l.free r < 2 ^ 64 - 1
free_left m l fit h r =
    let s = stamps_left m.phones m.centre.accepted r fit in
    let e = h.free r in omega (arith, s, e)

phone_within : (phones : List AddressValue) (target : AddressValue) (r : ℕ) → phone_at phones target ≡ Some r → r < length phones
phone_within phones target r e = (position-Some (λ a. same_address a target) phones r target e).0

pub recipients_there : (m : Machine) (l : Ledger) → IsLedgerOf l m → (t r : ℕ) → recipient_of (nth l.texts t) ≡ Some r → r < length m.phones
recipients_there m l h t r e = go (nth m.senders.texts t) (sym (ap recipient_of (ap (λ ts. nth ts t) h.texts ∙ nth_map (note_of m.phones) m.senders.texts t)) ∙ e)
  where
    go : (v : Option Text) → recipient_of (option_map (note_of m.phones) v) ≡ Some r → r < length m.phones
    go None e = cc
    go (Some u) e = phone_within m.phones u.target r e

-- ---- an event is for its phone

to_phone : (up : Bool) (phone q : ℕ) → Phone q ≡ place_at up phone → q ≡ phone
to_phone true phone q e = cc
to_phone false phone q e = cc

message_for : (v : Message) (to : Place) (origin : Option Origin) (up : Bool) (phone : ℕ) → to ≡ place_at up phone → IsMarkFor (Some (message_mark v to origin)) phone
message_for NotCp to origin up phone e = tt
message_for (Note flag value) to origin up phone e = tt
message_for (Tiny flag value) to origin up phone e = tt
message_for (Data true tag relay) to origin up phone e = tt
message_for (Data false tag (Transfer FromPhone (Submit s))) (Centre p) (Some o) up phone e = tt
message_for (Data false tag (Transfer FromPhone (Submit s))) (Centre p) None up phone e = tt
message_for (Data false tag (Transfer FromPhone (Submit s))) (Phone p) origin up phone e = tt
message_for (Data false tag (Transfer FromPhone (Deliver d))) to origin up phone e = tt
message_for (Data false tag (Transfer FromPhone OtherUnit)) to origin up phone e = tt
message_for (Data false tag (Transfer FromPhone BadUnit)) to origin up phone e = tt
message_for (Data false tag (Transfer ToPhone (Deliver d))) (Phone p) (Some o) up phone e = to_phone up phone p e
message_for (Data false tag (Transfer ToPhone (Deliver d))) (Phone p) None up phone e = tt
message_for (Data false tag (Transfer ToPhone (Deliver d))) (Centre p) origin up phone e = tt
message_for (Data false tag (Transfer ToPhone (Submit s))) to origin up phone e = tt
message_for (Data false tag (Transfer ToPhone OtherUnit)) to origin up phone e = tt
message_for (Data false tag (Transfer ToPhone BadUnit)) to origin up phone e = tt
message_for (Data false tag (Answer side cause report)) to origin up phone e = tt
message_for (Data false tag UnknownType) to origin up phone e = tt
message_for (Data false tag Unreadable) to origin up phone e = tt

pub mark_there : (m : Machine) (l : Ledger) → IsLedgerOf l m → (k : ℕ) → mark_at l.marks k ≡ option_map mark_of (packet m k)
unfolding packet
mark_there m l h zero = refl
mark_there m l h (suc k) = ap (λ marks. nth marks k) h.marks ∙ nth_map mark_of m.sent k

pub is_for : (v : WorldValue) (m : Machine) (l : Ledger) → StandsFor v m → IsLedgerOf l m → (event : Event) (way : Way) → way_at v event ≡ Some way → IsFor l event way.phone
is_for v m l s h (Compose phone target characters) way e = (phone_there v phone way e).0
is_for v m l s h (Timeout phone) way e = (phone_there v phone way e).0
is_for v m l s h (Push phone) way e = (phone_there v phone way e).0
is_for v m l s h (Tick seconds) way e = tt
is_for v m l s h (Inject place octets) way e = tt
is_for v m l s h (Carry k) way e =
    let g = goes_so v m s k way e in
    subst (λ o. IsMarkFor o way.phone) (sym (mark_there m l h k ∙ ap (option_map mark_of) g.there))
    (message_for g.entry.message g.entry.to g.entry.origin way.up way.phone g.to)

-- What stands before the padding is spelled.
use Rattle.std.proofs.Common.{◌≡◌, ℕ, Bool, List, [], ◌∷◌, ◌++◌, Option, Result, Ok, Err, OnOk, refl, sym, ap, subst, ◌∙◌}
use Rattle.sms_field.specs.RelayAddress.{optional_address_octets}
use Rattle.sms_field.specs.RelayAddress.Value.{RelayAddressValue, HasOptionalSpelling}
use Rattle.sms_card.specs.Originated.{SpellsOriginated}
use Rattle.sms_card.specs.Received.{SpellsReceived}
use Rattle.sms_card.specs.Status.{status_octet}
use Rattle.sms_card.specs.Stored.{received_status, originated_status, status_in, SpellsUsed, SpellsFront}
use Rattle.sms_card.specs.declared.originated.OriginatedUnit.{OriginatedUnit}
use Rattle.sms_card.specs.declared.received.ReceivedUnit.{ReceivedUnit}
use Rattle.sms_card.specs.declared.status.ReportState.{ReportState}
use Rattle.sms_card.specs.declared.status.Status.{Status}
use Rattle.sms_card.specs.declared.stored.Record.{Record}
use Rattle.sms_card.specs.declared.stored.Record.TheVariants as stored

on_ok : {V E : Type 0} (r : Result V E) (P Q : Type 0) → (P → Q) → OnOk r P → OnOk r Q
on_ok (Ok v) P Q f h = f h
on_ok (Err e) P Q f h = tt

abbrev IsUsed : Status → Option RelayAddressValue → List ℕ → List ℕ → List ℕ → Type 0
IsUsed told centre written old octets = octets ≡ old ++ (status_octet told ∷ (optional_address_octets centre ++ written))

pub received_front : {V E : Type 0} (r : Result V E) (entry : Record) (told : Status) (unread : Bool) (centre : Option RelayAddressValue) (unit : ReceivedUnit) (written old octets : List ℕ)
    → entry ≡ stored.Received unread centre unit → told ≡ status_in entry → old ≡ [] → HasOptionalSpelling centre → SpellsReceived unit written
    → OnOk r (IsUsed told centre written old octets) → OnOk r (SpellsFront entry octets)
received_front r entry told unread centre unit written old octets is told_is none fits s =
    on_ok r _ _ (λ (e : IsUsed told centre written old octets).
    let status_is : told ≡ received_status unread = told_is ∙ ap status_in is in
    let parts : octets ≡ status_octet (received_status unread) ∷ (optional_address_octets centre ++ written) =
    e ∙ ap (λ (l : List ℕ). l ++ (status_octet told ∷ (optional_address_octets centre ++ written))) none ∙ ap (λ (t : Status). status_octet t ∷ (optional_address_octets centre ++ written)) status_is in
    subst (λ (x : Record). SpellsFront x octets) (sym is) (record { fits = fits; unit = written; of_unit = s; parts = parts }))

pub originated_front : {V E : Type 0} (r : Result V E) (entry : Record) (told : Status) (report : Option ReportState) (centre : Option RelayAddressValue) (unit : OriginatedUnit) (written old octets : List ℕ)
    → entry ≡ stored.Originated report centre unit → told ≡ status_in entry → old ≡ [] → HasOptionalSpelling centre → SpellsOriginated unit written
    → OnOk r (IsUsed told centre written old octets) → OnOk r (SpellsFront entry octets)
originated_front r entry told report centre unit written old octets is told_is none fits s =
    on_ok r _ _ (λ (e : IsUsed told centre written old octets).
    let status_is : told ≡ originated_status report = told_is ∙ ap status_in is in
    let parts : octets ≡ status_octet (originated_status report) ∷ (optional_address_octets centre ++ written) =
    e ∙ ap (λ (l : List ℕ). l ++ (status_octet told ∷ (optional_address_octets centre ++ written))) none ∙ ap (λ (t : Status). status_octet t ∷ (optional_address_octets centre ++ written)) status_is in
    subst (λ (x : Record). SpellsFront x octets) (sym is) (record { fits = fits; unit = written; of_unit = s; parts = parts }))

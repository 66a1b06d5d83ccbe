-- A submission that is spelled is read.
use Rattle.std.proofs.Common.{◌≡◌, ℕ, Bool, true, false, List, [], length, Option, Some, None, Result, Ok, Err, refl, sym, ap, ◌∙◌, subst}
use Rattle.std.specs.Result.{result_ok}
use Rattle.sms_field.specs.declared.validity.ValidityFault.{ValidityFault}
use Rattle.std.proofs.lemmas.List.{append-nil}
use Rattle.sms_field.specs.Reading.{Reads}
use Rattle.sms_tpdu.specs.Submit.{Submission, SpellsSubmit, submit}
use Rattle.sms_tpdu.specs.Inside.SubmitLaws.{submit_laws}
use Rattle.sms_field.specs.Address.Value.{AddressValue}
use Rattle.sms_field.specs.RelayAddress.Value.{RelayAddressValue}
use Rattle.sms_relay.specs.Carried as carried
use Rattle.sms_relay.specs.Carried.Unwrapped.{IsUnwrapped}
use Rattle.sms_relay.specs.Cp.Value.{CpValue}
use Rattle.sms_relay.specs.Rp.Value.{RpValue}
use Rattle.sms_relay.specs.declared.inner.Inner.{Inner}
use Rattle.sms_relay.specs.declared.inner.Inner.TheVariants as inner
use Rattle.sms_relay.specs.Carried.InnerSeen.{seen_inner}
use Rattle.sms_relay.specs.Rp.Seen.{seen_rp_body}
use Rattle.sms_relay.specs.declared.inner.InnerView.{InnerView}
use Rattle.sms_relay.specs.declared.inner.InnerView.TheVariants as seen
use Rattle.sms_relay.specs.declared.rp.view.RpBodyView.{RpBodyView}
use Rattle.sms_relay.specs.declared.rp.view.RpBodyView.TheVariants as body
use Rattle.sms_relay.specs.declared.rp.RpBody.{RpBody}
use Rattle.sms_relay.specs.declared.rp.RpBody.TheVariants as rp
use Rattle.sms_relay.specs.declared.side.Side.{Side}
use Rattle.sms_relay.specs.declared.side.Side.TheVariants.{FromPhone, ToPhone}
use Rattle.sms_message.specs.declared.message.TransferUnit.{TransferUnit}
use Rattle.sms_message.specs.declared.message.TransferUnit.TheVariants.{Submit, Deliver, OtherUnit, BadUnit}
use Rattle.sms_message.specs.declared.message.Relay.TheVariants.{Transfer, Answer, UnknownType, Unreadable}
use Rattle.sms_message.specs.declared.message.Message.{Message}
use Rattle.sms_message.specs.declared.message.Message.TheVariants.{NotCp, Note, Tiny, Data}
use Rattle.sms_message.specs.declared.message.Tag.{Tag}
use Rattle.sms_message.specs.Message.Carrying.{centre_address, SpellsUnit, Carries}
use Rattle.sms_world.specs.Traces.{Seen, Answers, Other, end_in, seen_submission, seen_of}

pub submission_read : (s : Submission) (octets : List ℕ) → SpellsSubmit s octets → Reads submit s octets (length octets)
submission_read s octets h = record { octets = octets; rest = []; parts = sym (append-nil octets); used_is = refl; read = submit_laws.again s octets [] h tt }

pub ok_end : (r : Result ℕ ValidityFault) → result_ok r ≡ end_in r
ok_end (Ok e) = refl
ok_end (Err why) = refl

-- ---- views

pub not_seen : (v : InnerView) → ((x : RpValue) → v ≡ seen.Relay x → ⊥) → (r : RpValue) → seen_inner v ≡ inner.Relay r → ⊥
not_seen seen.Empty f r e = cc
not_seen (seen.Relay x) f r e = f x refl
not_seen (seen.Bad place why) f r e = cc

pub ack_not : (b : RpBodyView) (x : Option (List ℕ)) → b ≡ body.Ack x → (address : Option RelayAddressValue) (user : List ℕ) → seen_rp_body b ≡ rp.Transfer address user → ⊥
ack_not b x e address user f = let z : rp.Ack x ≡ rp.Transfer address user = sym (ap seen_rp_body e) ∙ f in cc

pub fail_not : (b : RpBodyView) (x : ℕ) (y : Option ℕ) (z : Option (List ℕ)) → b ≡ body.Fail x y z → (address : Option RelayAddressValue) (user : List ℕ) → seen_rp_body b ≡ rp.Transfer address user → ⊥
fail_not b x y z e address user f = let w : rp.Fail x y z ≡ rp.Transfer address user = sym (ap seen_rp_body e) ∙ f in cc

-- ---- what octets are that carry a message

pub no_message : (octets : List ℕ) → ((flag : Bool) (value : ℕ) (m : carried.Carried) → carried.Carries flag value m octets → ⊥) → (v : Message) → Carries octets v → ⊥
no_message octets f NotCp h = h
no_message octets f (Tiny flag value) h = h
no_message octets f (Note flag value) h = f flag value carried.acknowledgement h
no_message octets f (Data flag tag (Transfer side unit)) h = f flag tag.value (carried.transfer side tag.reference (Some centre_address) h.0) h.2
no_message octets f (Data flag tag (Answer side cause report)) h = f flag tag.value (carried.answer side tag.reference cause h.0) h.2
no_message octets f (Data flag tag UnknownType) h = h
no_message octets f (Data flag tag Unreadable) h = h

module _ (phones : List AddressValue) (now : ℕ) (octets : List ℕ) (outer : CpValue) (i : Inner)
    (unwraps : (flag : Bool) (value : ℕ) (m : carried.Carried) → carried.Carries flag value m octets → IsUnwrapped flag value (carried.relay_of m) outer i) where
  -- no RP message is found
  pub no_relay : ((r : RpValue) → i ≡ inner.Relay r → ⊥) → (v : Message) → Carries octets v → Other ≡ seen_of phones now v
  no_relay f NotCp h = refl
  no_relay f (Tiny flag value) h = refl
  no_relay f (Note flag value) h = refl
  no_relay f (Data flag tag (Transfer side unit)) h = absurd (f _ (unwraps flag tag.value (carried.transfer side tag.reference (Some centre_address) h.0) h.2).1)
  no_relay f (Data flag tag (Answer side None report)) h = absurd (f _ (unwraps flag tag.value (carried.answer side tag.reference None h.0) h.2).1)
  no_relay f (Data flag tag (Answer side (Some cause) report)) h = absurd (f _ (unwraps flag tag.value (carried.answer side tag.reference (Some cause) h.0) h.2).1)
  no_relay f (Data flag tag UnknownType) h = absurd h
  no_relay f (Data flag tag Unreadable) h = absurd h

  module _ (r : RpValue) (found : i ≡ inner.Relay r) where
    same_relay : (q : RpValue) → i ≡ inner.Relay q → r ≡ q
    same_relay q e = let z : inner.Relay r ≡ inner.Relay q = sym found ∙ e in let y : r ≡ q = cc in y

    -- an RP-DATA
    pub transfer_found : (address : Option RelayAddressValue) (user : List ℕ) → r.body ≡ rp.Transfer address user → (result : Seen)
        → (outer.flag ≡ false → r.side ≡ FromPhone → (s : Submission) → SpellsSubmit s user → result ≡ seen_submission phones now s)
        → ((outer.flag ≡ false → r.side ≡ FromPhone → ⊥) → result ≡ Other)
        → (v : Message) → Carries octets v → result ≡ seen_of phones now v
    transfer_found address user body result so other NotCp h = absurd h
    transfer_found address user body result so other (Tiny flag value) h = absurd h
    transfer_found address user body result so other (Note flag value) h =
        let e : i ≡ inner.Empty = (unwraps flag value carried.acknowledgement h).1 in
        let z : inner.Relay r ≡ inner.Empty = sym found ∙ e in absurd cc
    transfer_found address user body result so other (Data flag tag (Answer side None report)) h =
        let q = same_relay _ (unwraps flag tag.value (carried.answer side tag.reference None h.0) h.2).1 in
        let z : rp.Transfer address user ≡ rp.Ack h.0 = sym body ∙ ap (λ (x : RpValue). x.body) q in absurd cc
    transfer_found address user body result so other (Data flag tag (Answer side (Some cause) report)) h =
        let q = same_relay _ (unwraps flag tag.value (carried.answer side tag.reference (Some cause) h.0) h.2).1 in
        let z : rp.Transfer address user ≡ rp.Fail cause None h.0 = sym body ∙ ap (λ (x : RpValue). x.body) q in absurd cc
    transfer_found address user body result so other (Data flag tag UnknownType) h = absurd h
    transfer_found address user body result so other (Data flag tag Unreadable) h = absurd h
    transfer_found address user body result so other (Data flag tag (Transfer side unit)) h = by flag side unit (ap (λ (x : CpValue). x.flag) (unwraps flag tag.value (carried.transfer side tag.reference (Some centre_address) h.0) h.2).0) (ap (λ (x : RpValue). x.side) q) h.1
      where
        q : r ≡ record { side = side; reference = tag.reference; body = rp.Transfer (Some centre_address) h.0 }
        q = same_relay _ (unwraps flag tag.value (carried.transfer side tag.reference (Some centre_address) h.0) h.2).1

        octets_are : h.0 ≡ user
        octets_are = let z : rp.Transfer (Some centre_address) h.0 ≡ rp.Transfer address user = sym (ap (λ (x : RpValue). x.body) q) ∙ body in let y : h.0 ≡ user = cc in y

        by : (f : Bool) (d : Side) (u : TransferUnit) → outer.flag ≡ f → r.side ≡ d → SpellsUnit d u h.0 → result ≡ seen_of phones now (Data f tag (Transfer d u))
        by false FromPhone (Submit s) f d g = so f d s (subst (SpellsSubmit s) octets_are g)
        by false FromPhone (Deliver x) f d g = absurd g
        by false FromPhone OtherUnit f d g = absurd g
        by false FromPhone BadUnit f d g = absurd g
        by false ToPhone u f d g = other (λ a b. let z : FromPhone ≡ ToPhone = sym b ∙ d in cc)
        by true FromPhone u f d g = other (λ a b. let z : false ≡ true = sym a ∙ f in cc)
        by true ToPhone u f d g = other (λ a b. let z : false ≡ true = sym a ∙ f in cc)

    -- an RP-ACK or RP-ERROR
    pub answer_found : ((address : Option RelayAddressValue) (user : List ℕ) → r.body ≡ rp.Transfer address user → ⊥) → (result : Seen)
        → (outer.flag ≡ true → result ≡ Answers (record { value = outer.value; reference = r.reference })) → (outer.flag ≡ false → result ≡ Other)
        → (v : Message) → Carries octets v → result ≡ seen_of phones now v
    answer_found f result so other NotCp h = absurd h
    answer_found f result so other (Tiny flag value) h = absurd h
    answer_found f result so other (Note flag value) h =
        let e : i ≡ inner.Empty = (unwraps flag value carried.acknowledgement h).1 in
        let z : inner.Relay r ≡ inner.Empty = sym found ∙ e in absurd cc
    answer_found f result so other (Data flag tag (Transfer side unit)) h =
        absurd (f _ _ (ap (λ (x : RpValue). x.body) (same_relay _ (unwraps flag tag.value (carried.transfer side tag.reference (Some centre_address) h.0) h.2).1)))
    answer_found f result so other (Data flag tag UnknownType) h = absurd h
    answer_found f result so other (Data flag tag Unreadable) h = absurd h
    answer_found f result so other (Data flag tag (Answer side None report)) h =
        let w = unwraps flag tag.value (carried.answer side tag.reference None h.0) h.2 in
        by flag (ap (λ (x : CpValue). x.flag) w.0) (ap (λ (x : CpValue). x.value) w.0) (ap (λ (x : RpValue). x.reference) (same_relay _ w.1))
      where
        by : (b : Bool) → outer.flag ≡ b → outer.value ≡ tag.value → r.reference ≡ tag.reference → result ≡ seen_of phones now (Data b tag (Answer side None report))
        by true e x y = so e ∙ λ j. Answers (record { value = x j; reference = y j })
        by false e x y = other e
    answer_found f result so other (Data flag tag (Answer side (Some cause) report)) h =
        let w = unwraps flag tag.value (carried.answer side tag.reference (Some cause) h.0) h.2 in
        by flag (ap (λ (x : CpValue). x.flag) w.0) (ap (λ (x : CpValue). x.value) w.0) (ap (λ (x : RpValue). x.reference) (same_relay _ w.1))
      where
        by : (b : Bool) → outer.flag ≡ b → outer.value ≡ tag.value → r.reference ≡ tag.reference → result ≡ seen_of phones now (Data b tag (Answer side (Some cause) report))
        by true e x y = so e ∙ λ j. Answers (record { value = x j; reference = y j })
        by false e x y = other e

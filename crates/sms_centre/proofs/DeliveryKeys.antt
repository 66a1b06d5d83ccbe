-- Deliveries of different one-piece messages to one phone have different keys.
use Rattle.std.proofs.Common.{◌≡◌, ◌≢◌, ℕ, ◌<◌, Bool, true, false, cond, ◌&&◌, ltb, leb, List, [], ◌∷◌, refl, sym, ap, ◌∙◌, subst, arith, Some, None, Option, Ok, Err, Result}
use Rattle.std.specs.Str.{bytes_eq}
use Rattle.std.proofs.lemmas.Bool.{leb-false, false_from_ne_true, and_parts}
use Rattle.std.proofs.lemmas.Slice.Eq.{bytes_eq-Decides}
use Rattle.sms_field.specs.Address.Value.{AddressValue}
use Rattle.sms_field.specs.Address.Same.{same_address}
use Rattle.sms_field.specs.declared.validity.ValidityFault.{ValidityFault}
use Rattle.sms_field.specs.declared.validity.ValidityFault.TheVariants.{EnhancedValidity, NoMoment}
use Rattle.sms_field.specs.Time.Computed.{end_of, end_of_2099, stamp_octets, moment_of, MomentComesBackOfZone0}
use Rattle.sms_tpdu.specs.Submit.{Submission}
use Rattle.sms_tpdu.specs.declared.user_data.concat.Concat.{Concat}
use Rattle.sms_tpdu.specs.UserData.ConcatenationFound.{concat_of_header}
use Rattle.sms_relay.specs.declared.side.Side.TheVariants.{FromPhone, ToPhone}
use Rattle.sms_join.specs.declared.key.Key.TheVariants.{Single}
use Rattle.sms_join.specs.Piece.{key_of}
use Rattle.sms_join.specs.Key.{same_key}
use Rattle.sms_message.specs.declared.message.TransferUnit.{TransferUnit}
use Rattle.sms_message.specs.declared.message.TransferUnit.TheVariants.{Submit, Deliver, OtherUnit, BadUnit}
use Rattle.sms_message.specs.declared.message.Relay.TheVariants.{Transfer, Answer, UnknownType, Unreadable}
use Rattle.sms_message.specs.declared.message.Message.{Message}
use Rattle.sms_message.specs.declared.message.Message.TheVariants.{NotCp, Note, Tiny, Data}
use Rattle.sms_message.specs.declared.message.Tag.{Tag}
use Rattle.sms_centre.specs.declared.centre.check.Check.{Check}
use Rattle.sms_centre.specs.declared.centre.check.Check.TheVariants.{Refuse, Accept}
use Rattle.sms_message.specs.Message.{Origin}
use Rattle.sms_message.specs.Address.{phone_at, address_of}
use Rattle.sms_centre.specs.Centre.{centre_opened, centre_answered, centre_receives}
use Rattle.sms_centre.specs.Centre.State.{Acceptance, CentreState, new_centre}
use Rattle.sms_centre.specs.Centre.Held.{unended}
use Rattle.sms_centre.specs.Centre.Checks.{Books, check_space, check_recipient, check_validity, checked_by, books_of}
use Rattle.sms_centre.specs.Centre.Submissions.{checked, centre_takes}
use Rattle.sms_centre.specs.Centre.Pushes.{centre_pushes}
use Rattle.sms_centre.specs.Centre.Stamps.{Call, Receive, Push, called, called_all, AreBelow, IsRising}
use Rattle.sms_centre.specs.Centre.Keys.{HasOwnKey, HaveOwnKeys, DeliveriesHaveOwnKeys}
use Rattle.sms_centre.proofs.Stamps.{hears_same, pushes_same, stamps_rise}

-- ---- the stamps that were given are moments of the calendar

space_early : (limit : ℕ) (books : Books) (s : Submission) (ends q r e t : ℕ) → check_space limit books s ends q ≡ Accept r e t → t < end_of_2099
space_early limit books s ends q r e t h =
    go (s.reject && books.is_held q) (leb limit books.count) (leb end_of_2099 (books.stamp q)) refl h
  where
    go : (a b c : Bool) → leb end_of_2099 (books.stamp q) ≡ c
        → cond a (Refuse 21 0xC5) (cond b (Refuse 42 0xC0) (cond c (Refuse 38 0xC2) (Accept q ends (books.stamp q)))) ≡ Accept r e t → t < end_of_2099
    go true b c f h = cc
    go false true c f h = cc
    go false false true f h = cc
    go false false false f h =
        let y : books.stamp q ≡ t = cc in
        let z = leb-false end_of_2099 (books.stamp q) f in
        subst (λ n. n < end_of_2099) y (omega arith)

recipient_early : (limit : ℕ) (books : Books) (s : Submission) (ends r e t : ℕ) (q : Option ℕ) → check_recipient limit books s ends q ≡ Accept r e t → t < end_of_2099
recipient_early limit books s ends r e t None h = cc
recipient_early limit books s ends r e t (Some q) h = space_early limit books s ends q r e t h

validity_early : (limit : ℕ) (phones : List AddressValue) (books : Books) (now : ℕ) (s : Submission) (r e t : ℕ) (v : Result ℕ ValidityFault)
    → check_validity limit phones books now s v ≡ Accept r e t → t < end_of_2099
validity_early limit phones books now s r e t (Err EnhancedValidity) h = cc
validity_early limit phones books now s r e t (Err NoMoment) h = cc
validity_early limit phones books now s r e t (Ok ends) h = go (ltb now ends) h
  where
    go : (b : Bool) → cond b (check_recipient limit books s ends (phone_at phones s.target)) (Refuse 21 0xC7) ≡ Accept r e t → t < end_of_2099
    go true h = recipient_early limit books s ends r e t (phone_at phones s.target) h
    go false h = cc

accepted_early : (limit : ℕ) (phones : List AddressValue) (books : Books) (now : ℕ) (s : Submission) (r e t : ℕ) → checked_by limit phones books now s ≡ Accept r e t → t < end_of_2099
unfolding checked_by
accepted_early limit phones books now s r e t h = validity_early limit phones books now s r e t (end_of s.validity now) h

abbrev AreEarly : List Acceptance → Type 0
AreEarly [] = Unit {0}
AreEarly (a ∷ past) = (a.stamp < end_of_2099) × AreEarly past

checked_keeps : (c : CentreState) (now phone : ℕ) (tag : Tag) (s : Submission) (o : Option Origin) (k : Check) → ((r e t : ℕ) → k ≡ Accept r e t → t < end_of_2099)
    → AreEarly c.accepted → AreEarly (checked c now phone tag s o k).after.accepted
unfolding checked
checked_keeps c now phone tag s o (Refuse cause failure) f h = h
checked_keeps c now phone tag s o (Accept r e t) f h = (f r e t refl, h)

takes_early : (limit : ℕ) (phones : List AddressValue) (c : CentreState) (now phone : ℕ) (tag : Tag) (u : TransferUnit) (o : Option Origin)
    → AreEarly c.accepted → AreEarly (centre_takes limit phones c now phone tag u o).after.accepted
unfolding centre_takes
takes_early limit phones c now phone tag (Submit s) o h =
    checked_keeps c now phone tag s o (checked_by limit phones (books_of c.accepted now phone s) now s)
    (λ r e t g. accepted_early limit phones (books_of c.accepted now phone s) now s r e t g) h
takes_early limit phones c now phone tag (Deliver d) o h = h
takes_early limit phones c now phone tag OtherUnit o h = h
takes_early limit phones c now phone tag BadUnit o h = h

receives_early : (limit : ℕ) (phones : List AddressValue) (c : CentreState) (now phone : ℕ) (m : Message) (o : Option Origin)
    → AreEarly c.accepted → AreEarly (centre_receives limit phones c now phone m o).after.accepted
unfolding centre_receives centre_opened centre_answered
receives_early limit phones c now phone NotCp o h = h
receives_early limit phones c now phone (Note flag value) o h = h
receives_early limit phones c now phone (Tiny flag value) o h = h
receives_early limit phones c now phone (Data false tag (Transfer FromPhone unit)) o h = takes_early limit phones c now phone tag unit o h
receives_early limit phones c now phone (Data false tag (Transfer ToPhone unit)) o h = h
receives_early limit phones c now phone (Data false tag (Answer side cause report)) o h = h
receives_early limit phones c now phone (Data false tag UnknownType) o h = h
receives_early limit phones c now phone (Data false tag Unreadable) o h = h
receives_early limit phones c now phone (Data true tag (Answer FromPhone cause report)) o h = rw (hears_same c now phone tag cause (c.line phone).latest) h
receives_early limit phones c now phone (Data true tag (Answer ToPhone cause report)) o h = h
receives_early limit phones c now phone (Data true tag (Transfer side unit)) o h = h
receives_early limit phones c now phone (Data true tag UnknownType) o h = h
receives_early limit phones c now phone (Data true tag Unreadable) o h = h

called_early : (limit : ℕ) (phones : List AddressValue) (c : CentreState) (call : Call) → AreEarly c.accepted → AreEarly (called limit phones c call).accepted
unfolding centre_pushes
called_early limit phones c (Receive now phone m o) h = receives_early limit phones c now phone m o h
called_early limit phones c (Push now phone) h = rw (pushes_same phones c phone (unended (c.line phone).queue now)) h

early : (limit : ℕ) (phones : List AddressValue) (calls : List Call) → AreEarly (called_all limit phones calls).accepted
unfolding new_centre
early limit phones [] = tt
early limit phones (call ∷ past) = called_early limit phones (called_all limit phones past) call (early limit phones past)

-- ---- keys with different stamps

single_apart : (p q : AddressValue) (s t : List ℕ) → s ≢ t → same_key (Single p s) (Single q t) ≡ false
unfolding same_key
single_apart p q s t apart =
    false_from_ne_true (same_address p q && bytes_eq s t) (λ h. apart ((bytes_eq-Decides s t).0 (and_parts (same_address p q) (bytes_eq s t) h).1))

pieces_apart : (p q : AddressValue) (s t : List ℕ) (c d : Option Concat) → c ≡ None → d ≡ None → s ≢ t → same_key (key_of p s c) (key_of q t d) ≡ false
pieces_apart p q s t c d e f apart = rw (e, f) (single_apart p q s t apart)

stamps_apart : MomentComesBackOfZone0 → (x y : ℕ) → x < y → y < end_of_2099 → x < end_of_2099 → stamp_octets y ≢ stamp_octets x
stamps_apart back x y less ey ex e =
    let z : Some y ≡ Some x = sym (back y ey) ∙ (ap moment_of e ∙ back x ex) in
    let same : y ≡ x = cc in omega (arith, same, less)

own_key : MomentComesBackOfZone0 → (phones : List AddressValue) (a : Acceptance) (past : List Acceptance) → a.stamp < end_of_2099 → AreBelow past a.recipient a.stamp → AreEarly past → HasOwnKey phones a past
own_key back phones a [] lives below h = tt
own_key back phones a (b ∷ past) lives below h = (
  λ same one other.
      pieces_apart (address_of phones a.phone) (address_of phones b.phone) (stamp_octets a.stamp) (stamp_octets b.stamp) (concat_of_header a.submission.user.header) (concat_of_header b.submission.user.header) one other
      (stamps_apart back b.stamp a.stamp (below.0 same) lives h.0),
  own_key back phones a past lives below.1 h.1,
)

own_keys : MomentComesBackOfZone0 → (phones : List AddressValue) (accepted : List Acceptance) → IsRising accepted → AreEarly accepted → HaveOwnKeys phones accepted
own_keys back phones [] rising h = tt
own_keys back phones (a ∷ past) rising h = (own_key back phones a past h.0 rising.0 h.1, own_keys back phones past rising.1 h.1)

pub deliveries_have_own_keys : MomentComesBackOfZone0 → DeliveriesHaveOwnKeys
deliveries_have_own_keys back limit phones calls =
    own_keys back phones (called_all limit phones calls).accepted (stamps_rise limit phones calls) (early limit phones calls)

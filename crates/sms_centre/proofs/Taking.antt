-- What comes to the centre from a phone, without what is accepted.
use Rattle.std.proofs.Common.{◌≡◌, ℕ, zero, suc, ◌+◌, ◌<◌, ◌≤◌, max, Bool, true, false, not, cond, ◌&&◌, nat_lt, List, [], ◌∷◌, length, Option, Some, None, Result, Ok, Err, refl, sym, ap, ◌∙◌, subst, arith}
use Rattle.std.specs.Prelude.{nat_le, position}
use Rattle.std.specs.List.{prefix_len}
use Rattle.std.proofs.lemmas.List.Quantifiers.{position-Some}
use Rattle.std.specs.List.{slice_get}
use Rattle.std.proofs.Common.{get_or}
use Rattle.std.proofs.lemmas.Option.{slice_get_read}
use Rattle.std.proofs.lemmas.Bool.Decides.{nat_tests}
use Rattle.sms_field.specs.Address.Value.{AddressValue}
use Rattle.sms_field.specs.declared.validity.ValidityFault.{ValidityFault}
use Rattle.sms_field.specs.declared.validity.ValidityFault.TheVariants.{EnhancedValidity, NoMoment}
use Rattle.sms_tpdu.specs.Submit.{Submission}
use Rattle.sms_field.specs.Address.Same.{same_address}
use Rattle.sms_message.specs.Address.{phone_at, address_of}
use Rattle.sms_field.specs.Time.Computed.{end_of, end_of_2099}
use Rattle.sms_centre.specs.Centre.State.{CentreState}
use Rattle.sms_centre.specs.Centre.Checks.{Books, check_space, check_recipient, check_validity, checked_by, books_of}
use Rattle.sms_message.specs.Does.{drops, notes, Puts, packets_of, CarriesEach}
use Rattle.sms_centre.specs.Centre.Held.{unended, is_held, next_stamp}
use Rattle.sms_centre.specs.Centre.Value.{CentreValue, LineValue, addresses}
use Rattle.sms_centre.specs.Centre.Standing.{StandsFor}
use Rattle.sms_centre.specs.Centre.Kept.{key_of, is_kept}
use Rattle.sms_centre.specs.Inside.Kept.{free_at, books_in}
use Rattle.sms_centre.specs.Inside.Calls.{IsCheckIn}
use Rattle.sms_centre.specs.Centre.Calls.{CentreAnswers}
use Rattle.sms_centre.proofs.Lines.{free_is}
use Rattle.sms_centre.proofs.Holdings.{endings_stay}
use Rattle.sms_centre.specs.declared.centre.held.Ending.{Ending}
use Rattle.sms_message.specs.declared.message.Message.{Message}
use Rattle.sms_centre.specs.declared.centre.check.Check.{Check}
use Rattle.sms_centre.specs.declared.centre.check.Check.TheVariants.{Refuse, Accept}
use Rattle.sms_message.specs.declared.outcome.Step.{Step}
use Rattle.sms_message.specs.declared.outcome.Outcome.{Outcome}
use Rattle.sms_message.specs.declared.outcome.Outcome.TheVariants.{Noted}
use Rattle.sms_message.specs.declared.outcome.Dropped.{Dropped}
use Rattle.sms_message.specs.declared.outcome.Dropped.TheVariants.{NotCp, Unmatched, Busy, Memory, TooManySegments}

-- an answer that changes nothing
pub puts_answer : (limit : ℕ) (phones : List AddressValue) (now : ℕ) (v : CentreValue) (c : CentreState) (outcome : Outcome) (messages : List Message) (r : Result Step Dropped)
    → StandsFor limit phones now v c → Puts outcome messages r → CentreAnswers limit phones now c (record { answer = Ok outcome; put = messages; after = c }) r v
puts_answer limit phones now v c outcome messages (Ok step) s p = (ap Ok (sym p.0), p.1, s)
puts_answer limit phones now v c outcome messages (Err NotCp) s p = absurd (let e : NotCp ≡ Memory = p in cc)
puts_answer limit phones now v c outcome messages (Err Unmatched) s p = absurd (let e : Unmatched ≡ Memory = p in cc)
puts_answer limit phones now v c outcome messages (Err Busy) s p = absurd (let e : Busy ≡ Memory = p in cc)
puts_answer limit phones now v c outcome messages (Err TooManySegments) s p = absurd (let e : TooManySegments ≡ Memory = p in cc)
puts_answer limit phones now v c outcome messages (Err Memory) s p = s

-- ---- the code's books are those of the histories

prefix_same : (target : AddressValue) (lines : List LineValue) → prefix_len (λ a. not (same_address a target)) (addresses lines) ≡ prefix_len (λ line. not (same_address line.address target)) lines
prefix_same target [] = refl
prefix_same target (line ∷ lines) = ap (λ n. cond (not (same_address line.address target)) (1 + n) 0) (prefix_same target lines)

pub as_many : (lines : List LineValue) → length (addresses lines) ≡ length lines
as_many [] = refl
as_many (line ∷ lines) = ap suc (as_many lines)

pub found_at : (lines : List LineValue) (target : AddressValue) → position (λ line. same_address line.address target) lines ≡ phone_at (addresses lines) target
found_at lines target = rw (as_many lines, prefix_same target lines) refl

record IsThere (lines : List LineValue) (r : ℕ) : Type 0 where
  line : LineValue
  is : slice_get lines r ≡ Some line

there_is : (lines : List LineValue) (r : ℕ) → r < length lines → IsThere lines r
there_is [] r h = absurd (omega arith)
there_is (line ∷ lines) zero h = record { line = line; is = refl }
there_is (line ∷ lines) (suc r) h = let t = there_is lines r (omega arith) in record { line = t.line; is = t.is }

space_by : (limit : ℕ) (sub : Submission) (ends r : ℕ) (h k : Bool) (m n x y : ℕ) → h ≡ k → m ≡ n → x ≡ y
    → ◌≡◌ {A = Check} (cond (sub.reject && h) (Refuse 21 0xC5) (cond (nat_le limit m) (Refuse 42 0xC0) (cond (nat_le end_of_2099 x) (Refuse 38 0xC2) (Accept r ends x))))
    (cond (sub.reject && k) (Refuse 21 0xC5) (cond (nat_le limit n) (Refuse 42 0xC0) (cond (nat_le end_of_2099 y) (Refuse 38 0xC2) (Accept r ends y))))
space_by limit sub ends r h k m n x y e f g = rw (e, f, g) refl

module _ (limit : ℕ) (phones : List AddressValue) (now : ℕ) (v : CentreValue) (c : CentreState) (s : StandsFor limit phones now v c) (phone : ℕ) (sub : Submission) where
  space_alike : (ends r : ℕ) → r < length v.lines → check_space limit (books_in v now phone sub) sub ends r ≡ check_space limit (books_of c.accepted now phone sub) sub ends r
  space_alike ends r within =
      let t = there_is v.lines r within in
      let kept : is_kept v.held.last (key_of phone sub.reference r) now ≡ is_held c.accepted phone sub.reference r now = s.held_stand.kept phone sub.reference r now (omega arith) in
      let count : length v.held.endings ≡ length (unended c.accepted now) = ap (λ (l : List Ending). length l) (sym (endings_stay now v.held.endings s.held_stand.left)) ∙ s.held_stand.count now (omega arith) in
      let stamp : max (free_at v.lines r) now ≡ next_stamp c.accepted r now = ap (λ n. max n now) (free_is v.lines r t.line t.is) ∙ sym ((s.lines_stand r t.line t.is).free now) in
      space_by limit sub ends r _ _ _ _ _ _ kept count stamp

  recipient_alike : (ends : ℕ) (o : Option ℕ) → o ≡ phone_at (addresses v.lines) sub.target → check_recipient limit (books_in v now phone sub) sub ends o ≡ check_recipient limit (books_of c.accepted now phone sub) sub ends o
  recipient_alike ends None e = refl
  recipient_alike ends (Some r) e = space_alike ends r (omega (arith, position-Some (λ a. same_address a sub.target) (addresses v.lines) r (address_of [] 0) (sym e), as_many v.lines))

  validity_alike : (e : Result ℕ ValidityFault) → check_validity limit (addresses v.lines) (books_in v now phone sub) now sub e ≡ check_validity limit (addresses v.lines) (books_of c.accepted now phone sub) now sub e
  validity_alike (Err EnhancedValidity) = refl
  validity_alike (Err NoMoment) = refl
  validity_alike (Ok ends) = ap (λ (k : Check). cond (nat_lt now ends) k (Refuse 21 0xC7)) (recipient_alike ends (phone_at (addresses v.lines) sub.target) refl)

  pub checked_alike : checked_by v.limit (addresses v.lines) (books_in v now phone sub) now sub ≡ checked_by limit phones (books_of c.accepted now phone sub) now sub
  unfolding checked_by
  checked_alike = rw (s.limit_is) (validity_alike (end_of sub.validity now) ∙ ap (λ (ps : List AddressValue). check_validity limit ps (books_of c.accepted now phone sub) now sub (end_of sub.validity now)) s.phones_are)

-- ---- what is accepted has the next stamp, and has not ended

abbrev pub GivesStamp : Books → ℕ → Check → Type 0
GivesStamp books now (Refuse cause failure) = Unit {0}
GivesStamp books now (Accept r ends stamp) = (stamp ≡ books.stamp r) × (now < ends)

space_gives : (limit : ℕ) (books : Books) (sub : Submission) (ends r : ℕ) (a b d : Bool) (now : ℕ) → now < ends → GivesStamp books now (cond a (Refuse 21 0xC5) (cond b (Refuse 42 0xC0) (cond d (Refuse 38 0xC2) (Accept r ends (books.stamp r)))))
space_gives limit books sub ends r true b d now h = tt
space_gives limit books sub ends r false true d now h = tt
space_gives limit books sub ends r false false true now h = tt
space_gives limit books sub ends r false false false now h = (refl, h)

recipient_gives : (limit : ℕ) (books : Books) (sub : Submission) (ends now : ℕ) (o : Option ℕ) → now < ends → GivesStamp books now (check_recipient limit books sub ends o)
recipient_gives limit books sub ends now None h = tt
recipient_gives limit books sub ends now (Some r) h = space_gives limit books sub ends r _ _ _ now h

ends_gives : (limit : ℕ) (books : Books) (sub : Submission) (ends now : ℕ) (o : Option ℕ) (b : Bool) → nat_lt now ends ≡ b → GivesStamp books now (cond b (check_recipient limit books sub ends o) (Refuse 21 0xC7))
ends_gives limit books sub ends now o true e = recipient_gives limit books sub ends now o (grind (arith, nat_tests))
ends_gives limit books sub ends now o false e = tt

validity_gives : (limit : ℕ) (phones : List AddressValue) (books : Books) (now : ℕ) (sub : Submission) (e : Result ℕ ValidityFault) → GivesStamp books now (check_validity limit phones books now sub e)
validity_gives limit phones books now sub (Err EnhancedValidity) = tt
validity_gives limit phones books now sub (Err NoMoment) = tt
validity_gives limit phones books now sub (Ok ends) = ends_gives limit books sub ends now (phone_at phones sub.target) (nat_lt now ends) refl

pub checked_gives : (limit : ℕ) (phones : List AddressValue) (books : Books) (now : ℕ) (sub : Submission) → GivesStamp books now (checked_by limit phones books now sub)
unfolding checked_by
checked_gives limit phones books now sub = validity_gives limit phones books now sub (end_of sub.validity now)

check_in_by : (now phone : ℕ) (sub : Submission) (v : CentreValue) (k : Check) → GivesStamp (books_in v now phone sub) now k → IsCheckIn now phone sub k v
check_in_by now phone sub v (Refuse cause failure) h = tt
check_in_by now phone sub v (Accept r ends stamp) h = h

pub check_in : (now phone : ℕ) (sub : Submission) (v : CentreValue) (k : Check) → k ≡ checked_by v.limit (addresses v.lines) (books_in v now phone sub) now sub → IsCheckIn now phone sub k v
check_in now phone sub v k e = check_in_by now phone sub v k (subst (λ (x : Check). GivesStamp (books_in v now phone sub) now x) (sym e) (checked_gives v.limit (addresses v.lines) (books_in v now phone sub) now sub))

-- nothing comes of it
pub nothing_comes : (limit : ℕ) (phones : List AddressValue) (now : ℕ) (v : CentreValue) (c : CentreState) → StandsFor limit phones now v c → CentreAnswers limit phones now c (drops c Unmatched) (Err Unmatched) v
nothing_comes limit phones now v c s = (refl, s)

pub nothing_read : (limit : ℕ) (phones : List AddressValue) (now : ℕ) (v : CentreValue) (c : CentreState) → StandsFor limit phones now v c → CentreAnswers limit phones now c (drops c NotCp) (Err NotCp) v
nothing_read limit phones now v c s = (refl, s)

pub noted : (limit : ℕ) (phones : List AddressValue) (now : ℕ) (v : CentreValue) (c : CentreState) (step : Step) → step.outcome ≡ Noted → packets_of step ≡ [] → StandsFor limit phones now v c → CentreAnswers limit phones now c (notes c) (Ok step) v
noted limit phones now v c step e f s = (ap Ok (sym e), subst (λ (ps : List (List ℕ)). CarriesEach ps []) (sym f) tt, s)

-- ---- whether there is room

pub space_late : (limit : ℕ) (books : Books) (sub : Submission) (ends r stamp : ℕ) → (sub.reject && books.is_held r) ≡ false → books.count < limit → stamp ≡ books.stamp r → end_of_2099 ≤ stamp
    → Refuse 38 0xC2 ≡ check_space limit books sub ends r
space_late limit books sub ends r stamp e f g h =
    let full : nat_le limit books.count ≡ false = grind (arith, nat_tests) in
    let late : nat_le end_of_2099 (books.stamp r) ≡ true = subst (λ n. nat_le end_of_2099 n ≡ true) g (grind (arith, nat_tests)) in
    rw (e, full, late) refl

pub space_free : (limit : ℕ) (books : Books) (sub : Submission) (ends r stamp : ℕ) → (sub.reject && books.is_held r) ≡ false → books.count < limit → stamp ≡ books.stamp r → stamp < end_of_2099
    → Accept r ends stamp ≡ check_space limit books sub ends r
space_free limit books sub ends r stamp e f g h =
    let full : nat_le limit books.count ≡ false = grind (arith, nat_tests) in
    let late : nat_le end_of_2099 (books.stamp r) ≡ false = subst (λ n. nat_le end_of_2099 n ≡ false) g (grind (arith, nat_tests)) in
    rw (e, full, late) (ap (λ n. Accept r ends n) g)

pub stamp_at : (v w : CentreValue) (r now stamp free : ℕ) (line view : LineValue) → v ≡ w → r < length w.lines → line ≡ get_or v.lines r line → view ≡ line → free ≡ view.free → stamp ≡ max free now → stamp ≡ max (free_at w.lines r) now
stamp_at v w r now stamp free line view e within at f g h =
    let there : slice_get w.lines r ≡ Some line = slice_get_read w.lines (length w.lines) r line refl within (at ∙ ap (λ (x : CentreValue). get_or x.lines r line) e) in
    h ∙ ap (λ n. max n now) (g ∙ (ap (λ (l : LineValue). l.free) f ∙ sym (free_is w.lines r line there)))

-- ---- by the end of the validity period

by_lasting : {b : Bool} → b ≡ true → (k : Check) → k ≡ cond b k (Refuse 21 0xC7)
by_lasting e k = rw e refl

module _ (limit : ℕ) (phones : List AddressValue) (books : Books) (now : ℕ) (sub : Submission) where
  pub no_moment : Err NoMoment ≡ end_of sub.validity now → Refuse 21 0xC7 ≡ checked_by limit phones books now sub
  unfolding checked_by
  no_moment e = ap (check_validity limit phones books now sub) e

  pub ended : (ends : ℕ) → Ok ends ≡ end_of sub.validity now → ends ≤ now → Refuse 21 0xC7 ≡ checked_by limit phones books now sub
  unfolding checked_by
  ended ends e h =
      let f : nat_lt now ends ≡ false = grind (arith, nat_tests) in
      sym (rw f refl) ∙ ap (check_validity limit phones books now sub) e

  pub unknown : (ends : ℕ) → Ok ends ≡ end_of sub.validity now → now < ends → None ≡ phone_at phones sub.target → Refuse 1 0xC3 ≡ checked_by limit phones books now sub
  unfolding checked_by
  unknown ends e h g =
      let f : nat_lt now ends ≡ true = grind (arith, nat_tests) in
      ap (check_recipient limit books sub ends) g ∙ (by_lasting f (check_recipient limit books sub ends (phone_at phones sub.target)) ∙ ap (check_validity limit phones books now sub) e)

  pub known : (ends r : ℕ) (k : Check) → Ok ends ≡ end_of sub.validity now → now < ends → Some r ≡ phone_at phones sub.target → k ≡ check_space limit books sub ends r → k ≡ checked_by limit phones books now sub
  unfolding checked_by
  known ends r k e h g m =
      let f : nat_lt now ends ≡ true = grind (arith, nat_tests) in
      m ∙ (ap (check_recipient limit books sub ends) g ∙ (by_lasting f (check_recipient limit books sub ends (phone_at phones sub.target)) ∙ ap (check_validity limit phones books now sub) e))

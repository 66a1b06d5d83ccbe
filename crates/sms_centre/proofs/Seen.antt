-- What is dropped at a glance is dropped by the machine, and nothing else is.
use Rattle.std.proofs.Common.{◌≡◌, ℕ, ◌≤◌, ◌<◌, zero, suc, length, arith, Bool, true, false, cond, ◌&&◌, nat_lt, List, [], ◌∷◌, Option, Some, None, Ok, Err, refl, sym, ap, ◌∙◌, subst}
use Rattle.std.specs.List.{slice_get}
use Rattle.sms_field.specs.Address.Value.{AddressValue}
use Rattle.sms_relay.specs.declared.side.Side.TheVariants.{FromPhone, ToPhone}
use Rattle.sms_tpdu.specs.Submit.{Submission}
use Rattle.sms_message.specs.Message.{Origin, same_tag}
use Rattle.sms_message.specs.Message.Glance.{glance_of, IsSeenAs}
use Rattle.sms_message.specs.Message.Reading.{ReadsAs}
use Rattle.sms_message.specs.Does.{Does, drops}
use Rattle.sms_message.specs.declared.glance.Glance.{Glance}
use Rattle.sms_message.specs.declared.glance.Glance.TheVariants as glance
use Rattle.sms_message.specs.declared.message.TransferUnit.{TransferUnit}
use Rattle.sms_message.specs.declared.message.TransferUnit.TheVariants.{Submit, Deliver, OtherUnit, BadUnit}
use Rattle.sms_message.specs.declared.message.Relay.TheVariants.{Transfer, Answer, UnknownType, Unreadable}
use Rattle.sms_message.specs.declared.message.Message.{Message}
use Rattle.sms_message.specs.declared.message.Message.TheVariants.{NotCp, Note, Tiny, Data}
use Rattle.sms_message.specs.declared.message.Tag.{Tag}
use Rattle.sms_message.specs.declared.outcome.Outcome.{Outcome}
use Rattle.sms_message.specs.declared.outcome.Outcome.TheVariants.{Held, Refused, Noted}
use Rattle.sms_message.specs.declared.outcome.Dropped.{Dropped}
use Rattle.sms_message.specs.declared.outcome.Dropped.TheVariants as dropped
use Rattle.sms_centre.specs.declared.centre.check.Check.{Check}
use Rattle.sms_centre.specs.declared.centre.check.Check.TheVariants.{Refuse, Accept}
use Rattle.sms_centre.specs.Centre.{centre_opened, centre_answered, centre_receives}
use Rattle.sms_centre.specs.Centre.State.{Pushing, CentreState}
use Rattle.sms_centre.specs.Centre.Checks.{books_of, checked_by}
use Rattle.sms_centre.specs.Centre.Submissions.{checked, centre_takes}
use Rattle.sms_centre.specs.Centre.Verdicts.{verdict, settled, centre_hears}
use Rattle.sms_centre.specs.Centre.Value.{CentreValue, LineValue, addresses, phones_of}
use Rattle.sms_centre.specs.Inside.Lines.{awaits_in}
use Rattle.sms_centre.specs.Centre.Standing.{push_of, StandsFor}
use Rattle.sms_centre.specs.Centre.Calls.{CentreAnswers, ReceivesAs}
use Rattle.sms_centre.specs.Inside.Seen.{is_taken, awaited_of, awaited_at, drop_of, DropsFor}
use Rattle.sms_centre.specs.Centre.Seen.{IsAnswered}

abbrev Answers : Does CentreState → Type 0
Answers d = (outcome : Outcome) × (d.answer ≡ Ok outcome)

check_answers : (c : CentreState) (now phone : ℕ) (tag : Tag) (s : Submission) (origin : Option Origin) (k : Check) → Answers (checked c now phone tag s origin k)
unfolding checked
check_answers c now phone tag s origin (Refuse cause failure) = (Refused cause (Some failure), refl)
check_answers c now phone tag s origin (Accept recipient ends stamp) = (Held, refl)

unit_answers : (limit : ℕ) (phones : List AddressValue) (c : CentreState) (now phone : ℕ) (tag : Tag) (unit : TransferUnit) (origin : Option Origin) → Answers (centre_takes limit phones c now phone tag unit origin)
unfolding centre_takes
unit_answers limit phones c now phone tag (Submit s) origin = check_answers c now phone tag s origin (checked_by limit phones (books_of c.accepted now phone s) now s)
unit_answers limit phones c now phone tag (Deliver d) origin = (Refused 21 (Some 0xB0), refl)
unit_answers limit phones c now phone tag OtherUnit origin = (Refused 21 (Some 0xB0), refl)
unit_answers limit phones c now phone tag BadUnit origin = (Refused 21 (Some 0xFF), refl)

abbrev Seen : Bool → CentreState → Does CentreState → Type 0
Seen taken c d = DropsFor (cond taken None (Some dropped.Unmatched)) c d

hears_by : (c : CentreState) (now phone : ℕ) (tag : Tag) (cause : Option ℕ) (latest : Option Pushing) → Seen (awaits_in now tag (push_of latest)) c (centre_hears c now phone tag cause latest)
unfolding centre_hears settled
hears_by c now phone tag cause None = refl
hears_by c now phone tag cause (Some p) = go (same_tag tag p.tag && nat_lt now p.message.ends)
  where
    go : (b : Bool) → Seen b c (cond b (settled c phone tag p.message cause) (drops c dropped.Unmatched))
    go true = (verdict cause, refl)
    go false = refl

module _ (limit : ℕ) (phones : List AddressValue) (now : ℕ) (v : CentreValue) (c : CentreState) (phone : ℕ) (line : LineValue) (there : slice_get v.lines phone ≡ Some line) (s : StandsFor limit phones now v c) where
  awaited_there : (tag : Tag) → awaits_in now tag (push_of (c.line phone).latest) ≡ awaited_at now v.lines phone tag
  awaited_there tag = ap (awaits_in now tag) (sym (s.lines_stand phone line there).latest) ∙ ap (awaited_of now tag) (sym there)

  pub seen_drops : (message : Message) (origin : Option Origin) → DropsFor (drop_of (awaited_at now v.lines phone) (glance_of message)) c (centre_receives limit phones c now phone message origin)
  unfolding centre_receives centre_opened centre_answered
  seen_drops NotCp origin = refl
  seen_drops (Note flag value) origin = (Noted, refl)
  seen_drops (Tiny flag value) origin = refl
  seen_drops (Data false tag (Transfer FromPhone unit)) origin = unit_answers limit phones c now phone tag unit origin
  seen_drops (Data false tag (Transfer ToPhone unit)) origin = refl
  seen_drops (Data false tag (Answer side cause report)) origin = refl
  seen_drops (Data false tag UnknownType) origin = (Refused 97 None, refl)
  seen_drops (Data false tag Unreadable) origin = (Refused 96 None, refl)
  seen_drops (Data true tag (Transfer side unit)) origin = refl
  seen_drops (Data true tag (Answer FromPhone cause report)) origin =
      subst (λ (b : Bool). Seen b c (centre_hears c now phone tag cause (c.line phone).latest)) (awaited_there tag) (hears_by c now phone tag cause (c.line phone).latest)
  seen_drops (Data true tag (Answer ToPhone cause report)) origin = refl
  seen_drops (Data true tag UnknownType) origin = refl
  seen_drops (Data true tag Unreadable) origin = refl

pub line_there : (lines : List LineValue) (phone : ℕ) → phone < length (addresses lines) → (line : LineValue) × (slice_get lines phone ≡ Some line)
line_there [] phone within = absurd (omega arith)
line_there (line ∷ lines) zero within = (line, refl)
line_there (line ∷ lines) (suc phone) within = line_there lines phone (omega arith)

-- ---- a call that begins at its moment

abbrev Advanced : ℕ → CentreValue → CentreValue → Type 0
Advanced now old mid = (limit : ℕ) (phones : List AddressValue) (clock : ℕ) (c : CentreState) → clock ≤ now → StandsFor limit phones clock old c → StandsFor limit phones now mid c

module _ (now phone : ℕ) (octets : List ℕ) (old mid : CentreValue) (seen : Glance) (advanced : Advanced now old mid) (is : IsSeenAs octets seen) (within : phone < length (phones_of mid)) where
  what_is_done : (limit : ℕ) (phones : List AddressValue) (c : CentreState) (message : Message) (origin : Option Origin) (why : Option Dropped) → StandsFor limit phones now mid c → ReadsAs octets message
      → drop_of (awaited_at now mid.lines phone) seen ≡ why → DropsFor why c (centre_receives limit phones c now phone message origin)
  what_is_done limit phones c message origin why s read e =
      let at = line_there mid.lines phone within in
      subst (λ (o : Option Dropped). DropsFor o c (centre_receives limit phones c now phone message origin)) (ap (drop_of (awaited_at now mid.lines phone)) (is message read) ∙ e)
      (seen_drops limit phones now mid c phone at.0 at.1 s message origin)

  dropped_by : (message : Message) (why : Dropped) (limit : ℕ) (phones : List AddressValue) (c : CentreState) (origin : Option Origin) → ReadsAs octets message → StandsFor limit phones now mid c
      → drop_of (awaited_at now mid.lines phone) seen ≡ Some why → centre_receives limit phones c now phone message origin ≡ drops c why
  dropped_by message why limit phones c origin read s e = what_is_done limit phones c message origin (Some why) s read e

  pub drop_receives : (message : Message) (why : Dropped) → ReadsAs octets message → drop_of (awaited_at now mid.lines phone) seen ≡ Some why → ReceivesAs now phone octets old (Err why) mid
  drop_receives message dropped.Memory read e = advanced
  drop_receives message dropped.NotCp read e = (
    message,
    read,
    λ limit phones clock c origin le s.
        subst (λ (d : Does CentreState). CentreAnswers limit phones now c d (Err dropped.NotCp) mid) (sym (dropped_by message dropped.NotCp limit phones c origin read (advanced limit phones clock c le s) e)) (refl, advanced limit phones clock c le s),
  )
  drop_receives message dropped.Unmatched read e = (
    message,
    read,
    λ limit phones clock c origin le s.
        subst (λ (d : Does CentreState). CentreAnswers limit phones now c d (Err dropped.Unmatched) mid) (sym (dropped_by message dropped.Unmatched limit phones c origin read (advanced limit phones clock c le s) e)) (refl, advanced limit phones clock c le s),
  )
  drop_receives message dropped.Busy read e = (
    message,
    read,
    λ limit phones clock c origin le s.
        subst (λ (d : Does CentreState). CentreAnswers limit phones now c d (Err dropped.Busy) mid) (sym (dropped_by message dropped.Busy limit phones c origin read (advanced limit phones clock c le s) e)) (refl, advanced limit phones clock c le s),
  )
  drop_receives message dropped.TooManySegments read e = (
    message,
    read,
    λ limit phones clock c origin le s.
        subst (λ (d : Does CentreState). CentreAnswers limit phones now c d (Err dropped.TooManySegments) mid) (sym (dropped_by message dropped.TooManySegments limit phones c origin read (advanced limit phones clock c le s) e)) (refl, advanced limit phones clock c le s),
  )

  pub none_dropped : drop_of (awaited_at now mid.lines phone) seen ≡ None → IsAnswered now phone octets old
  none_dropped e = λ limit phones clock c message origin le s read. what_is_done limit phones c message origin None (advanced limit phones clock c le s) read e

unmatched_alone : (b : Bool) → cond b None (Some dropped.Unmatched) ≡ Some dropped.Memory → ⊥
unmatched_alone true e = cc
unmatched_alone false e = cc

-- want of memory is no reason to drop
pub never_memory : (awaited : Tag → Bool) (seen : Glance) → drop_of awaited seen ≡ Some dropped.Memory → ⊥
never_memory awaited glance.NotCp e = cc
never_memory awaited (glance.Note flag value) e = cc
never_memory awaited (glance.Tiny flag value) e = cc
never_memory awaited (glance.Data flag tag r) e = unmatched_alone (is_taken flag (awaited tag) r) e

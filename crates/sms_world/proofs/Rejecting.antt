-- Where duplicates are to be rejected from the first putting out on, each submission says so.
use Rattle.std.proofs.Common.{◌≡◌, ℕ, ◌+◌, ◌-◌, Bool, true, false, ltb, leb, eqb, ◌&&◌, List, [], ◌∷◌, length, refl, subst, Some, None, Option, inl, inr}
use Rattle.std.specs.List.{AllByRecursion}
use Rattle.sms_message.specs.Message.Answers.{answers}
use Rattle.sms_message.specs.Does.{Does}
use Rattle.std.proofs.lemmas.Bool.{cond_both}
use Rattle.sms_field.specs.Address.Value.{AddressValue}
use Rattle.sms_tpdu.specs.Submit.{Submission}
use Rattle.sms_relay.specs.declared.side.Side.TheVariants.{FromPhone, ToPhone}
use Rattle.sms_join.specs.declared.units.Units.{Units}
use Rattle.sms_message.specs.declared.message.TransferUnit.{TransferUnit}
use Rattle.sms_message.specs.declared.message.TransferUnit.TheVariants.{Submit, Deliver, OtherUnit, BadUnit}
use Rattle.sms_message.specs.declared.message.Report.{Report}
use Rattle.sms_message.specs.declared.message.Relay.{Relay}
use Rattle.sms_message.specs.declared.message.Relay.TheVariants.{Transfer, Answer, UnknownType, Unreadable}
use Rattle.sms_message.specs.declared.message.Message.{Message}
use Rattle.sms_message.specs.declared.message.Message.TheVariants.{NotCp, Note, Tiny, Data}
use Rattle.sms_message.specs.declared.message.Tag.{Tag}
use Rattle.sms_message.specs.Message.{tag_of, same_tag, Origin}
use Rattle.sms_centre.specs.declared.centre.check.Check.{Check}
use Rattle.sms_centre.specs.declared.centre.check.Check.TheVariants.{Refuse, Accept}
use Rattle.sms_field.specs.Time.Computed.{end_of_2099}
use Rattle.sms_centre.specs.Centre.State.{CentreState, Acceptance, Pushing}
use Rattle.sms_centre.specs.Centre.Submissions.{checked, centre_takes}
use Rattle.sms_centre.specs.Centre.Checks.{checked_by, books_of}
use Rattle.sms_centre.specs.Centre.{centre_opened, centre_answered, centre_receives}
use Rattle.sms_centre.specs.Centre.Verdicts.{centre_hears, settled}
use Rattle.sms_centre.specs.Centre.Pushes.{centre_pushes, pushes_first}
use Rattle.sms_centre.specs.Centre.Held.{unended}
use Rattle.sms_party.specs.Sent.{nth, Place, Centre, Phone, Sent, bare, Sends}
use Rattle.sms_message.specs.declared.outcome.Outcome.{Outcome}
use Rattle.sms_world.specs.Told.{Told}
use Rattle.sms_party.specs.Sender.Texts.{Text, Sender, SenderState}
use Rattle.sms_party.specs.Sender.Putting.{Puts, puts, puts_first, puts_text, with_sender, sender_drops, does}
use Rattle.sms_party.specs.Sender.Calls.{typed, composes, repeats, times_out}
use Rattle.sms_party.specs.Sender.Answers.{noted, hears, matches, sender_receives}
use Rattle.sms_party.specs.Sender.Segments.{submission_of}
use Rattle.sms_script.specs.declared.script.limits.Limits.{Limits}
use Rattle.sms_world.specs.Machine.{Machine, start}
use Rattle.sms_world.specs.Machine.Event.{Event, Act, TypesText, MovesPacket, EndsWait, HandsOver, MovesClock, SlipsIn}
use Rattle.sms_world.specs.Machine.Next.{Next, next, stays, by_sender, by_centre, by_receiver, of_centre, to_phone, pushed, comes, comes_to_phone, carries, packet, ticked, phone_of, to_centre, receiver_limits}
use Rattle.sms_world.specs.Machine.Step.{Acts, Run}
use Rattle.sms_world.specs.Accepted.Reject.{AllReject, OnlyTimeIsLeft}
use Rattle.sms_world.proofs.Growing.{each_append, each_entered}
use Rattle.sms_world.proofs.Once.{packet_sent, receives_put}

abbrev UnitRejects : TransferUnit → Type 0
UnitRejects (Submit s) = s.reject ≡ true
UnitRejects (Deliver d) = Unit {0}
UnitRejects OtherUnit = Unit {0}
UnitRejects BadUnit = Unit {0}

abbrev RelayRejects : Relay → Type 0
RelayRejects (Transfer side unit) = UnitRejects unit
RelayRejects (Answer side cause report) = Unit {0}
RelayRejects UnknownType = Unit {0}
RelayRejects Unreadable = Unit {0}

abbrev Rejects : Message → Type 0
Rejects NotCp = Unit {0}
Rejects (Note flag value) = Unit {0}
Rejects (Tiny flag value) = Unit {0}
Rejects (Data flag tag relay) = RelayRejects relay

abbrev SentRejects : Sent → Type 0
SentRejects x = Rejects x.message

-- what a sender does
record Keeps (d : Sends SenderState) : Type 0 where
  put : AllByRecursion SentRejects d.put
  setting : d.after.reject ≡ true

puts_reject : (texts : List Text) (phone : ℕ) (s : Sender) (reject : Bool) → reject ≡ true → AllByRecursion SentRejects (puts texts phone s reject).sent
unfolding puts puts_first
puts_reject texts phone s reject h = go s.pending
  where
    go : (ns : List ℕ) → AllByRecursion SentRejects (puts_first texts phone s reject ns).sent
    go [] = tt
    go (n ∷ later) = text_rejects phone s n reject h (nth texts n)
      where
        text_rejects : (phone : ℕ) (s : Sender) (n : ℕ) (reject : Bool) → reject ≡ true → (t : Option Text) → AllByRecursion SentRejects (puts_text phone s n reject t).sent
        text_rejects phone s n reject h None = unfold puts_text in tt
        text_rejects phone s n reject h (Some t) = unfold puts_text submission_of in (h, tt)

module _ (x : SenderState) (phone : ℕ) (setting : x.reject ≡ true) where
  does_keeps : (o : Outcome) (first : List Sent) (s : Sender) (reject : Bool) → reject ≡ true → AllByRecursion SentRejects first → Keeps (does x phone o first (puts x.texts phone s reject))
  unfolding does with_sender
  does_keeps o first s reject h f = record { put = each_append SentRejects first _ f (puts_reject x.texts phone s reject h); setting = setting }

  noted_rejects : (tag : Tag) → AllByRecursion SentRejects (noted phone tag)
  unfolding bare
  noted_rejects tag = (tt, tt)

  typed_keeps : (t : Text) → Keeps (typed x phone t)
  unfolding typed does with_sender
  typed_keeps t =
      record {
        put = cond_both (eqb (length (x.sender phone).pending) 0) _ _ (λ (p : Puts). AllByRecursion SentRejects p.sent)
            (λ _. puts_reject (t ∷ x.texts) phone _ x.reject setting) (λ _. tt);
        setting = setting;
      }

  composes_keeps : (target : AddressValue) (characters : List ℕ) (pieces : List Units) → Keeps (composes x phone target characters pieces)
  unfolding composes sender_drops
  composes_keeps target characters pieces =
      cond_both (leb 1000 (length (x.sender phone).pending)) _ _ Keeps (λ _. record { put = tt; setting = setting })
      (λ _. cond_both (ltb 255 (length pieces)) _ _ Keeps (λ _. record { put = tt; setting = setting }) (λ _. typed_keeps _))

  repeats_keeps : (ns : List ℕ) → Keeps (repeats x phone (x.sender phone) ns)
  unfolding repeats
  repeats_keeps [] = record { put = tt; setting = setting }
  repeats_keeps (n ∷ later) =
      cond_both (ltb (x.sender phone).tries 4) _ _ Keeps (λ _. does_keeps _ [] _ true refl tt) (λ _. does_keeps _ [] _ x.reject setting tt)

  times_out_keeps : Keeps (times_out x phone)
  unfolding times_out
  times_out_keeps = repeats_keeps (x.sender phone).pending

  hears_keeps : (tag : Tag) (n : ℕ) (later : List ℕ) (good more : Bool) (failed : Outcome) → Keeps (hears x phone tag (x.sender phone) n later good more failed)
  unfolding hears
  hears_keeps tag n later true true failed = does_keeps _ _ _ x.reject setting (noted_rejects tag)
  hears_keeps tag n later true false failed = does_keeps _ _ _ x.reject setting (noted_rejects tag)
  hears_keeps tag n later false more failed = does_keeps _ _ _ x.reject setting (noted_rejects tag)

  matches_keeps : (tag : Tag) (ns : List ℕ) (cause : Option ℕ) (report : Option Report) → Keeps (matches x phone tag (x.sender phone) ns cause report)
  unfolding matches sender_drops
  matches_keeps tag [] cause report = record { put = tt; setting = setting }
  matches_keeps tag (n ∷ later) cause report =
      cond_both (same_tag tag (tag_of ((x.sender phone).outs - 1))) _ _ Keeps (λ _. hears_keeps tag n later _ _ _) (λ _. record { put = tt; setting = setting })

  receives_keeps : (tag : Tag) (v : Relay) → Keeps (sender_receives x phone tag v)
  unfolding sender_receives sender_drops
  receives_keeps tag (Answer ToPhone cause report) = matches_keeps tag (x.sender phone).pending cause report
  receives_keeps tag (Answer FromPhone cause report) = record { put = tt; setting = setting }
  receives_keeps tag (Transfer side unit) = record { put = tt; setting = setting }
  receives_keeps tag UnknownType = record { put = tt; setting = setting }
  receives_keeps tag Unreadable = record { put = tt; setting = setting }

-- what the centre does
abbrev Quiet : ℕ → Option Origin → Option ℕ → Does CentreState → Type 0
Quiet phone origin putting d = AllByRecursion SentRejects (to_phone phone origin putting d.put)

checked_quiet : (c : CentreState) (now phone : ℕ) (tag : Tag) (s : Submission) (o origin : Option Origin) (putting : Option ℕ) (k : Check) → Quiet phone origin putting (checked c now phone tag s o k)
unfolding checked
checked_quiet c now phone tag s o origin putting (Refuse cause failure) = (tt, (tt, tt))
checked_quiet c now phone tag s o origin putting (Accept r ends stamp) = (tt, (tt, tt))

takes_quiet : (limit : ℕ) (phones : List AddressValue) (c : CentreState) (now phone : ℕ) (tag : Tag) (u : TransferUnit) (o origin : Option Origin) (putting : Option ℕ)
    → Quiet phone origin putting (centre_takes limit phones c now phone tag u o)
unfolding centre_takes
takes_quiet limit phones c now phone tag (Submit s) o origin putting =
    checked_quiet c now phone tag s o origin putting (checked_by limit phones (books_of c.accepted now phone s) now s)
takes_quiet limit phones c now phone tag (Deliver d) o origin putting = (tt, (tt, tt))
takes_quiet limit phones c now phone tag OtherUnit o origin putting = (tt, (tt, tt))
takes_quiet limit phones c now phone tag BadUnit o origin putting = (tt, (tt, tt))

hears_quiet : (c : CentreState) (now phone : ℕ) (tag : Tag) (cause : Option ℕ) (latest : Option Pushing) (origin : Option Origin) (putting : Option ℕ)
    → Quiet phone origin putting (centre_hears c now phone tag cause latest)
unfolding centre_hears settled
hears_quiet c now phone tag cause None origin putting = tt
hears_quiet c now phone tag cause (Some p) origin putting =
    cond_both (same_tag tag p.tag && ltb now p.message.ends) _ _ (Quiet phone origin putting) (λ _. (tt, tt)) (λ _. tt)

centre_quiet : (limit : ℕ) (phones : List AddressValue) (c : CentreState) (now phone : ℕ) (v : Message) (o origin : Option Origin) (putting : Option ℕ)
    → Quiet phone origin putting (centre_receives limit phones c now phone v o)
unfolding centre_receives centre_opened centre_answered
centre_quiet limit phones c now phone NotCp o origin putting = tt
centre_quiet limit phones c now phone (Note flag value) o origin putting = tt
centre_quiet limit phones c now phone (Tiny flag value) o origin putting = tt
centre_quiet limit phones c now phone (Data false tag (Transfer FromPhone unit)) o origin putting = takes_quiet limit phones c now phone tag unit o origin putting
centre_quiet limit phones c now phone (Data false tag (Transfer ToPhone unit)) o origin putting = tt
centre_quiet limit phones c now phone (Data false tag (Answer side cause report)) o origin putting = tt
centre_quiet limit phones c now phone (Data false tag UnknownType) o origin putting = (tt, (tt, tt))
centre_quiet limit phones c now phone (Data false tag Unreadable) o origin putting = (tt, (tt, tt))
centre_quiet limit phones c now phone (Data true tag (Answer FromPhone cause report)) o origin putting = hears_quiet c now phone tag cause (c.line phone).latest origin putting
centre_quiet limit phones c now phone (Data true tag (Answer ToPhone cause report)) o origin putting = tt
centre_quiet limit phones c now phone (Data true tag (Transfer side unit)) o origin putting = tt
centre_quiet limit phones c now phone (Data true tag UnknownType) o origin putting = tt
centre_quiet limit phones c now phone (Data true tag Unreadable) o origin putting = tt

pushes_quiet : (phones : List AddressValue) (c : CentreState) (phone : ℕ) (queue : List Acceptance) (origin : Option Origin) (putting : Option ℕ)
    → Quiet phone origin putting (pushes_first phones c phone queue)
unfolding pushes_first
pushes_quiet phones c phone [] origin putting = tt
pushes_quiet phones c phone (a ∷ others) origin putting = (tt, tt)

-- the whole
record AllSay (m : Machine) : Type 0 where
  setting : m.senders.reject ≡ true
  sent : AllByRecursion SentRejects m.sent

by_sender_says : (m : Machine) (d : Sends SenderState) → AllSay m → Keeps d → AllSay (by_sender m d).after
unfolding by_sender
by_sender_says m d h k = record { setting = k.setting; sent = each_entered SentRejects d.put m.sent k.put h.sent }

by_centre_says : (m : Machine) (phone : ℕ) (origin : Option Origin) (putting : Option ℕ) (d : Does CentreState) → AllSay m → Quiet phone origin putting d
    → AllSay (by_centre m (of_centre phone origin putting d)).after
unfolding by_centre of_centre
by_centre_says m phone origin putting d h q = record { setting = h.setting; sent = each_entered SentRejects _ m.sent q h.sent }

stays_says : (m : Machine) (told : Told) → AllSay m → AllSay (stays m told).after
unfolding stays
stays_says m told h = h

replies_say : (phone : ℕ) (tag : Tag) (cause : Option ℕ) (report : Option Report) → AllByRecursion SentRejects (to_centre phone (answers FromPhone tag cause report))
unfolding bare
replies_say phone tag cause report = (tt, (tt, tt))

comes_says : (m : Machine) (to : Place) (v : Message) (o : Option Origin) (putting : Option ℕ) → AllSay m → AllSay (comes m to v o putting).after
unfolding comes comes_to_phone by_receiver
comes_says m (Centre phone) v o putting h =
    by_centre_says m phone None putting (centre_receives m.limits.held m.phones m.centre m.clock phone v o) h
    (centre_quiet m.limits.held m.phones m.centre m.clock phone v o None putting)
comes_says m (Phone phone) NotCp o putting h = stays_says m _ h
comes_says m (Phone phone) (Note flag value) o putting h = stays_says m _ h
comes_says m (Phone phone) (Tiny flag value) o putting h = stays_says m _ h
comes_says m (Phone phone) (Data true tag relay) o putting h =
    by_sender_says m (sender_receives m.senders phone tag relay) h (receives_keeps m.senders phone h.setting tag relay)
comes_says m (Phone phone) (Data false tag relay) o putting h =
    record {
      setting = h.setting;
      sent = each_entered SentRejects _ m.sent
          (receives_put SentRejects m.clock (receiver_limits m.limits) (m.receiver phone) phone tag relay o (replies_say phone tag)) h.sent;
    }

carries_says : (m : Machine) (x : Option Sent) → AllSay m → AllSay (carries m x).after
unfolding carries
carries_says m None h = stays_says m _ h
carries_says m (Some x) h = comes_says m x.to x.message x.origin x.putting h

next_says : (m : Machine) (act : Act) → AllSay m → AllSay (next m act).after
unfolding next pushed centre_pushes ticked
next_says m (TypesText phone target characters pieces) h =
    cond_both (ltb phone (length m.phones)) _ _ (λ (r : Next). AllSay r.after)
    (λ _. by_sender_says m (composes m.senders phone target characters pieces) h (composes_keeps m.senders phone h.setting target characters pieces)) (λ _. stays_says m _ h)
next_says m (MovesPacket k) h = carries_says m (packet m k) h
next_says m (EndsWait phone) h =
    cond_both (ltb phone (length m.phones)) _ _ (λ (r : Next). AllSay r.after)
    (λ _. by_sender_says m (times_out m.senders phone) h (times_out_keeps m.senders phone h.setting)) (λ _. stays_says m _ h)
next_says m (HandsOver phone) h =
    cond_both (ltb phone (length m.phones)) _ _ (λ (r : Next). AllSay r.after)
    (λ _. by_centre_says m phone _ None _ h (pushes_quiet m.phones m.centre phone (unended (m.centre.line phone).queue m.clock) _ None)) (λ _. stays_says m _ h)
next_says m (MovesClock seconds) h =
    cond_both (ltb (m.clock + seconds) end_of_2099) _ _ (λ (r : Next). AllSay r.after)
    (λ _. record { setting = h.setting; sent = h.sent }) (λ _. stays_says m _ h)
next_says m (SlipsIn place message) h =
    cond_both (ltb (phone_of place) (length m.phones)) _ _ (λ (r : Next). AllSay r.after) (λ _. comes_says m place message None None h) (λ _. stays_says m _ h)

acts_say : (m : Machine) (act : Act) (told : Told) (put : List Sent) (n : Machine) → AllSay m → Acts m act told put n → AllSay n
acts_say m act told put n h (inl s) = subst AllSay s.2 (next_says m act h)
acts_say m act told put n h (inr s) = subst AllSay s.3 h

run_says : (limits : Limits) (phones : List AddressValue) (past : List (Event × Told)) (m : Machine) → limits.reject ≡ true
    → Run (start limits phones) past m → AllSay m
unfolding start
run_says limits phones [] m r h = subst AllSay h (record { setting = r; sent = tt })
run_says limits phones (e ∷ past) m r h = acts_say h.0 h.3.1.0 e.1 h.3.0 m (run_says limits phones past h.0 r h.1) h.3.1.2

pub all_reject : AllReject
all_reject limits phones past m r run event phone s origin b =
    packet_sent m SentRejects b.number (run_says limits phones past m r run).sent _ b.is

pub only_time_is_left : OnlyTimeIsLeft
only_time_is_left limits phones past m r run event h phone s o b a c e =
    (all_reject limits phones past m r run event phone s (Some o) b, h phone s o b a c e)

-- Worked runs.
use Rattle.std.proofs.Common.{◌≡◌, ℕ, true, false, List, [], ◌∷◌, Some, Ok, Err, refl, sym, ◌∙◌, arith, rules, inl}
use Rattle.sms_text.specs.Utf16.{units_high_first, octets_high_first}
use Rattle.sms_text.specs.TextOfSeptets.{text_of_septets}
use Rattle.sms_text.specs.Tables.{code_of, character_of}
use Rattle.sms_field.specs.Address.Value.{AddressValue}
use Rattle.sms_field.specs.Coding.{alphabet_at}
use Rattle.sms_field.specs.declared.symbols.Symbols.TheVariants.{Digits}
use Rattle.sms_join.specs.declared.units.Units.TheVariants.{Gsm}
use Rattle.sms_join.specs.Key.{same_key, same_width}
use Rattle.sms_join.specs.Joiner.{new_joiner, is_repeat, is_whole, has_room, decided, answer, answered, offered}
use Rattle.sms_join.specs.Arrivals.Joining.{is_recent}
use Rattle.sms_join.specs.Reading.{text_of_segments}
use Rattle.sms_field.specs.Time.Computed.{stamp_octets}
use Rattle.sms_field.specs.Address.Same.{same_address}
use Rattle.sms_centre.specs.Centre.{centre_opened, centre_answered, centre_receives}
use Rattle.sms_centre.specs.Centre.State.{new_centre}
use Rattle.sms_centre.specs.Centre.Checks.{checked_by}
use Rattle.sms_centre.specs.Centre.Submissions.{checked, centre_takes}
use Rattle.sms_centre.specs.Centre.Pushes.{pushes_first, centre_pushes}
use Rattle.sms_centre.specs.Centre.Verdicts.{settled, centre_hears}
use Rattle.sms_party.specs.Sent.{bare}
use Rattle.sms_party.specs.Sender.Texts
use Rattle.sms_party.specs.Sender.Segments
use Rattle.sms_party.specs.Sender.Putting
use Rattle.sms_party.specs.Sender.Calls
use Rattle.sms_party.specs.Sender.Answers
use Rattle.sms_party.specs.Receiver.{receiver_takes, receiver_opened}
use Rattle.sms_party.specs.Receiver.State.{new_receiver}
use Rattle.sms_party.specs.Receiver.Offers.{settles, receiver_offers}
use Rattle.sms_party.specs.Receiver.Aging.{ages}
use Rattle.sms_message.specs.declared.outcome.Outcome.TheVariants.{Typed, Segment, Accepted, Repeated, Held, Refused, Pushed, Delivered, Finished, Kept, Repeat, Ticked}
use Rattle.sms_message.specs.declared.outcome.Dropped.TheVariants.{Unmatched}
use Rattle.sms_world.specs.declared.fault.WorldFault.TheVariants.{Party}
use Rattle.sms_join.specs.Joiner.Aging
use Rattle.sms_world.specs.Machine.{Machine, start}
use Rattle.sms_world.specs.Machine
use Rattle.sms_world.specs.Machine.Event.{Event, Compose, Carry, Push, Act, TypesText, MovesPacket, EndsWait, HandsOver, MovesClock}
use Rattle.sms_world.specs.Machine.Next
use Rattle.sms_world.specs.Machine.Next.{next}
use Rattle.sms_world.specs.Texts.Keys.{texts_of}
use Rattle.sms_world.specs.Texts.Finished.{finished}
use Rattle.sms_world.specs.Texts.Stands.{stands}
use Rattle.sms_text.specs.SeptetsOfText.{septets_of_text, septets_of_character}
use Rattle.sms_tpdu.specs.declared.user_data.concat.Width.TheVariants.{Eight}
use Rattle.sms_join.specs.UnitsOfText.{IsText}
use Rattle.sms_join.specs.Cut.{IsCut}
use Rattle.sms_world.specs.Told.{Told}
use Rattle.sms_world.specs.Machine.Step.{Run}
use Rattle.sms_world.specs.Inside.Rows.{last_after, answers_after, all_orderly, AreActs, told_after, acts_of}

-- what has to compute
abbrev opened : ℕ
unfolding code_of character_of units_high_first octets_high_first alphabet_at same_key same_width new_joiner is_repeat is_whole has_room decided answer answered offered is_recent text_of_segments text_of_septets stamp_octets same_address new_centre checked_by checked centre_takes pushes_first centre_pushes settled centre_hears centre_opened centre_answered centre_receives bare Texts.new_sender Texts.new_text Segments.submission_of Putting.puts_text Putting.puts_first Putting.puts Putting.with_sender Putting.sender_drops Putting.does Calls.appended Calls.typed Calls.composes Calls.ends Calls.repeats Calls.times_out Answers.advanced Answers.hears Answers.matches Answers.sender_receives new_receiver settles receiver_offers receiver_takes receiver_opened Aging.aged Machine.start Next.stays Next.by_sender Next.by_receiver Next.by_centre Next.of_centre Next.pushed Next.comes_to_phone Next.comes Next.carries Next.packet ages Next.ticked Next.next finished stands texts_of
opened = 0

abbrev a : AddressValue
a = record { kind = 1; plan = 1; symbols = Digits (1 ∷ 0 ∷ 0 ∷ 1 ∷ []) }

abbrev b : AddressValue
b = record { kind = 1; plan = 1; symbols = Digits (1 ∷ 0 ∷ 0 ∷ 2 ∷ []) }

abbrev c : AddressValue
c = record { kind = 1; plan = 1; symbols = Digits (1 ∷ 0 ∷ 0 ∷ 3 ∷ []) }

abbrev world : ℕ → ℕ → Machine
world open_max remembered = start (record { held = 1000; open_max = open_max; remembered = remembered; store = 500; wide = false; reject = false }) (a ∷ b ∷ c ∷ [])

-- hi
abbrev hi : List ℕ
hi = 104 ∷ 105 ∷ []

abbrev types_hi : Act
types_hi = TypesText 0 b hi (Gsm hi ∷ [])

-- a repeated submission that comes after the validity has ended
abbrev late_copy : List Act
late_copy = types_hi ∷ MovesPacket 1 ∷ EndsWait 0 ∷ MovesPacket 4 ∷ MovesPacket 6 ∷ MovesPacket 3 ∷ HandsOver 1 ∷ MovesPacket 8 ∷ MovesPacket 10 ∷ MovesClock 172800 ∷ MovesPacket 4 ∷ HandsOver 1 ∷ MovesPacket 14 ∷ []

late_copy_answers : answers_after (world 16 32) late_copy
    ≡ Ok (Typed 1) ∷ Ok Held ∷ Ok (Repeated 1) ∷ Ok (Refused 21 (Some 0xC5)) ∷ Ok (Accepted 1) ∷ Err (Party Unmatched)
    ∷ Ok Pushed ∷ Ok Finished ∷ Ok Delivered ∷ Ok Ticked ∷ Ok Held ∷ Ok Pushed ∷ Ok Finished ∷ []
unfolding opened
late_copy_answers = refl

late_copy_disorderly : all_orderly (world 16 32) late_copy ≡ false
unfolding opened
late_copy_disorderly = refl

late_copy_store : ((last_after (world 16 32) late_copy).receiver 1).store ≡ record { origin = a; characters = hi } ∷ record { origin = a; characters = hi } ∷ []
unfolding opened
late_copy_store = refl

-- two texts with the same words
abbrev same_words : List Act
same_words = types_hi ∷ MovesPacket 1 ∷ MovesPacket 3 ∷ types_hi ∷ MovesPacket 5 ∷ HandsOver 1 ∷ HandsOver 1 ∷ MovesPacket 8 ∷ MovesPacket 9 ∷ []

same_words_answers : answers_after (world 16 32) same_words
    ≡ Ok (Typed 1) ∷ Ok Held ∷ Ok (Accepted 1) ∷ Ok (Typed 2) ∷ Ok Held ∷ Ok Pushed ∷ Ok Pushed ∷ Ok Finished ∷ Ok Finished ∷ []
unfolding opened
same_words_answers = refl

same_words_orderly : all_orderly (world 16 32) same_words ≡ true
unfolding opened
same_words_orderly = refl

same_words_store : ((last_after (world 16 32) same_words).receiver 1).store ≡ record { origin = a; characters = hi } ∷ record { origin = a; characters = hi } ∷ []
unfolding opened
same_words_store = refl

same_words_stand : stands (last_after (world 16 32) same_words) 1 ≡ record { origin = a; characters = hi } ∷ record { origin = a; characters = hi } ∷ []
unfolding opened
same_words_stand = refl

-- a text in two pieces (shorter than a cut would make them)
abbrev long_text : List Act
long_text = TypesText 0 b hi (Gsm (104 ∷ []) ∷ Gsm (105 ∷ []) ∷ []) ∷ MovesPacket 1 ∷ MovesPacket 3 ∷ MovesPacket 5 ∷ HandsOver 1 ∷ HandsOver 1 ∷ MovesPacket 9 ∷ MovesPacket 8 ∷ MovesPacket 8 ∷ MovesPacket 9 ∷ MovesPacket 11 ∷ MovesPacket 13 ∷ HandsOver 1 ∷ MovesPacket 19 ∷ MovesPacket 21 ∷ MovesPacket 7 ∷ []

long_text_answers : answers_after (world 16 32) long_text
    ≡ Ok (Typed 1) ∷ Ok Held ∷ Ok (Segment 1 1) ∷ Ok Held ∷ Ok Pushed ∷ Ok Pushed ∷ Ok Kept ∷ Ok Finished
    ∷ Ok Repeat ∷ Ok Repeat ∷ Ok Delivered ∷ Err (Party Unmatched) ∷ Ok Pushed ∷ Ok Repeat ∷ Ok Delivered ∷ Ok (Accepted 1) ∷ []
unfolding opened
long_text_answers = refl

long_text_orderly : all_orderly (world 16 32) long_text ≡ true
unfolding opened
long_text_orderly = refl

long_text_store : ((last_after (world 16 32) long_text).receiver 1).store ≡ record { origin = a; characters = hi } ∷ []
unfolding opened
long_text_store = refl

-- the same with sixteen bits
wide_answers : answers_after (start (record { held = 1000; open_max = 16; remembered = 32; store = 500; wide = true; reject = false }) (a ∷ b ∷ c ∷ [])) long_text
    ≡ answers_after (world 16 32) long_text
unfolding opened
wide_answers = long_text_answers_wide ∙ sym long_text_answers
  where
    long_text_answers_wide : answers_after (start (record { held = 1000; open_max = 16; remembered = 32; store = 500; wide = true; reject = false }) (a ∷ b ∷ c ∷ [])) long_text
        ≡ Ok (Typed 1) ∷ Ok Held ∷ Ok (Segment 1 1) ∷ Ok Held ∷ Ok Pushed ∷ Ok Pushed ∷ Ok Kept ∷ Ok Finished
        ∷ Ok Repeat ∷ Ok Repeat ∷ Ok Delivered ∷ Err (Party Unmatched) ∷ Ok Pushed ∷ Ok Repeat ∷ Ok Delivered ∷ Ok (Accepted 1) ∷ []
    long_text_answers_wide = refl

-- duplicates are rejected from the first putting out on
abbrev rejecting : Machine
rejecting = start (record { held = 1000; open_max = 16; remembered = 32; store = 500; wide = false; reject = true }) (a ∷ b ∷ c ∷ [])

abbrev rejected : List Act
rejected = types_hi ∷ MovesPacket 1 ∷ MovesPacket 1 ∷ MovesPacket 5 ∷ MovesPacket 3 ∷ HandsOver 1 ∷ MovesPacket 7 ∷ MovesPacket 9 ∷ MovesPacket 1 ∷ []

rejected_answers : answers_after rejecting rejected
    ≡ Ok (Typed 1) ∷ Ok Held ∷ Ok (Refused 21 (Some 0xC5)) ∷ Ok (Accepted 1) ∷ Err (Party Unmatched) ∷ Ok Pushed
    ∷ Ok Finished ∷ Ok Delivered ∷ Ok (Refused 21 (Some 0xC5)) ∷ []
unfolding opened
rejected_answers = refl

rejected_orderly : all_orderly rejecting rejected ≡ true
unfolding opened
rejected_orderly = refl

-- an open set that has grown old
abbrev old_set : List Act
old_set = TypesText 0 b hi (Gsm (104 ∷ []) ∷ Gsm (105 ∷ []) ∷ []) ∷ MovesPacket 1 ∷ MovesPacket 3 ∷ MovesPacket 5 ∷ HandsOver 1 ∷ HandsOver 1 ∷ MovesPacket 8 ∷ MovesClock 604799 ∷ MovesClock 1 ∷ MovesPacket 9 ∷ MovesPacket 8 ∷ MovesPacket 9 ∷ []

old_set_answers : answers_after (world 16 32) old_set
    ≡ Ok (Typed 1) ∷ Ok Held ∷ Ok (Segment 1 1) ∷ Ok Held ∷ Ok Pushed ∷ Ok Pushed ∷ Ok Kept
    ∷ Ok Ticked ∷ Ok Ticked ∷ Ok Kept ∷ Ok Finished ∷ Ok Repeat ∷ []
unfolding opened
old_set_answers = refl

old_set_orderly : all_orderly (world 16 32) old_set ≡ true
unfolding opened
old_set_orderly = refl

-- one open set, and two texts with one concatenation reference from two phones
abbrev one_set : List Act
one_set =
    TypesText 0 b hi (Gsm (104 ∷ []) ∷ Gsm (105 ∷ []) ∷ []) ∷ TypesText 2 b hi (Gsm (104 ∷ []) ∷ Gsm (105 ∷ []) ∷ []) ∷ MovesPacket 1 ∷ MovesPacket 2 ∷ MovesPacket 4
    ∷ MovesPacket 6 ∷ MovesPacket 8 ∷ MovesPacket 10 ∷ HandsOver 1 ∷ MovesPacket 15 ∷ MovesPacket 17 ∷ HandsOver 1 ∷ MovesPacket 19 ∷ MovesPacket 21 ∷ HandsOver 1 ∷ MovesPacket 23
    ∷ MovesPacket 25 ∷ HandsOver 1 ∷ MovesPacket 27 ∷ MovesPacket 29 ∷ HandsOver 1 ∷ MovesPacket 31 ∷ []

one_set_stand : stands (last_after (world 1 32) one_set) 1 ≡ record { origin = c; characters = hi } ∷ record { origin = a; characters = hi } ∷ []
unfolding opened
one_set_stand = refl

one_set_orderly : all_orderly (world 1 32) one_set ≡ true
unfolding opened
one_set_orderly = refl

-- two keys are remembered, and two further texts have finished when a segment of the first comes once more
abbrev types_b : Act
types_b = TypesText 0 b (111 ∷ []) (Gsm (111 ∷ []) ∷ [])

abbrev forgotten : List Act
forgotten =
    types_hi ∷ MovesPacket 1 ∷ MovesPacket 3 ∷ HandsOver 1 ∷ MovesPacket 5 ∷ MovesPacket 7 ∷ types_b ∷ MovesPacket 9 ∷ MovesPacket 11 ∷ HandsOver 1 ∷ MovesPacket 13
    ∷ MovesPacket 15 ∷ MovesPacket 5 ∷ types_b ∷ MovesPacket 19 ∷ MovesPacket 21 ∷ HandsOver 1 ∷ MovesPacket 23 ∷ MovesPacket 5 ∷ []

forgotten_answers : answers_after (world 16 2) forgotten
    ≡ Ok (Typed 1) ∷ Ok Held ∷ Ok (Accepted 1) ∷ Ok Pushed ∷ Ok Finished ∷ Ok Delivered ∷ Ok (Typed 2) ∷ Ok Held ∷ Ok (Accepted 2)
    ∷ Ok Pushed ∷ Ok Finished ∷ Ok Delivered ∷ Ok Repeat ∷ Ok (Typed 3) ∷ Ok Held ∷ Ok (Accepted 3) ∷ Ok Pushed ∷ Ok Finished ∷ Ok Finished ∷ []
unfolding opened
forgotten_answers = refl

forgotten_disorderly : all_orderly (world 16 2) forgotten ≡ false
unfolding opened
forgotten_disorderly = refl

-- ---- events, from characters on

-- after a run, these events are a run
ran : (first m : Machine) (es : List (Event × Act)) (past : List (Event × Told)) → AreActs m es → Run first past m
    → Run first (told_after m es past) (last_after m (acts_of es))
ran first m [] past h run = run
ran first m (e ∷ es) past h run =
    ran first (next m e.1).after es ((e.0, (next m e.1).answer) ∷ past) h.1
    (m, run, tt, ((next m e.1).put, (e.1, h.0, inl (refl, refl, refl))))

hi_is_text : IsText hi
hi_is_text = (search rules, (search rules, tt))

hi_is_cut : IsCut Eight hi (Gsm hi ∷ [])
unfolding opened septets_of_text septets_of_character
hi_is_cut = record { alone = λ l. refl; parted = λ l. absurd (omega arith) }

types_hi_event : Event
types_hi_event = Compose 0 b hi

same_words_events : List (Event × Act)
same_words_events =
    (types_hi_event, types_hi) ∷ (Carry 1, MovesPacket 1) ∷ (Carry 3, MovesPacket 3) ∷ (types_hi_event, types_hi) ∷ (Carry 5, MovesPacket 5)
    ∷ (Push 1, HandsOver 1) ∷ (Push 1, HandsOver 1) ∷ (Carry 8, MovesPacket 8) ∷ (Carry 9, MovesPacket 9) ∷ []

-- the same text twice, as events: a run, with these answers, after which the store holds the text twice
same_words_run : Run (world 16 32) (told_after (world 16 32) same_words_events []) (last_after (world 16 32) same_words)
unfolding opened types_hi_event same_words_events
same_words_run =
    ran (world 16 32) (world 16 32) same_words_events []
    ((Gsm hi ∷ [], hi_is_text, hi_is_cut, refl), (refl, (refl, ((Gsm hi ∷ [], hi_is_text, hi_is_cut, refl), (refl, (refl, (refl, (refl, (refl, tt))))))))) refl

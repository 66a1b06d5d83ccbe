-- A script that was played is a run of the machine.
use Rattle.std.proofs.Common.{◌≡◌, ℕ, suc, ◌<◌, ◌∙◌, List, [], ◌∷◌, ◌++◌, length, map, reverse, Option, Some, None, Result, Ok, Err, IfOk, slice_get, get_or, refl, sym, ap, subst, append_assoc, arith}
use Rattle.std.proofs.lemmas.List.{append-nil}
use Rattle.std.specs.Io.KnownBytes.{Appends}
use Rattle.std.proofs.lemmas.Option.{slice_get-get_or}
use Rattle.sms_field.specs.Address.Value.{AddressValue}
use Rattle.sms_party.specs.Phone.{PhoneValue}
use Rattle.sms_party.specs.Sent.{Sent}
use Rattle.sms_script.specs.Play.{Plays}
use Rattle.sms_script.specs.Play.Network.{Conduct}
use Rattle.sms_script.specs.Play.Runs as script
use Rattle.sms_script.specs.Lines.{lines}
use Rattle.sms_script.specs.Script.{script_of}
use Rattle.sms_script.specs.Script.Settings.{SettingsValue}
use Rattle.sms_script.specs.Transcript.{Happened, event_lines, transcript}
use Rattle.sms_script.specs.Transcript.Lines.{PacketValue}
use Rattle.sms_script.specs.declared.fault.PlayFault.{PlayFault}
use Rattle.sms_script.specs.declared.meaning.event.Event as given
use Rattle.sms_script.specs.declared.meaning.event.Event.TheVariants.{Tick}
use Rattle.sms_script.specs.declared.script.limits.Limits.{Limits}
use Rattle.sms_world.proofs.Networks.{store_at-map}
use Rattle.sms_world.specs.Machine.{Machine, start}
use Rattle.sms_world.specs.Machine.Event.{Event}
use Rattle.sms_world.specs.Machine.Step.{Step, Run}
use Rattle.sms_world.specs.Network.{conduct, entry_of, ends_of}
use Rattle.sms_world.specs.Playing.{clock_events, RunsAsTold, all_put, script_past, HappensAsRun, Transcribes, ToldStoresStand}
use Rattle.sms_world.proofs.Promises.{promised}
use Rattle.sms_world.specs.Headline.Refused.{RefusedOnlyWhereFull}
use Rattle.sms_world.specs.Headline.Stores.{StoresStand}
use Rattle.sms_world.specs.World.Claims.{ClaimsHold}
use Rattle.sms_world.specs.Told.{Told}
use Rattle.sms_world.specs.Words.{told_text}
use Rattle.sms_world.specs.World.Phones.{store_in, store_of}
use Rattle.sms_world.specs.World.Standing.{ArePacketsOf, StandsFor}
use Rattle.sms_world.specs.World.Steps.{event_of, Steps, told_past}
use Rattle.sms_world.specs.World.Value.{WorldValue}

-- a step, and a run from there
run_after : (past : List (Event × Told)) (e : Event) (t : Told) (put : List Sent) (first mid last : Machine)
    → Step first e t put mid → Run mid past last → Run first (past ++ (e, t) ∷ []) last
run_after [] e t put first mid last step run = (first, refl, tt, (put, subst (Step first e t put) run step))
run_after (x ∷ past) e t put first mid last step (old, run, keeps, steps) =
    (old, run_after past e t put first mid old step run, keeps, steps)

-- the packets that came to others are those that were put
put_are : (old new : WorldValue) (h packets : List PacketValue) (put : List Sent)
    → new.packets ≡ old.packets ++ h → new.packets ≡ old.packets ++ packets → ArePacketsOf packets put → ArePacketsOf h put
put_are old new h packets put puts add are =
    subst (λ ps. ArePacketsOf ps put) (append_cancel old.packets packets h (sym add ∙ puts)) are
  where
    append_cancel : (front a b : List PacketValue) → front ++ a ≡ front ++ b → a ≡ b
    append_cancel [] a b e = e
    append_cancel (x ∷ front) a b e = append_cancel front a b (let k : front ++ a ≡ front ++ b = cc in k)

-- a run and one more after it
run_both : (first mid last : Machine) (early late : List (Event × Told)) → Run first early mid → Run mid late last → Run first (late ++ early) last
run_both first mid last early [] run more = subst (λ x. Run first early x) more run
run_both first mid last early (e ∷ late) run (old, before, keeps, step) = (old, run_both first mid old early late run before, keeps, step)

-- the events of the clock come before the others
clock_past : (clock : Option ℕ) (events : List given.Event) (at_clock told : List Told) → length at_clock ≡ length (clock_events clock)
    → told_past events told ++ told_past (clock_events clock) at_clock ≡ told_past (clock_events clock ++ events) (at_clock ++ told)
clock_past None events [] told one = append-nil (told_past events told)
clock_past None events (t ∷ at_clock) told one = absurd (let k : suc (length at_clock) ≡ 0 = one in omega (arith, k))
clock_past (Some seconds) events [] told one = absurd (let k : 0 ≡ 1 = one in omega (arith, k))
clock_past (Some seconds) events (t ∷ []) told one = refl
clock_past (Some seconds) events (t ∷ u ∷ at_clock) told one = absurd (let k : suc (suc (length at_clock)) ≡ 1 = one in omega (arith, k))

-- What a network says of each event beside its step is so of all of these, one after another, each
-- with its answer.
abbrev pub AllAlso : {N : Type 0} → (Event → N → Told → N → Type 0) → List given.Event → List Told → N → N → Type 0
AllAlso Also [] [] n last = last ≡ n
AllAlso {N} Also (e ∷ events) (t ∷ told) n last = (next : N) × Also (event_of e) n t next × AllAlso Also events told next last
AllAlso Also _ _ n last = ⊥

also_both : {N : Type 0} (Also : Event → N → Told → N → Type 0) (events more : List given.Event) (told others : List Told) (n mid last : N)
    → AllAlso Also events told n mid → AllAlso Also more others mid last → AllAlso Also (events ++ more) (told ++ others) n last
also_both Also [] more [] others n mid last a b = subst (λ x. AllAlso Also more others x last) a b
also_both Also [] more (t ∷ told) others n mid last a b = absurd a
also_both Also (e ∷ events) more [] others n mid last a b = absurd a
also_both Also (e ∷ events) more (t ∷ told) others n mid last (next, also, all) b =
    (next, also, also_both Also events more told others next mid last all b)

-- a network that has a world, and each event of which is a step of it
module _ {N : Type 0} (c : Conduct N) (world_of : N → WorldValue) (Also : Event → N → Told → N → Type 0)
    (begins_are : (limits : Limits) (phones : List AddressValue) (n : N) → c.Begins limits phones n → StandsFor (world_of n) (start limits phones))
    (steps_are : (old : N) (event : given.Event) (words : List ℕ) (new : N) → c.Steps old event words new
    → (told : Told) × (words ≡ told_text told) × Steps (event_of event) (world_of old) told (world_of new) × Also (event_of event) old told new)
    (packets_are : (n : N) → c.put_out n ≡ (world_of n).packets) where
  -- the events of a script, from a state that the world stands for
  abbrev RunsOn : Machine → List given.Event → List Happened → N → N → Type 0
  RunsOn m events happened n last =
      (told : List Told) × (end : Machine) × RunsAsTold m events told happened end
      × Run m (told_past events told) end × StandsFor (world_of last) end × AllAlso Also events told n last

  puts_there : (n next : N) (put : List PacketValue) → c.put_out next ≡ c.put_out n ++ put → (world_of next).packets ≡ (world_of n).packets ++ put
  puts_there n next put puts = sym (packets_are next) ∙ (puts ∙ ap (λ ps. ps ++ put) (packets_are n))

  ran_runs : (events : List given.Event) (happened : List Happened) (n last : N) (m : Machine)
      → StandsFor (world_of n) m → script.Ran c n events happened last → RunsOn m events happened n last
  ran_runs [] (h ∷ happened) n last m stand ran = absurd ran
  ran_runs (e ∷ events) [] n last m stand ran = absurd ran
  ran_runs [] [] n last m stand ran = ([], m, refl, refl, subst (λ w. StandsFor (world_of w) m) (sym ran) stand, ran)
  ran_runs (e ∷ events) (h ∷ happened) n last m stand (next, steps, puts, ran) =
      let (told, words, does, also) = steps_are n e h.words next steps in
      let (put, mid, step, stands_next, packets, add, are_packets) = does m stand in
      let (others, end, are, run, stands_end, all) = ran_runs events happened next last mid stands_next ran in (
        told ∷ others,
        end,
        (put, mid, step, words, put_are (world_of n) (world_of next) h.put packets put (puts_there n next h.put puts) add are_packets, are),
        run_after (told_past events others) (event_of e) told put m mid end step run,
        stands_end,
        (next, also, all),
      )

  -- the packets that are told are those that came to those that there were
  ran_puts : (events : List given.Event) (happened : List Happened) (n last : N)
      → script.Ran c n events happened last → (world_of last).packets ≡ (world_of n).packets ++ all_put happened
  ran_puts [] (h ∷ happened) n last ran = absurd ran
  ran_puts (e ∷ events) [] n last ran = absurd ran
  ran_puts [] [] n last ran = ap (λ w. (world_of w).packets) ran ∙ sym (append-nil (world_of n).packets)
  ran_puts (e ∷ events) (h ∷ happened) n last (next, steps, puts, ran) =
      ran_puts events happened next last ran
      ∙ (ap (λ ps. ps ++ all_put happened) (puts_there n next h.put puts) ∙ append_assoc (world_of n).packets h.put (all_put happened))

  -- where the clock starts
  abbrev AtClock : Option ℕ → Limits → List AddressValue → N → N → Type 0
  AtClock clock limits phones first begun =
      (at_clock : List Told) × (length at_clock ≡ length (clock_events clock))
      × (m : Machine) × Run (start limits phones) (told_past (clock_events clock) at_clock) m × StandsFor (world_of begun) m
      × AllAlso Also (clock_events clock) at_clock first begun

  after_clock : (clock : Option ℕ) (limits : Limits) (phones : List AddressValue) (first begun : N)
      → StandsFor (world_of first) (start limits phones) → script.Clocked c clock first begun → AtClock clock limits phones first begun
  after_clock None limits phones first begun stand clocked =
      ([], refl, start limits phones, refl, subst (λ w. StandsFor (world_of w) (start limits phones)) (sym clocked) stand, clocked)
  after_clock (Some seconds) limits phones first begun stand (words, steps) =
      let (at_clock, is, does, also) = steps_are first (Tick seconds) words begun steps in
      let (put, mid, step, stand_mid, packets, add, are_packets) = does (start limits phones) stand in
      (at_clock ∷ [], refl, mid, (start limits phones, refl, tt, (put, step)), stand_mid, (begun, also, refl))

  -- the run, and what the network says of its events, from the one that began
  abbrev pub HappensAlso : (s : SettingsValue) (events : List given.Event) (happened : List Happened) (last : N) → Type 0
  HappensAlso s events happened last =
      (r : HappensAsRun s events happened (world_of last)) × (first : N) × c.Begins s.limits s.known.addresses first
      × AllAlso Also (clock_events s.clock ++ events) (r.at_clock ++ r.told) first last

  pub played_runs : ClaimsHold → RefusedOnlyWhereFull → ToldStoresStand → (s : SettingsValue) (events : List given.Event) (happened : List Happened) (begun last : N)
      → script.Starts c s begun → c.put_out begun ≡ [] → script.Ran c begun events happened last
      → HappensAlso s events happened last
  played_runs claims refused stores s events happened begun last (first, begins, clocked) none ran =
      let (at_clock, one, m, clock_run, stand_begun, early) = after_clock s.clock s.limits s.known.addresses first begun (begins_are s.limits s.known.addresses first begins) clocked in
      let (told, end, as_told, run, stand_end, late) = ran_runs events happened begun last m stand_begun ran in
      let all = ran_puts events happened begun last ran in
      let first_state : Machine = start s.limits s.known.addresses in
      let past : List (Event × Told) = script_past s events at_clock told in (
        record {
          at_clock = at_clock;
          one = one;
          begun = m;
          clocked = clock_run;
          told = told;
          last = end;
          runs_as_told = as_told;
          all_told = sym (all ∙ ap (λ ps. ps ++ all_put happened) (sym (packets_are begun) ∙ none));
          runs = subst (λ p. Run first_state p end) (clock_past s.clock events at_clock told one) (run_both first_state m end (told_past (clock_events s.clock) at_clock) (told_past events told) clock_run run);
          world_stands = stand_end;
          promises = promised claims refused s.limits s.known.addresses past (world_of last) end stand_end;
          stores = λ orderly phone within. stores s.limits s.known.addresses past end (world_of last) orderly stand_end phone within;
        },
        first,
        begins,
        also_both Also (clock_events s.clock) events at_clock told first begun last early late,
      )

-- of the world alone nothing more is said
abbrev Nothing : Event → WorldValue → Told → WorldValue → Type 0
Nothing event old told new = Unit {0}

pub transcribes : ClaimsHold → RefusedOnlyWhereFull → ToldStoresStand → (old new before now : Option (List ℕ)) (result : Result (Unit {0}) PlayFault)
    → Plays conduct old new before now result → IfOk result (λ _. Transcribes old new before now)
transcribes claims refused stores old new before now (Ok done) p =
    let s = script_of (lines p.read) in
    let text : List ℕ = transcript s.settings.is_brief s.settings.known.names p.happened (ends_of p.network) in
    let wrote : Appends before now text = subst (λ front. Appends before now (event_lines s.settings.is_brief s.settings.known.names 1 1 p.happened ++ front)) p.told_is p.wrote in
    let run =
    played_runs conduct (λ w. w) Nothing (λ limits phones n begins. begins) (λ old e words new steps. (steps.0, steps.1, steps.2, tt)) (λ n. refl)
    claims refused stores s.settings s.events p.happened p.played.0 p.network p.played.1 p.played.2 p.played.3 in
    (p.read, text, p.taken, p.ended, p.faultless, (p.happened, p.network, run.0, refl), wrote)
transcribes claims refused stores old new before now (Err fault) plays = tt

-- the store of a phone that there is
store_of_phone : (phones : List PhoneValue) (p : ℕ) → p < length phones → (phone : PhoneValue) × (slice_get phones p ≡ Some phone)
store_of_phone [] p within = absurd (omega (arith, within))
store_of_phone (phone ∷ phones) p within = (get_or (phone ∷ phones) p phone, slice_get-get_or (phone ∷ phones) p phone within)

pub told_stores : StoresStand → ToldStoresStand
told_stores stores limits phones past m world orderly stand p within =
    let x = store_of_phone world.parties.phones p within in
    let here : store_in world.parties.phones p ≡ reverse (m.receiver p).store =
    ap store_of x.1 ∙ (stand.parties_stand.receivers_stand p x.0 x.1).store_is in
    store_at-map world.parties.phones p
    ∙ ap (map entry_of) (here ∙ ap reverse (stores limits phones past m orderly p))

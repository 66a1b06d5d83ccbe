-- What is told of the run of a script.
use Rattle.std.proofs.Common.{◌≡◌, ℕ, List, [], ◌∷◌, ◌++◌, take, drop, Option, Some, None, Result, Ok, Err, inl, refl, sym, ap, ◌∙◌, subst, append_assoc}
use Rattle.std.proofs.lemmas.List.{append-nil, take-append-drop}
use Rattle.std.specs.Io.KnownBytes.{Appends}
use Rattle.sms_field.specs.Address.Value.{AddressValue}
use Rattle.sms_script.specs.Lines.{lines}
use Rattle.sms_script.specs.Devices.{AppendsFront}
use Rattle.sms_script.specs.Play.{Leaves}
use Rattle.sms_script.specs.Play.Network.{Conduct}
use Rattle.sms_script.specs.declared.fault.PlayFault.{PlayFault}
use Rattle.sms_script.specs.declared.fault.PlayFault.TheVariants as faults
use Rattle.sms_script.specs.Script.{ScriptValue, script_of}
use Rattle.sms_script.specs.Script.Settings.{SettingsValue}
use Rattle.sms_script.specs.Transcript.{Happened, event_lines, transcript}
use Rattle.sms_script.specs.declared.meaning.event.Event as given
use Rattle.sms_script.specs.declared.script.limits.Limits.{Limits}
use Rattle.sms_world.specs.declared.order.Breach.{Breach}
use Rattle.sms_world.specs.declared.playing.trusted.Verdicts.{Verdicts}
use Rattle.sms_world.specs.Inside.Below.{Below}
use Rattle.sms_world.specs.Breaches.{IsTold}
use Rattle.sms_world.specs.Headline.Refused.{RefusedOnlyWhereFull}
use Rattle.sms_world.specs.Machine.{Machine, start}
use Rattle.sms_world.specs.Machine.Event.{Event}
use Rattle.sms_world.specs.Machine.Step.{Run}
use Rattle.sms_world.specs.Network.{conduct_with, ends_of}
use Rattle.sms_world.specs.Playing.{clock_events, script_past, HappensAsRun, ToldStoresStand}
use Rattle.sms_world.specs.Playing.Trusted.{AreVerdicts, JudgesAccepted}
use Rattle.sms_world.specs.Playing.Order.{IsJudged, JudgesBy, Judges, IsPutAtOnce, TellsBy}
use Rattle.sms_world.specs.Told.{Told}
use Rattle.sms_world.specs.Trusted.{TrustedValue, TrustedBy, AcceptedIsTold, AcceptedMeansAccepted}
use Rattle.sms_world.specs.Trusted.Network.{trusted_conduct}
use Rattle.sms_world.specs.Watched.{WatchedValue, LedTo, OrderIsTold}
use Rattle.sms_world.specs.Watched.Network.{watched_conduct}
use Rattle.sms_world.specs.World.Claims.{ClaimsHold}
use Rattle.sms_world.specs.World.Standing.{StandsFor}
use Rattle.sms_world.specs.World.Steps.{event_of, told_past}
use Rattle.sms_world.specs.World.Value.{WorldValue}
use Rattle.sms_world.proofs.Determined.{one_run}
use Rattle.sms_world.proofs.Transcribing.{AllAlso, played_runs}
use Rattle.sms_world.proofs.WorldPlayed.{begun_stands, begun_trusted}

-- a network that has a world, and of each run that leads to it something more is so
module _ {N : Type 0} (world_of : N → WorldValue) (By : N → Limits → List AddressValue → List (Event × Told) → Machine → Type 0) where
  abbrev Comes : Limits → List AddressValue → List (Event × Told) → N → Type 0
  Comes limits phones past n = (last : Machine) × Run (start limits phones) past last × By n limits phones past last

  abbrev ComesAfter : Event → N → Told → N → Type 0
  ComesAfter event old told new =
      (limits : Limits) (phones : List AddressValue) (past : List (Event × Told)) → Comes limits phones past old → Comes limits phones ((event, told) ∷ past) new

  abbrev Here : Conduct N
  Here = conduct_with world_of (λ limits phones n. Comes limits phones [] n) ComesAfter

  -- what has led to it, and these events after it
  comes_on : (limits : Limits) (phones : List AddressValue) (events : List given.Event) (told : List Told) (past : List (Event × Told)) (n last : N)
      → Comes limits phones past n → AllAlso ComesAfter events told n last → Comes limits phones (told_past events told ++ past) last
  comes_on limits phones [] [] past n last comes all = subst (λ w. Comes limits phones past w) (sym all) comes
  comes_on limits phones [] (t ∷ told) past n last comes all = absurd all
  comes_on limits phones (e ∷ events) [] past n last comes all = absurd all
  comes_on limits phones (e ∷ events) (t ∷ told) past n last comes (next, goes, all) =
      subst (λ p. Comes limits phones p last) (sym (append_assoc (told_past events told) ((event_of e, t) ∷ []) past))
      (comes_on limits phones events told ((event_of e, t) ∷ past) next last (goes limits phones past comes) all)

  -- It is so of the run that the script is told as.
  abbrev OfRun : (t : ScriptValue) (happened : List Happened) (n : N) → HappensAsRun t.settings t.events happened (world_of n) → Type 0
  OfRun t happened n r =
      By n t.settings.limits t.settings.known.addresses (script_past t.settings t.events r.at_clock r.told) r.last

  of_run : Below → (t : ScriptValue) (happened : List Happened) (n : N) (r : HappensAsRun t.settings t.events happened (world_of n)) (first : N)
      → Comes t.settings.limits t.settings.known.addresses [] first
      → AllAlso ComesAfter (clock_events t.settings.clock ++ t.events) (r.at_clock ++ r.told) first n → OfRun t happened n r
  of_run law t happened n r first begins all =
      subst (λ (m : Machine). By n limits phones past m) (one_run law (start limits phones) past comes.0 r.last comes.1 r.runs) comes.2
    where
      limits : Limits
      limits = t.settings.limits

      phones : List AddressValue
      phones = t.settings.known.addresses

      past : List (Event × Told)
      past = script_past t.settings t.events r.at_clock r.told

      comes : Comes limits phones past n
      comes =
          subst (λ l. Comes limits phones l n) (append-nil past)
          (comes_on limits phones (clock_events t.settings.clock ++ t.events) (r.at_clock ++ r.told) [] first n begins all)

  -- So what is told of it is told of the script that was read, and of its transcript.
  judges_by : (begins_are : (limits : Limits) (phones : List AddressValue) (n : N) → Comes limits phones [] n → StandsFor (world_of n) (start limits phones))
      → {A : Type 0} (IsSo : ScriptValue → List ℕ → A → Type 0) (answer : A) (Tells : N → Type 0)
      → ((t : ScriptValue) (happened : List Happened) (n : N) → Tells n → (r : HappensAsRun t.settings t.events happened (world_of n)) → OfRun t happened n r
      → IsSo t (transcript t.settings.is_brief t.settings.known.names happened (ends_of (world_of n))) answer)
      → Below → ClaimsHold → RefusedOnlyWhereFull → ToldStoresStand → (old new before now : Option (List ℕ)) (s : SettingsValue) (network : Option N) (n : N)
      → network ≡ Some n → Leaves Here old new before now s network (Ok tt) → Tells n → JudgesBy IsSo old new before now s answer
  judges_by begins_are IsSo answer Tells so law claims refused stores old new before now s network n there (p, settings, is) tells =
      let t : ScriptValue = script_of (lines p.read) in
      let text : List ℕ = transcript t.settings.is_brief t.settings.known.names p.happened (ends_of (world_of p.network)) in
      let wrote : Appends before now text =
      subst (λ front. Appends before now (event_lines t.settings.is_brief t.settings.known.names 1 1 p.happened ++ front)) p.told_is p.wrote in
      let same : n ≡ p.network = (let k : Some n ≡ Some p.network = sym there ∙ is in cc) in
      let runs =
      played_runs Here world_of ComesAfter begins_are (λ old e words new steps. steps) (λ n. refl)
      claims refused stores t.settings t.events p.happened p.played.0 p.network p.played.1 p.played.2 p.played.3 in (
        p.read,
        text,
        p.taken,
        p.ended,
        p.faultless,
        settings,
        so t p.happened p.network (subst Tells same tells) runs.0 (of_run law t p.happened p.network runs.0 runs.1 runs.2 runs.3),
        wrote,
      )

  -- where all was played there is one
  no_network : (old new before now : Option (List ℕ)) (s : SettingsValue) (network : Option N)
      → network ≡ None → Leaves Here old new before now s network (Ok tt) → ⊥
  no_network old new before now s network none (p, settings, is) = let k : None ≡ Some p.network = sym none ∙ is in absurd cc

-- what is told of the order of a run, where it is so
judged : (t : ScriptValue) (happened : List Happened) (world : WorldValue) (breach : Option Breach) (r : HappensAsRun t.settings t.events happened world)
    → IsTold (start t.settings.limits t.settings.known.addresses) (script_past t.settings t.events r.at_clock r.told) r.last breach
    → IsJudged t (transcript t.settings.is_brief t.settings.known.names happened (ends_of world)) breach
judged t happened world breach r told =
    record {
      happened = happened;
      world = world;
      run = r;
      text_is = refl;
      told = told;
      headline = λ none. r.promises.headline (subst (IsTold (start t.settings.limits t.settings.known.addresses) (script_past t.settings t.events r.at_clock r.told) r.last) none told);
      stores = λ none. r.stores (subst (IsTold (start t.settings.limits t.settings.known.addresses) (script_past t.settings t.events r.at_clock r.told) r.last) none told);
    }

pub judges : Below → ClaimsHold → RefusedOnlyWhereFull → ToldStoresStand → (old new before now : Option (List ℕ)) (s : SettingsValue) (network : Option WatchedValue) (w : WatchedValue) (breach : Option Breach)
    → network ≡ Some w → Leaves watched_conduct old new before now s network (Ok tt) → OrderIsTold w breach → Judges old new before now s breach
judges law claims refused stores old new before now s network w breach =
    judges_by (λ (w : WatchedValue). w.world) LedTo begun_stands IsJudged breach (λ (w : WatchedValue). OrderIsTold w breach)
    (λ t happened w order r led. judged t happened w.world breach r (order t.settings.limits t.settings.known.addresses _ r.last led))
    law claims refused stores old new before now s network w

-- where all was played there is a world
pub no_watched : (old new before now : Option (List ℕ)) (s : SettingsValue) (network : Option WatchedValue)
    → network ≡ None → Leaves watched_conduct old new before now s network (Ok tt) → ⊥
no_watched = no_network (λ (w : WatchedValue). w.world) LedTo

pub no_trusted : (old new before now : Option (List ℕ)) (s : SettingsValue) (network : Option TrustedValue)
    → network ≡ None → Leaves trusted_conduct old new before now s network (Ok tt) → ⊥
no_trusted = no_network (λ (w : TrustedValue). w.watched.world) TrustedBy

-- what a world tells
abbrev TellsBoth : Verdicts → TrustedValue → Type 0
TellsBoth v w = OrderIsTold w.watched v.breach × AcceptedIsTold w v.doubt × AcceptedMeansAccepted w v.doubt

pub judges_accepted : Below → ClaimsHold → RefusedOnlyWhereFull → ToldStoresStand → (old new before now : Option (List ℕ)) (s : SettingsValue) (network : Option TrustedValue) (w : TrustedValue) (v : Verdicts)
    → network ≡ Some w → Leaves trusted_conduct old new before now s network (Ok tt) → TellsBoth v w → JudgesAccepted old new before now s v
unfolding judged
judges_accepted law claims refused stores old new before now s network w v =
    judges_by (λ (w : TrustedValue). w.watched.world) TrustedBy begun_trusted AreVerdicts v (TellsBoth v)
    (λ t happened w tells r by. record {
      order = judged t happened w.watched.world v.breach r (tells.0 t.settings.limits t.settings.known.addresses _ r.last by.led);
      told = tells.1 t.settings.limits t.settings.known.addresses _ r.last by;
      accepted = λ none. tells.2 none t.settings.limits t.settings.known.addresses _ r.last by;
    })
    law claims refused stores old new before now s network w

-- ---- the words that tell it

written_on : (a b c : Option (List ℕ)) (xs ys : List ℕ) → Appends a b xs → Appends b c ys → Appends a c (xs ++ ys)
written_on None b c xs ys p q = tt
written_on (Some x) None c xs ys p q = absurd p
written_on (Some x) (Some y) None xs ys p q = absurd q
written_on (Some x) (Some y) (Some z) xs ys p q = q ∙ ap (λ l. l ++ ys) p ∙ append_assoc x xs ys

pub unwritten : (a : Option (List ℕ)) → Appends a a []
unwritten None = tt
unwritten (Some x) = sym (append-nil x)

module _ {A : Type 0} (IsSo : ScriptValue → List ℕ → A → Type 0) (words : SettingsValue → A → List ℕ)
    (old new before mid : Option (List ℕ)) (s : SettingsValue) (answer : A) (j : JudgesBy IsSo old new before mid s answer) where
  pub tells : (now : Option (List ℕ)) (result : Result (Unit {0}) PlayFault) (front : List ℕ) → IsPutAtOnce (words s answer) front result → Appends mid now front
      → TellsBy IsSo words old new before now result
  tells now result front put more =
      record {
        read = j.0;
        taken = j.2;
        ended = j.3;
        faultless = j.4;
        text = j.1;
        answer = answer;
        judged = j.6;
        front = front;
        words_are = subst (λ (t : SettingsValue). IsPutAtOnce (words t answer) front result) j.5 put;
        wrote = written_on before mid now j.1 front j.7 more;
      }

  -- a write failed within them
  pub tells_front : (now : Option (List ℕ)) (line : List ℕ) → line ≡ words s answer → AppendsFront mid now line → TellsBy IsSo words old new before now (Err faults.Write)
  tells_front now line is (n, few, more) =
      tells now (Err faults.Write) (take n line) (drop n line, sym is ∙ sym (take-append-drop n line)) more

  -- memory ran out for them
  pub tells_nothing : TellsBy IsSo words old new before mid (Err faults.Memory)
  tells_nothing = tells mid (Err faults.Memory) [] refl (unwritten mid)

-- What is played on a network that has a world is played on its world.
use Rattle.std.proofs.Common.{◌≡◌, ℕ, List, [], ◌∷◌, ◌++◌, Option, Some, None, Result, Ok, Err, IfOk, inl, inr, sym, ap, subst}
use Rattle.std.specs.Option.{option_map}
use Rattle.sms_field.specs.Address.Value.{AddressValue}
use Rattle.sms_script.specs.Play.{Plays}
use Rattle.sms_script.specs.Play.Network.{Conduct}
use Rattle.sms_script.specs.Play.Endings.{StopsInLine, StopsInEvent, PlaysToEnd}
use Rattle.sms_script.specs.Play.Played.{Played, LinesPlayed}
use Rattle.sms_script.specs.Play.Runs.{Ran, Clocked, Starts}
use Rattle.sms_script.specs.Lines.{lines}
use Rattle.sms_script.specs.Script.{ScriptValue, script_of}
use Rattle.sms_script.specs.Script.Settings.{SettingsValue}
use Rattle.sms_script.specs.Transcript.{Happened}
use Rattle.sms_script.specs.declared.fault.PlayFault.{PlayFault}
use Rattle.sms_script.specs.declared.fault.PlayFault.TheVariants as faults
use Rattle.sms_script.specs.declared.meaning.event.Event as given
use Rattle.sms_script.specs.declared.script.limits.Limits.{Limits}
use Rattle.sms_world.specs.Machine.{Machine, start}
use Rattle.sms_world.specs.Network.{conduct, conduct_with}
use Rattle.sms_world.specs.Machine.Event.{Event}
use Rattle.sms_world.specs.Told.{Told}
use Rattle.sms_world.specs.Trusted.{TrustedValue, BeginsTrusted, GoesOnTrusted}
use Rattle.sms_world.specs.Trusted.Network.{trusted_conduct}
use Rattle.sms_world.specs.Watched.{WatchedValue, BeginsWatched, GoesOnWatched}
use Rattle.sms_world.specs.Watched.Network.{watched_conduct}
use Rattle.sms_world.specs.World.Standing.{StandsFor}
use Rattle.sms_world.specs.World.Value.{WorldValue}
use Rattle.sms_world.proofs.Networks.{starts_empty}

-- a world that is watched, or of which more is told, and that begins, stands for the first state
pub begun_stands : (limits : Limits) (phones : List AddressValue) (w : WatchedValue) → BeginsWatched limits phones w → StandsFor w.world (start limits phones)
begun_stands limits phones w begins = subst (λ (m : Machine). StandsFor w.world m) (sym begins.1) begins.2.stands

pub begun_trusted : (limits : Limits) (phones : List AddressValue) (w : TrustedValue) → BeginsTrusted limits phones w → StandsFor w.watched.world (start limits phones)
begun_trusted limits phones w begins = subst (λ (m : Machine). StandsFor w.watched.world m) (sym begins.1) begins.2.led.stands

module _ {N : Type 0} (world_of : N → WorldValue) (BeginsWith : Limits → List AddressValue → N → Type 0) (GoesOnWith : Event → N → Told → N → Type 0)
    (begins_are : (limits : Limits) (phones : List AddressValue) (n : N) → BeginsWith limits phones n → StandsFor (world_of n) (start limits phones)) where
  abbrev here : Conduct N
  here = conduct_with world_of BeginsWith GoesOnWith

  -- one that begins has put out nothing
  pub begins_empty : {E : Type 0} (result : Result N E) (limits : Limits) (phones : List AddressValue)
      → IfOk result (BeginsWith limits phones) → IfOk result (λ n. (world_of n).packets ≡ [])
  begins_empty (Ok n) limits phones begins = starts_empty limits phones (world_of n) (begins_are limits phones n begins)
  begins_empty (Err e) limits phones begins = tt

  world_in : Option N → Option WorldValue
  world_in = option_map world_of

  ran_there : (n : N) (events : List given.Event) (happened : List Happened) (last : N)
      → Ran here n events happened last → Ran conduct (world_of n) events happened (world_of last)
  ran_there n [] [] last ran = ap world_of ran
  ran_there n [] (h ∷ happened) last ran = absurd ran
  ran_there n (e ∷ events) [] last ran = absurd ran
  ran_there n (e ∷ events) (h ∷ happened) last (next, steps, puts, ran) =
      (world_of next, (steps.0, steps.1, steps.2), puts, ran_there next events happened last ran)

  clocked_there : (clock : Option ℕ) (first n : N) → Clocked here clock first n → Clocked conduct clock (world_of first) (world_of n)
  clocked_there None first n same = ap world_of same
  clocked_there (Some seconds) first n (words, steps) = (words, (steps.0, steps.1, steps.2))

  starts_there : (s : SettingsValue) (n : N) → Starts here s n → Starts conduct s (world_of n)
  starts_there s n (first, begins, clocked) =
      (world_of first, begins_are s.limits s.known.addresses first begins, clocked_there s.clock first n clocked)

  played_there : (t : ScriptValue) (happened : List Happened) (n : Option N) → Played here t happened n → Played conduct t happened (world_in n)
  unfolding world_in
  played_there t happened None played = played
  played_there t happened (Some n) (first, starts, none, ran) =
      (world_of first, starts_there t.settings first starts, none, ran_there first t.events happened n ran)

  lines_there : (ls : List (List ℕ)) → LinesPlayed here ls → LinesPlayed conduct ls
  lines_there ls p =
      record {
        faultless = p.faultless;
        happened = p.happened;
        network = world_in p.network;
        played = played_there (script_of ls) p.happened p.network p.played;
      }

  module _ (old new before now : Option (List ℕ)) where
    in_line : (fault : PlayFault) → StopsInLine here old new before now fault → StopsInLine conduct old new before now fault
    unfolding lines_there
    in_line fault s =
        record {
          whole = s.whole;
          rest = s.rest;
          are_whole = s.are_whole;
          taken = s.taken;
          unplayed = s.unplayed;
          played = lines_there (lines s.whole) s.played;
          wrote = s.wrote;
        }

    in_event : StopsInEvent here old new before now → StopsInEvent conduct old new before now
    unfolding world_in lines_there
    in_event s =
        record {
          whole = s.whole;
          rest = s.rest;
          are_whole = s.are_whole;
          taken = s.taken;
          one = s.one;
          faultless = s.faultless;
          played = lines_there (lines s.whole) s.played;
          last = s.last;
          network = world_of s.network;
          happened = played_there (script_of (lines (s.whole ++ s.rest))) (s.played.happened ++ s.last ∷ []) (Some s.network) s.happened;
          front = s.front;
          back = s.back;
          told_is = s.told_is;
          wrote = s.wrote;
        }

    to_end : (result : Result (Unit {0}) PlayFault) → PlaysToEnd here old new before now result → PlaysToEnd conduct old new before now result
    unfolding world_in
    to_end result p =
        record {
          read = p.read;
          taken = p.taken;
          ended = p.ended;
          faultless = p.faultless;
          happened = p.happened;
          network = world_of p.network;
          played = played_there (script_of (lines p.read)) p.happened (Some p.network) p.played;
          front = p.front;
          told_is = p.told_is;
          wrote = p.wrote;
        }

    pub plays_there : (result : Result (Unit {0}) PlayFault) → Plays here old new before now result → Plays conduct old new before now result
    plays_there (Ok done) p = to_end (Ok done) p
    plays_there (Err faults.Write) (inl s) = inl (in_event s)
    plays_there (Err faults.Write) (inr p) = inr (to_end (Err faults.Write) p)
    plays_there (Err faults.Memory) (inl s) = inl (in_line faults.Memory s)
    plays_there (Err faults.Memory) (inr (inl s)) = inr (inl s)
    plays_there (Err faults.Memory) (inr (inr p)) = inr (inr (to_end (Err faults.Memory) p))
    plays_there (Err faults.Read) s = in_line faults.Read s
    plays_there (Err (faults.Script n why)) s = in_line (faults.Script n why) s

pub plays_watched : (old new before now : Option (List ℕ)) (result : Result (Unit {0}) PlayFault) → Plays watched_conduct old new before now result → Plays conduct old new before now result
plays_watched = plays_there (λ (w : WatchedValue). w.world) BeginsWatched GoesOnWatched begun_stands

pub plays_trusted : (old new before now : Option (List ℕ)) (result : Result (Unit {0}) PlayFault) → Plays trusted_conduct old new before now result → Plays conduct old new before now result
plays_trusted = plays_there (λ (w : TrustedValue). w.watched.world) BeginsTrusted GoesOnTrusted begun_trusted

-- What stands at the phones, told after the last line.
use Rattle.std.proofs.Common.{◌≡◌, ℕ, List, [], ◌++◌, length, Option, Some, None, Result, Ok, Err, Bool, refl, sym, ap, ◌∙◌, subst, inr}
use Rattle.std.specs.Io.KnownBytes.{Appends}
use Rattle.sms_script.proofs.PutLemmas.{Appends-both}
use Rattle.sms_script.specs.Play.{Plays, Leaves}
use Rattle.sms_script.specs.Play.Endings.{StopsUnbegun, PlaysToEnd}
use Rattle.sms_script.specs.Play.Played.{Played, told, told_in_the_end}
use Rattle.sms_script.specs.Play.Network.{Conduct}
use Rattle.sms_script.specs.Play.Puts.{Puts, IsPutOf, HasFailed}
use Rattle.sms_script.specs.Play.Runs.{Starts, Ran}
use Rattle.sms_script.specs.Script.{ScriptValue, script_of}
use Rattle.sms_script.specs.Script.Settings.{SettingsValue}
use Rattle.sms_script.specs.Inside.Standing.{Follows, PlaysLines, OpensAt}
use Rattle.sms_script.specs.declared.fault.PlayFault.{PlayFault}
use Rattle.sms_script.specs.declared.fault.PlayFault.TheVariants as faults
use Rattle.sms_script.specs.Lines.{lines}
use Rattle.sms_script.specs.declared.meaning.event.Event.{Event}
use Rattle.sms_script.specs.Transcript.{Happened, event_lines}

-- the network in the end: that of the events, or one that just began
pub end_there : {N : Type 0} (net : Conduct N) (t : ScriptValue) (s : SettingsValue) (w : Option N) (hs : List Happened) (u : N)
    → t.settings ≡ s → Played net t hs w → Follows net s hs w → OpensAt net s w u → Played net t hs (Some u) × (length (net.ends u) ≡ length s.known.addresses)
end_there net t s None hs u f played follows there =
    let Run = λ (es : List Event) (ks : List Happened). Ran net u es ks u in
    let ran : Ran net u t.events hs u = subst (λ es. Run es hs) (sym played.0) (subst (λ ks. Run [] ks) (sym played.1) refl) in
    ((u, subst (λ (y : SettingsValue). Starts net y u) (sym f) there.0, there.1, ran), there.2)
end_there net t s (Some w) hs u f played follows there =
    (subst (λ x. Played net t hs (Some x)) (sym there) played, ap (λ x. length (net.ends x)) there ∙ follows.2)

-- want of memory at the end, before a network began
pub end_unmade : {N : Type 0} (net : Conduct N) (s : SettingsValue) (w : Option N) (old new before now : Option (List ℕ))
    → w ≡ None → PlaysLines net old new s w before now (Ok tt) → StopsUnbegun old new before now
unfolding event_lines
end_unmade {N} net s w old new before now none h = record {
  read = h.0;
  taken = h.2;
  ended = h.3;
  faultless = h.4.1.fault;
  no_events = played.0;
  wrote = subst (λ (hs : List Happened). Appends before now (told s hs)) played.1 h.4.1.wrote;
}
  where
    played : Played net (script_of (lines h.0)) h.4.0 None
    played = subst (λ (x : Option N). Played net (script_of (lines h.0)) h.4.0 x) none h.4.1.played

-- as many phones in the network as in the script
pub end_phones : {N : Type 0} (net : Conduct N) (s : SettingsValue) (w : Option N) (old new before now : Option (List ℕ)) (u : N)
    → PlaysLines net old new s w before now (Ok tt) → OpensAt net s w u → length s.known.addresses ≡ length (net.ends u)
end_phones net s w old new before now u h there =
    sym (end_there net (script_of (lines h.0)) s w h.4.0 u h.4.1.settings h.4.1.played h.4.1.follows there).1

module _ {N : Type 0} (net : Conduct N) (s : SettingsValue) (w : Option N) (old new before now last : Option (List ℕ)) (u : N)
    (h : PlaysLines net old new s w before now (Ok tt)) (there : OpensAt net s w u) where
  played : Played net (script_of (lines h.0)) h.4.0 (Some u)
  played = (end_there net (script_of (lines h.0)) s w h.4.0 u h.4.1.settings h.4.1.played h.4.1.follows there).0

  settings : s ≡ (script_of (lines h.0)).settings
  settings = sym h.4.1.settings

  end_told : (r : Result (Unit {0}) PlayFault) → Puts now last (told_in_the_end s (net.ends u)) r → PlaysToEnd net old new before last r
  end_told r q = record {
    read = h.0;
    taken = h.2;
    ended = h.3;
    faultless = h.4.1.fault;
    happened = h.4.0;
    network = u;
    played = played;
    front = q.0;
    told_is = subst (λ (y : SettingsValue). IsPutOf (told_in_the_end y (net.ends u)) q.0 r) settings q.1;
    wrote = subst (λ (y : SettingsValue). Appends before last (told y h.4.0 ++ q.0)) settings (Appends-both before now last (told s h.4.0) q.0 h.4.1.wrote q.2);
  }

  -- the final lines, whatever came of them
  pub end_turn : (result : Result (Unit {0}) PlayFault) (failed : Bool) → Puts now last (told_in_the_end s (net.ends u)) result → HasFailed result failed
      → Plays net old new before last result
  end_turn (Ok done) failed q f = end_told (Ok done) q
  end_turn (Err faults.Write) failed q f = inr (end_told (Err faults.Write) q)
  end_turn (Err faults.Memory) failed q f = inr (inr (end_told (Err faults.Memory) q))
  end_turn (Err faults.Read) failed q f = absurd f
  end_turn (Err (faults.Script n why)) failed q f = absurd f

  -- what is left where all was played
  pub end_left : (result : Result (Unit {0}) PlayFault) → Puts now last (told_in_the_end s (net.ends u)) result
      → Leaves net old new before last s (Some u) result
  unfolding end_told
  end_left (Ok done) q = (end_told (Ok done) q, settings, refl)
  end_left (Err fault) q = tt

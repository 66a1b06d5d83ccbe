-- A reader may pass this by: contracts of private functions, and proofs, alone cite it.
--
-- Where playing a script stands after some of its lines.
use Rattle.std.specs.Prelude.{◌≡◌, ℕ, ◌+◌, List, [], ◌∷◌, ◌++◌, length, true, Option, Some, None, MatchOption, Result, Ok, Err}
use Rattle.std.specs.Io.KnownBytes.{Appends, Consumes, IsAtEnd}
use Rattle.sms_script.specs.Lines.{lines}
use Rattle.sms_script.specs.Meaning.Memory.{MayRunOut}
use Rattle.sms_script.specs.Play.{Stops}
use Rattle.sms_script.specs.Play.Network.{Conduct}
use Rattle.sms_script.specs.Play.Played.{Played, told}
use Rattle.sms_script.specs.Play.Runs.{Starts}
use Rattle.sms_script.specs.Script.{script_of}
use Rattle.sms_script.specs.Script.Settings.{SettingsValue}
use Rattle.sms_script.specs.Transcript.{Happened}
use Rattle.sms_script.specs.declared.fault.PlayFault.{PlayFault}
use Rattle.sms_script.specs.declared.fault.PlayFault.TheVariants as faults

-- how many packets were put out
abbrev pub put_count : List Happened → ℕ
put_count [] = 0
put_count (h ∷ hs) = length h.put + put_count hs

-- a network is there only after an event; it has put out the packets of the events, and has the
-- script's phones
abbrev pub Follows : {N : Type 0} → Conduct N → SettingsValue → List Happened → Option N → Type 0
Follows c s happened None = Unit {0}
Follows c s happened (Some n) =
    (s.known.is_running ≡ true) × (put_count happened ≡ length (c.put_out n))
    × (length (c.ends n) ≡ length s.known.addresses)

-- the lines say s with no fault, their events happened and led to the network, and their lines were
-- written
abbrev pub Stands : {N : Type 0} → Conduct N
    → List (List ℕ) → SettingsValue → Option N → ℕ → Option (List ℕ) → Option (List ℕ) → Type 0
Stands c ls s n events before now =
    (happened : List Happened) × record {
      fault : (script_of ls).fault ≡ None;
      settings : (script_of ls).settings ≡ s;
      played : Played c (script_of ls) happened n;
      events : events ≡ length happened;
      follows : Follows c s happened n;
      wrote : Appends before now (told s happened);
    }

-- What playing holds between two lines: what the lines have set, the network, how many events there
-- were, and what the sink has taken.
pub record At (N : Type 0) : Type 0 where
  pub settings : SettingsValue
  pub network : Option N
  pub events : ℕ
  pub written : Option (List ℕ)

abbrev pub at : {N : Type 0} → SettingsValue → Option N → ℕ → Option (List ℕ) → At N
at s n events written = record { settings = s; network = n; events = events; written = written }

-- playing stands here after these lines
abbrev pub StandsAt : {N : Type 0} → Conduct N → List (List ℕ) → At N → Option (List ℕ) → Type 0
StandsAt c ls here before =
    Stands c ls here.settings here.network here.events before here.written

-- The event of one line more happened, and a front of its lines was written.
pub record BreaksOff {N : Type 0} (c : Conduct N) (ls : List (List ℕ)) (line : List ℕ)
    (network : Option N) (before now : Option (List ℕ)) : Type 0 where
  pub fault : (script_of ls).fault ≡ None
  pub faultless : (script_of (ls ++ line ∷ [])).fault ≡ None
  pub earlier : List Happened
  pub played : Played c (script_of ls) earlier network
  pub last : Happened
  pub after : N
  pub happened : Played c (script_of (ls ++ line ∷ [])) (earlier ++ last ∷ []) (Some after)
  pub front : List ℕ
  pub back : List ℕ
  pub told_is :
      told (script_of (ls ++ line ∷ [])).settings (earlier ++ last ∷ [])
      ≡ told (script_of ls).settings earlier ++ (front ++ back)
  pub wrote : Appends before now (told (script_of ls).settings earlier ++ front)

-- One line more was played. Or it was not, for a fault or want of memory, and what was written is
-- as it was; or a write failed in the lines of its event.
abbrev pub GoesOn : {N : Type 0} → Conduct N → List (List ℕ) → List ℕ → At N → At N
    → Option (List ℕ) → Result (Unit {0}) PlayFault → Type 0
GoesOn c ls line from to before (Ok done) = StandsAt c (ls ++ line ∷ []) to before
GoesOn c ls line from to before (Err (faults.Script n why)) =
    ((script_of (ls ++ line ∷ [])).fault ≡ Some (n, why))
    × StandsAt c ls (record from { written = to.written }) before
GoesOn c ls line from to before (Err faults.Memory) =
    StandsAt c ls (record from { written = to.written }) before
    × MayRunOut from.settings.known line
GoesOn c ls line from to before (Err faults.Write) =
    BreaksOff c ls line from.network before to.written
GoesOn c ls line from to before (Err faults.Read) = ⊥

-- wherever playing stands after some lines, it then stands after these and one more, or ends
abbrev pub Advances : {N : Type 0} → Conduct N → At N → List ℕ → At N → Result (Unit {0}) PlayFault
    → Type 0
Advances c from line to result =
    (ls : List (List ℕ)) (before : Option (List ℕ)) → StandsAt c ls from before
    → GoesOn c ls line from to before result

-- all lines were played, to the end of the source
abbrev pub PlaysLines : {N : Type 0} → Conduct N
    → (old new : Option (List ℕ)) → SettingsValue → Option N → (before now : Option (List ℕ))
    → Result (Unit {0}) PlayFault → Type 0
PlaysLines c old new s n before now (Ok done) =
    (read : List ℕ) × (events : ℕ) × Consumes old new read × IsAtEnd new
    × Stands c (lines read) s n events before now
PlaysLines c old new s n before now (Err fault) = Stops c old new before now fault

-- the network that an event is played on: the one that there is, or one that starts as the script
-- has set
abbrev pub OpensAt : {N : Type 0} → Conduct N → SettingsValue → Option N → N → Type 0
OpensAt c s n m = MatchOption n
    (Starts c s m × (c.put_out m ≡ []) × (length (c.ends m) ≡ length s.known.addresses))
    (λ there. m ≡ there)

-- there is such a network
abbrev pub StartsAt : {N : Type 0} → Conduct N → SettingsValue → Option N → Option N → Type 0
StartsAt {N} c s n now = (m : N) × (now ≡ Some m) × OpensAt c s n m

-- A script played by one line more.
use Rattle.std.proofs.Common.{◌≡◌, ℕ, ◌+◌, ◌<◌, ◌≤◌, List, [], ◌∷◌, ◌++◌, length, Option, Some, None, Result, Ok, Err, true, refl, sym, ap, ◌∙◌, subst, append-nil, arith, length-append, inl, inr, ◌⊎◌, Bool}
use Rattle.std.specs.Io.KnownBytes.{Appends}
use Rattle.std.proofs.lemmas.Bool.{lt-ltb, le-leb}
use Rattle.sms_script.proofs.PlayedTurns.{played_before, played_nothing, played_first, played_event}
use Rattle.sms_script.proofs.PutLemmas.{Appends-both, puts_all}
use Rattle.sms_script.proofs.RunLemmas.{lines_more, event_lines_more}
use Rattle.sms_script.proofs.RunningLemmas.{IsNoSetting, running_says}
use Rattle.sms_script.proofs.Turns.{with_statement, with_line-says, with_fault, with_line-fails}
use Rattle.sms_script.specs.Inside.Events.{TakesEvent}
use Rattle.sms_script.specs.Lines.{line_limit}
use Rattle.sms_script.specs.Play.Played.{Played, told}
use Rattle.sms_script.specs.Play.Network.{Conduct}
use Rattle.sms_script.specs.Play.Puts.{Puts, PutsAtOnce, HasFailed}
use Rattle.sms_script.specs.Script.{ScriptValue, TakesLine, no_lines, script_of, after, event_of, line_meaning, lines_limit}
use Rattle.sms_script.specs.Script.Settings.{SettingsValue}
use Rattle.sms_script.specs.Inside.Standing.{put_count, Follows, Stands, at, BreaksOff, GoesOn, OpensAt}
use Rattle.sms_script.specs.declared.fault.PlayFault.{PlayFault}
use Rattle.sms_script.specs.declared.fault.PlayFault.TheVariants as faults
use Rattle.sms_script.specs.Meaning.{meaning}
use Rattle.sms_script.specs.Meaning.Memory.{TypesToName, TakesMemory, MayRunOut}
use Rattle.sms_script.specs.declared.meaning.event.Event.{Event}
use Rattle.sms_script.specs.declared.fault.ScriptFault.{ScriptFault}
use Rattle.sms_script.specs.declared.meaning.statement.Statement.{Statement}
use Rattle.sms_script.specs.declared.meaning.statement.Statement.TheVariants as statements
use Rattle.sms_script.specs.Transcript.Lines.{event_line}
use Rattle.sms_script.specs.Transcript.{Happened, event_lines, packet_lines}

pub meaning_within : (s : SettingsValue) (line : List ℕ) → s.lines < lines_limit → length line ≤ line_limit → line_meaning s line ≡ meaning s.known line
meaning_within s line few short = rw (lt-ltb s.lines lines_limit few, le-leb (length line) line_limit short) refl

-- what lines say with one more
pub line_says : (ls : List (List ℕ)) (line : List ℕ) (s : SettingsValue) (st : Statement) → (script_of ls).fault ≡ None → (script_of ls).settings ≡ s → s.lines < lines_limit → length line ≤ line_limit
    → meaning s.known line ≡ Ok st → script_of (ls ++ line ∷ []) ≡ with_statement (script_of ls) s st
line_says ls line s st e f few short m = lines_more no_lines ls line ∙ with_line-says (script_of ls) s line st e f (meaning_within s line few short ∙ m)

-- and with one that fails
pub line_fails : (ls : List (List ℕ)) (line : List ℕ) (s : SettingsValue) (why : ScriptFault) → (script_of ls).fault ≡ None → (script_of ls).settings ≡ s → line_meaning s line ≡ Err why
    → script_of (ls ++ line ∷ []) ≡ with_fault (script_of ls) why
line_fails ls line s why e f m = lines_more no_lines ls line ∙ with_line-fails (script_of ls) s line why e f m

-- a line at fault
pub line_fault : (ls : List (List ℕ)) (line : List ℕ) (s : SettingsValue) (n : ℕ) (why : ScriptFault) → (script_of ls).fault ≡ None → (script_of ls).settings ≡ s → line_meaning s line ≡ Err why
    → n ≡ s.lines + 1 → (script_of (ls ++ line ∷ [])).fault ≡ Some (n, why)
line_fault ls line s n why f e m c =
    ap (λ (t : ScriptValue). t.fault) (line_fails ls line s why f e m) ∙ ap (λ (i : ℕ). Some (i, why)) (ap (λ (y : SettingsValue). y.lines + 1) e ∙ sym c)

-- nothing more was written
pub stands_kept : {N : Type 0} (net : Conduct N) (ls : List (List ℕ)) (s : SettingsValue) (w : Option N) (events : ℕ) (before now last : Option (List ℕ))
    → Appends now last [] → Stands net ls s w events before now → Stands net ls s w events before last
stands_kept net ls s w events before now last none h = (
  h.0,
  record {
    fault = h.1.fault;
    settings = h.1.settings;
    played = h.1.played;
    events = h.1.events;
    follows = h.1.follows;
    wrote = subst (λ (l : List ℕ). Appends before last l) (append-nil (told s h.0)) (Appends-both before now last (told s h.0) [] h.1.wrote none);
  },
)

-- a line without an event
pub nothing_goes_on : {N : Type 0} (net : Conduct N) (ls : List (List ℕ)) (line : List ℕ) (s : SettingsValue) (w : Option N) (events : ℕ) (before now : Option (List ℕ)) (st : Statement)
    → s.lines < lines_limit → length line ≤ line_limit → meaning s.known line ≡ Ok st → event_of st ≡ None
    → Stands net ls s w events before now → Stands net (ls ++ line ∷ []) (after s st) w events before now
unfolding after event_lines
nothing_goes_on net ls line s None events before now st few short m none h =
    let q = line_says ls line s st h.1.fault h.1.settings few short m in
    let nothing : Appends before now [] = subst (λ (hs : List Happened). Appends before now (told s hs)) h.1.played.1 h.1.wrote in (
      h.0,
      record {
        fault = ap (λ (t : ScriptValue). t.fault) q;
        settings = ap (λ (t : ScriptValue). t.settings) q;
        played = subst (λ (t : ScriptValue). Played net t h.0 None) (sym q) (played_before net (script_of ls) s st h.0 none h.1.played);
        events = h.1.events;
        follows = tt;
        wrote = subst (λ (hs : List Happened). Appends before now (told (after s st) hs)) (sym h.1.played.1) nothing;
      },
    )
nothing_goes_on {N} net ls line s (Some w) events before now st few short m none h = by_kind (running_says s.known line st h.1.follows.0 m)
  where
    by_kind : IsNoSetting st → Stands net (ls ++ line ∷ []) (after s st) (Some w) events before now
    by_kind (inl is) =
        let q = line_says ls line s statements.Nothing h.1.fault h.1.settings few short (m ∙ ap Ok is) in
        subst (λ (y : Statement). Stands net (ls ++ line ∷ []) (after s y) (Some w) events before now) (sym is) (
          h.0,
          record {
            fault = ap (λ (t : ScriptValue). t.fault) q;
            settings = ap (λ (t : ScriptValue). t.settings) q;
            played = subst (λ (t : ScriptValue). Played net t h.0 (Some w)) (sym q) (played_nothing net (script_of ls) s h.0 w h.1.settings h.1.played);
            events = h.1.events;
            follows = h.1.follows;
            wrote = h.1.wrote;
          },
        )
    by_kind (inr is) = absurd (no (sym (ap event_of is.1) ∙ none))
      where
        no : Some is.0 ≡ None → ⊥
        no k = cc

pub put_count_more : (hs : List Happened) (h : Happened) → put_count (hs ++ h ∷ []) ≡ put_count hs + length h.put
put_count_more [] h = omega arith
put_count_more (f ∷ hs) h = let k = put_count_more hs h in omega (arith, k)

-- what is known of the network that an event is played on
pub event_there : {N : Type 0} (net : Conduct N) (t : ScriptValue) (s : SettingsValue) (w : Option N) (event : Event) (hs : List Happened) (h : Happened) (u v : N)
    → t.settings ≡ s → Played net t hs w → Follows net s hs w → OpensAt net (after s (statements.Event event)) w u → net.Steps u event h.words v → net.put_out v ≡ net.put_out u ++ h.put
    → Played net (with_statement t s (statements.Event event)) (hs ++ h ∷ []) (Some v) × (put_count hs ≡ length (net.put_out u)) × (length (net.ends u) ≡ length s.known.addresses)
unfolding after
event_there net t s None event hs h u v f played follows there step put =
    (played_first net t s event hs h u v played there.0 there.1 step put, ap put_count played.1 ∙ sym (ap length there.1), there.2)
event_there net t s (Some w) event hs h u v f played follows there step put =
    let played_u = subst (λ x. Played net t hs (Some x)) (sym there) played in
    (played_event net t s event hs h u v f played_u step put, follows.1 ∙ ap (λ x. length (net.put_out x)) (sym there), ap (λ x. length (net.ends x)) there ∙ follows.2)

pub event_told : (s : SettingsValue) (event : Event) (hs : List Happened) → told s hs ≡ told (after s (statements.Event event)) hs
unfolding after
event_told s event hs = refl

pub event_phones : (s : SettingsValue) (event : Event) → length (after s (statements.Event event)).known.addresses ≡ length s.known.addresses
unfolding after
event_phones s event = refl

pub event_runs : (s : SettingsValue) (event : Event) → (after s (statements.Event event)).known.is_running ≡ true
unfolding after
event_runs s event = refl

-- a line with an event
pub event_goes_on : {N : Type 0} (net : Conduct N) (ls : List (List ℕ)) (line : List ℕ) (s : SettingsValue) (w x : Option N) (events n : ℕ) (before now last : Option (List ℕ)) (event : Event) (u v : N) (result : Result (Unit {0}) PlayFault) (failed : Bool)
    → s.lines < lines_limit → length line ≤ line_limit → meaning s.known line ≡ Ok (statements.Event event) → n ≡ events + 1
    → Stands net ls s w events before now → OpensAt net (after s (statements.Event event)) w u
    → TakesEvent net u event v (after s (statements.Event event)) n now last result → length (net.ends v) ≡ length (net.ends u) → HasFailed result failed
    → x ≡ Some v ⊎ (result ≡ Ok tt → ⊥)
    → GoesOn net ls line (at s w events now) (at (after s (statements.Event event)) x n last) before result
event_goes_on {N} net ls line s w x events n before now last event u v result failed few short m count h there takes phones fails is = by_result result takes.4 fails is
  where
    z : SettingsValue
    z = after s (statements.Event event)

    k : Happened
    k = record { words = takes.0; put = takes.1 }

    q : script_of (ls ++ line ∷ []) ≡ with_statement (script_of ls) s (statements.Event event)
    q = line_says ls line s (statements.Event event) h.1.fault h.1.settings few short m

    known : Played net (with_statement (script_of ls) s (statements.Event event)) (h.0 ++ k ∷ []) (Some v) × (put_count h.0 ≡ length (net.put_out u)) × (length (net.ends u) ≡ length s.known.addresses)
    known = event_there net (script_of ls) s w event h.0 k u v h.1.settings h.1.played h.1.follows there takes.2 takes.3

    played : Played net (script_of (ls ++ line ∷ [])) (h.0 ++ k ∷ []) (Some v)
    played = subst (λ (t : ScriptValue). Played net t (h.0 ++ k ∷ []) (Some v)) (sym q) known.0

    text : List ℕ
    text = event_line n takes.0 ++ packet_lines z.is_brief z.known.names (length (net.put_out u) + 1) takes.1

    number : 1 + length h.0 ≡ n
    number = let a = h.1.events in omega (arith, a, count)

    packet : 1 + put_count h.0 ≡ length (net.put_out u) + 1
    packet = let a = known.1 in omega (arith, a)

    more : told z (h.0 ++ k ∷ []) ≡ told z h.0 ++ text
    more = event_lines_more z.is_brief z.known.names 1 1 h.0 k n (length (net.put_out u) + 1) number packet

    wrote : Appends before now (told z h.0)
    wrote = subst (λ (l : List ℕ). Appends before now l) (event_told s event h.0) h.1.wrote

    stands : Appends now last text → Stands net (ls ++ line ∷ []) z (Some v) n before last
    stands puts = (
      h.0 ++ k ∷ [],
      record {
        fault = ap (λ (t : ScriptValue). t.fault) q;
        settings = ap (λ (t : ScriptValue). t.settings) q;
        played = played;
        events = (let a = number in let b = length-append h.0 (k ∷ []) in omega (arith, a, b));
        follows = (event_runs s event, put_count_more h.0 k ∙ ap (λ (i : ℕ). i + length takes.1) known.1 ∙ sym (length-append (net.put_out u) takes.1) ∙ sym (ap length takes.3), phones ∙ known.2 ∙ sym (event_phones s event));
        wrote = subst (λ (l : List ℕ). Appends before last l) (sym more) (Appends-both before now last (told z h.0) text wrote puts);
      },
    )

    settings : (script_of (ls ++ line ∷ [])).settings ≡ z
    settings = ap (λ (t : ScriptValue). t.settings) q

    same : told (script_of ls).settings h.0 ≡ told z h.0
    same = ap (λ (y : SettingsValue). told y h.0) h.1.settings ∙ event_told s event h.0

    breaks : Puts now last text (Err faults.Write) → BreaksOff net ls line w before last
    breaks puts =
        let all : told z (h.0 ++ k ∷ []) ≡ told z h.0 ++ (puts.0 ++ puts.1.0) = more ∙ ap (λ (l : List ℕ). told z h.0 ++ l) puts.1.1 in
        record {
          fault = h.1.fault;
          faultless = ap (λ (t : ScriptValue). t.fault) q;
          earlier = h.0;
          played = h.1.played;
          last = k;
          after = v;
          happened = played;
          front = puts.0;
          back = puts.1.0;
          told_is = ap (λ (y : SettingsValue). told y (h.0 ++ k ∷ [])) settings ∙ all ∙ ap (λ (l : List ℕ). l ++ (puts.0 ++ puts.1.0)) (sym same);
          wrote = subst (λ (l : List ℕ). Appends before last (l ++ puts.0)) (sym same) (Appends-both before now last (told z h.0) puts.0 wrote puts.2);
        }

    by_result : (r : Result (Unit {0}) PlayFault) → PutsAtOnce now last text r → HasFailed r failed → x ≡ Some v ⊎ (r ≡ Ok tt → ⊥) → GoesOn net ls line (at s w events now) (at z x n last) before r
    by_result (Ok done) puts f (inl is_v) = subst (λ y. Stands net (ls ++ line ∷ []) z y n before last) (sym is_v) (stands (puts_all now last text puts))
    by_result (Ok done) puts f (inr never) = absurd (never refl)
    by_result (Err faults.Write) puts f i = breaks puts
    by_result (Err faults.Memory) puts f i = (stands_kept net ls s w events before now last puts h, subst (TakesMemory (TypesToName line)) (sym m) tt)
    by_result (Err faults.Read) puts f i = absurd f
    by_result (Err (faults.Script a b)) puts f i = absurd f

pub event_is : (st : Statement) (event : Event) → event_of st ≡ Some event → st ≡ statements.Event event
event_is (statements.Event f) event e = cc
event_is statements.Nothing event e = cc
event_is (statements.Limit which n) event e = cc
event_is (statements.Clock n) event e = cc
event_is statements.Brief event e = cc
event_is statements.Wide event e = cc
event_is statements.Reject event e = cc
event_is (statements.Phone phone) event e = cc

-- memory may run out for a line with an event
pub event_may : (s z : SettingsValue) (line : List ℕ) (event : Event) → TakesLine s z line (Ok (Some event)) → MayRunOut s.known line
event_may s z line event t = subst (TakesMemory (TypesToName line)) (sym (t.1 ∙ ap Ok (event_is t.0 event (sym t.3)))) tt

-- a line that was not taken
pub take_fails : {N : Type 0} (net : Conduct N) (ls : List (List ℕ)) (line : List ℕ) (s z : SettingsValue) (w x : Option N) (events k : ℕ) (before now : Option (List ℕ)) (fault : PlayFault)
    → s.lines < lines_limit → length line ≤ line_limit → Stands net ls s w events before now → TakesLine s z line (Err fault)
    → GoesOn net ls line (at s w events now) (at z x k now) before (Err fault)
take_fails net ls line s z w x events k before now (faults.Script n why) few short h t = (line_fault ls line s n why h.1.fault h.1.settings (meaning_within s line few short ∙ t.0) t.1, h)
take_fails net ls line s z w x events k before now faults.Memory few short h t = (h, t.1)
take_fails net ls line s z w x events k before now faults.Read few short h t = absurd t
take_fails net ls line s z w x events k before now faults.Write few short h t = absurd t

-- a line whose event was answered
pub event_answered : {N : Type 0} (net : Conduct N) (ls : List (List ℕ)) (line : List ℕ) (s z : SettingsValue) (w x : Option N) (events n : ℕ) (before now last : Option (List ℕ)) (answer : Option Event) (event : Event) (u v : N) (result : Result (Unit {0}) PlayFault) (failed : Bool)
    → s.lines < lines_limit → length line ≤ line_limit → n ≡ events + 1
    → Stands net ls s w events before now → TakesLine s z line (Ok answer) → answer ≡ Some event → OpensAt net z w u
    → TakesEvent net u event v z n now last result → length (net.ends v) ≡ length (net.ends u) → HasFailed result failed
    → x ≡ Some v ⊎ (result ≡ Ok tt → ⊥)
    → GoesOn net ls line (at s w events now) (at z x n last) before result
event_answered net ls line s z w x events n before now last answer event u v result failed few short count h t a there takes phones fails is =
    let st : t.0 ≡ statements.Event event = event_is t.0 event (sym t.3 ∙ a) in
    let new : after s (statements.Event event) ≡ z = sym (t.2 ∙ ap (after s) st) in
    let G = λ (y : SettingsValue). OpensAt net y w u → TakesEvent net u event v y n now last result → GoesOn net ls line (at s w events now) (at y x n last) before result in
    let g : G (after s (statements.Event event)) = λ th ta. event_goes_on net ls line s w x events n before now last event u v result failed few short (t.1 ∙ ap Ok st) count h th ta phones fails is in
    subst G new g there takes

-- Runs and scripts, one event or line more.
use Rattle.std.proofs.Common.{◌≡◌, ℕ, ◌+◌, List, [], ◌∷◌, ◌++◌, length, Bool, refl, sym, ap, ◌∙◌, append_assoc, append-nil, arith, subst}
use Rattle.sms_script.specs.Play.Network.{Conduct}
use Rattle.sms_script.specs.Play.Runs.{Ran}
use Rattle.sms_script.specs.Script.{ScriptValue, with_line, with_lines, after}
use Rattle.sms_script.specs.Script.Settings.{SettingsValue}
use Rattle.sms_script.specs.Inside.Standing.{put_count}
use Rattle.sms_script.specs.declared.meaning.event.Event.{Event}
use Rattle.sms_script.specs.declared.meaning.statement.Statement.{Statement}
use Rattle.sms_script.specs.declared.meaning.statement.Statement.TheVariants as statements
use Rattle.sms_script.specs.Transcript.Lines.{event_line}
use Rattle.sms_script.specs.Transcript.{Happened, event_lines, packet_lines}

-- a run goes on by one event
pub ran_more : {N : Type 0} (net : Conduct N) (w u v : N) (events : List Event) (hs : List Happened) (event : Event) (h : Happened)
    → Ran net w events hs u → net.Steps u event h.words v → net.put_out v ≡ net.put_out u ++ h.put → Ran net w (events ++ event ∷ []) (hs ++ h ∷ []) v
ran_more net w u v [] [] event h ran step put = (v, subst (λ x. net.Steps x event h.words v) ran step, subst (λ x. net.put_out v ≡ net.put_out x ++ h.put) ran put, refl)
ran_more net w u v [] (k ∷ hs) event h ran step put = absurd ran
ran_more net w u v (e ∷ events) [] event h ran step put = absurd ran
ran_more net w u v (e ∷ events) (k ∷ hs) event h ran step put = (ran.0, ran.1, ran.2, ran_more net ran.0 u v events hs event h ran.3 step put)

-- a script goes on by one line
pub lines_more : (s : ScriptValue) (lines : List (List ℕ)) (line : List ℕ) → with_lines s (lines ++ line ∷ []) ≡ with_line (with_lines s lines) line
lines_more s [] line = refl
lines_more s (l ∷ lines) line = lines_more (with_line s l) lines line

-- the lines of events go on by those of one event, of number n, whose first packet has number m
pub event_lines_more : (brief : Bool) (names : List (List ℕ)) (event packet : ℕ) (hs : List Happened) (h : Happened) (n m : ℕ) → event + length hs ≡ n → packet + put_count hs ≡ m
    → event_lines brief names event packet (hs ++ h ∷ []) ≡ event_lines brief names event packet hs ++ (event_line n h.words ++ packet_lines brief names m h.put)
unfolding event_lines
event_lines_more brief names event packet [] h n m e k =
    let first : n ≡ event = omega arith in
    let next : m ≡ packet = omega arith in
    rw (first, next) (append-nil (event_line event h.words ++ packet_lines brief names packet h.put))
event_lines_more brief names event packet (f ∷ hs) h n m e k =
    let front = event_line event f.words ++ packet_lines brief names packet f.put in
    let rest = event_lines brief names (event + 1) (packet + length f.put) hs in
    let new = event_line n h.words ++ packet_lines brief names m h.put in
    ap (λ (l : List ℕ). front ++ l) (event_lines_more brief names (event + 1) (packet + length f.put) hs h n m (omega arith) (omega arith)) ∙ sym (append_assoc front rest new)

pub lines_after : (s : SettingsValue) (statement : Statement) → (after s statement).lines ≡ s.lines + 1
unfolding after
lines_after s statements.Nothing = refl
lines_after s (statements.Limit which n) = refl
lines_after s (statements.Clock n) = refl
lines_after s statements.Brief = refl
lines_after s statements.Wide = refl
lines_after s statements.Reject = refl
lines_after s (statements.Phone phone) = refl
lines_after s (statements.Event event) = refl

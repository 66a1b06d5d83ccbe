-- What was played, with one line more.
use Rattle.std.proofs.Common.{◌≡◌, List, [], ◌∷◌, ◌++◌, Some, None, refl, sym, ap, ◌∙◌, subst}
use Rattle.sms_script.proofs.RunLemmas.{ran_more}
use Rattle.sms_script.proofs.Turns.{with_statement}
use Rattle.sms_script.specs.Play.Played.{Played}
use Rattle.sms_script.specs.Play.Network.{Conduct}
use Rattle.sms_script.specs.Play.Runs.{Ran, Starts}
use Rattle.sms_script.specs.Script.{ScriptValue, after, event_of, with_event}
use Rattle.sms_script.specs.Script.Settings.{SettingsValue}
use Rattle.sms_script.specs.declared.meaning.event.Event.{Event}
use Rattle.sms_script.specs.declared.meaning.statement.Statement.{Statement}
use Rattle.sms_script.specs.declared.meaning.statement.Statement.TheVariants as statements
use Rattle.sms_script.specs.Transcript.{Happened}

-- a line without an event, before the network begins
pub played_before : {N : Type 0} (net : Conduct N) (t : ScriptValue) (s : SettingsValue) (statement : Statement) (hs : List Happened)
    → event_of statement ≡ None → Played net t hs None → Played net (with_statement t s statement) hs None
played_before net t s statement hs e p = (ap (with_event t.events) e ∙ p.0, p.1)

-- a line that does nothing, after an event
pub played_nothing : {N : Type 0} (net : Conduct N) (t : ScriptValue) (s : SettingsValue) (hs : List Happened) (w : N)
    → t.settings ≡ s → Played net t hs (Some w) → Played net (with_statement t s statements.Nothing) hs (Some w)
unfolding after
played_nothing net t s hs w f p = (p.0, subst (λ x. Starts net x p.0) f p.1, p.2, p.3)

-- the first event
pub played_first : {N : Type 0} (net : Conduct N) (t : ScriptValue) (s : SettingsValue) (event : Event) (hs : List Happened) (h : Happened) (w v : N)
    → Played net t hs None → Starts net (after s (statements.Event event)) w → net.put_out w ≡ [] → net.Steps w event h.words v → net.put_out v ≡ net.put_out w ++ h.put
    → Played net (with_statement t s (statements.Event event)) (hs ++ h ∷ []) (Some v)
played_first net t s event hs h w v p starts empty step put =
    let Run = λ (es : List Event) (ks : List Happened). Ran net w es ks w in
    let ran : Ran net w t.events hs w = subst (λ es. Run es hs) (sym p.0) (subst (λ ks. Run [] ks) (sym p.1) refl) in
    (w, starts, empty, ran_more net w w v t.events hs event h ran step put)

-- a further event
pub played_event : {N : Type 0} (net : Conduct N) (t : ScriptValue) (s : SettingsValue) (event : Event) (hs : List Happened) (h : Happened) (w v : N)
    → t.settings ≡ s → Played net t hs (Some w) → net.Steps w event h.words v → net.put_out v ≡ net.put_out w ++ h.put
    → Played net (with_statement t s (statements.Event event)) (hs ++ h ∷ []) (Some v)
unfolding after
played_event net t s event hs h w v f p step put =
    (p.0, subst (λ x. Starts net x p.0) f p.1, p.2, ran_more net p.0 w v t.events hs event h p.3 step put)

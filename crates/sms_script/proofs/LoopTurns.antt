-- The lines of a source played in turn.
use Rattle.std.proofs.Common.{◌≡◌, ◌≢◌, ℕ, ◌+◌, ◌<◌, List, [], ◌∷◌, ◌++◌, length, Option, Some, None, Result, Ok, Err, refl, sym, ap, ◌∙◌, subst, append-nil, arith, inl, inr}
use Rattle.std.specs.Io.KnownBytes.{Appends, Consumes, IsAtEnd}
use Rattle.std.proofs.lemmas.Bool.{lt-ltb, le-ltb, lt-leb}
use Rattle.sms_script.proofs.LineLemmas.{lines-unended, line_more, whole-none, whole_more, octet_line, strip-shorter}
use Rattle.sms_script.proofs.LineTurns.{line_fault}
use Rattle.sms_script.proofs.PutLemmas.{Appends-none}
use Rattle.sms_script.proofs.SourceLemmas.{Consumes-nil, Consumes-add}
use Rattle.sms_script.specs.Lines.{line_feed, line_limit, lines, strip_carriage_return, HasNoLineFeed, AreWhole}
use Rattle.sms_script.specs.Lines.Reading.{ReadsLine, ShowsLonger}
use Rattle.sms_script.specs.Meaning.Memory.{MayRunOut}
use Rattle.sms_script.specs.Play.{Stops}
use Rattle.sms_script.specs.Play.Endings.{IsFedLine, IsNextLine, IsCutOff, IsUnplayed, StopsInLine}
use Rattle.sms_script.specs.Play.Played.{Played, LinesPlayed, told, told_of}
use Rattle.sms_script.specs.Play.Network.{Conduct}
use Rattle.sms_script.specs.Inside.NextLine.{TakesNext, TakesWrong}
use Rattle.sms_script.specs.Inside.Standing.{Stands, At, at, StandsAt, GoesOn, PlaysLines}
use Rattle.sms_script.specs.Script.{script_of, before_all, line_meaning, lines_limit}
use Rattle.sms_script.specs.Script.Settings.{SettingsValue}
use Rattle.sms_script.specs.Transcript.{event_lines}
use Rattle.sms_script.specs.declared.fault.PlayFault.{PlayFault}
use Rattle.sms_script.specs.declared.fault.PlayFault.TheVariants as faults
use Rattle.sms_script.specs.declared.fault.ScriptFault.{ScriptFault}
use Rattle.sms_script.specs.declared.fault.ScriptFault.TheVariants as reasons
use Rattle.sms_script.specs.declared.lines.LineEnd.TheVariants as line_ends

-- a last line, without a line feed
lines_last : (read raw : List ℕ) → AreWhole read → HasNoLineFeed raw → raw ≢ [] → lines (read ++ raw) ≡ lines read ++ raw ∷ []
lines_last read [] whole h some = absurd (some refl)
lines_last read (o ∷ raw) whole h some = whole (o ∷ raw) ∙ ap (λ (ls : List (List ℕ)). lines read ++ ls) (lines-unended o raw h)

longer : (raw : List ℕ) (new : Option (List ℕ)) → ShowsLonger raw new → line_limit < length raw
longer raw new (inl a) = let b = strip-shorter raw in let k = a.longer in omega (arith, k, b)
longer raw new (inr a) = a.longer

-- what playing has made of lines
abbrev lines_played : {N : Type 0} (net : Conduct N) (ls : List (List ℕ)) (s : SettingsValue) (w : Option N) (events : ℕ) (before now : Option (List ℕ)) → Stands net ls s w events before now → LinesPlayed net ls
lines_played net ls s w events before now h = record { faultless = h.1.fault; happened = h.0; network = w; played = h.1.played }

-- and just their lines were written
lines_wrote : {N : Type 0} (net : Conduct N) (ls : List (List ℕ)) (s : SettingsValue) (w : Option N) (events : ℕ) (before now : Option (List ℕ)) → (h : Stands net ls s w events before now)
    → Appends before now (told_of ls (lines_played net ls s w events before now h))
lines_wrote net ls s w events before now h = subst (λ (y : SettingsValue). Appends before now (told y h.0)) (sym h.1.settings) h.1.wrote

-- the line after whole lines that were played is not played
stops_in_line : {N : Type 0} (net : Conduct N) (whole rest : List ℕ) (s : SettingsValue) (w : Option N) (events : ℕ) (old new before now : Option (List ℕ)) (fault : PlayFault)
    → AreWhole whole → Consumes old new (whole ++ rest) → IsUnplayed fault whole rest new → Stands net (lines whole) s w events before now → StopsInLine net old new before now fault
stops_in_line net whole rest s w events old new before now fault are taken unplayed h = record {
  whole = whole;
  rest = rest;
  are_whole = are;
  taken = taken;
  unplayed = unplayed;
  played = lines_played net (lines whole) s w events before now h;
  wrote = lines_wrote net (lines whole) s w events before now h;
}

-- a line in which playing ends
pub goes_on_fails : {N : Type 0} (net : Conduct N) (line read last : List ℕ) (from to : At N) (old new before : Option (List ℕ)) (fault : PlayFault)
    → AreWhole read → IsNextLine read last new → lines (read ++ last) ≡ lines read ++ line ∷ [] → Consumes old new (read ++ last)
    → GoesOn net (lines read) line from to before (Err fault) → Stops net old new before to.written fault
goes_on_fails net line read last from to old new before (faults.Script n why) are one is taken h =
    stops_in_line net read last from.settings from.network from.events old new before to.written (faults.Script n why) are taken
    (subst (λ (l : List (List ℕ)). (script_of l).fault ≡ Some (n, why)) (sym is) h.0, inl one) h.1
goes_on_fails net line read last from to old new before faults.Memory are one is taken h =
    stops_in_line net read last from.settings from.network from.events old new before to.written faults.Memory are taken
    (inr (record {
      one = one;
      line = line;
      is_line = is;
      may = subst (λ (y : SettingsValue). MayRunOut y.known line) (sym h.0.1.settings) h.1;
    }))
    h.0
goes_on_fails {N} net line read last from to old new before faults.Write are one is taken h = record {
  whole = read;
  rest = last;
  are_whole = are;
  taken = taken;
  one = one.one;
  faultless = subst (λ (l : List (List ℕ)). (script_of l).fault ≡ None) (sym is) h.faultless;
  played = record { faultless = h.fault; happened = h.earlier; network = from.network; played = h.played };
  last = h.last;
  network = h.after;
  happened = subst (λ (l : List (List ℕ)). Played net (script_of l) (h.earlier ++ h.last ∷ []) (Some h.after)) (sym is) h.happened;
  front = h.front;
  back = h.back;
  told_is = ap (λ (l : List (List ℕ)). told (script_of l).settings (h.earlier ++ h.last ∷ [])) is ∙ h.told_is;
  wrote = h.wrote;
}
goes_on_fails net line read last from to old new before faults.Read are one is taken h = absurd h

-- Where the loop stands: whole lines were read and played.
abbrev pub LoopAt : {N : Type 0} → Conduct N → (old mid : Option (List ℕ)) → At N → (before : Option (List ℕ)) → Type 0
LoopAt net old mid here before =
    (read : List ℕ) × AreWhole read × Consumes old mid read × StandsAt net (lines read) here before

pub loop_starts : {N : Type 0} (net : Conduct N) (s : SettingsValue) (w : Option N) (old before : Option (List ℕ))
    → s ≡ before_all → w ≡ None → LoopAt net old old (at s w 0 before) before
unfolding event_lines
loop_starts {N} net s w old before is none =
    let start : Stands net [] before_all None 0 before before = ([], record { fault = refl; settings = refl; played = (refl, refl); events = refl; follows = tt; wrote = Appends-none before }) in
    ([], whole-none, Consumes-nil old, subst (λ (y : SettingsValue). Stands net [] y w 0 before before) (sym is) (subst (λ (x : Option N). Stands net [] before_all x 0 before before) (sym none) start))

-- what reading a line with its line feed leaves
pub fed_lines : (read line : List ℕ) (mid new : Option (List ℕ)) (r : ReadsLine mid new line (Ok line_ends.LineFeed)) → AreWhole read → lines (read ++ (r.0 ++ line_feed ∷ [])) ≡ lines read ++ line ∷ []
fed_lines read line mid new r whole = line_more read r.0 whole r.1 ∙ ap (λ (l : List ℕ). lines read ++ l ∷ []) (sym r.2.1)

-- it is one line
pub fed_line : (line : List ℕ) (mid new : Option (List ℕ)) (r : ReadsLine mid new line (Ok line_ends.LineFeed)) → IsFedLine (r.0 ++ line_feed ∷ [])
fed_line line mid new r = record {
  raw = r.0;
  no_feed = r.1;
  fed = refl;
  short = (let is : length line ≡ length (strip_carriage_return r.0) = ap length r.2.1 in let short = r.2.2 in omega (arith, is, short));
}

-- a turn of the loop
pub loop_turn : {N : Type 0} (net : Conduct N) (line : List ℕ) (from to : At N) (old mid new before : Option (List ℕ))
    → (h : LoopAt net old mid from before) → ReadsLine mid new line (Ok line_ends.LineFeed) → (StandsAt net (lines h.0) from before → GoesOn net (lines h.0) line from to before (Ok tt))
    → LoopAt net old new to before
loop_turn net line from to old mid new before h r goes = (
  h.0 ++ (r.0 ++ line_feed ∷ []),
  whole_more h.0 r.0 h.1 r.1,
  Consumes-add old mid new h.0 (r.0 ++ line_feed ∷ []) h.2 r.2.0,
  subst (λ (l : List (List ℕ)). StandsAt net l to before) (sym (fed_lines h.0 line mid new r h.1)) (goes h.3),
)

-- one more line may come
may_come : {N : Type 0} (net : Conduct N) (ls : List (List ℕ)) (from : At N) (before : Option (List ℕ)) → from.settings.lines < lines_limit → (h : StandsAt net ls from before) → (script_of ls).settings.lines < lines_limit
may_come net ls from before few h = let is : (script_of ls).settings.lines ≡ from.settings.lines = ap (λ (y : SettingsValue). y.lines) h.1.settings in omega (arith, few, is)

-- a line with its line feed in which playing ends
pub loop_fails : {N : Type 0} (net : Conduct N) (line : List ℕ) (from to : At N) (old mid new before : Option (List ℕ)) (fault : PlayFault)
    → from.settings.lines < lines_limit → (h : LoopAt net old mid from before) → ReadsLine mid new line (Ok line_ends.LineFeed)
    → (StandsAt net (lines h.0) from before → GoesOn net (lines h.0) line from to before (Err fault)) → Stops net old new before to.written fault
loop_fails net line from to old mid new before fault few h r goes =
    goes_on_fails net line h.0 (r.0 ++ line_feed ∷ []) from to old new before fault h.1
    (record { few = may_come net (lines h.0) from before few h.3; one = inl (fed_line line mid new r) })
    (fed_lines h.0 line mid new r h.1)
    (Consumes-add old mid new h.0 (r.0 ++ line_feed ∷ []) h.2 r.2.0) (goes h.3)

-- the last line
pub loop_lasts : {N : Type 0} (net : Conduct N) (line : List ℕ) (from to : At N) (old mid new before : Option (List ℕ)) (result : Result (Unit {0}) PlayFault)
    → from.settings.lines < lines_limit → (h : LoopAt net old mid from before) → line ≢ [] → ReadsLine mid new line (Ok line_ends.EndOfSource)
    → (StandsAt net (lines h.0) from before → GoesOn net (lines h.0) line from to before result) → PlaysLines net old new to.settings to.network before to.written result
loop_lasts net line from to old mid new before result few h some r goes = by_result result (goes h.3)
  where
    is : lines (h.0 ++ r.0) ≡ lines h.0 ++ line ∷ []
    is = lines_last h.0 r.0 h.1 r.1 (λ none. some (r.2.1 ∙ none)) ∙ ap (λ (l : List ℕ). lines h.0 ++ l ∷ []) (sym r.2.1)

    taken : Consumes old new (h.0 ++ r.0)
    taken = Consumes-add old mid new h.0 r.0 h.2 r.2.0

    one : IsNextLine h.0 r.0 new
    one = record {
      few = may_come net (lines h.0) from before few h.3;
      one = inr (record {
        no_feed = r.1;
        short = (let same : length line ≡ length r.0 = ap length r.2.1 in let short = r.2.2 in omega (arith, same, short));
        ended = r.2.3;
      });
    }

    by_result : (q : Result (Unit {0}) PlayFault) → GoesOn net (lines h.0) line from to before q → PlaysLines net old new to.settings to.network before to.written q
    by_result (Ok done) g = (h.0 ++ r.0, to.events, taken, r.2.3, subst (λ (l : List (List ℕ)). StandsAt net l to before) (sym is) g)
    by_result (Err fault) g = goes_on_fails net line h.0 r.0 from to old new before fault h.1 one is taken g

-- the end of the source
pub loop_ends : {N : Type 0} (net : Conduct N) (here : At N) (old mid new before : Option (List ℕ))
    → LoopAt net old mid here before → Consumes mid new [] → IsAtEnd new → PlaysLines net old new here.settings here.network before here.written (Ok tt)
loop_ends net here old mid new before h taken end =
    (h.0, here.events, subst (λ (l : List ℕ). Consumes old new l) (append-nil h.0) (Consumes-add old mid new h.0 [] h.2 taken), end, h.3)

pub too_many : (s : SettingsValue) (line : List ℕ) → s.lines ≡ lines_limit → line_meaning s line ≡ Err reasons.TooManyLines
too_many s line e =
    rw (le-ltb s.lines lines_limit (omega (arith, e))) refl

pub too_long : (s : SettingsValue) (line : List ℕ) → s.lines < lines_limit → line_limit < length line → line_meaning s line ≡ Err reasons.LineTooLong
too_long s line few long = rw (lt-ltb s.lines lines_limit few, lt-leb (length line) line_limit long) refl

-- a line that could not be read
pub loop_unread : {N : Type 0} (net : Conduct N) (line : List ℕ) (here : At N) (old mid new before : Option (List ℕ)) (fault : PlayFault)
    → LoopAt net old mid here before → TakesNext mid new here.settings.lines line (Err fault) → Stops net old new before here.written fault
loop_unread net line here old mid new before (faults.Script n why) h t = by_reason why t.0 t.1
  where
    cut : (y : ScriptFault) (octets line : List ℕ) → Consumes mid new octets → lines (h.0 ++ octets) ≡ lines h.0 ++ line ∷ [] → line_meaning here.settings line ≡ Err y → n ≡ here.settings.lines + 1
        → IsCutOff y octets new → StopsInLine net old new before here.written (faults.Script n y)
    cut y octets line taken is m c off =
        stops_in_line net h.0 octets here.settings here.network here.events old new before here.written (faults.Script n y) h.1 (Consumes-add old mid new h.0 octets h.2 taken)
        (subst (λ (l : List (List ℕ)). (script_of l).fault ≡ Some (n, y)) (sym is) (line_fault (lines h.0) line here.settings n y h.3.1.fault h.3.1.settings m c), inr off) h.3

    by_reason : (y : ScriptFault) → n ≡ here.settings.lines + 1 → TakesWrong mid new here.settings.lines y → StopsInLine net old new before here.written (faults.Script n y)
    by_reason reasons.TooManyLines c q =
        let l = octet_line q.1 in
        cut reasons.TooManyLines (q.1 ∷ []) l.0 q.2 (h.1 (q.1 ∷ []) ∙ ap (λ (k : List (List ℕ)). lines h.0 ++ k) l.1) (too_many here.settings l.0 q.0) c (q.1, refl)
    by_reason reasons.LineTooLong c q =
        let long = longer q.1 new q.4 in
        cut reasons.LineTooLong q.1 q.1 q.3 (lines_last h.0 q.1 h.1 q.2 (λ none. (let k = ap length none in omega (arith, k, long)))) (too_long here.settings q.1 q.0 long) c (q.2, q.4)
    by_reason reasons.NotUtf8 c q = absurd q
    by_reason reasons.UnknownCommand c q = absurd q
    by_reason reasons.SettingAfterEvent c q = absurd q
    by_reason reasons.BadWords c q = absurd q
    by_reason reasons.BadNumber c q = absurd q
    by_reason reasons.BadName c q = absurd q
    by_reason reasons.BadAddress c q = absurd q
    by_reason reasons.BadHex c q = absurd q
    by_reason reasons.UnknownPhone c q = absurd q
    by_reason reasons.NameTaken c q = absurd q
    by_reason reasons.AddressTaken c q = absurd q
    by_reason reasons.TooManyPhones c q = absurd q
loop_unread net line here old mid new before faults.Read h t =
    stops_in_line net h.0 t.0 here.settings here.network here.events old new before here.written faults.Read h.1 (Consumes-add old mid new h.0 t.0 h.2 t.2) (record { no_feed = t.1; few = t.3 }) h.3
loop_unread net line here old mid new before faults.Memory h t =
    stops_in_line net h.0 [] here.settings here.network here.events old new before here.written faults.Memory h.1 (Consumes-add old mid new h.0 [] h.2 t) (inl refl) h.3
loop_unread net line here old mid new before faults.Write h t = absurd t

-- a line that was read is played
pub not_read : {N : Type 0} (net : Conduct N) (ls : List (List ℕ)) (line : List ℕ) (from to : At N) (before : Option (List ℕ)) (result : Result (Unit {0}) PlayFault)
    → GoesOn net ls line from to before result → result ≢ Err faults.Read
not_read net ls line from to before result g k = subst (λ (r : Result (Unit {0}) PlayFault). GoesOn net ls line from to before r) k g

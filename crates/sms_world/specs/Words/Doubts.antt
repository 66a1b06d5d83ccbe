-- The line that tells after a transcript whether `accepted` means accepted in its run.
use Rattle.std.specs.Prelude.{ℕ, List, [], Bool, true, false, Option, Some, None, codes, decimal}
use Rattle.sms_script.specs.Meaning.Known.{name_of}
use Rattle.sms_script.specs.Script.Settings.{SettingsValue}
use Rattle.sms_script.specs.Transcript.Appended.{◌⊕◌}
use Rattle.sms_script.specs.Transcript.Lines.{line_end}
use Rattle.sms_world.specs.declared.order.Breach.{Breach}
use Rattle.sms_world.specs.declared.doubt.Doubt.{Doubt}
use Rattle.sms_world.specs.declared.doubt.Ground.{Ground}
use Rattle.sms_world.specs.declared.doubt.Ground.TheVariants.{AnswerToAnother, ReferenceUsedAgain, Injected}
use Rattle.sms_world.specs.declared.playing.trusted.Verdicts.{Verdicts}
use Rattle.sms_world.specs.Words.Order.{number_told, segment_text, order_line}

-- how an event broke a condition
abbrev pub ground_text : Ground → List ℕ
ground_text (AnswerToAnother phone) = codes "answer to an earlier submission"
ground_text (ReferenceUsedAgain segment) = codes "reference used again"
ground_text Injected = codes "injected"

-- the name of the phone to which the answer came, or the segment that was brought
abbrev pub bearer_text : SettingsValue → Ground → List ℕ
bearer_text s (AnswerToAnother phone) = codes " " ⊕ name_of s.known.names phone
bearer_text s (ReferenceUsedAgain segment) = segment_text s (Some segment)
bearer_text s Injected = []

abbrev pub accepted_line : SettingsValue → Option Doubt → List ℕ
accepted_line s None = codes "accepted: means accepted" ⊕ line_end
accepted_line s (Some d) =
    codes "accepted: event " ⊕ decimal (number_told s d.event) ⊕ codes ": "
    ⊕ ground_text d.why ⊕ bearer_text s d.why ⊕ line_end

-- the line that tells of the order, where it is asked for
abbrev pub order_if : Bool → SettingsValue → Option Breach → List ℕ
order_if true s breach = order_line s breach
order_if false s breach = []

abbrev pub verdict_lines : Bool → SettingsValue → Verdicts → List ℕ
verdict_lines tells_order s v = order_if tells_order s v.breach ⊕ accepted_line s v.doubt

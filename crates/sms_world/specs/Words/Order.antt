-- The line that tells after a transcript whether its run was orderly.
use Rattle.std.specs.Prelude.{ℕ, ◌-◌, List, [], length, Option, Some, None, codes, decimal}
use Rattle.sms_script.specs.Meaning.Known.{name_of}
use Rattle.sms_script.specs.Script.Settings.{SettingsValue}
use Rattle.sms_script.specs.Transcript.Appended.{◌⊕◌}
use Rattle.sms_script.specs.Transcript.Lines.{line_end}
use Rattle.sms_world.specs.declared.order.Breach.{Breach}
use Rattle.sms_world.specs.declared.order.Disorder.{Disorder}
use Rattle.sms_world.specs.declared.order.Disorder.TheVariants.{RepeatAfterTheEnd, RepeatWithoutRejection, KeyUsedAgain, LateSegmentForgotten, Injected}
use Rattle.sms_world.specs.declared.order.TextSegment.{TextSegment}
use Rattle.sms_world.specs.Playing.{clock_events}

-- how an event came out of order
abbrev pub disorder_text : Disorder → List ℕ
disorder_text RepeatAfterTheEnd = codes "repeat after the end"
disorder_text RepeatWithoutRejection = codes "repeat without rejection"
disorder_text KeyUsedAgain = codes "key used again"
disorder_text LateSegmentForgotten = codes "late segment forgotten"
disorder_text Injected = codes "injected"

-- A transcript does not count the tick with which a script's clock starts: this is the number that
-- it gives to the event of this number of the run.
abbrev pub number_told : SettingsValue → ℕ → ℕ
number_told s number = number - length (clock_events s.clock)

-- the name of the phone, the number of its text, and that of the segment
abbrev pub segment_text : SettingsValue → Option TextSegment → List ℕ
segment_text s None = []
segment_text s (Some x) =
    codes " " ⊕ name_of s.known.names x.phone ⊕ codes " " ⊕ decimal x.text
    ⊕ codes " " ⊕ decimal x.segment

abbrev pub order_line : SettingsValue → Option Breach → List ℕ
order_line s None = codes "order: kept" ⊕ line_end
order_line s (Some b) =
    codes "order: event " ⊕ decimal (number_told s b.event) ⊕ codes ": "
    ⊕ disorder_text b.disorder ⊕ segment_text s b.segment ⊕ line_end

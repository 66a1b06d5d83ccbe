-- What tells a run.
use Rattle.std.specs.Prelude.{◌≡◌, ℕ, ◌+◌, zero, suc, Bool, true, false, ◌&&◌, ◌||◌, List, Option, length, if◌then◌else◌}
use Rattle.sms_page.specs.Page.{PageValue}
use Rattle.sms_world.specs.Told.{Told}
use Rattle.sms_run.specs.Runs.{Finishes, Tells}
use Rattle.sms_command.specs.declared.chart.Collected.{Collected}
use Rattle.sms_command.specs.declared.play_json.Objects.{Objects}
use Rattle.sms_command.specs.declared.run.Running.{Running}
use Rattle.sms_command.specs.declared.run.Watching.{Watching}
use Rattle.sms_command.specs.declared.run.Watching.TheVariants.{Nothing, Order, Accepted}
use Rattle.sms_command.specs.declared.words.Played.{Played}
use Rattle.sms_command.specs.Inside.Runs.{AddsObject, RunsToOutput, is_trusted, is_watched, world_of}
use Rattle.sms_command.specs.Inside.Outcomes.{is_fault}

-- A chart has a row more for an event.
abbrev pub adds_row : Tells Running Told Collected
adds_row old told page new page_then =
    (length new.rows.items ≡ length old.rows.items + 1) × (page_then ≡ page)

abbrev pub any_end : {T : Type 0} → Finishes Running T
any_end old settings running page new page_then = Unit {0}

-- An object more is told for an event, and it is noted if the event named nothing.
abbrev pub adds_object : Tells Running Told Objects
adds_object old told page new page_then = AddsObject page page_then
    × (new ≡ record old { has_fault = old.has_fault || is_fault told.answer })

-- so many objects more stand on the page
abbrev pub AddsObjects : ℕ → PageValue → PageValue → Type 0
AddsObjects zero page page_then = page_then ≡ page
AddsObjects (suc count) page page_then =
    (between : PageValue) × AddsObjects count page between × AddsObject between page_then

-- an object more stands there, where this is so
abbrev pub MayAdd : Bool → PageValue → PageValue → Type 0
MayAdd true page page_then = AddsObject page page_then
MayAdd false page page_then = page_then ≡ page

-- In the end an object is told for each phone, and then one on the order of the run, where that is
-- asked for and watched, and one on what `accepted` means, where that is noted.
pub record EndsObjects (asked : Played) (running : Running) (page page_then : PageValue) : Type 0
  where
    pub phones : PageValue
    pub each_phone : AddsObjects (length (world_of running).parties.phones) page phones
    pub order : PageValue
    pub on_order : MayAdd (asked.tells_order && is_watched running) phones order
    pub on_accepted : MayAdd (is_trusted running) order page_then

abbrev pub ends_objects : Finishes Running Objects
ends_objects old settings running page new page_then =
    EndsObjects old.asked running page page_then × (new ≡ old)

-- what the world is to tell of a run
abbrev pub watching : Played → Watching
watching asked =
    if asked.tells_accepted then Accepted else (if asked.tells_order then Order else Nothing)

-- A chart of the script is written.
pub record WritesChart (octets : List ℕ) (written written_then : Option (List ℕ)) : Type 0 where
  pub first : Collected
  pub begun : length first.rows.items ≡ 0
  pub last : Collected
  pub runs : RunsToOutput adds_row any_end Nothing octets first written last written_then

-- The script is told in objects, which are written. Where it is checked, no event named nothing.
pub record WritesObjects (asked : Played) (octets : List ℕ)
    (written written_then : Option (List ℕ)) : Type 0 where
  pub last : Objects
  pub runs : RunsToOutput adds_object ends_objects (watching asked) octets
      (record { asked = asked; has_fault = false }) written last written_then
  pub checked : asked.is_checked ≡ true → last.has_fault ≡ false

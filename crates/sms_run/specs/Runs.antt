-- A script that is played event by event, and what is told of each event.
use Rattle.std.specs.Prelude.{◌≡◌, ℕ, ◌<◌, List, Option, None, Some, Ok}
use Rattle.sms_page.specs.Page.{PageValue}
use Rattle.sms_script.specs.Script.{before_all, lines_limit, TakesLine}
use Rattle.sms_script.specs.Script.Settings.{SettingsValue}
use Rattle.sms_script.specs.declared.meaning.event.Event.{Event}
use Rattle.sms_feed.specs.Lines.{next_number}
use Rattle.sms_feed.specs.Shown.{Stays}
use Rattle.sms_feed.specs.Takers.{Standing, standing}
use Rattle.sms_work.specs.Working.{WorksToEnd}
use Rattle.sms_run.specs.Machines.{Conduct, Opens}

-- An event that has happened: what the script has said, the machine afterwards, the number of the
-- event, counted from 1, what it answered, and how many packets were put out before.
pub record Told (M A : Type 0) : Type 0 where
  pub settings : SettingsValue
  pub machine : M
  pub number : ℕ
  pub event : Event
  pub answer : A
  pub packets_before : ℕ

-- What a teller does with an event: how it and the page stand before and after.
abbrev pub Tells : (M A T : Type 0) → Type 1
Tells M A T = T → Told M A → PageValue → T → PageValue → Type 0

-- What a teller does at the end, by what the script has said and the machine.
abbrev pub Finishes : (M T : Type 0) → Type 1
Finishes M T = T → SettingsValue → M → PageValue → T → PageValue → Type 0

-- A script that is played: what its lines have said, the way in which its machine is made, the
-- machine, which is there from the first event on, how many events there were, and what tells them.
pub record RunValue (M W T : Type 0) : Type 0 where
  pub settings : SettingsValue
  pub way : W
  pub machine : Option M
  pub events : ℕ
  pub teller : T

-- before the first line
abbrev pub before_run : {M W T : Type 0} → W → T → RunValue M W T
before_run way teller =
    record { settings = before_all; way = way; machine = None; events = 0; teller = teller }

-- The script takes the next line, which says this event or none. There were not too many lines
-- before, and the line has not too many octets.
pub record TakesNext {M W T : Type 0} (old : RunValue M W T) (line : Option (List ℕ))
    (event : Option Event) (new : RunValue M W T) : Type 0 where
  pub octets : List ℕ
  pub is_short : line ≡ Some octets
  pub few_before : old.settings.lines < lines_limit
  pub takes : TakesLine old.settings new.settings octets (Ok event)
  pub others : new ≡ record old { settings = new.settings }

-- The event happens on the machine, and is counted; the greatest number stays. It is told once,
-- with the packets that were put out before it.
pub record Happens {M W A T : Type 0} (c : Conduct M W A) (tells : Tells M A T)
    (old : RunValue M W T) (event : Event) (page : PageValue)
    (new : RunValue M W T) (page_then : PageValue) : Type 0 where
  pub before : M
  pub opens : Opens c old.way old.settings old.machine before
  pub after : M
  pub answer : A
  pub steps : c.Steps before event answer after
  pub told : tells old.teller
      (record {
        settings = old.settings;
        machine = after;
        number = next_number old.events;
        event = event;
        answer = answer;
        packets_before = c.put_out before;
      }) page new.teller page_then
  pub others : new ≡ record old {
    machine = Some after;
    events = next_number old.events;
    teller = new.teller;
  }

-- where a line says no event, nothing more is done
abbrev pub MayHappen : {M W A T : Type 0} → Conduct M W A → Tells M A T → RunValue M W T
    → Option Event → PageValue → RunValue M W T → PageValue → Type 0
MayHappen c tells old None page new page_then = (new ≡ old) × (page_then ≡ page)
MayHappen c tells old (Some event) page new page_then =
    Happens c tells old event page new page_then

-- The script takes the line, and its event happens, if it says one.
pub record Plays {M W A T : Type 0} (c : Conduct M W A) (tells : Tells M A T)
    (old : RunValue M W T) (line : Option (List ℕ)) (page : PageValue)
    (new : RunValue M W T) (page_then : PageValue) : Type 0 where
  pub event : Option Event
  pub between : RunValue M W T
  pub takes : TakesNext old line event between
  pub happens : MayHappen c tells between event page new page_then

-- The line is played once. Before and after it what stands on the page may be written.
pub record PlaysLine {M W A T : Type 0} (c : Conduct M W A) (tells : Tells M A T)
    (old : Standing (RunValue M W T)) (number : ℕ) (line : Option (List ℕ))
    (new : Standing (RunValue M W T)) : Type 0 where
  pub written : Option (List ℕ)
  pub page : PageValue
  pub before : Stays old.written old.page written page
  pub page_then : PageValue
  pub plays : Plays c tells old.taker line page new.taker page_then
  pub after : Stays written page_then new.written new.page

-- The teller tells how all stands in the end, where there was no event too.
pub record EndsRun {M W A T : Type 0} (c : Conduct M W A) (finishes : Finishes M T)
    (old new : Standing (RunValue M W T)) : Type 0 where
  pub machine : M
  pub opens : Opens c old.taker.way old.taker.settings old.taker.machine machine
  pub finish : finishes old.taker.teller old.taker.settings machine old.page
      new.taker.teller new.page
  pub written : new.written ≡ old.written

-- All these lines are played, each once and in order, and then the teller ends.
pub record RunsToEnd {M W A T : Type 0} (c : Conduct M W A) (tells : Tells M A T)
    (finishes : Finishes M T) (way : W) (old : T) (written : Option (List ℕ)) (page : PageValue)
    (lines : List (List ℕ)) (new : T) (written_then : Option (List ℕ)) (page_then : PageValue)
    : Type 0 where
  pub last : RunValue M W T
  pub works : WorksToEnd (PlaysLine c tells) (EndsRun c finishes)
      (standing (before_run way old) written page) 0 lines (standing last written_then page_then)
  pub teller : new ≡ last.teller

-- A script that is played event by event.
use Rattle.std.proofs.Common.{◌≡◌, ℕ, List, Option, None, Some, Ok, Err, OnOk, Result, refl, sym, subst}
use Rattle.sms_page.specs.Page.{PageValue}
use Rattle.sms_script.specs.Script.{before_all}
use Rattle.sms_script.specs.Script.Settings.{SettingsValue}
use Rattle.sms_script.specs.declared.meaning.event.Event.{Event}
use Rattle.sms_feed.specs.Takers.{standing}
use Rattle.sms_work.specs.Working.{WorksToEnd}
use Rattle.sms_run.specs.Machines.{Conduct}
use Rattle.sms_run.specs.Runs.{EndsRun, Finishes, Happens, Plays, PlaysLine, RunsToEnd, RunValue, TakesNext, Tells}

pub on_ok : {A E : Type 0} (r : Result A E) (P Q : Type 0) → (P → Q) → OnOk r P → OnOk r Q
on_ok (Ok a) P Q f p = f p
on_ok (Err e) P Q f p = p

-- The line says an event, which happens.
pub plays_event : {M W A T : Type 0} (c : Conduct M W A) (tells : Tells M A T) (old between new : RunValue M W T) (line : Option (List ℕ)) (said : Option Event) (event : Event) (page page_then : PageValue)
    → said ≡ Some event → TakesNext old line said between → Happens c tells between event page new page_then → Plays c tells old line page new page_then
plays_event c tells old between new line said event page page_then is takes happens =
    record { event = Some event; between = between; takes = subst (λ e. TakesNext old line e between) is takes; happens = happens }

-- The line says none.
pub plays_nothing : {M W A T : Type 0} (c : Conduct M W A) (tells : Tells M A T) (old between : RunValue M W T) (line : Option (List ℕ)) (said : Option Event) (page : PageValue)
    → said ≡ None → TakesNext old line said between → Plays c tells old line page between page
plays_nothing c tells old between line said page is takes =
    record { event = None; between = between; takes = subst (λ e. TakesNext old line e between) is takes; happens = (refl, refl) }

-- All lines are played from the run before all on, and the teller is given back.
pub runs_to_end : {M W A T : Type 0} (c : Conduct M W A) (tells : Tells M A T) (finishes : Finishes M T) (way : W) (old : T) (written : Option (List ℕ)) (page : PageValue) (lines : List (List ℕ)) (settings : SettingsValue) (last : RunValue M W T)
    (new : T) (written_then : Option (List ℕ)) (page_then : PageValue)
    → settings ≡ before_all → last.teller ≡ new
    → WorksToEnd (PlaysLine c tells) (EndsRun c finishes) (standing (record { settings = settings; way = way; machine = None; events = 0; teller = old }) written page) 0 lines (standing last written_then page_then)
    → RunsToEnd c tells finishes way old written page lines new written_then page_then
runs_to_end c tells finishes way old written page lines settings last new written_then page_then is teller works = record {
  last = last;
  works = subst (λ s. WorksToEnd (PlaysLine c tells) (EndsRun c finishes) (standing (record { settings = s; way = way; machine = None; events = 0; teller = old }) written page) 0 lines (standing last written_then page_then)) is works;
  teller = sym teller;
}

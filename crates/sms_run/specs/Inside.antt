-- What only private contracts cite.
use Rattle.std.specs.Prelude.{ℕ}
use Rattle.sms_page.specs.Page.{PageValue}
use Rattle.sms_script.specs.Script.Settings.{SettingsValue}
use Rattle.sms_script.specs.declared.meaning.event.Event.{Event}
use Rattle.sms_run.specs.Machines.{Conduct}
use Rattle.sms_run.specs.Runs.{Tells}

-- The event of this number happens on a machine, and is told once, with the packets that were put
-- out before it.
pub record HappensOn {M W A T : Type 0} (c : Conduct M W A) (tells : Tells M A T)
    (settings : SettingsValue) (number : ℕ) (event : Event) (machine : M) (teller : T)
    (page : PageValue) (machine_then : M) (teller_then : T) (page_then : PageValue) : Type 0 where
  pub answer : A
  pub steps : c.Steps machine event answer machine_then
  pub told : tells teller
      (record {
        settings = settings;
        machine = machine_then;
        number = number;
        event = event;
        answer = answer;
        packets_before = c.put_out machine;
      }) page teller_then page_then

-- What is told is written where all went well.
use Rattle.std.proofs.Common.{◌≡◌, ℕ, false, List, [], length, Option, Some, OnOk, Result, Ok, Err, subst}
use Rattle.std.specs.Prelude.{IsOk}
use Rattle.std.specs.Io.KnownBytes.{Appends}
use Rattle.sms_page.specs.Page.{PageValue}
use Rattle.sms_feed.specs.Takers.{HandsToOutput}
use Rattle.sms_run.specs.Runs.{Finishes, RunsToEnd, Tells}
use Rattle.sms_world.specs.Told.{Told}
use Rattle.sms_script.specs.Lines.{lines}
use Rattle.sms_command.specs.declared.chart.Collected.{Collected}
use Rattle.sms_command.specs.declared.joining.Joining.{Joining}
use Rattle.sms_command.specs.declared.run.Running.{Running}
use Rattle.sms_command.specs.declared.run.Watching.{Watching}
use Rattle.sms_command.specs.declared.run.Watching.TheVariants.{Nothing}
use Rattle.sms_command.specs.Inside.Joins.{JoinsLines, ends, joins}
use Rattle.sms_command.specs.Inside.Runs.{RunsToOutput, conduct}
use Rattle.sms_command.specs.Inside.Tellers.{WritesChart, adds_row, any_end}

abbrev pub empty : PageValue
empty = record { octets = []; is_cut = false }

-- what holds where it is well holds where it was well
pub was_ok : {A E : Type 0} (r : Result A E) (P : Type 0) → IsOk r → OnOk r P → P
was_ok (Ok a) P is p = p
was_ok (Err e) P is p = absurd (cc is)

-- What is told of a run, on a page that was empty, is written.
pub runs_out : {T : Type 0} (tells : Tells Running Told T) (finishes : Finishes Running T) (watching : Watching) (octets : List ℕ) (first last : T) (page page_then : PageValue) (written between written_then : Option (List ℕ))
    → page ≡ empty → RunsToEnd conduct tells finishes watching first written page (lines octets) last between page_then → page_then.is_cut ≡ false → Appends between written_then page_then.octets
    → RunsToOutput tells finishes watching octets first written last written_then
runs_out tells finishes watching octets first last page page_then written between written_then is runs whole appends = record {
  between = between;
  page = page_then;
  runs = subst (λ p. RunsToEnd conduct tells finishes watching first written p (lines octets) last between page_then) is runs;
  whole = whole;
  rest = appends;
}

-- A run is drawn, from no row on.
pub drawn_out : {E : Type 0} (input : Option (List ℕ)) (r : Result (Unit {0}) E) (first last : Collected) (page page_then : PageValue) (written between written_then : Option (List ℕ))
    → length first.rows.items ≡ 0 → page ≡ empty → page_then.is_cut ≡ false → Appends between written_then page_then.octets
    → ((octets : List ℕ) → input ≡ Some octets → OnOk r (RunsToEnd conduct adds_row any_end Nothing first written page (lines octets) last between page_then))
    → OnOk r ((octets : List ℕ) → input ≡ Some octets → WritesChart octets written written_then)
drawn_out input (Ok u) first last page page_then written between written_then begun is whole appends runs = λ octets known. record {
  first = first;
  begun = begun;
  last = last;
  runs = runs_out adds_row any_end Nothing octets first last page page_then written between written_then is (runs octets known) whole appends;
}
drawn_out input (Err e) first last page page_then written between written_then begun is whole appends runs = tt

-- what holds where it is well holds where this was the result
pub was : {A E : Type 0} (r : Result A E) (a : A) (P : Type 0) → ◌≡◌ {A = Result A E} r (Ok a) → OnOk r P → P
was {A} {E} r a P is on = subst (λ (x : Result A E). OnOk x P) is on

pub ran_well : {T E : Type 0} (tells : Tells Running Told T) (finishes : Finishes Running T) (way watching : Watching) (octets : List ℕ) (r : Result (Unit {0}) E) (u : Unit {0}) (first last : T) (page page_then : PageValue) (written between written_then : Option (List ℕ))
    → r ≡ Ok u → way ≡ watching → page ≡ empty → page_then.is_cut ≡ false → Appends between written_then page_then.octets
    → OnOk r (RunsToEnd conduct tells finishes way first written page (lines octets) last between page_then) → RunsToOutput tells finishes watching octets first written last written_then
ran_well {T} {E} tells finishes way watching octets r u first last page page_then written between written_then well same is whole appends runs =
    let on : OnOk {E = E} (Ok u) (RunsToEnd conduct tells finishes way first written page (lines octets) last between page_then) = subst (λ x. OnOk x (RunsToEnd conduct tells finishes way first written page (lines octets) last between page_then)) well runs in
    runs_out tells finishes watching octets first last page page_then written between written_then is
    (subst (λ w. RunsToEnd conduct tells finishes w first written page (lines octets) last between page_then) same on) whole appends

-- The lines are joined where the run ends well.
pub joined_well : {A E F : Type 0} (r : Result A E) (taken : Result (Unit {0}) F) (input : Option (List ℕ)) (first last : Joining) (written written_then : Option (List ℕ))
    → OnOk r (IsOk taken)
    → ((octets : List ℕ) → input ≡ Some octets → OnOk taken (HandsToOutput joins ends first written (lines octets) last written_then))
    → OnOk r ((octets : List ℕ) → input ≡ Some octets → JoinsLines octets written written_then)
joined_well (Ok a) taken input first last written written_then is hands =
    λ octets known. record { first = first; last = last; hands = was_ok taken (HandsToOutput joins ends first written (lines octets) last written_then) is (hands octets known) }
joined_well (Err e) taken input first last written written_then is hands = tt

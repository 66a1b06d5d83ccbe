-- What comes is what a state takes.
use Rattle.std.proofs.Common.{ℕ, ◌≤◌, List, None, Result, Ok, Err}
use Rattle.sms_field.specs.Address.Value.{AddressValue}
use Rattle.sms_message.specs.Message.Reading.{ReadsAs}
use Rattle.sms_centre.specs.Centre.State.{CentreState}
use Rattle.sms_centre.specs.Centre.{centre_receives}
use Rattle.sms_centre.specs.Centre.Value.{CentreValue}
use Rattle.sms_centre.specs.Centre.Standing.{StandsFor}
use Rattle.sms_centre.specs.Inside.Calls.{Steps}
use Rattle.sms_centre.specs.Centre.Calls.{ReceivesAs}
use Rattle.sms_message.specs.declared.message.Message.{Message}
use Rattle.sms_message.specs.declared.outcome.Step.{Step}
use Rattle.sms_message.specs.declared.outcome.Dropped.{Dropped}
use Rattle.sms_message.specs.declared.outcome.Dropped.TheVariants.{NotCp, Unmatched, Busy, Memory, TooManySegments}

module _ (now phone : ℕ) (octets : List ℕ) (old mid new : CentreValue) (message : Message) (advanced : (limit : ℕ) (phones : List AddressValue) (clock : ℕ) (c : CentreState) → clock ≤ now → StandsFor limit phones clock old c → StandsFor limit phones now mid c) (read : ReadsAs octets message) where
  by_result : (r : Result Step Dropped) → Steps now (λ limit phones c origin. centre_receives limit phones c now phone message origin) mid r new → ReceivesAs now phone octets old r new
  by_result (Ok step) h = (message, read, λ limit phones clock c origin le s. h limit phones c origin (advanced limit phones clock c le s))
  by_result (Err NotCp) h = (message, read, λ limit phones clock c origin le s. h limit phones c origin (advanced limit phones clock c le s))
  by_result (Err Unmatched) h = (message, read, λ limit phones clock c origin le s. h limit phones c origin (advanced limit phones clock c le s))
  by_result (Err Busy) h = (message, read, λ limit phones clock c origin le s. h limit phones c origin (advanced limit phones clock c le s))
  by_result (Err TooManySegments) h = (message, read, λ limit phones clock c origin le s. h limit phones c origin (advanced limit phones clock c le s))
  by_result (Err Memory) h = λ limit phones clock c le s. h limit phones c None (advanced limit phones clock c le s)

pub receives : (now phone : ℕ) (octets : List ℕ) (old mid new : CentreValue) (message : Message) (r : Result Step Dropped)
    → ((limit : ℕ) (phones : List AddressValue) (clock : ℕ) (c : CentreState) → clock ≤ now → StandsFor limit phones clock old c → StandsFor limit phones now mid c)
    → ReadsAs octets message → Steps now (λ limit phones c origin. centre_receives limit phones c now phone message origin) mid r new → ReceivesAs now phone octets old r new
receives now phone octets old mid new message r advanced read h = by_result now phone octets old mid new message advanced read r h

-- The open sets of each phone are those of its open texts, one each, with just the text's taken
-- segments. Lists have the newest entry first.
use Rattle.std.specs.Prelude.{◌≡◌, ℕ, List}
use Rattle.sms_field.specs.Address.Value.{AddressValue}
use Rattle.sms_join.specs.Arrivals.{open_pieces, OpenApart}
use Rattle.sms_world.specs.Told.{Told}
use Rattle.sms_script.specs.declared.script.limits.Limits.{Limits}
use Rattle.sms_world.specs.Machine.{Machine, start}
use Rattle.sms_world.specs.Machine.Event.{Event}
use Rattle.sms_world.specs.Texts.{size_in}
use Rattle.sms_world.specs.Texts.Keys.{texts_of}
use Rattle.sms_world.specs.Orderly.{OrderlyRun}

pub record OpenSetsAre (m : Machine) (phone : ℕ) : Type 0 where
  -- what the phone keeps are the taken segments of the texts that are open there, each once
  pub kept : (m.receiver phone).joiner.kept
      ≡ open_pieces (size_in m.senders.texts) (m.receiver phone).taken (m.receiver phone).taken
  -- no two open texts have one key
  pub apart : OpenApart (texts_of m.phones m.senders.texts m.centre.accepted).key
      (size_in m.senders.texts) (m.receiver phone).taken

abbrev pub OpenSetsAreOpenTexts : Type 0
OpenSetsAreOpenTexts =
    (limits : Limits) (phones : List AddressValue) (past : List (Event × Told)) (m : Machine)
    → OrderlyRun (start limits phones) past m → (phone : ℕ) → OpenSetsAre m phone

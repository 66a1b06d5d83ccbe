-- A reader may pass this by: lemmas, for the proofs of this crate and of those above it.
--
-- The laws of the crates below on which those of this one stand.
use Rattle.sms_field.specs.Time.Computed.{MomentComesBackOfZone0}
use Rattle.sms_join.specs.Joiner.Aging.{SetsStayFew}
use Rattle.sms_join.specs.Arrivals.Completion.{CompletedAreWhole, CompleteInOrder}
use Rattle.sms_join.specs.Cut.{HasOneCut}
use Rattle.sms_join.specs.Arrivals.Joining.{JoinsOne}
use Rattle.sms_join.specs.Arrivals.OpenTexts.{OpenSetsAreOpenTexts, StayApart, AgesOne, NewIsFresh, TurnsAway}
use Rattle.sms_join.specs.Reading.{CutIsReadAsText}
use Rattle.sms_message.specs.Message.Laws.{EachIsRead, OneMessageIsRead, CarriedIsRead}
use Rattle.sms_centre.specs.Centre.Stamps.{StampsRise}
use Rattle.sms_centre.specs.Centre.Few.{CentrePutsFewOut}
use Rattle.sms_centre.specs.Centre.Drops.{CentreDropsPutNothingOut}
use Rattle.sms_party.specs.Few.{FewArePutOut}
use Rattle.sms_party.specs.Drops.{DropsPutNothingOut}
use Rattle.sms_party.specs.Sender.Others.{OthersLeaveSender}

pub record Below : Type 0 where
  pub back : MomentComesBackOfZone0
  pub few : SetsStayFew
  pub whole : CompletedAreWhole
  pub order : CompleteInOrder
  pub cut : HasOneCut
  pub joins : JoinsOne
  pub rooms : OpenSetsAreOpenTexts
  pub apart : StayApart
  pub ages : AgesOne
  pub fresh : NewIsFresh
  pub turned : TurnsAway
  pub reads : CutIsReadAsText
  pub each : EachIsRead
  pub one : OneMessageIsRead
  pub carried : CarriedIsRead
  pub stamps : StampsRise
  pub centre_few : CentrePutsFewOut
  pub centre_dropped : CentreDropsPutNothingOut
  pub few_put : FewArePutOut
  pub dropped : DropsPutNothingOut
  pub others : OthersLeaveSender

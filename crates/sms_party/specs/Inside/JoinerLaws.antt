-- A reader may pass this by: lemmas, for the proofs of this crate and of those above it.
--
-- A reader may pass this by: contracts of private functions, and proofs, alone cite it.
--
-- What the crate of the joiner says of joiners that hold the same.
use Rattle.sms_join.specs.Joiner.Same.{AnswersAlike}
use Rattle.sms_join.specs.Joiner.Finishing.{AnswerFinishes, SameIsEquivalence}
use Rattle.sms_join.specs.Joiner.Aging.{AgesAlike}

pub record JoinerLaws : Type 0 where
  pub alike : AnswersAlike
  pub finishes : AnswerFinishes
  pub same : SameIsEquivalence
  pub ages : AgesAlike

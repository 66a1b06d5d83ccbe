-- Fields: what one is, the chain of one and the next, and the single ones.
pub mod Chain
pub mod Lawful
pub mod Mapped
pub mod Optional
pub mod Single
pub use Rattle.sms_field.specs.Field.Lawful.{Outcome, found, refused, Field, HasReading, CanContinue, IsReading, IsShort, IsFault, IsAnswer, IsSelfContained, IsLawful}
pub use Rattle.sms_field.specs.Field.Chain.{ReadsBoth, ReasonInFirst, ReasonInSecond, read_then, ◌>>=◌}
pub use Rattle.sms_field.specs.Field.Single.{always, octet_at, octet, found_if, judged, octet_by, up_to, octets_of, map_reason_outcome, map_reason}

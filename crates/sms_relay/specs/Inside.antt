-- What a reader may pass by: no public contract cites it.
pub mod CarriedLaws
pub mod CpLaws
pub mod FaultLaws
pub mod OneRefusalLaws
pub mod Opened
pub mod ReadOctetLaws
pub mod RpLaws
pub mod TypeLaws

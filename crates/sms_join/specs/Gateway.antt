-- A joiner for many recipients.
pub mod Answers
pub mod Distinct
pub mod Finishings
pub mod InTime
pub mod Recalled
pub mod Recipients
pub mod Remembered
pub mod Remembering
pub mod Value
pub mod WithoutRecipient

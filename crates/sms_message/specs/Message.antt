-- The tags of messages, and what is kept beside messages. (The messages themselves are declared in
-- src/message.)
pub mod Carrying
pub mod Reading
pub mod Request
pub mod Glance
pub mod Answers
pub mod Laws
use Rattle.std.specs.Prelude.{ℕ, ◌+◌, ◌%◌, Bool, ◌&&◌, ◌==◌}
use Rattle.sms_message.specs.declared.message.Tag.{Tag}

-- The tag of the n-th putting out, counted from 0. Transaction values are 0 to 6 (3GPP TS 24.007,
-- 11.2.3.1.3), references of the relay 0 to 255 (3GPP TS 24.011, 8.2.3).
abbrev pub tag_of : ℕ → Tag
tag_of n = record { value = n % 7; reference = n % 256 }

-- the tag of the putting out after it
abbrev pub following : Tag → Tag
following tag = record { value = (tag.value + 1) % 7; reference = (tag.reference + 1) % 256 }

abbrev pub same_tag : Tag → Tag → Bool
same_tag a b = a.value == b.value && a.reference == b.reference

-- Which typed text a submission or delivery is of, and which segment of it. It is kept beside
-- messages and is no part of them: nothing that a party does rests on it.
pub record Origin : Type 0 where
  pub text : ℕ
  pub segment : ℕ

-- A reader may pass this by: lemmas, for the proofs of this crate and of those above it.
--
-- The tags of puttings out, one after another.
use Rattle.std.proofs.Common.{◌≡◌, ℕ, suc, ◌+◌, ◌%◌, arith}
use Rattle.sms_message.specs.Message.{tag_of, following}

pub following_is : (n : ℕ) → following (tag_of n) ≡ tag_of (suc n)
following_is n =
    let value : (n % 7 + 1) % 7 ≡ suc n % 7 = omega arith in
    let reference : (n % 256 + 1) % 256 ≡ suc n % 256 = omega arith in
    cc

-- The sets of segments that have been open for too long are dropped.
use Rattle.std.specs.Prelude.{ℕ}
use Rattle.sms_join.specs.Joiner.Aging.{is_old, aged}
use Rattle.sms_join.specs.Arrivals.{remaining}
use Rattle.sms_party.specs.Receiver.State.{ReceiverState}

-- Finished texts and remembered keys do not age. What was taken of a text whose set was dropped no
-- longer counts: `size` says how many segments a text has.
unfoldable pub ages : (size : ℕ → ℕ) → ℕ → ReceiverState → ReceiverState
ages size now s =
    record {
      joiner = aged now s.joiner;
      store = s.store;
      taken = remaining size (is_old now s.joiner.kept) s.taken s.taken;
    }

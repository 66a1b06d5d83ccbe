-- Two joiners that hold the same sets, in whatever order their pieces stand.
use Rattle.std.specs.Prelude.{◌≡◌, ℕ, true}
use Rattle.sms_join.specs.declared.key.Key.{Key}
use Rattle.sms_join.specs.Piece.{Piece}
use Rattle.sms_join.specs.Joiner.Sets.{has, units_at, is_open, open_sets, opened_at}
use Rattle.sms_join.specs.Joiner.{Joiner, answer, offered}

-- The same sets are open, as many of them, from the same moments on, with the same sequences and
-- units; and the same keys are remembered, in the same order.
pub record IsSame (i j : Joiner) : Type 0 where
  pub pieces : (k : Key) (n : ℕ) → has i.kept k n ≡ has j.kept k n
  pub units : (k : Key) (n : ℕ) → has i.kept k n ≡ true → units_at i.kept k n ≡ units_at j.kept k n
  pub opened : (k : Key) → is_open i.kept k ≡ is_open j.kept k
  pub moments : (k : Key) → opened_at i.kept k ≡ opened_at j.kept k
  pub sets : open_sets i.kept ≡ open_sets j.kept
  pub finished : i.finished ≡ j.finished

-- What is offered gets one answer from both, and leaves them the same.
abbrev pub AnswersAlike : Type 0
AnswersAlike =
    (open_max remembered : ℕ) (i j : Joiner) (p : Piece) → IsSame i j
    → (answer open_max i p ≡ answer open_max j p)
    × IsSame (offered open_max remembered i p) (offered open_max remembered j p)

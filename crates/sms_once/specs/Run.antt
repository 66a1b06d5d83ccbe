-- What a joiner for many recipients holds after any list of offers and agings, where keys are
-- forgotten by their age too. Lists have the newest entry first.
use Rattle.std.specs.Prelude.{◌≡◌, ℕ, List, [], ◌∷◌, slice_get, Some}
use Rattle.sms_join.specs.declared.key.Key.{Key}
use Rattle.sms_join.specs.Piece.{Piece}
use Rattle.sms_join.specs.Joiner.{Joiner, new_joiner}
use Rattle.sms_join.specs.Joiner.Acts.{Act, Brings, Ages}
use Rattle.sms_join.specs.Joiner.Aging.{aged_after}
use Rattle.sms_join.specs.Gateway.Answers.{gateway_finishings, gateway_offered}
use Rattle.sms_join.specs.Gateway.Finishings.{finishings_at, keys_at, not_before}
use Rattle.sms_join.specs.Gateway.Value.{LimitsValue}

pub record Held : Type 0 where
  -- the pieces of the open sets, and the keys that are remembered
  pub holds : Joiner
  -- the moments at which the remembered keys finished, in their order
  pub finishings : List ℕ

-- A new one has none.
abbrev pub new_held : Held
new_held = record { holds = new_joiner; finishings = [] }

-- Sets that have been open for too long are dropped, and keys are forgotten that finished too long
-- ago.
abbrev pub held_aged : LimitsValue → Held → ℕ → Held
held_aged limits h now =
    record {
      holds =
          record {
            kept = (aged_after limits.open_for now h.holds).kept;
            finished = keys_at limits.remember_for now h.holds.finished h.finishings;
          };
      finishings = finishings_at limits.remember_for now h.finishings;
    }

abbrev pub held_after : LimitsValue → Held → Act Piece → Held
held_after limits h (Brings p) =
    record {
      holds = gateway_offered limits h.holds p;
      finishings = gateway_finishings limits h.holds h.finishings p;
    }
held_after limits h (Ages now) = held_aged limits h now

-- What it holds after pieces that were offered and agings.
abbrev pub run : LimitsValue → Held → List (Act Piece) → Held
run limits h [] = h
run limits h (act ∷ acts) = held_after limits (run limits h acts) act

-- The moment at which a message counts as finished that this piece finishes: that of the piece, or
-- of the finishing before it, where that is later.
abbrev pub finishing_by : Held → Piece → ℕ
finishing_by h p = not_before h.finishings p.moment

-- The key is remembered, and its message counts as finished at this moment.
pub record IsFinishedAt (h : Held) (k : Key) (m : ℕ) : Type 0 where
  pub index : ℕ
  pub key : slice_get h.holds.finished index ≡ Some k
  pub moment : slice_get h.finishings index ≡ Some m

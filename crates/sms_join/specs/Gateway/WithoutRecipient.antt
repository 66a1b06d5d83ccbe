-- A recipient that all pieces share tells nothing: the answers are those without it. Lists have the
-- newest entry first.
use Rattle.std.specs.Prelude.{◌≡◌, ℕ, true, List, map, Option}
use Rattle.std.specs.List.{AllByRecursion}
use Rattle.sms_field.specs.Address.Value.{AddressValue}
use Rattle.sms_tpdu.specs.declared.user_data.concat.Concat.{Concat}
use Rattle.sms_join.specs.declared.key.Key.{Key}
use Rattle.sms_join.specs.declared.key.Key.TheVariants.{Single, Segmented, SingleTo, SegmentedTo}
use Rattle.sms_join.specs.declared.units.Units.{Units}
use Rattle.sms_join.specs.Key.{is_for}
use Rattle.sms_join.specs.Piece.{Piece, piece_of, piece_to}
use Rattle.sms_join.specs.Joiner.{Joiner, new_joiner, answer}
use Rattle.sms_join.specs.Joiner.Acts.{Act, acted_all}
use Rattle.sms_join.specs.declared.gateway_limits.Alone.TheVariants.{Remembered}
use Rattle.sms_join.specs.Gateway.Value.{LimitsValue}
use Rattle.sms_join.specs.Gateway.Answers.{gateway_answer, gateway_offered, gateway_holds}

-- The key with its recipient taken off.
abbrev pub key_alone : Key → Key
key_alone (Single origin stamp) = Single origin stamp
key_alone (Segmented origin width reference maximum) = Segmented origin width reference maximum
key_alone (SingleTo recipient origin stamp) = Single origin stamp
key_alone (SegmentedTo recipient origin width reference maximum) =
    Segmented origin width reference maximum

abbrev pub piece_alone : Piece → Piece
piece_alone p =
    record {
      key = key_alone p.key;
      maximum = p.maximum;
      sequence = p.sequence;
      units = p.units;
      moment = p.moment;
    }

abbrev pub joiner_alone : Joiner → Joiner
joiner_alone j = record { kept = map piece_alone j.kept; finished = map key_alone j.finished }

-- A piece for a recipient, without it, is the piece for none.
abbrev pub PieceIsAlone : Type 0
PieceIsAlone =
    (now : ℕ) (r : Option AddressValue) (origin : AddressValue) (stamp : List ℕ)
    (concat : Option Concat) (units : Units)
    → piece_alone (piece_to now r origin stamp concat units)
    ≡ piece_of now origin stamp concat units

-- All that is kept and remembered is of this recipient, or of none.
pub record IsAllFor (r : Option AddressValue) (j : Joiner) : Type 0 where
  pub kept : AllByRecursion (λ p. is_for r p.key ≡ true) j.kept
  pub finished : AllByRecursion (λ k. is_for r k ≡ true) j.finished

-- Where all is of one recipient, the answer is that without it, and so is what is held then.
abbrev pub AnswersAlone : Type 0
AnswersAlone =
    (limits : LimitsValue) (j : Joiner) (p : Piece) (r : Option AddressValue)
    → IsAllFor r j → is_for r p.key ≡ true
    → (gateway_answer limits j p ≡ gateway_answer limits (joiner_alone j) (piece_alone p))
    × (joiner_alone (gateway_offered limits j p)
    ≡ gateway_offered limits (joiner_alone j) (piece_alone p))

-- Where messages in one piece are remembered, and sets may be open for a week, one holds and answers
-- what a joiner does.
abbrev pub RemembersAsJoiner : Type 0
RemembersAsJoiner =
    (limits : LimitsValue) (acts : List (Act Piece)) (p : Piece)
    → limits.alone ≡ Remembered → limits.open_for ≡ 604800
    → (gateway_holds limits acts ≡ acted_all limits.open_max limits.remembered new_joiner acts)
    × (gateway_answer limits (gateway_holds limits acts) p
    ≡ answer limits.open_max (acted_all limits.open_max limits.remembered new_joiner acts) p)

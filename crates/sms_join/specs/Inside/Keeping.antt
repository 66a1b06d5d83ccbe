-- A reader may pass this by: contracts of private functions, and proofs, alone cite it.
--
-- What a joiner holds, where its open sets stand in the order of their table, and in that of opening.
use Rattle.std.specs.Prelude.{◌≡◌, ℕ, ◌≤◌, true, List, [], ◌∷◌, Option, length, take}
use Rattle.sms_field.specs.Address.Value.{AddressValue}
use Rattle.sms_join.specs.declared.key.Key.{Key}
use Rattle.sms_join.specs.Key.{recipient_of}
use Rattle.sms_join.specs.Piece.{Piece}
use Rattle.sms_join.specs.Joiner.Sets.{is_open}
use Rattle.sms_join.specs.Joiner.Value.{JoinerValue}
use Rattle.sms_join.specs.OpenSets.{AreOpen, all_pieces}
use Rattle.sms_join.specs.Inside.LastKeys.{LastKeysValue}
use Rattle.sms_join.specs.Inside.Turns.{HaveTurns, arranged}

-- The pieces are those of the sets, which are open and were opened one after another.
pub record IsKept (v : JoinerValue) : Type 0 where
  pub are_open : AreOpen v.told
  pub few : length v.told ≤ v.open_max
  pub below : ℕ
  pub turns : HaveTurns below v.told
  pub pieces : v.holds.kept ≡ all_pieces v.told

-- The same, with the sets in the order in which they were opened.
abbrev pub in_order : JoinerValue → JoinerValue
in_order v =
    record {
      open_max = v.open_max;
      remembered = v.remembered;
      holds = record { kept = all_pieces (arranged v.told); finished = v.holds.finished };
      told = arranged v.told;
    }

-- The same, which remembers this key too, as that of the message that finished last.
abbrev pub with_key : JoinerValue → Key → JoinerValue
with_key v key =
    record {
      open_max = v.open_max;
      remembered = v.remembered;
      holds = record { kept = v.holds.kept; finished = take v.remembered (key ∷ v.holds.finished) };
      told = v.told;
    }

-- One that has no set, and remembers these keys.
abbrev pub with_keys : ℕ → LastKeysValue → JoinerValue
with_keys open_max keys =
    record {
      open_max = open_max;
      remembered = keys.limit;
      holds = record { kept = []; finished = keys.keys };
      told = [];
    }

-- Each set of these pieces is of this recipient, or of none.
abbrev pub AreKeptFor : Option AddressValue → List Piece → Type 0
AreKeptFor r ps = (k : Key) → is_open ps k ≡ true → recipient_of k ≡ r

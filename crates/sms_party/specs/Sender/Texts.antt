-- Typed texts, and how far each phone has come with them. The list of texts has the newest first,
-- and texts are numbered from 0 over all phones.
use Rattle.std.specs.Prelude.{ℕ, suc, ◌+◌, ◌%◌, Bool, ◌&&◌, if◌then◌else◌, ◌==◌, nat_lt, List, [], ◌∷◌, length, Option, Some, None}
use Rattle.sms_field.specs.Address.Value.{AddressValue}
use Rattle.sms_tpdu.specs.declared.user_data.concat.Width.{Width}
use Rattle.sms_tpdu.specs.declared.user_data.concat.Width.TheVariants.{Eight, Sixteen}
use Rattle.sms_join.specs.declared.units.Units.{Units}

pub record Text : Type 0 where
  pub phone : ℕ
  -- among the texts of its phone, from 1
  pub number : ℕ
  -- TP-DA
  pub target : AddressValue
  pub characters : List ℕ
  -- the cut of the characters
  pub pieces : List Units
  -- the TP-MR of its first segment
  pub first_reference : ℕ
  pub width : Width
  -- its concatenation reference, where it has more than one segment
  pub set_reference : ℕ

-- one phone's sender
pub record Sender : Type 0 where
  -- those of its texts that have not ended, the first typed first
  pub pending : List ℕ
  -- how many segments of the first of them were accepted
  pub accepted : ℕ
  -- how often its waiting segment was put out
  pub tries : ℕ
  -- how often the sender has put out any
  pub outs : ℕ
  -- the texts that have ended, and whether they were accepted, the latest first
  pub ended : List (ℕ × Bool)

-- all texts that were ever typed, and the senders of the phones by number
pub record SenderState : Type 0 where
  -- concatenation references have sixteen bits
  pub wide : Bool
  -- duplicates are to be rejected from the first putting out on
  pub reject : Bool
  pub texts : List Text
  pub sender : ℕ → Sender

unfoldable pub new_sender : Sender
new_sender = record { pending = []; accepted = 0; tries = 0; outs = 0; ended = [] }

-- before any text was typed
abbrev pub new_senders : Bool → Bool → SenderState
new_senders wide reject =
    record { wide = wide; reject = reject; texts = []; sender = λ _. new_sender }

-- ---- a text is typed: its numbers

-- how many texts the phone has typed
abbrev pub texts_of_phone : List Text → ℕ → ℕ
texts_of_phone [] phone = 0
texts_of_phone (t ∷ texts) phone =
    if t.phone == phone then suc (texts_of_phone texts phone) else texts_of_phone texts phone

-- how many segments these have
abbrev pub segments_of : List Text → ℕ → ℕ
segments_of [] phone = 0
segments_of (t ∷ texts) phone =
    if t.phone == phone then length t.pieces + segments_of texts phone else segments_of texts phone

-- how many of them have more than one segment
abbrev pub sets_of : List Text → ℕ → ℕ
sets_of [] phone = 0
sets_of (t ∷ texts) phone =
    if t.phone == phone && nat_lt 1 (length t.pieces)
    then suc (sets_of texts phone)
    else sets_of texts phone

abbrev pub width_of : Bool → Width
width_of wide = if wide then Sixteen else Eight

-- A message reference counts the segments of all earlier texts of the phone, modulo 256 (3GPP TS
-- 23.040, 9.2.3.6); a concatenation reference counts its earlier texts of more than one segment,
-- modulo 256 (9.2.3.24.1) or 65,536 (9.2.3.24.8).
unfoldable pub new_text : Bool → List Text → ℕ → AddressValue → List ℕ → List Units → Text
new_text wide texts phone target characters pieces =
    record {
      phone = phone;
      number = suc (texts_of_phone texts phone);
      target = target;
      characters = characters;
      pieces = pieces;
      first_reference = segments_of texts phone % 256;
      width = width_of wide;
      set_reference = sets_of texts phone % (if wide then 65536 else 256);
    }

abbrev pub number_of : Option Text → ℕ
number_of None = 0
number_of (Some t) = t.number

abbrev pub size_of : Option Text → ℕ
size_of None = 0
size_of (Some t) = length t.pieces

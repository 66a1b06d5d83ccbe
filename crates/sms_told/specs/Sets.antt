-- Sets of segments that are not whole, as they are told.
use Rattle.std.specs.Prelude.{ℕ, zero, suc, not, false, List, [], ◌∷◌, ◌++◌, take, Option, Some, None, codes, decimal}
use Rattle.std.specs.List.{flat_map, filter}
use Rattle.sms_field.specs.Address.Value.{AddressValue}
use Rattle.sms_tpdu.specs.declared.user_data.concat.Width.{Width}
use Rattle.sms_tpdu.specs.declared.user_data.concat.Width.TheVariants.{Eight, Sixteen}
use Rattle.sms_join.specs.declared.key.Key.{Key}
use Rattle.sms_join.specs.declared.key.Key.TheVariants.{Single, Segmented, SingleTo, SegmentedTo}
use Rattle.sms_join.specs.OpenSets.{SetValue, is_in}
use Rattle.sms_page.specs.Page.{PageValue, Puts, named}
use Rattle.sms_page.specs.Object.{Token, texts, object, end_object, list, end_list, name, value}
use Rattle.sms_told.specs.declared.form.Form.{Form}
use Rattle.sms_told.specs.declared.form.Form.TheVariants.{Plain, Json}
use Rattle.sms_told.specs.Parties.{party_line, party_object}
use Rattle.sms_told.specs.Texts.{line_end, recipient_front, recipient_member}

-- what the segments of a set share
pub record SharedValue : Type 0 where
  -- for whom they are, where that is told
  pub recipient : Option AddressValue
  -- whom they are from (TP-OA)
  pub origin : AddressValue
  -- of eight bits the reference is told by element 00, of sixteen by 08
  pub width : Width
  -- the reference number of the concatenated short message
  pub reference : ℕ
  -- the maximum number of short messages in the concatenated short message
  pub maximum : ℕ

-- nothing of a message in one piece, which is never open
abbrev pub shared_in : Key → Option SharedValue
shared_in (Single origin stamp) = None
shared_in (SingleTo recipient origin stamp) = None
shared_in (Segmented origin width reference maximum) =
    Some (record {
      recipient = None;
      origin = origin;
      width = width;
      reference = reference;
      maximum = maximum;
    })
shared_in (SegmentedTo recipient origin width reference maximum) =
    Some (record {
      recipient = Some recipient;
      origin = origin;
      width = width;
      reference = reference;
      maximum = maximum;
    })

abbrev pub bits_of : Width → ℕ
bits_of Eight = 8
bits_of Sixteen = 16

-- so many sequences from this one on
abbrev pub sequences_from : ℕ → ℕ → List ℕ
sequences_from first zero = []
sequences_from first (suc count) = first ∷ sequences_from (suc first) count

-- those of some sequences that have not come
abbrev pub those_missing : List ℕ → List ℕ → List ℕ
those_missing come sequences = filter (λ n. not (is_in n come)) sequences

-- those up to the maximum
abbrev pub missing : ℕ → List ℕ → List ℕ
missing maximum come = those_missing come (sequences_from 1 maximum)

abbrev pub behind_blank : ℕ → List ℕ
behind_blank number = codes " " ++ decimal number

-- in a line: the recipient, the origin, the bits of the reference, the reference, the maximum, and
-- the sequences that are missing
abbrev pub set_line : SharedValue → List ℕ → List ℕ
set_line shared numbers =
    recipient_front shared.recipient ++ party_line shared.origin
    ++ behind_blank (bits_of shared.width) ++ behind_blank shared.reference
    ++ behind_blank shared.maximum ++ codes " missing" ++ flat_map behind_blank numbers

abbrev pub number_member : List ℕ → ℕ → List Token
number_member own number = name own ∷ value (decimal number) ∷ []

abbrev pub number_value : ℕ → List Token
number_value number = value (decimal number) ∷ []

abbrev pub set_object : SharedValue → List ℕ → List Token
set_object shared numbers =
    (object ∷ []) ++ recipient_member shared.recipient
    ++ (name (codes "origin") ∷ []) ++ party_object shared.origin
    ++ number_member (codes "width") (bits_of shared.width)
    ++ number_member (codes "reference") shared.reference
    ++ number_member (codes "maximum") shared.maximum
    ++ (name (codes "missing") ∷ []) ++ (list ∷ []) ++ flat_map number_value numbers
    ++ (end_list ∷ []) ++ (end_object ∷ [])

-- under a name
abbrev pub shared_text : Form → List ℕ → SharedValue → List ℕ → List ℕ
shared_text Plain own shared numbers = named own ++ set_line shared numbers ++ line_end
shared_text Json own shared numbers =
    texts false
    ((object ∷ []) ++ (name own ∷ []) ++ set_object shared numbers ++ (end_object ∷ []))
    ++ line_end

abbrev pub shared_or_nothing : Form → List ℕ → Option SharedValue → List ℕ → List ℕ
shared_or_nothing form own None come = []
shared_or_nothing form own (Some shared) come =
    shared_text form own shared (missing shared.maximum come)

abbrev pub set_text : Form → List ℕ → SetValue → List ℕ
set_text form own s = shared_or_nothing form own (shared_in s.key) s.sequences

-- the first so many of the sets are told, and no others
abbrev pub PutsFirst : PageValue → PageValue → (SetValue → List ℕ) → List SetValue → Type 0
PutsFirst old new text sets = (count : ℕ) × Puts old new (flat_map text (take count sets))

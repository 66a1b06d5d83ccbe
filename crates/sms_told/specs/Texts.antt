-- Texts that are whole, as they are told.
use Rattle.std.specs.Prelude.{ℕ, false, List, [], ◌∷◌, ◌++◌, Option, Some, None, codes, decimal}
use Rattle.sms_field.specs.Address.Value.{AddressValue}
use Rattle.sms_page.specs.Escapes.{escaped, line}
use Rattle.sms_page.specs.Object.{Token, json_string, texts, object, end_object, name, value}
use Rattle.sms_told.specs.declared.form.Form.{Form}
use Rattle.sms_told.specs.declared.form.Form.TheVariants.{Plain, Json}
use Rattle.sms_told.specs.Parties.{party_line, party_object}

pub record WholeValue : Type 0 where
  -- the line that had its last segment, where that is told
  pub line : Option ℕ
  -- for whom it is, where that is told
  pub recipient : Option AddressValue
  -- whom it is from (TP-OA)
  pub origin : AddressValue
  -- the moment of its last segment, where that has one
  pub moment : Option ℕ
  -- in UTF-8
  pub text : List ℕ

abbrev pub line_end : List ℕ
line_end = 10 ∷ []

-- a recipient and a blank, where there is one
abbrev pub recipient_front : Option AddressValue → List ℕ
recipient_front None = []
recipient_front (Some address) = party_line address ++ codes " "

-- a moment, none as a hyphen
abbrev pub moment_line : Option ℕ → List ℕ
moment_line None = codes "-"
moment_line (Some moment) = decimal moment

-- in a line: the recipient, the moment, the origin and the text
abbrev pub whole_line : WholeValue → List ℕ
whole_line w =
    recipient_front w.recipient ++ moment_line w.moment ++ codes " " ++ party_line w.origin
    ++ codes " " ++ escaped line w.text ++ line_end

-- none as null
abbrev pub moment_member : Option ℕ → List Token
moment_member None = name (codes "moment") ∷ value (codes "null") ∷ []
moment_member (Some moment) = name (codes "moment") ∷ value (decimal moment) ∷ []

abbrev pub line_member : Option ℕ → List Token
line_member None = []
line_member (Some number) = name (codes "line") ∷ value (decimal number) ∷ []

abbrev pub recipient_member : Option AddressValue → List Token
recipient_member None = []
recipient_member (Some address) = name (codes "recipient") ∷ party_object address

-- in JSON: the line, the recipient, the text, the origin and the moment
abbrev pub whole_object : WholeValue → List Token
whole_object w =
    (object ∷ []) ++ line_member w.line ++ recipient_member w.recipient
    ++ (name (codes "text") ∷ value (json_string w.text) ∷ [])
    ++ (name (codes "origin") ∷ []) ++ party_object w.origin
    ++ moment_member w.moment ++ (end_object ∷ [])

abbrev pub whole_text : Form → WholeValue → List ℕ
whole_text Plain w = whole_line w
whole_text Json w = texts false (whole_object w) ++ line_end

-- The national language tables that a user data header tells (3GPP TS 23.040, 9.2.3.24.15 and
-- 9.2.3.24.16), and the text that a body carries under tables (3GPP TS 23.038, 6.2.1).
use Rattle.std.specs.Prelude.{◌≡◌, ℕ, List, [], ◌∷◌, Option, Some, None}
use Rattle.sms_language.specs.Tables.{default_tables}
use Rattle.sms_language.specs.TextUnder.{text_under}
use Rattle.sms_language.specs.Told.{told_by}
use Rattle.sms_language.specs.declared.tables.Tables.{Tables}
use Rattle.sms_field.specs.declared.coding.Alphabet.{Alphabet}
use Rattle.sms_tpdu.specs.UserData.Elements.{Element, AreElements}
use Rattle.sms_tpdu.specs.UserData.Text.{text_of_body}
use Rattle.sms_tpdu.specs.declared.user_data.body.Body.{Body}
use Rattle.sms_tpdu.specs.declared.user_data.body.Body.TheVariants as body

-- the tables after elements: of two that tell a table of one kind the later counts
abbrev pub tables_after : Tables → List Element → Tables
tables_after tables [] = tables
tables_after tables (element ∷ others) =
    tables_after (told_by tables element.identifier element.octets) others

-- The elements of the header tell these tables; those of the default alphabet, where none tells any.
pub record TellsTables (header : List ℕ) (tables : Tables) : Type 0 where
  pub elements : List Element
  pub are : AreElements header elements
  pub tables_are : tables ≡ tables_after default_tables elements

-- user data without a header have the tables of the default alphabet
abbrev pub IsToldIn : Option (List ℕ) → Tables → Type 0
IsToldIn None tables = tables ≡ default_tables
IsToldIn (Some header) tables = TellsTables header tables

-- septets by the tables; a body of octets as without them
abbrev pub text_of_body_under : Tables → Alphabet → Body → Option (List ℕ)
text_of_body_under tables alphabet (body.Septets septets) = Some (text_under tables septets)
text_of_body_under tables alphabet (body.Octets octets) = text_of_body alphabet (body.Octets octets)

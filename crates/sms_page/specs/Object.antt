-- JSON that is written a token at a time.
use Rattle.std.specs.Prelude.{◌≡◌, ℕ, Bool, true, false, ◌&&◌, List, [], ◌∷◌, ◌++◌, codes, ⊤}
use Rattle.sms_page.specs.Page.{PageValue, Puts, maybe, quoted}
use Rattle.sms_page.specs.Escapes.{escaped, json}

-- the page, and whether a value was written last
pub record ObjectValue : Type 0 where
  pub page : PageValue
  pub has_value : Bool

-- a string of JSON
abbrev pub json_string : List ℕ → List ℕ
json_string text = quoted false (escaped json text) false

-- the beginning and the end of an object and of a list, the name of a member, and a text, a number or a word
pub data Token : Type 0 where
  object : Token
  end_object : Token
  list : Token
  end_list : Token
  name : List ℕ → Token
  value : List ℕ → Token

abbrev pub token_text : Token → List ℕ
token_text object = codes "{"
token_text end_object = codes "}"
token_text list = codes "["
token_text end_list = codes "]"
token_text (name text) = quoted false (escaped json text) true
token_text (value text) = text

-- an item begins: a comma stands before it where a value stands before
abbrev pub begins : Token → Bool
begins object = true
begins end_object = false
begins list = true
begins end_list = false
begins (name text) = true
begins (value text) = true

-- a value ends
abbrev pub ends : Token → Bool
ends object = false
ends end_object = true
ends list = false
ends end_list = true
ends (name text) = false
ends (value text) = true

-- the text of tokens, behind a value or not
unfoldable pub texts : Bool → List Token → List ℕ
texts has_value [] = []
texts has_value (token ∷ tokens) =
    maybe (has_value && begins token) 44 ++ token_text token ++ texts (ends token) tokens

-- whether a value stands last behind them
unfoldable pub after : Bool → List Token → Bool
after has_value [] = has_value
after has_value (token ∷ tokens) = after (ends token) tokens

-- these tokens are written
pub record Writes (old new : ObjectValue) (tokens : List Token) : Type 0 where
  pub put : Puts old.page new.page (texts old.has_value tokens)
  pub place : new.has_value ≡ after old.has_value tokens

-- tokens that are a value, or a name and a value
abbrev pub IsItem : List Token → Type 0
IsItem [] = ⊥
IsItem (token ∷ tokens) = (begins token ≡ true) × (after (ends token) tokens ≡ true)

-- the tokens of items, one behind another
abbrev pub tokens_of : List (List Token) → List Token
tokens_of [] = []
tokens_of (item ∷ items) = item ++ tokens_of items

abbrev pub AreItems : List (List Token) → Type 0
AreItems [] = ⊤
AreItems (item ∷ items) = IsItem item × AreItems items

-- the items, with a comma between each and the next
abbrev pub separated : List (List Token) → List ℕ
separated [] = []
separated (item ∷ []) = texts false item
separated (item ∷ next ∷ items) = texts false item ++ codes "," ++ separated (next ∷ items)

-- an object or a list of items is an item, and its text has a comma between each item and the next
pub record HasCommas (first last : Token) : Type 0 where
  pub is_item : (items : List (List Token)) → AreItems items
      → IsItem (first ∷ (tokens_of items ++ last ∷ []))
  pub text : (items : List (List Token)) → AreItems items
      → texts false (first ∷ (tokens_of items ++ last ∷ []))
      ≡ token_text first ++ separated items ++ token_text last

-- A reader may pass this by: contracts of private functions, and proofs, alone cite it.
--
-- How an answer stands while it is written.
use Rattle.std.specs.Prelude.{◌≡◌, ℕ, ◌≤◌, Bool, true, false, List, [], ◌∷◌, ◌++◌, Option, Some, None, length, take, drop, codes, decimal, ⊤}
use Rattle.sms_page.specs.Page.{PageValue}
use Rattle.sms_page.specs.Object.{ObjectValue, Token, object, name, value}
use Rattle.sms_answer.specs.Text.{IsInLine, AreWholeLines}
use Rattle.sms_answer.specs.Answer.{EndsNumber, begun}

-- behind so many octets stands a text in one line, unless the page is cut; it is if it was
pub record IsLineBehind (from : ℕ) (was_cut : Bool) (page : PageValue) : Type 0 where
  pub within : from ≤ length page.octets
  pub in_line : page.is_cut ≡ false → IsInLine (drop from page.octets)
  pub cut : was_cut ≡ true → page.is_cut ≡ true

-- whole lines are added
pub record GrowsByLines (old new : PageValue) : Type 0 where
  pub added : List ℕ
  pub behind : new.octets ≡ old.octets ++ added
  pub whole : AreWholeLines added
  pub cut : new.is_cut ≡ old.is_cut

-- what stands on the page behind the front are whole lines, unless the page is cut; it is if it was
pub record EndsLines (front page : PageValue) : Type 0 where
  pub added : List ℕ
  pub behind : page.octets ≡ front.octets ++ added
  pub whole : page.is_cut ≡ false → AreWholeLines added
  pub cut : front.is_cut ≡ true → page.is_cut ≡ true

-- whole lines stand behind so many octets
pub record AreLinesBehind (base : ℕ) (octets : List ℕ) : Type 0 where
  pub within : base ≤ length octets
  pub whole : AreWholeLines (drop base octets)

-- how an object begins
abbrev pub begun_tokens : Option ℕ → List Token
begun_tokens None = object ∷ []
begun_tokens (Some number) = object ∷ name (codes "line") ∷ value (decimal number) ∷ []

-- the number has its end, or else a value stands last, so that what comes next ends it
abbrev pub WillEndNumber : Option ℕ → Bool → List ℕ → Type 0
WillEndNumber None has_value rest = ⊤
WillEndNumber (Some number) has_value [] = has_value ≡ true
WillEndNumber (Some number) has_value (octet ∷ rest) = EndsNumber (Some number) (octet ∷ rest)

-- a text begins as an object does, and stands in one line
pub record IsBegun (number : Option ℕ) (has_value : Bool) (text : List ℕ) : Type 0 where
  pub rest : List ℕ
  pub in_line : IsInLine rest
  pub apart : WillEndNumber number has_value rest
  pub begins : text ≡ begun number ++ rest

-- such a text stands behind so many octets, unless the page is cut; it is if it was
pub record IsObjectBehind (base : ℕ) (was_cut : Bool) (number : Option ℕ) (o : ObjectValue) : Type 0 where
  pub within : base ≤ length o.page.octets
  pub cut : was_cut ≡ true → o.page.is_cut ≡ true
  pub is_begun : o.page.is_cut ≡ false → IsBegun number o.has_value (drop base o.page.octets)

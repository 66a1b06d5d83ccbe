-- A reader may pass this by: contracts of private functions, and proofs, alone cite it.
--
-- Codes that are those of the same characters in ASCII.
use Rattle.std.specs.Prelude.{◌≡◌, ℕ, ◌<◌, ◌==◌, ◌++◌, false, List, Some}
use Rattle.std.specs.List.{AllByRecursion}
use Rattle.sms_text.specs.Tables.{main, escape, code_of}
use Rattle.sms_text.specs.TextOfSeptets.{plain_character}

pub record IsSame (code : ℕ) : Type 0 where
  pub small : code < 128
  pub plain : plain_character code ≡ code
  pub coded : code_of main code ≡ Some code
  pub other : (code == escape) ≡ false

abbrev pub AreSame : List ℕ → Type 0
AreSame codes = AllByRecursion (λ code. IsSame code) codes

-- After a front of such codes, which may be empty, the rest stands.
pub record StandsAfterSame (whole rest : List ℕ) : Type 0 where
  pub front : List ℕ
  pub parts : whole ≡ front ++ rest
  pub same : AreSame front

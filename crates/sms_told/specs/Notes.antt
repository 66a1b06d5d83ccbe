-- What is told of a line.
use Rattle.std.specs.Prelude.{ℕ, false, List, [], ◌∷◌, ◌++◌, codes, decimal}
use Rattle.sms_page.specs.Object.{Token, json_string, texts, object, end_object, name, value}
use Rattle.sms_told.specs.declared.form.Form.{Form}
use Rattle.sms_told.specs.declared.form.Form.TheVariants.{Plain, Json}
use Rattle.sms_told.specs.Texts.{line_end}

-- the number of the line, and what is told of it
abbrev pub note_line : ℕ → List ℕ → List ℕ
note_line number told = codes "line " ++ decimal number ++ codes ": " ++ told ++ line_end

abbrev pub note_object : ℕ → List ℕ → List Token
note_object number told =
    object
    ∷ name (codes "line") ∷ value (decimal number)
    ∷ name (codes "told") ∷ value (json_string told)
    ∷ end_object ∷ []

abbrev pub note_text : Form → ℕ → List ℕ → List ℕ
note_text Plain number told = note_line number told
note_text Json number told = texts false (note_object number told) ++ line_end

-- What JSON does not escape ends no line.
use Rattle.std.proofs.Common.{◌≡◌, ℕ, Bool, true, List, [], ◌∷◌, refl, ap, subst, not}
use Rattle.std.specs.List.{list_all}
use Rattle.std.proofs.lemmas.Bool.{and_from, and_parts, false≢true, ne_eqb}
use Rattle.sms_page.specs.Plain.{is_plain}
use Rattle.sms_answer.specs.Text.{IsInLine, is_in_line}

plain_octet : (x : ℕ) → is_plain 34 x ≡ true → is_in_line x ≡ true
plain_octet x plain = ap not (ne_eqb x 10 (λ e. false≢true (subst (λ (n : ℕ). is_plain 34 n ≡ true) e plain)))

pub plain_in_line : (text : List ℕ) → list_all (is_plain 34) text ≡ true → IsInLine text
plain_in_line [] all = refl
plain_in_line (x ∷ text) all =
    let parts = and_parts (is_plain 34 x) (list_all (is_plain 34) text) all in
    and_from (is_in_line x) (list_all is_in_line text) (plain_octet x parts.0) (plain_in_line text parts.1)

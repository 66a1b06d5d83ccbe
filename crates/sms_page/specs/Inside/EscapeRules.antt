-- What a rule of escaping keeps, and that both keep it.
use Rattle.std.specs.Prelude.{◌≡◌, ◌≢◌, ℕ, ◌≤◌, true, ◌||◌, ◌==◌, nat_lt, [], ◌∷◌}
use Rattle.std.proofs.Common.{ap, ◌∙◌, arith}
use Rattle.std.proofs.lemmas.Bool.{eqb-false, ne_eqb, ltb-false, or_parts, or_from, cond-false, not-true}
use Rattle.sms_page.specs.Plain.{is_stop, is_plain}
use Rattle.sms_page.specs.Escapes.{Escapes, escape, json, json_letter, line, line_letter}

-- what is plain stands as it is
pub record IsRule (rule : Escapes) : Type 0 where
  pub letters : (x : ℕ) → is_plain rule.other x ≡ true → escape rule x ≡ x ∷ []

-- ---- the two rules

-- what a plain octet isn't
pub plain_parts : (other x : ℕ) → is_plain other x ≡ true → (32 ≤ x) × (x ≢ 92) × (x ≢ other)
plain_parts other x e =
    let all = or_parts (nat_lt x 32 || (x == 92)) (x == other) (not-true _ e) in
    let two = or_parts (nat_lt x 32) (x == 92) all.0 in
    (ltb-false x 32 two.0, eqb-false x 92 two.1, eqb-false x other all.1)

pub json_rule : IsRule json
json_rule = record {
  letters = λ x e.
      let is = plain_parts 34 x e in
      let none : json_letter x ≡ 0 =
      cond-false _ _ _ (or_from (x == 34) (x == 92) (ne_eqb x 34 is.2) (ne_eqb x 92 is.1))
      ∙ cond-false _ _ _ (ne_eqb x 8 (λ k. omega (arith, is.0, k))) ∙ cond-false _ _ _ (ne_eqb x 9 (λ k. omega (arith, is.0, k)))
      ∙ cond-false _ _ _ (ne_eqb x 10 (λ k. omega (arith, is.0, k))) ∙ cond-false _ _ _ (ne_eqb x 12 (λ k. omega (arith, is.0, k)))
      ∙ cond-false _ _ _ (ne_eqb x 13 (λ k. omega (arith, is.0, k))) in
      cond-false _ _ _ (ap (nat_lt 0) none) ∙ cond-false _ _ _ (not-true (is_stop 34 x) e);
}

pub line_rule : IsRule line
line_rule = record {
  letters = λ x e.
      let is = plain_parts 127 x e in
      let none : line_letter x ≡ 0 =
      cond-false _ _ _ (ne_eqb x 92 is.1)
      ∙ cond-false _ _ _ (ne_eqb x 10 (λ k. omega (arith, is.0, k))) ∙ cond-false _ _ _ (ne_eqb x 12 (λ k. omega (arith, is.0, k)))
      ∙ cond-false _ _ _ (ne_eqb x 13 (λ k. omega (arith, is.0, k))) in
      cond-false _ _ _ (ap (nat_lt 0) none) ∙ cond-false _ _ _ (not-true (is_stop 127 x) e);
}

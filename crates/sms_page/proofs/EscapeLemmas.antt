-- Texts that are escaped piece by piece.
use Rattle.std.proofs.Common.{◌≡◌, ℕ, suc, ◌+◌, ◌-◌, ◌<◌, ◌≤◌, Bool, true, false, cond, List, [], ◌∷◌, ◌++◌, length, take, drop, get_or, refl, sym, ap, ◌∙◌, arith, append_assoc, take-add, length-drop}
use Rattle.std.specs.List.{prefix_len}
use Rattle.std.proofs.lemmas.List.{take_all, append-nil, drop_more, take-append-drop}
use Rattle.sms_page.specs.Page.{PageValue, Puts}
use Rattle.sms_page.specs.Plain.{is_plain}
use Rattle.sms_page.specs.Escapes.{Escapes, escape, escaped}
use Rattle.sms_page.specs.Inside.EscapeRules.{IsRule}
use Rattle.sms_page.proofs.PageLemmas.{Puts-then, Puts-same, Puts-nothing}

pub escaped-append : (rule : Escapes) (xs ys : List ℕ) → escaped rule (xs ++ ys) ≡ escaped rule xs ++ escaped rule ys
unfolding escaped
escaped-append rule [] ys = refl
escaped-append rule (x ∷ xs) ys = ap (λ (l : List ℕ). escape rule x ++ l) (escaped-append rule xs ys) ∙ sym (append_assoc (escape rule x) (escaped rule xs) (escaped rule ys))

-- octets that stand as they are
pub plain_run : (rule : Escapes) → IsRule rule → (text : List ℕ) → escaped rule (take (prefix_len (is_plain rule.other) text) text) ≡ take (prefix_len (is_plain rule.other) text) text
unfolding escaped
plain_run rule is [] = refl
plain_run rule is (x ∷ text) = run (plain_run rule is text) (is_plain rule.other x) refl where
  m : ℕ
  m = prefix_len (is_plain rule.other) text

  one : 1 + prefix_len (is_plain rule.other) text ≡ suc (prefix_len (is_plain rule.other) text)
  one = omega arith

  run : escaped rule (take (prefix_len (is_plain rule.other) text) text) ≡ take (prefix_len (is_plain rule.other) text) text → (b : Bool) → is_plain rule.other x ≡ b
      → escaped rule (take (cond b (1 + prefix_len (is_plain rule.other) text) 0) (x ∷ text)) ≡ take (cond b (1 + prefix_len (is_plain rule.other) text) 0) (x ∷ text)
  run rest true e =
      ap (λ (n : ℕ). escaped rule (take n (x ∷ text))) one
      ∙ ap (λ (l : List ℕ). l ++ escaped rule (take (prefix_len (is_plain rule.other) text) text)) (is.letters x e)
      ∙ ap (λ (l : List ℕ). x ∷ l) rest ∙ ap (λ (n : ℕ). take n (x ∷ text)) (sym one)
  run rest false e = refl

escaped-one : (rule : Escapes) (x : ℕ) → escape rule x ≡ escaped rule (x ∷ [])
unfolding escaped
escaped-one rule x = sym (append-nil (escape rule x))

-- a piece that stands as it is
pub piece_is : (rule : Escapes) → IsRule rule → (text : List ℕ) (at end : ℕ) → end ≡ at + prefix_len (is_plain rule.other) (drop at text)
    → take (end - at) (drop at text) ≡ escaped rule (take (end - at) (drop at text))
piece_is rule is text at end piece =
    let n : end - at ≡ prefix_len (is_plain rule.other) (drop at text) = omega (arith, piece) in
    ap (λ (k : ℕ). take k (drop at text)) n ∙ sym (plain_run rule is (drop at text)) ∙ ap (λ (k : ℕ). escaped rule (take k (drop at text))) (sym n)

-- one escape
pub one_is : (rule : Escapes) (text : List ℕ) (at : ℕ) → at < length text → escape rule (get_or text at 0) ≡ escaped rule (take (at + 1 - at) (drop at text))
one_is rule text at more =
    let n : at + 1 - at ≡ 1 = omega arith in
    escaped-one rule (get_or text at 0) ∙ ap (λ (l : List ℕ). escaped rule (take 1 l)) (sym (drop_more text at 0 more)) ∙ ap (λ (k : ℕ). escaped rule (take k (drop at text))) (sym n)

-- what comes next behind what was put
pub next_put : {a b c : PageValue} (rule : Escapes) (text : List ℕ) (at next : ℕ) → at ≤ next → Puts a b (escaped rule (take at text))
    → Puts b c (escaped rule (take (next - at) (drop at text))) → Puts a c (escaped rule (take next text))
next_put rule text at next more p q =
    let whole : at + (next - at) ≡ next = omega arith in
    Puts-same (sym (escaped-append rule (take at text) (take (next - at) (drop at text))) ∙ ap (escaped rule) (sym (take-add at (next - at) text) ∙ ap (λ (k : ℕ). take k text) whole))
    (Puts-then _ _ p q)

pub none_put : (rule : Escapes) (page : PageValue) (text : List ℕ) → Puts page page (escaped rule (take 0 text))
unfolding escaped
none_put rule page text = Puts-nothing page

pub all_put : {a b : PageValue} (rule : Escapes) (text : List ℕ) (at : ℕ) → length text ≤ at → Puts a b (escaped rule (take at text)) → Puts a b (escaped rule text)
all_put rule text at done p = Puts-same (ap (escaped rule) (take_all at text done)) p

-- a text whose front stands as it is
pub behind_is : (rule : Escapes) → IsRule rule → (text : List ℕ) (end : ℕ) → end ≡ prefix_len (is_plain rule.other) text
    → take end text ++ escaped rule (take (length text - end) (drop end text)) ≡ escaped rule text
behind_is rule is text end piece =
    let front : take end text ≡ escaped rule (take end text) = ap (λ (k : ℕ). take k text) piece ∙ sym (plain_run rule is text) ∙ ap (λ (k : ℕ). escaped rule (take k text)) (sym piece) in
    let rest : take (length text - end) (drop end text) ≡ drop end text = take_all (length text - end) (drop end text) (omega (arith, length-drop end text)) in
    ap (λ (l : List ℕ). l ++ escaped rule (take (length text - end) (drop end text))) front ∙ ap (λ (l : List ℕ). escaped rule (take end text) ++ escaped rule l) rest
    ∙ sym (escaped-append rule (take end text) (drop end text)) ∙ ap (escaped rule) (take-append-drop end text)

-- a text that stands as it is
pub all_plain : (rule : Escapes) → IsRule rule → (text : List ℕ) (end : ℕ) → end ≡ 0 + prefix_len (is_plain rule.other) (drop 0 text) → end ≡ length text → text ≡ escaped rule text
all_plain rule is text end piece done =
    let n : prefix_len (is_plain rule.other) text ≡ length text = omega (arith, piece, done) in
    let whole = take_all (prefix_len (is_plain rule.other) text) text (omega (arith, n)) in
    sym whole ∙ sym (plain_run rule is text) ∙ ap (escaped rule) whole

-- Escapes, octet by octet.
use Rattle.std.proofs.Common.{◌≡◌, ℕ, ◌+◌, ◌-◌, ◌<◌, ◌≤◌, List, [], ◌∷◌, ◌++◌, length, take, drop, get_or, refl, sym, ap, ◌∙◌, append_assoc, append-nil, add-one, drop-cons, arith}
use Rattle.std.proofs.lemmas.List.{drop_all, take_all, take-append-drop, take_rest}
use Rattle.std.proofs.Math.Seq.{take-suc}
use Rattle.sms_script.specs.Transcript.Escapes.{escape, escaped}

-- one octet more was written
pub escaped-more : (out new all text : List ℕ) (i : ℕ) → i < length text → new ≡ out ++ escape (get_or text i 0) → out ++ escaped (drop i text) ≡ all → new ++ escaped (drop (i + 1) text) ≡ all
unfolding escaped
escaped-more out new all text i h e k = rw (e, add-one, append_assoc) (rw (drop-cons text i 0 h) at k)

pub escaped-end : (out all text : List ℕ) (i : ℕ) → length text ≤ i → out ++ escaped (drop i text) ≡ all → out ≡ all
unfolding escaped
escaped-end out all text i h k = sym (append-nil out) ∙ (rw (drop_all i text h) at k)

escaped-append : (xs ys : List ℕ) → escaped (xs ++ ys) ≡ escaped xs ++ escaped ys
unfolding escaped
escaped-append [] ys = refl
escaped-append (x ∷ xs) ys = ap (λ (l : List ℕ). escape x ++ l) (escaped-append xs ys) ∙ sym (append_assoc (escape x) (escaped xs) (escaped ys))

-- one octet more stands as it is
pub plain-more : (text : List ℕ) (i : ℕ) → i < length text → escape (get_or text i 0) ≡ get_or text i 0 ∷ [] → escaped (take i text) ≡ take i text → escaped (take (i + 1) text) ≡ take (i + 1) text
unfolding escaped
plain-more text i h e k =
    let one : escaped (get_or text i 0 ∷ []) ≡ get_or text i 0 ∷ [] = append-nil (escape (get_or text i 0)) ∙ e in
    rw (add-one, take-suc text i 0 h) (escaped-append (take i text) (get_or text i 0 ∷ []) ∙ ap (λ (l : List ℕ). l ++ escaped (get_or text i 0 ∷ [])) k ∙ ap (λ (l : List ℕ). take i text ++ l) one)

pub none-escaped : (text : List ℕ) → escaped (take 0 text) ≡ take 0 text
unfolding escaped
none-escaped text = refl

pub all-plain : (text : List ℕ) (i : ℕ) → length text ≤ i → escaped (take i text) ≡ take i text → escaped text ≡ text
all-plain text i h e = rw (take_all i text h) at e

pub all-plain-front : (text : List ℕ) (i : ℕ) → length text ≤ i → escaped (take i text) ≡ take i text → escaped (take (length text) text) ≡ take (length text) text
all-plain-front text i h e = rw (take_all (length text) text (omega arith)) (all-plain text i h e)

-- a front that stands as it is, and then the others, octet by octet
pub front-then-escaped : (out middle new text : List ℕ) (n : ℕ) → escaped (take n text) ≡ take n text → middle ≡ out ++ take n text → new ≡ middle ++ escaped (take (length text - n) (drop n text)) → new ≡ out ++ escaped text
front-then-escaped out middle new text n plain first then =
    let parts : escaped text ≡ take n text ++ escaped (drop n text) = ap escaped (sym (take-append-drop n text)) ∙ escaped-append (take n text) (drop n text) ∙ ap (λ (l : List ℕ). l ++ escaped (drop n text)) plain in
    then ∙ ap (λ (l : List ℕ). middle ++ escaped l) (take_rest text n) ∙ ap (λ (l : List ℕ). l ++ escaped (drop n text)) first ∙ append_assoc out (take n text) (escaped (drop n text)) ∙ ap (λ (l : List ℕ). out ++ l) (sym parts)

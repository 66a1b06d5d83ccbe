-- Octets that are cut, added or changed.
use Rattle.std.proofs.Common.{◌≡◌, ◌≢◌, ℕ, ◌+◌, ◌-◌, ◌<◌, ◌≤◌, List, [], ◌∷◌, ◌++◌, length, take, drop, refl, sym, ap, ◌∙◌, append_assoc, arith, inl, inr}
use Rattle.std.proofs.lemmas.Bool.{cases_lt}
use Rattle.std.proofs.lemmas.List.{take_at, drop_at, take-append-le, take-append-drop, length-append, nil_from_length, append_cancel_left}
use Rattle.std.proofs.Math.Seq.{drop-append-add}
use Rattle.sms_saved.specs.Value.{StateValue}
use Rattle.sms_saved.specs.Fits.{StateFits}
use Rattle.sms_saved.specs.Spelling.{body, digest, spelling}
use Rattle.sms_saved.specs.Reading.Whole.{body_at}
use Rattle.sms_saved.proofs.TakenFields.{ok_is}
use Rattle.sms_saved.proofs.Whole.{reads_body, length_digest}
use Rattle.sms_saved.proofs.Told.{same_front}

pub begins_none : (s t : StateValue) (more : List ℕ) → StateFits s → StateFits t → spelling s ++ more ≡ spelling t → more ≡ []
begins_none s t more fs ft e =
    let own = s.limits in
    let front : t.limits ≡ own = same_front t s (digest (body t)) (digest (body s) ++ more) ft.limits fs.limits (sym e ∙ append_assoc (body s) (digest (body s)) more) in
    let one = (reads_body own).again s (digest (body s) ++ more) (fs, refl) in
    let two = (reads_body own).again t (digest (body t)) (ft, front) in
    let x : StateValue × List ℕ = (s, digest (body s) ++ more) in
    let y : StateValue × List ℕ = (t, digest (body t)) in
    let same : x ≡ y = ok_is x y (sym one ∙ ap (body_at own) (sym (append_assoc (body s) (digest (body s)) more) ∙ e) ∙ two) in
    let rests : digest (body s) ++ more ≡ digest (body t) = ap (λ (p : StateValue × List ℕ). p.1) same in
    let lengths : length (digest (body s) ++ more) ≡ length (digest (body t)) = ap (λ (l : List ℕ). length l) rests in
    nil_from_length more (omega (arith, length-append (digest (body s)) more, length_digest (body s), length_digest (body t)))

head_is : (front back : List ℕ) (a b : ℕ) → front ++ a ∷ back ≡ front ++ b ∷ back → a ≡ b
head_is front back a b e = let tails : a ∷ back ≡ b ∷ back = append_cancel_left front (a ∷ back) (b ∷ back) e in cc

-- the length of what stands before the checksum
body_length : (s : StateValue) (whole : List ℕ) → spelling s ≡ whole → length (body s) + 32 ≡ length whole
body_length s whole e =
    let lengths : length (spelling s) ≡ length whole = ap (λ (l : List ℕ). length l) e in
    omega (arith, length-append (body s) (digest (body s)), length_digest (body s))

-- two states whose spellings are one have one octet in each place
not_same : (s t : StateValue) (front back : List ℕ) (a b : ℕ) → a ≢ b → spelling s ≡ front ++ a ∷ back → spelling t ≡ front ++ b ∷ back → body s ≢ body t
not_same s t front back a b differ es et h =
    differ (head_is front back a b (sym es ∙ ap (λ (x : List ℕ). x ++ digest x) h ∙ et))

body_front : (s : StateValue) (front back : List ℕ) (a : ℕ) → spelling s ≡ front ++ a ∷ back → length back < 32 → body s ≡ take (length (body s)) front
body_front s front back a e short =
    let len = body_length s (front ++ a ∷ back) e in
    sym (take_at (body s) (digest (body s)) (length (body s)) refl) ∙ ap (take (length (body s))) e
    ∙ take-append-le (length (body s)) front (a ∷ back) (omega (arith, length-append front (a ∷ back)))

pub before_sum : (s t : StateValue) (front back : List ℕ) (a b : ℕ) → a ≢ b → spelling s ≡ front ++ a ∷ back → spelling t ≡ front ++ b ∷ back → 32 ≤ length back
before_sum s t front back a b differ es et =
    elim (cases_lt (length back) 32) [
      | inl short ↦
          let ls = body_length s (front ++ a ∷ back) es in
          let lt = body_length t (front ++ b ∷ back) et in
          let same : length (body s) ≡ length (body t) = omega (arith, length-append front (a ∷ back), length-append front (b ∷ back)) in
          absurd (not_same s t front back a b differ es et (body_front s front back a es short ∙ ap (λ (n : ℕ). take n front) same ∙ sym (body_front t front back b et short)))
      | inr long ↦ long
    ]

digest_back : (s : StateValue) (front back : List ℕ) (a : ℕ) → spelling s ≡ front ++ a ∷ back → 32 ≤ length back → digest (body s) ≡ drop (length back - 32) back
digest_back s front back a e long =
    let len = body_length s (front ++ a ∷ back) e in
    let place : length (body s) ≡ length (front ++ a ∷ []) + (length back - 32) = omega (arith, length-append front (a ∷ back), length-append front (a ∷ [])) in
    let regrouped : front ++ a ∷ back ≡ (front ++ a ∷ []) ++ back = sym (append_assoc front (a ∷ []) back) in
    sym (drop_at (body s) (digest (body s)) (length (body s)) refl) ∙ ap (drop (length (body s))) (e ∙ regrouped)
    ∙ ap (λ (n : ℕ). drop n ((front ++ a ∷ []) ++ back)) place ∙ drop-append-add (front ++ a ∷ []) back (length back - 32)

pub collision : (s t : StateValue) (front back : List ℕ) (a b : ℕ) → a ≢ b → spelling s ≡ front ++ a ∷ back → spelling t ≡ front ++ b ∷ back → (body s ≢ body t) × (digest (body s) ≡ digest (body t))
collision s t front back a b differ es et =
    let long = before_sum s t front back a b differ es et in
    (not_same s t front back a b differ es et, digest_back s front back a es long ∙ sym (digest_back t front back b et long))

-- ---- one octet more

-- whatever begins with a state's body is read as that state
begins_so : (s t : StateValue) (x : List ℕ) → StateFits s → StateFits t → spelling t ≡ body s ++ x → s ≡ t
begins_so s t x fs ft e =
    let own = s.limits in
    let front : t.limits ≡ own = same_front t s (digest (body t)) x ft.limits fs.limits e in
    let one = (reads_body own).again s x (fs, refl) in
    let two = (reads_body own).again t (digest (body t)) (ft, front) in
    let p : StateValue × List ℕ = (s, x) in
    let q : StateValue × List ℕ = (t, digest (body t)) in
    let same : p ≡ q = ok_is p q (sym one ∙ ap (body_at own) (sym e) ∙ two) in
    ap (λ (y : StateValue × List ℕ). y.0) same

pub more_before_sum : (s t : StateValue) (front back : List ℕ) (a : ℕ) → StateFits s → StateFits t → spelling s ≡ front ++ back → spelling t ≡ front ++ a ∷ back → 32 ≤ length back
more_before_sum s t front back a fs ft es et =
    elim (cases_lt (length back) 32) [
      | inl short ↦
          let n = length (body s) in
          let ls = body_length s (front ++ back) es in
          let within : n ≤ length front = omega (arith, length-append front back) in
          let own : body s ≡ take n front = sym (take_at (body s) (digest (body s)) n refl) ∙ ap (take n) es ∙ take-append-le n front back within in
          let x : List ℕ = drop n front ++ a ∷ back in
          let whole : spelling t ≡ body s ++ x =
          et ∙ ap (λ (f : List ℕ). f ++ a ∷ back) (sym (take-append-drop n front)) ∙ append_assoc (take n front) (drop n front) (a ∷ back)
          ∙ ap (λ (b : List ℕ). b ++ x) (sym own) in
          let same : s ≡ t = begins_so s t x fs ft whole in
          let lengths : length (front ++ back) ≡ length (front ++ a ∷ back) = ap (λ (l : List ℕ). length l) (sym es ∙ ap spelling same ∙ et) in
          absurd (omega (arith, length-append front back, length-append front (a ∷ back)))
      | inr long ↦ long
    ]

pub more_collision : (s t : StateValue) (front back : List ℕ) (a : ℕ) → StateFits s → StateFits t → spelling s ≡ front ++ back → spelling t ≡ front ++ a ∷ back → (body s ≢ body t) × (digest (body s) ≡ digest (body t))
more_collision s t front back a fs ft es et =
    let long = more_before_sum s t front back a fs ft es et in
    let ls = body_length s (front ++ back) es in
    let lt = body_length t (front ++ a ∷ back) et in
    let place : length (body s) ≡ length front + (length back - 32) = omega (arith, length-append front back) in
    let own : digest (body s) ≡ drop (length back - 32) back =
    sym (drop_at (body s) (digest (body s)) (length (body s)) refl) ∙ ap (drop (length (body s))) es
    ∙ ap (λ (n : ℕ). drop n (front ++ back)) place ∙ drop-append-add front back (length back - 32) in
    let differ : body s ≢ body t = λ same.
    let lengths : length (body s) ≡ length (body t) = ap (λ (l : List ℕ). length l) same in
    omega (arith, length-append front back, length-append front (a ∷ back)) in
    (differ, own ∙ sym (digest_back t front back a et long))

-- ---- one value for all octets

pub own_octets : (s t : StateValue) → StateFits s → StateFits t → spelling s ≡ spelling t → s ≡ t
own_octets s t fs ft e = begins_so s t (digest (body s)) fs ft (sym e)

-- Rooms that hold 0 behind what lies in them.
use Rattle.std.proofs.Common.{◌≡◌, ℕ, suc, ◌+◌, ◌-◌, ◌<◌, ◌≤◌, ◌∙◌, List, ◌∷◌, ◌++◌, length, take, drop, replicate, refl, sym, ap, arith}
use Rattle.std.proofs.Math.ListN.{set}
use Rattle.std.proofs.lemmas.List.{length-take-le, take-append-drop, drop-drop, drop-set, drop-set-lt, drop-replicate, take_at}
use Rattle.sms_field.specs.Address.Padded.{padded}

-- behind the first k of n values there is nothing but 0
abbrev pub IsZeroFrom : ℕ → ℕ → List ℕ → Type 0
IsZeroFrom n k values = drop k values ≡ replicate (n - k) 0

pub is_padded : (n k : ℕ) (values : List ℕ) → k ≤ n → length values ≡ n → IsZeroFrom n k values → values ≡ padded n (take k values)
unfolding padded
is_padded n k values few size zeros =
    let taken : length (take k values) ≡ k = length-take-le k values (omega (arith, few, size)) in
    sym (take-append-drop k values) ∙ ap (λ (l : List ℕ). take k values ++ l) (zeros ∙ ap (λ (m : ℕ). replicate (n - m) 0) (sym taken))

pub zero_further : (n k m : ℕ) (values : List ℕ) → k ≤ m → IsZeroFrom n k values → IsZeroFrom n m values
zero_further n k m values le zeros =
    let at : k + (m - k) ≡ m = omega (arith, le) in
    let left : (n - k) - (m - k) ≡ n - m = omega (arith, le) in
    ap (λ (i : ℕ). drop i values) (sym at) ∙ sym (drop-drop (m - k) k values) ∙ ap (λ (l : List ℕ). drop (m - k) l) zeros ∙ drop-replicate (m - k) (n - k) 0 ∙ ap (λ (i : ℕ). replicate i 0) left

-- one value is put where there was 0
pub zero_behind_set : (n i y : ℕ) (values : List ℕ) → IsZeroFrom n i values → IsZeroFrom n (i + 1) (set values i y)
zero_behind_set n i y values zeros = drop-set-lt (i + 1) values i y (omega arith) ∙ zero_further n i (i + 1) values (omega arith) zeros

-- the last value is taken away
pub zero_at_last : (n i : ℕ) (values : List ℕ) → i < n → length values ≡ n → IsZeroFrom n (i + 1) values → IsZeroFrom n i (set values i 0)
zero_at_last n i values less size zeros =
    let left : suc (n - (i + 1)) ≡ n - i = omega (arith, less) in
    drop-set values i 0 (omega (arith, less, size)) ∙ ap (λ (l : List ℕ). 0 ∷ l) zeros ∙ ap (λ (m : ℕ). replicate m 0) left

-- a list is copied to the front of a room of 0
pub copied : (n : ℕ) (room front xs : List ℕ) → room ≡ replicate n 0 → front ≡ xs → (take (length xs) (front ++ drop (length xs) room) ≡ xs) × (front ++ drop (length xs) room ≡ padded n (take (length xs) (front ++ drop (length xs) room)))
unfolding padded
copied n room front xs zeros same =
    let whole : front ++ drop (length xs) room ≡ xs ++ replicate (n - length xs) 0 = ap (λ (l : List ℕ). l ++ drop (length xs) room) same ∙ ap (λ (l : List ℕ). xs ++ l) (ap (λ (l : List ℕ). drop (length xs) l) zeros ∙ drop-replicate (length xs) n 0) in
    let kept : take (length xs) (front ++ drop (length xs) room) ≡ xs = ap (λ (l : List ℕ). take (length xs) l) whole ∙ take_at xs (replicate (n - length xs) 0) (length xs) refl in
    (kept, whole ∙ ap (padded n) (sym kept))

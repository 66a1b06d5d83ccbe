-- Rooms that hold 0 behind what lies in them.
use Rattle.std.proofs.Common.{◌≡◌, ℕ, ◌+◌, ◌-◌, ◌≤◌, ◌∙◌, List, ◌++◌, length, take, drop, replicate, sym, ap, arith}
use Rattle.std.proofs.Math.ListN.{set}
use Rattle.std.proofs.lemmas.List.{length-take-le, take-append-drop, drop-drop, drop-set-lt, drop-replicate}
use Rattle.sms_field.specs.Address.Padded.{padded}

-- behind the first k of n values there is nothing but 0
abbrev pub IsZeroFrom : ℕ → ℕ → List ℕ → Type 0
IsZeroFrom n k values = drop k values ≡ replicate (n - k) 0

pub is_padded : (n k : ℕ) (values : List ℕ) → k ≤ n → length values ≡ n → IsZeroFrom n k values → values ≡ padded n (take k values)
unfolding padded
is_padded n k values few size zeros =
    let taken : length (take k values) ≡ k = length-take-le k values (omega (arith, few, size)) in
    sym (take-append-drop k values) ∙ ap (λ (l : List ℕ). take k values ++ l) (zeros ∙ ap (λ (m : ℕ). replicate (n - m) 0) (sym taken))

zero_further : (n k m : ℕ) (values : List ℕ) → k ≤ m → IsZeroFrom n k values → IsZeroFrom n m values
zero_further n k m values le zeros =
    let at : k + (m - k) ≡ m = omega (arith, le) in
    let left : (n - k) - (m - k) ≡ n - m = omega (arith, le) in
    ap (λ (i : ℕ). drop i values) (sym at) ∙ sym (drop-drop (m - k) k values) ∙ ap (λ (l : List ℕ). drop (m - k) l) zeros ∙ drop-replicate (m - k) (n - k) 0 ∙ ap (λ (i : ℕ). replicate i 0) left

-- one value is put where there was 0
pub zero_behind_set : (n i y : ℕ) (values : List ℕ) → IsZeroFrom n i values → IsZeroFrom n (i + 1) (set values i y)
zero_behind_set n i y values zeros = drop-set-lt (i + 1) values i y (omega arith) ∙ zero_further n i (i + 1) values (omega arith) zeros

-- What lies in the room of a reader.
use Rattle.std.proofs.Common.{◌≡◌, ℕ, ◌+◌, ◌-◌, ◌≤◌, List, ◌++◌, sym, ap, ◌∙◌, arith, take, drop}
use Rattle.std.proofs.lemmas.List.{take-take, drop-take, drop-drop}
use Rattle.std.proofs.Math.Seq.{take-add}
use Rattle.sms_feed.specs.Feed.{FeedValue}

-- a reader is what its parts are
pub same_value : (a b : FeedValue) → a.number ≡ b.number → a.line ≡ b.line → a.left ≡ b.left → a.is_long ≡ b.is_long → a.has_ended ≡ b.has_ended → a ≡ b
same_value a b number line left is_long has_ended = λ i. record { number = number i; line = line i; left = left i; is_long = is_long i; has_ended = has_ended i }

-- the front of what is left
pub front_of : (room left : List ℕ) (start end n : ℕ) → left ≡ take (end - start) (drop start room) → n ≤ end - start → take n (drop start room) ≡ take n left
front_of room left start end n is within =
    sym (take-take n (end - start) (drop start room) within) ∙ ap (take n) (sym is)

-- what is left behind that
pub behind_of : (room left : List ℕ) (start end n then : ℕ) → left ≡ take (end - start) (drop start room) → n ≤ end - start → then ≡ start + n → take (end - then) (drop then room) ≡ drop n left
behind_of room left start end n then is within moved =
    let size : end - start ≡ n + (end - (start + n)) = omega arith in
    ap (λ (k : ℕ). take (end - k) (drop k room)) moved
    ∙ ap (take (end - (start + n))) (sym (drop-drop n start room))
    ∙ sym (drop-take n (end - (start + n)) (drop start room))
    ∙ ap (λ (k : ℕ). drop n (take k (drop start room))) (sym size)
    ∙ ap (drop n) (sym is)

-- from the front on
pub from_front : (room : List ℕ) (n : ℕ) → take (n - 0) (drop 0 room) ≡ take n room
from_front room n = ap (λ (k : ℕ). take k room) {y = n} (omega arith)

-- what was read lies behind what was kept
pub front_more : (room : List ℕ) (n m : ℕ) → take (n + m - 0) (drop 0 room) ≡ take n room ++ take m (drop n room)
front_more room n m = from_front room (n + m) ∙ take-add n m room

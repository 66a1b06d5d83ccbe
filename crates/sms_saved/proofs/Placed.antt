-- Octets that are put behind others in a room.
use Rattle.std.proofs.Common.{◌≡◌, ℕ, ◌+◌, ◌≤◌, List, ◌++◌, length, take, drop, sym, ap, ◌∙◌, append_assoc, length-append, arith}
use Rattle.std.proofs.lemmas.List.{take_at, take-take, length-take-le, take-append-drop}
use Rattle.std.proofs.lemmas.Slice.{take-put_mid}
use borrow.Rule.Slice.PartMut.{put_mid}

-- the first k of what is written
pub first_written : (out written : List ℕ) (at many n k : ℕ) → length written ≡ n → k ≤ n → at + n ≤ length out → take (at + k) (put_mid at many out written) ≡ take at out ++ take k written
first_written out written at many n k size le room =
    let before : List ℕ = take at out in
    let whole : take (at + n) (put_mid at many out written) ≡ before ++ written = take-put_mid at many out written (at + n) (omega (arith, size)) (omega (arith, room)) in
    let halves : written ≡ take k written ++ drop k written = sym (take-append-drop k written) in
    let parts : before ++ written ≡ (before ++ take k written) ++ drop k written = ap (λ (l : List ℕ). before ++ l) halves ∙ sym (append_assoc before (take k written) (drop k written)) in
    let long : length (before ++ take k written) ≡ at + k = length-append before (take k written) ∙ omega (arith, length-take-le at out (omega (arith, room)), length-take-le k written (omega (arith, size, le))) in
    sym (take-take (at + k) (at + n) (put_mid at many out written) (omega (arith, le))) ∙ ap (take (at + k)) (whole ∙ parts) ∙ take_at (before ++ take k written) (drop k written) (at + k) long

-- what a vector has whose last part was written, and of it so many are kept
pub kept_behind : (old zeros items room post tail text : List ℕ) (start count all : ℕ) → items ≡ old ++ zeros → start ≡ length old → count ≤ length room → start + count ≤ all → take count room ≡ text
    → take (start + count) (take all (take start items ++ (room ++ post) ++ tail)) ≡ old ++ text
kept_behind old zeros items room post tail text start count all is same few fits kept =
    let others : List ℕ = drop count room in
    let front : take start items ≡ old = ap (take start) is ∙ take_at old zeros start (sym same) in
    let halves : room ≡ text ++ others = sym (take-append-drop count room) ∙ ap (λ (l : List ℕ). l ++ others) kept in
    let turned : old ++ ((text ++ others) ++ post) ++ tail ≡ (old ++ text) ++ (others ++ (post ++ tail)) = simp append_assoc in
    let whole : take start items ++ (room ++ post) ++ tail ≡ (old ++ text) ++ (others ++ (post ++ tail)) =
    ap (λ (l : List ℕ). l ++ (room ++ post) ++ tail) front ∙ (ap (λ (l : List ℕ). old ++ (l ++ post) ++ tail) halves ∙ turned) in
    let size : length text ≡ count = sym (ap length kept) ∙ length-take-le count room few in
    let long : length (old ++ text) ≡ start + count = omega (arith, length-append old text, size, same) in
    take-take (start + count) all (take start items ++ (room ++ post) ++ tail) fits ∙ ap (take (start + count)) whole ∙ take_at (old ++ text) (others ++ (post ++ tail)) (start + count) long

-- Lines, and which of them are too long.
use Rattle.std.proofs.Common.{◌≡◌, ℕ, suc, ◌+◌, ◌-◌, ◌<◌, ◌≤◌, List, [], ◌∷◌, ◌++◌, length, refl, sym, ap, ◌∙◌, arith, Bool, true, false, ◌==◌, cond, get_or, take, drop, append_assoc, append-nil, Some, None, length-append}
use Rattle.std.proofs.lemmas.List.{length-take, take-append-drop, take_all}
use Rattle.std.proofs.Math.ListN.{drop_of_length-le}
use Rattle.std.proofs.lemmas.List.Splits.{length-slice_split}
use Rattle.std.proofs.lemmas.Bool.{ne_eqb, lt-leb}
use Rattle.std.specs.List.{slice_split}
use Rattle.std.specs.Str.Lines.{lines_of_parts}
use Rattle.sms_script.specs.Lines.{line_feed, line_limit, carriage_return, lines, strip_carriage_return, HasNoLineFeed}
use Rattle.sms_feed.specs.Lines.{few}

pub HasNoLineFeed-append : (a b : List ℕ) → HasNoLineFeed a → HasNoLineFeed b → HasNoLineFeed (a ++ b)
HasNoLineFeed-append [] b h k = k
HasNoLineFeed-append (o ∷ a) b h k = (h.0, HasNoLineFeed-append a b h.1 k)

-- the parts between line feeds
abbrev parts : List ℕ → List (List ℕ)
parts octets = slice_split (λ b. b == line_feed) octets

parts-ended : (raw rest : List ℕ) → HasNoLineFeed raw → parts (raw ++ line_feed ∷ rest) ≡ raw ∷ parts rest
parts-ended [] rest h = refl
parts-ended (o ∷ raw) rest h = rw (h.0, parts-ended raw rest h.1) refl

parts-unended : (raw : List ℕ) → HasNoLineFeed raw → parts raw ≡ raw ∷ []
parts-unended [] h = refl
parts-unended (o ∷ raw) h = rw (h.0, parts-unended raw h.1) refl

lines_of_parts-more : (raw : List ℕ) (more : List (List ℕ)) → 0 < length more → lines_of_parts (raw ∷ more) ≡ strip_carriage_return raw ∷ lines_of_parts more
lines_of_parts-more raw [] h = absurd (omega arith)
lines_of_parts-more raw (part ∷ more) h = refl

-- a line that ends with a line feed, and what follows
lines-ended : (raw rest : List ℕ) → HasNoLineFeed raw → lines (raw ++ line_feed ∷ rest) ≡ strip_carriage_return raw ∷ lines rest
lines-ended raw rest h =
    ap lines_of_parts (parts-ended raw rest h) ∙ lines_of_parts-more raw (parts rest) (omega (arith, length-slice_split (λ b. b == line_feed) rest))

-- the last line, without a line feed
lines-unended : (raw : List ℕ) → 0 < length raw → HasNoLineFeed raw → lines raw ≡ raw ∷ []
lines-unended [] some h = absurd (omega arith)
lines-unended (octet ∷ raw) some h = ap lines_of_parts (parts-unended (octet ∷ raw) h) ∙ rw (ne_eqb (suc (length raw)) 0 (λ e. omega (arith, e))) refl

-- a line goes up to a place, where a line feed is or all ends
pub lines_to : (has_feed : Bool) (n : ℕ) (thrown left later : List ℕ) → HasNoLineFeed thrown → HasNoLineFeed (take n left)
    → (has_feed ≡ true → drop n left ≡ line_feed ∷ drop (n + 1) left) → (has_feed ≡ false → n ≡ length left) → (has_feed ≡ false → later ≡ []) → (has_feed ≡ false → 0 < length (thrown ++ left))
    → lines (thrown ++ (left ++ later)) ≡ cond has_feed (strip_carriage_return (thrown ++ take n left)) (thrown ++ take n left) ∷ lines (drop (cond has_feed (n + 1) n) left ++ later)
lines_to true n thrown left later clean front fed whole last some =
    let rest : List ℕ = drop (n + 1) left in
    let split : left ≡ take n left ++ line_feed ∷ rest = sym (take-append-drop n left) ∙ ap (λ (l : List ℕ). take n left ++ l) (fed refl) in
    ap lines (
    ap (λ (l : List ℕ). thrown ++ (l ++ later)) split
    ∙ ap (λ (l : List ℕ). thrown ++ l) (append_assoc (take n left) (line_feed ∷ rest) later)
    ∙ sym (append_assoc thrown (take n left) (line_feed ∷ (rest ++ later)))
    )
    ∙ lines-ended (thrown ++ take n left) (rest ++ later) (HasNoLineFeed-append thrown (take n left) clean front)
lines_to false n thrown left later clean front fed whole last some =
    let size : length left ≤ n = omega (arith, whole refl) in
    let all : take n left ≡ left = take_all n left size in
    let none : drop n left ≡ [] = drop_of_length-le left size in
    rw (last refl, none, all, append-nil left)
    (lines-unended (thrown ++ left) (some refl) (HasNoLineFeed-append thrown left clean (rw all at front)))

strip-bound : (octets : List ℕ) → length octets ≤ length (strip_carriage_return octets) + 1
strip-bound octets = by_test (get_or octets (length octets - 1) 0 == carriage_return)
  where
    by_test : (b : Bool) → length octets ≤ length (cond b (take (length octets - 1) octets) octets) + 1
    by_test true = omega (arith, length-take {A = ℕ})
    by_test false = omega arith

few-long : (octets : List ℕ) → line_limit < length octets → few octets ≡ None
few-long octets h = ap (λ (b : Bool). cond b (Some octets) None) (lt-leb (length octets) line_limit h)

-- with what was thrown away of it, a line is too long
pub few_to : (has_feed is_long : Bool) (thrown front : List ℕ) → (is_long ≡ false → thrown ≡ []) → (is_long ≡ true → line_limit + 1 < length thrown)
    → cond is_long None (few (cond has_feed (strip_carriage_return front) front)) ≡ few (cond has_feed (strip_carriage_return (thrown ++ front)) (thrown ++ front))
few_to has_feed false thrown front none long =
    ap (λ (l : List ℕ). few (cond has_feed (strip_carriage_return (l ++ front)) (l ++ front))) (sym (none refl))
few_to true true thrown front none long =
    sym (few-long (strip_carriage_return (thrown ++ front)) (omega (arith, long refl, length-append thrown front, strip-bound (thrown ++ front))))
few_to false true thrown front none long =
    sym (few-long (thrown ++ front) (omega (arith, long refl, length-append thrown front)))

-- Lines, octet by octet.
use Rattle.std.proofs.Common.{◌≡◌, ℕ, suc, ◌+◌, ◌-◌, ◌<◌, ◌≤◌, List, [], ◌∷◌, ◌++◌, length, refl, sym, ap, ◌∙◌, arith, Bool, true, false, ◌==◌, cond, nat_lt, get_or, take, append_assoc, append-nil, inl, inr, subst}
use Rattle.std.proofs.lemmas.List.{length_push, get_or_push, length-take}
use Rattle.std.proofs.lemmas.List.Splits.{length-slice_split}
use Rattle.std.proofs.Math.Seq.{take-append_seam}
use Rattle.std.proofs.lemmas.Bool.{ltb-true, ltb-false, ne_eqb}
use Rattle.std.specs.List.{slice_split}
use Rattle.std.specs.Str.Lines.{lines_of_parts}
use Rattle.sms_script.specs.Lines.{line_feed, line_limit, carriage_return, lines, strip_carriage_return, HasNoLineFeed, AreWhole, EndsLine, AreLines}

pub HasNoLineFeed-more : (octets : List ℕ) (octet : ℕ) → HasNoLineFeed octets → (octet ≡ line_feed → ⊥) → HasNoLineFeed (octets ++ octet ∷ [])
HasNoLineFeed-more [] octet h e = (ne_eqb octet line_feed e, tt)
HasNoLineFeed-more (o ∷ octets) octet h e = (h.0, HasNoLineFeed-more octets octet h.1 e)

-- the parts between line feeds
abbrev parts : List ℕ → List (List ℕ)
parts octets = slice_split (λ b. b == line_feed) octets

parts-ended : (raw rest : List ℕ) → HasNoLineFeed raw → parts (raw ++ line_feed ∷ rest) ≡ raw ∷ parts rest
parts-ended [] rest h = refl
parts-ended (o ∷ raw) rest h = rw (h.0, parts-ended raw rest h.1) refl

parts-unended : (raw : List ℕ) → HasNoLineFeed raw → parts raw ≡ raw ∷ []
parts-unended [] h = refl
parts-unended (o ∷ raw) h = rw (h.0, parts-unended raw h.1) refl

lines_of_parts-more : (raw : List ℕ) (more : List (List ℕ)) → 0 < length more → lines_of_parts (raw ∷ more) ≡ strip_carriage_return raw ∷ lines_of_parts more
lines_of_parts-more raw [] h = absurd (omega arith)
lines_of_parts-more raw (part ∷ more) h = refl

-- a line that ends with a line feed, and what follows
pub lines-ended : (raw rest : List ℕ) → HasNoLineFeed raw → lines (raw ++ line_feed ∷ rest) ≡ strip_carriage_return raw ∷ lines rest
lines-ended raw rest h =
    ap lines_of_parts (parts-ended raw rest h) ∙ lines_of_parts-more raw (parts rest) (omega (arith, length-slice_split (λ b. b == line_feed) rest))

-- the last line, without a line feed
pub lines-unended : (octet : ℕ) (raw : List ℕ) → HasNoLineFeed (octet ∷ raw) → lines (octet ∷ raw) ≡ (octet ∷ raw) ∷ []
lines-unended octet raw h = ap lines_of_parts (parts-unended (octet ∷ raw) h) ∙ rw (ne_eqb (suc (length raw)) 0 (λ e. omega (arith, e))) refl

pub whole-none : AreWhole []
whole-none more = refl

pub line_more : (read raw : List ℕ) → AreWhole read → HasNoLineFeed raw → lines (read ++ (raw ++ line_feed ∷ [])) ≡ lines read ++ strip_carriage_return raw ∷ []
line_more read raw whole h = whole (raw ++ line_feed ∷ []) ∙ ap (λ (ls : List (List ℕ)). lines read ++ ls) (lines-ended raw [] h)

pub whole_more : (read raw : List ℕ) → AreWhole read → HasNoLineFeed raw → AreWhole (read ++ (raw ++ line_feed ∷ []))
whole_more read raw whole h more =
    ap lines (append_assoc read (raw ++ line_feed ∷ []) more ∙ ap (λ (l : List ℕ). read ++ l) (append_assoc raw (line_feed ∷ []) more))
    ∙ whole (raw ++ line_feed ∷ more)
    ∙ ap (λ (ls : List (List ℕ)). lines read ++ ls) (lines-ended raw more h)
    ∙ sym (append_assoc (lines read) (strip_carriage_return raw ∷ []) (lines more))
    ∙ ap (λ (ls : List (List ℕ)). ls ++ lines more) (sym (line_more read raw whole h))

-- an octet begins a line
pub octet_line : (octet : ℕ) → (line : List ℕ) × (lines (octet ∷ []) ≡ line ∷ [])
octet_line octet = by_test (octet == line_feed) refl
  where
    by_test : (b : Bool) → (octet == line_feed) ≡ b → (line : List ℕ) × (lines (octet ∷ []) ≡ line ∷ [])
    by_test true k = ([], rw k refl)
    by_test false k = (octet ∷ [], rw k refl)

pub strip-push : (octets : List ℕ) (octet : ℕ) → strip_carriage_return (octets ++ octet ∷ []) ≡ cond (octet == carriage_return) octets (octets ++ octet ∷ [])
strip-push octets octet =
    let len = length_push octets octet in
    let place : length octets + 1 - 1 ≡ length octets = omega arith in
    rw (len, place, get_or_push octets octet 0 (length octets) refl, take-append_seam octets (octet ∷ [])) refl

pub strip-length : (octets : List ℕ) (octet : ℕ) → length (strip_carriage_return (octets ++ octet ∷ [])) ≡ cond (octet == carriage_return) (length octets) (length octets + 1)
strip-length octets octet = ap length (strip-push octets octet) ∙ by_test (octet == carriage_return)
  where
    by_test : (b : Bool) → length (cond b octets (octets ++ octet ∷ [])) ≡ cond b (length octets) (length octets + 1)
    by_test true = refl
    by_test false = length_push octets octet

pub strip-bound : (octets : List ℕ) → length octets ≤ length (strip_carriage_return octets) + 1
strip-bound octets = by_test (get_or octets (length octets - 1) 0 == carriage_return)
  where
    by_test : (b : Bool) → length octets ≤ length (cond b (take (length octets - 1) octets) octets) + 1
    by_test true = omega (arith, length-take {A = ℕ})
    by_test false = omega arith

pub strip-shorter : (octets : List ℕ) → length (strip_carriage_return octets) ≤ length octets
strip-shorter octets = by_test (get_or octets (length octets - 1) 0 == carriage_return)
  where
    by_test : (b : Bool) → length (cond b (take (length octets - 1) octets) octets) ≤ length octets
    by_test true = omega (arith, length-take {A = ℕ})
    by_test false = omega arith

-- what the test of a longer line says
pub is_longer : (octets : List ℕ) → nat_lt line_limit (length (strip_carriage_return octets)) ≡ true → line_limit < length (strip_carriage_return octets)
is_longer octets e = ltb-true _ _ e

pub is_not_longer : (octets : List ℕ) → nat_lt line_limit (length (strip_carriage_return octets)) ≡ false → length (strip_carriage_return octets) ≤ line_limit
is_not_longer octets e = ltb-false _ _ e

-- with an octet after a line that is not longer
pub few_octets : (octets : List ℕ) (octet : ℕ) → length (strip_carriage_return octets) ≤ line_limit → length (octets ++ octet ∷ []) ≤ line_limit + 2
few_octets octets octet h = omega (arith, length_push octets octet, strip-bound octets)

pub few_octets_more : (octets : List ℕ) (octet : ℕ) → length (strip_carriage_return (octets ++ octet ∷ [])) ≤ line_limit → length (octets ++ octet ∷ []) ≤ line_limit + 1
few_octets_more octets octet h = omega (arith, strip-bound (octets ++ octet ∷ []))

pub EndsLine-front : (front text : List ℕ) → EndsLine text → EndsLine (front ++ text)
EndsLine-front front text h = (front ++ h.0, ap (λ (l : List ℕ). front ++ l) h.1 ∙ sym (append_assoc front h.0 (line_feed ∷ [])))

-- lines after lines
pub AreLines-append : (a b : List ℕ) → AreLines a → AreLines b → AreLines (a ++ b)
AreLines-append a b (inl none) h = let P : List ℕ → Type 0 = λ l. AreLines (l ++ b) in subst P (sym none) h
AreLines-append a b (inr some) (inl none) =
    let P : List ℕ → Type 0 = λ l. AreLines l in
    subst P (sym (ap (λ (l : List ℕ). a ++ l) none ∙ append-nil a)) (inr some)
AreLines-append a b (inr some) (inr more) = inr (EndsLine-front a b more)

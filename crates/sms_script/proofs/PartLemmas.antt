-- Lines, part by part.
use Rattle.std.proofs.Common.{◌≡◌, ℕ, zero, suc, ◌+◌, ◌-◌, ◌<◌, ◌≤◌, List, [], ◌∷◌, ◌++◌, length, take, get_or, Option, refl, sym, ap, subst, ◌∙◌, append_assoc, append-nil, length-append, add-one, arith}
use Rattle.std.proofs.lemmas.List.{length-take-le, length_push, take-append-le, take_all, take_at, take-take}
use Rattle.std.proofs.Math.Seq.{take-suc}
use Rattle.std.specs.Io.KnownBytes.{Consumes, IsAtEnd}
use Rattle.sms_script.specs.Lines.{line_feed, line_limit, strip_carriage_return, HasNoLineFeed}
use Rattle.sms_script.specs.Inside.Parts.{Adds, EndsPart, TakesBefore}
use Rattle.sms_script.specs.declared.lines.Part.{Part}
use Rattle.sms_script.specs.declared.lines.Part.TheVariants.{More, LineFeed, EndOfSource}
use Rattle.sms_script.proofs.LineLemmas.{HasNoLineFeed-more, strip-shorter}
use Rattle.sms_script.proofs.SourceLemmas.{Consumes-add}

pub HasNoLineFeed-append : (a b : List ℕ) → HasNoLineFeed a → HasNoLineFeed b → HasNoLineFeed (a ++ b)
HasNoLineFeed-append [] b h k = k
HasNoLineFeed-append (o ∷ a) b h k = (h.0, HasNoLineFeed-append a b h.1 k)

-- the octets before the last one
pub front_of : (octets front : List ℕ) (last : ℕ) → octets ≡ front ++ last ∷ [] → HasNoLineFeed (take (length octets - 1) octets) → HasNoLineFeed front
front_of octets front last e h =
    let size : length octets - 1 ≡ length front = omega (arith, ap length e, length_push front last) in
    let is : take (length octets - 1) octets ≡ front = rw (size, e) (take-append-le (length front) front (last ∷ []) (omega arith) ∙ take_whole front) in
    subst HasNoLineFeed is h
  where
    take_whole : (xs : List ℕ) → take (length xs) xs ≡ xs
    take_whole [] = refl
    take_whole (x ∷ xs) = ap (λ (l : List ℕ). x ∷ l) (take_whole xs)

pub none_but : (octets front : List ℕ) (last : ℕ) → octets ≡ front ++ last ∷ [] → HasNoLineFeed (take (length octets - 1) octets) → (last ≡ line_feed → ⊥) → HasNoLineFeed octets
none_but octets front last e h other = subst HasNoLineFeed (sym e) (HasNoLineFeed-more front last (front_of octets front last e h) other)

-- the octets in front of a part that were read
pub front_read : (part : List ℕ) (given : ℕ) → given ≤ length part → HasNoLineFeed (take (given - 1) part) → HasNoLineFeed (take (length (take given part) - 1) (take given part))
front_read part given le h = rw (length-take-le given part le, take-take (given - 1) given part (omega arith)) h

pub front_kept : (part front line longer : List ℕ) (given last : ℕ) → given ≤ length part → take given part ≡ front ++ last ∷ [] → longer ≡ line ++ take (length front) part → longer ≡ line ++ front
front_kept part front line longer given last le is e =
    let fewer : length front ≤ given = omega (arith, length-take-le given part le, ap length is, length_push front last) in
    e ∙ ap (λ (l : List ℕ). line ++ l) (sym (take-take (length front) given part fewer) ∙ ap (take (length front)) is ∙ take_at front (last ∷ []) (length front) refl)

-- a part that was read, of as many octets as there may be
pub part_taken : (old new : Option (List ℕ)) (line longer buffer : List ℕ) (n : ℕ) (part : Part) → n ≤ length buffer → 0 < length buffer → length line + length buffer ≤ line_limit
    → Consumes old new (take n buffer) → (n ≡ 0 → 0 < length buffer → IsAtEnd new) → EndsPart line longer (take n buffer) part → TakesBefore old new line longer part
part_taken old new line longer buffer n More within some fits taken ended h =
    let count = length-take-le n buffer within in
    let size : length longer ≡ length line + length (take n buffer) = ap length h.1 ∙ length-append line (take n buffer) in
    ((take n buffer, h.0, h.1, omega (arith, count, size), subst (λ (l : List ℕ). Consumes old new l) (sym (append-nil (take n buffer))) taken), omega (arith, size, h.2))
part_taken old new line longer buffer n LineFeed within some fits taken ended h =
    let count = length-take-le n buffer within in
    let fewer : length (take n buffer) ≡ length h.0 + 1 = ap length h.2 ∙ length_push h.0 line_feed in
    let size : length longer ≡ length line + length h.0 = ap length h.3 ∙ length-append line h.0 in
    (h.0, h.1, h.3, omega (arith, count, fewer, size), subst (λ (l : List ℕ). Consumes old new l) h.2 taken)
part_taken old new line longer buffer n EndOfSource within some fits taken ended h =
    let count = length-take-le n buffer within in
    let none : n ≡ 0 = omega (arith, count, ap length h.0) in
    (h.1, subst (λ (l : List ℕ). Consumes old new l) h.0 taken, ended none some)

-- a line that goes on
pub line_goes_on : (start old new : Option (List ℕ)) (line longer : List ℕ) → HasNoLineFeed line → Consumes start old line → Adds old new line longer [] → HasNoLineFeed longer × Consumes start new longer
line_goes_on start old new line longer clean taken h = (
  subst HasNoLineFeed (sym h.2) (HasNoLineFeed-append line h.0 clean h.1),
  subst (λ (l : List ℕ). Consumes start new l) (ap (λ (l : List ℕ). line ++ l) (append-nil h.0) ∙ sym h.2) (Consumes-add start old new line (h.0 ++ []) taken h.4),
)

-- a line that ends
pub line_ends : (start old new : Option (List ℕ)) (line longer stripped : List ℕ) → HasNoLineFeed line → Consumes start old line → Adds old new line longer (line_feed ∷ []) → stripped ≡ strip_carriage_return longer
    → (raw : List ℕ) × HasNoLineFeed raw × (Consumes start new (raw ++ line_feed ∷ []) × (stripped ≡ strip_carriage_return raw) × (length stripped ≤ line_limit))
line_ends start old new line longer stripped clean taken h e = (
  longer,
  subst HasNoLineFeed (sym h.2) (HasNoLineFeed-append line h.0 clean h.1),
  (
    subst (λ (l : List ℕ). Consumes start new l) (sym (append_assoc line h.0 (line_feed ∷ [])) ∙ ap (λ (l : List ℕ). l ++ line_feed ∷ []) (sym h.2)) (Consumes-add start old new line (h.0 ++ line_feed ∷ []) taken h.4),
    e,
    omega (arith, ap length e, strip-shorter longer, h.3),
  ),
)

HasNoLineFeed-take : (n : ℕ) (octets : List ℕ) → HasNoLineFeed octets → HasNoLineFeed (take n octets)
HasNoLineFeed-take zero octets h = tt
HasNoLineFeed-take (suc n) [] h = tt
HasNoLineFeed-take (suc n) (o ∷ octets) h = (h.0, HasNoLineFeed-take n octets h.1)

-- one octet more is no line feed
pub clean_more : (octets : List ℕ) (i : ℕ) → i < length octets → (get_or octets i 0 ≡ line_feed → ⊥) → HasNoLineFeed (take i octets) → HasNoLineFeed (take (i + 1) octets)
clean_more octets i h other clean = rw (add-one, take-suc octets i 0 h) (HasNoLineFeed-more (take i octets) (get_or octets i 0) clean other)

-- none of them is
pub clean_front : (octets : List ℕ) (i n : ℕ) → length octets ≤ i → HasNoLineFeed (take i octets) → HasNoLineFeed (take n octets)
clean_front octets i n h clean = HasNoLineFeed-take n octets (rw (take_all i octets h) at clean)

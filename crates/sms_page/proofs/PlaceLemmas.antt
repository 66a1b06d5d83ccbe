-- Octets that are put at places of one room, one after another.
use Rattle.std.proofs.Common.{◌≡◌, ℕ, ◌+◌, ◌-◌, ◌<◌, ◌≤◌, List, [], ◌∷◌, ◌++◌, slice_set, length, take, drop, refl, ap, sym, subst, ◌∙◌, arith, length-append, append_assoc, length-take-le, length-drop, take-take, take-add}
use Rattle.std.proofs.lemmas.List.{take_at, drop_at, take_all, take-append-drop, append-nil, drop-drop, take_more_set, length-set}
use Rattle.std.proofs.lemmas.Slice.{take-put_mid}
use borrow.Rule.Slice.PartMut.{put_mid, same_len_mid}
use Rattle.std.proofs.lemmas.Simd.{take_more_put_chunk, length-put_chunk, put_chunk_is}
use lib.Lanes.{put_chunk}
use Rattle.sms_page.specs.Inside.Place.{IsPut}

-- a vector that is stored
pub IsPut-put_chunk : (room octets : List ℕ) (at : ℕ) → at + length octets ≤ length room → IsPut room (put_chunk at room octets) at octets
IsPut-put_chunk room octets at fits = record {
  front = take_more_put_chunk at room octets (at + length octets) (omega arith) fits;
  as_long = length-put_chunk at room octets;
}

-- what is put behind what was put
pub IsPut-then : {a b c xs ys : List ℕ} (at : ℕ) → IsPut a b at xs → IsPut b c (at + length xs) ys → IsPut a c at (xs ++ ys)
IsPut-then {a} {b} {c} {xs} {ys} at p q =
    let sum : at + length (xs ++ ys) ≡ at + length xs + length ys = omega (arith, length-append xs ys) in
    record {
      front = ap (λ (n : ℕ). take n c) sum ∙ q.front ∙ ap (λ (l : List ℕ). l ++ ys) p.front ∙ append_assoc (take at a) xs ys;
      as_long = q.as_long ∙ p.as_long;
    }

-- fewer of what was put
pub IsPut-less : {a b xs : List ℕ} (at k : ℕ) → at ≤ length a → k ≤ length xs → IsPut a b at xs → IsPut a b at (take k xs)
IsPut-less {a} {b} {xs} at k within few p =
    let size : length (take k xs) ≡ k = length-take-le k xs few in
    let front : length (take at a) ≡ at = length-take-le at a within in
    record {
      front = ap (λ (n : ℕ). take (at + n) b) size ∙ sym (take-take (at + k) (at + length xs) b (omega arith)) ∙ ap (take (at + k)) p.front
          ∙ take-add at k (take at a ++ xs) ∙ (λ i. take_at (take at a) xs at front i ++ take k (drop_at (take at a) xs at front i));
      as_long = p.as_long;
    }

-- the first n octets and the last n, laid over each other
pub IsPut-ends : {a b c : List ℕ} (octets : List ℕ) (at n : ℕ) → at ≤ length a → n ≤ length octets → length octets ≤ n + n
    → IsPut a b at (take n octets) → IsPut b c (at + (length octets - n)) (take n (drop (length octets - n) octets)) → IsPut a c at octets
IsPut-ends {a} {b} {c} octets at n within few covers p q =
    let last = length octets - n in
    let short : take last (take n octets) ≡ take last octets = take-take last n octets (omega arith) in
    let size : length (take last octets) ≡ last = length-take-le last octets (omega arith) in
    let first : IsPut a b at (take last octets) =
    subst (λ (l : List ℕ). IsPut a b at l) short (IsPut-less at last within (omega (arith, length-take-le n octets few)) p) in
    let second : IsPut b c (at + length (take last octets)) (take n (drop last octets)) = subst (λ (k : ℕ). IsPut b c (at + k) (take n (drop last octets))) (sym size) q in
    let rest : take n (drop last octets) ≡ drop last octets = take_all n (drop last octets) (omega (arith, length-drop last octets)) in
    subst (λ (l : List ℕ). IsPut a c at l) (ap (λ (l : List ℕ). take last octets ++ l) rest ∙ take-append-drop last octets) (IsPut-then at first second)

-- a part that is written over
pub IsPut-put_mid : (room octets : List ℕ) (at n : ℕ) → n ≡ length octets → at + n ≤ length room → IsPut room (put_mid at n room octets) at octets
IsPut-put_mid room octets at n size fits = record {
  front = take-put_mid at n room octets (at + length octets) refl (omega arith);
  as_long = same_len_mid at n room octets (sym size ∙ sym (length-take-le n (drop at room) (omega (arith, length-drop at room))));
}

-- what stands before a place stays
pub IsPut-kept : {a b xs : List ℕ} (at : ℕ) → at ≤ length a → IsPut a b at xs → take at b ≡ take at a
IsPut-kept {a} {b} {xs} at within p =
    sym (take-take at (at + length xs) b (omega arith)) ∙ ap (take at) p.front ∙ take_at (take at a) xs at (length-take-le at a within)

pub IsPut-nothing : (a : List ℕ) (at : ℕ) → IsPut a a at []
IsPut-nothing a at = record { front = let e : at + 0 ≡ at = omega arith in ap (λ (n : ℕ). take n a) e ∙ sym (append-nil (take at a)); as_long = refl }

-- all of the octets are put as the front of themselves
pub IsPut-whole : {a b : List ℕ} (octets : List ℕ) (at n : ℕ) → length octets ≡ n → IsPut a b at (take n octets) → IsPut a b at octets
IsPut-whole {a} {b} octets at n size p = subst (λ (l : List ℕ). IsPut a b at l) (take_all n octets (omega (arith, size))) p

-- ---- what stands behind

pub behind-put_chunk : (room octets : List ℕ) (at n : ℕ) → length octets ≡ n → at + n ≤ length room → drop (at + n) (put_chunk at room octets) ≡ drop (at + n) room
behind-put_chunk room octets at n size fits =
    ap (drop (at + n)) (put_chunk_is at room octets (omega (arith, size)) ∙ sym (append_assoc (take at room) octets (drop (length octets) (drop at room))))
    ∙ drop_at (take at room ++ octets) (drop (length octets) (drop at room)) (at + n) (omega (arith, length-append (take at room) octets, length-take-le at room (omega arith), size))
    ∙ ap (λ (k : ℕ). drop k (drop at room)) size ∙ drop-drop n at room

pub behind-ends : (a b c : List ℕ) (at n all : ℕ) → n ≤ all → drop (at + n) b ≡ drop (at + n) a → drop (at + (all - n) + n) c ≡ drop (at + (all - n) + n) b
    → drop (at + all) c ≡ drop (at + all) a
behind-ends a b c at n all few p q =
    let end : at + (all - n) + n ≡ at + all = omega arith in
    let far : at + n + (all - n) ≡ at + all = omega arith in
    ap (λ (k : ℕ). drop k c) (sym end) ∙ q ∙ ap (λ (k : ℕ). drop k b) (end ∙ sym far) ∙ sym (drop-drop (all - n) (at + n) b)
    ∙ ap (drop (all - n)) p ∙ drop-drop (all - n) (at + n) a ∙ ap (λ (k : ℕ). drop k a) far

-- one octet that is written
pub IsPut-set : (room : List ℕ) (at octet : ℕ) → at < length room → IsPut room (slice_set room at octet) at (octet ∷ [])
IsPut-set room at octet within = record { front = take_more_set room at octet within; as_long = length-set room at octet }

-- what is written and doesn't count
pub IsPut-none : {a b xs : List ℕ} (at : ℕ) → at ≤ length a → IsPut a b at xs → IsPut a b at []
IsPut-none at within p = IsPut-less at 0 within (omega arith) p

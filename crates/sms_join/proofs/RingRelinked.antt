-- All keys linked anew, one after another.
use Rattle.std.proofs.Common.{◌≡◌, ℕ, zero, suc, length-append, ◌+◌, ◌-◌, ◌<◌, ◌≤◌, List, [], ◌∷◌, ◌++◌, take, length, get_or, replicate, bit_and, refl, sym, ap, ◌∙◌, subst, arith}
use Rattle.std.proofs.Math.ListN.{set, length-set}
use Rattle.std.proofs.lemmas.List.{get_or-replicate, take_more, take_all, length-take}
use Rattle.sms_join.specs.Inside.KeyRings.{entries, head_of, AreLinked, IsChained}
use Rattle.sms_join.proofs.RingPlaces.{AreBelow, free_past}
use Rattle.sms_join.proofs.RingTurns.{entries-push}
use Rattle.sms_join.proofs.RingPushed.{linked_set}

-- these keys are linked, among so many heads
pub record Relinked {K : Type 0} (hash : K → ℕ) (n : ℕ) (ks : List K) (next heads : List ℕ) : Type 0 where
  pub linked : AreLinked (head_of hash n) next heads (entries 0 ks)
  pub below : AreBelow (length ks) (entries 0 ks)
  pub many : length heads ≡ n
  pub few : length ks ≤ length next

below_more : {K : Type 0} (n m : ℕ) (es : List (ℕ × K)) → n ≤ m → AreBelow n es → AreBelow m es
below_more n m [] l b = tt
below_more n m (e ∷ es) l b = let here = b.0 in (omega arith, below_more n m es l b.1)

pub relinked_none : {K : Type 0} (hash : K → ℕ) (next heads : List ℕ) → heads ≡ replicate (length heads) 4294967295 → Relinked hash (length heads) [] next heads
relinked_none hash next heads none = record {
  linked = λ h l. ap (λ hs. get_or hs h 0) none ∙ get_or-replicate (length heads) h 4294967295 0 l;
  below = tt;
  many = refl;
  few = omega arith;
}

-- a key more
relinked_more : {K : Type 0} (hash : K → ℕ) (n : ℕ) (ks : List K) (next heads : List ℕ) (k : K) (q h : ℕ) → Relinked hash n ks next heads
    → q ≡ length ks → q < length next → h ≡ head_of hash n k → h < n
    → Relinked hash n (ks ++ k ∷ []) (set next q (get_or heads h 0)) (set heads h q)
relinked_more {K} hash n ks next heads k q h r q_is within is there =
    let many : length heads ≡ n = r.many in
    let are : entries 0 (ks ++ k ∷ []) ≡ (q, k) ∷ entries 0 ks = entries-push ks k ∙ ap (λ (m : ℕ). (m, k) ∷ entries 0 ks) (sym q_is) in
    let long : length (ks ++ k ∷ []) ≡ suc q = omega (arith, length-append ks (k ∷ [])) in
    let below : AreBelow q (entries 0 ks) = subst (λ (m : ℕ). AreBelow m (entries 0 ks)) (sym q_is) r.below in
    record {
      linked =
          subst (λ (es : List (ℕ × K)). AreLinked (head_of hash n) (set next q (get_or heads h 0)) (set heads h q) es) (sym are)
          (subst (λ (m : ℕ). AreLinked (head_of hash n) (set next q (get_or heads m 0)) (set heads m q) ((q, k) ∷ entries 0 ks)) (sym is)
          (linked_set (head_of hash n) next heads (entries 0 ks) q k r.linked (free_past q (entries 0 ks) below) within
          (subst (λ (m : ℕ). m < length heads) is (omega arith))));
      below =
          subst (λ (es : List (ℕ × K)). AreBelow (length (ks ++ k ∷ [])) es) (sym are)
          (omega (arith, long), below_more q (length (ks ++ k ∷ [])) (entries 0 ks) (omega (arith, long)) below);
      many = length-set heads h q ∙ many;
      few = omega (arith, long, length-set next q (get_or heads h 0));
    }

-- the one that is read at the next place
pub relinked_next : {K : Type 0} (hash : K → ℕ) (n : ℕ) (ks : List K) (next heads ns hs : List ℕ) (k : K) (q h m : ℕ) → Relinked hash n (take q ks) next heads
    → q < length ks → length next ≡ length ks → h ≡ bit_and (hash (get_or ks q k)) (m - 1) → h < m → m ≡ length heads
    → ns ≡ set next q (get_or heads h 0) → hs ≡ set heads h q → Relinked hash n (take (q + 1) ks) ns hs
relinked_next {K} hash n ks next heads ns hs k q h m r within all is there m_is ns_is hs_is =
    let many : length heads ≡ n = r.many in
    let shown : length (take q ks) ≡ q = omega (arith, length-take q ks) in
    subst (λ (l : List K). Relinked hash n l ns hs) (sym (take_more ks q k within))
    (subst (λ (l : List ℕ). Relinked hash n (take q ks ++ get_or ks q k ∷ []) l hs) (sym ns_is)
    (subst (λ (l : List ℕ). Relinked hash n (take q ks ++ get_or ks q k ∷ []) (set next q (get_or heads h 0)) l) (sym hs_is)
    (relinked_more hash n (take q ks) next heads (get_or ks q k) q h r (sym shown) (omega arith)
    (is ∙ ap (λ i. bit_and (hash (get_or ks q k)) (i - 1)) (m_is ∙ many)) (omega arith))))

pub relinked_all : {K : Type 0} (hash : K → ℕ) (n q : ℕ) (ks : List K) (next heads : List ℕ) → Relinked hash n (take q ks) next heads → length ks ≤ q
    → AreLinked (head_of hash n) next heads (entries 0 ks)
relinked_all {K} hash n q ks next heads r all =
    subst (λ (l : List K). AreLinked (head_of hash n) next heads (entries 0 l)) (take_all q ks all) r.linked

-- a ring whose places are linked anew
pub respread : {K : Type 0} {hash : K → ℕ} {limit oldest : ℕ} {ks : List K} {next heads : List ℕ} (i : IsChained hash limit oldest ks next heads)
    (ns hs : List ℕ) → oldest ≤ 0 → 0 < length hs → length ns ≡ length next → AreLinked (head_of hash (length hs)) ns hs (entries 0 ks)
    → IsChained hash limit oldest ks ns hs
respread {K} {hash} {limit} {oldest = suc o} i ns hs first some long linked = absurd (omega arith)
respread {K} {hash} {limit} {oldest = zero} i ns hs first some long linked = record {
  turns = i.turns;
  small = i.small;
  few = i.few;
  full = i.full;
  all_next = long ∙ i.all_next;
  some_heads = some;
  lie = i.lie;
  apart = i.apart;
  linked = linked;
}

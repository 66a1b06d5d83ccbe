-- A key more.
use Rattle.std.proofs.Common.{◌≡◌, ◌≢◌, ℕ, zero, suc, ◌+◌, ◌-◌, ◌<◌, ◌≤◌, Bool, true, false, cond, eqb, List, [], ◌∷◌, ◌++◌, take, drop, length, get_or, bit_and, refl, sym, ap, ◌∙◌, subst, arith, length-append}
use Rattle.std.proofs.Math.ListN.{set, length-set}
use Rattle.std.proofs.lemmas.List.{get_or-set_same, get_or-set_other, get_or_push, get_or_default, take_at}
use Rattle.std.proofs.lemmas.Bool.{eqb-true, eqb-false}
use Rattle.circular_buffer.specs.Buffer.{Buffer, buffer, keep_last}
use Rattle.sms_join.specs.Inside.KeyRings.{entries, newer, of_head, head_of, IsChain, LieIn, IsFree, LieApart, AreLinked, IsChained}
use Rattle.sms_join.proofs.RingPlaces.{below_from_lie, free_past, lie_push, lie_set, lie_front, apart_front, last_is_free, lie_of_head, free_of_head}
use Rattle.sms_join.proofs.RingChains.{chain_set, chain_more}
use Rattle.sms_join.proofs.RingTurns.{entries-push, entries_split, entries-turn}

-- a place in front of the chain of a head
linked_push : {K : Type 0} (head : K → ℕ) (ns heads : List ℕ) (es : List (ℕ × K)) (q : ℕ) (k : K) → ((h : ℕ) → h < length heads → IsChain ns (get_or heads h 0) (of_head head h es))
    → get_or ns q 0 ≡ get_or heads (head k) 0 → head k < length heads → AreLinked head ns (set heads (head k) q) ((q, k) ∷ es)
linked_push {K} head ns heads es q k chain leads there = λ h below. by_head h (omega (arith, below, length-set heads (head k) q)) (eqb (head k) h) refl
  where
    here : (get_or (set heads (head k) q) (head k) 0 ≡ q) × IsChain ns (get_or ns (get_or (set heads (head k) q) (head k) 0) 0) (of_head head (head k) es)
    here =
        let front : get_or (set heads (head k) q) (head k) 0 ≡ q = get_or-set_same heads (head k) q 0 there in
        let second : get_or ns (get_or (set heads (head k) q) (head k) 0) 0 ≡ get_or heads (head k) 0 = ap (λ (m : ℕ). get_or ns m 0) front ∙ leads in (
          front,
          subst (λ (m : ℕ). IsChain ns m (of_head head (head k) es)) (sym second) (chain (head k) there),
        )

    by_head : (h : ℕ) → h < length heads → (b : Bool) → eqb (head k) h ≡ b → IsChain ns (get_or (set heads (head k) q) h 0) (cond b ((q, k) ∷ of_head head h es) (of_head head h es))
    by_head h below true e =
        subst (λ (m : ℕ). IsChain ns (get_or (set heads (head k) q) m 0) ((q, k) ∷ of_head head m es)) (eqb-true (head k) h e) here
    by_head h below false e =
        let ne : head k ≢ h = eqb-false (head k) h e in
        subst (λ (m : ℕ). IsChain ns m (of_head head h es)) (sym (get_or-set_other heads (head k) h q 0 (λ i. ne (sym i)))) (chain h below)

-- the same at a free place
pub linked_set : {K : Type 0} (head : K → ℕ) (next heads : List ℕ) (es : List (ℕ × K)) (q : ℕ) (k : K) → AreLinked head next heads es → IsFree q es → q < length next → head k < length heads
    → AreLinked head (set next q (get_or heads (head k) 0)) (set heads (head k) q) ((q, k) ∷ es)
linked_set head next heads es q k l f within there =
    linked_push head (set next q (get_or heads (head k) 0)) heads es q k
    (λ h below. chain_set next q (get_or heads (head k) 0) (get_or heads h 0) (of_head head h es) (free_of_head head q h es f) (l h below))
    (get_or-set_same next q (get_or heads (head k) 0) 0 within) there

-- and at the next one
linked_more : {K : Type 0} (head : K → ℕ) (ks : List K) (next heads : List ℕ) (es : List (ℕ × K)) (q v : ℕ) (k : K) → AreLinked head next heads es → LieIn ks es → length ks ≤ length next → q ≡ length next
    → v ≡ get_or heads (head k) 0 → head k < length heads → AreLinked head (next ++ v ∷ []) (set heads (head k) q) ((q, k) ∷ es)
linked_more head ks next heads es q v k l lie room q_is v_is there =
    linked_push head (next ++ v ∷ []) heads es q k
    (λ h below. chain_more next v (get_or heads h 0) (of_head head h es) (below_from_lie ks (length next) (of_head head h es) room (lie_of_head head ks h es lie)) (l h below))
    (get_or_push next v 0 q (sym q_is) ∙ v_is) there

-- what a ring is then
chained_push : {K : Type 0} (hash : K → ℕ) (limit n : ℕ) (ms : List K) (ns heads hs : List ℕ) (q h : ℕ) (k : K) (rest : List (ℕ × K))
    → n < limit → limit < 4294967295 → length ms ≤ limit → (0 < n → length ms ≡ limit) → length ns ≡ length ms
    → entries n ms ≡ (q, k) ∷ rest → LieIn ms ((q, k) ∷ rest) → LieApart ((q, k) ∷ rest) → h < length heads → hs ≡ set heads h q
    → AreLinked (head_of hash (length heads)) ns (set heads h q) ((q, k) ∷ rest) → IsChained hash limit n ms ns hs
chained_push {K} hash limit n ms ns heads hs q h k rest turns small few full all_next are lie apart there hs_is linked = record {
  turns = turns;
  small = small;
  few = few;
  full = full;
  all_next = all_next;
  some_heads = omega (arith, as_many, there);
  lie = subst (LieIn ms) (sym are) lie;
  apart = subst LieApart (sym are) apart;
  linked =
      subst (λ (es : List (ℕ × K)). AreLinked (head_of hash (length hs)) ns hs es) (sym are)
      (subst (λ (m : ℕ). AreLinked (head_of hash m) ns hs ((q, k) ∷ rest)) (sym as_many)
      (subst (λ (l : List ℕ). AreLinked (head_of hash (length heads)) ns l ((q, k) ∷ rest)) (sym hs_is) linked));
}
  where
    as_many : length hs ≡ length heads
    as_many = ap (λ l. length l) hs_is ∙ length-set heads h q

-- where there is room, and the oldest is at the first place
at_first : {K : Type 0} {hash : K → ℕ} {limit : ℕ} {ks : List K} {next heads : List ℕ} (i : IsChained hash limit 0 ks next heads)
    (k : K) (q h n v : ℕ) (ms : List K) (ns hs : List ℕ) → length ks < limit → q ≡ length ks → h ≡ bit_and (hash k) (n - 1) → h < n → n ≡ length heads → v ≡ get_or heads h v
    → ms ≡ ks ++ k ∷ [] → ns ≡ next ++ v ∷ [] → hs ≡ set heads h q → IsChained hash limit 0 ms ns hs
at_first {K} {hash} {limit} {ks} {next} {heads} i k q h n v ms ns hs room q_is h_is below n_is v_is ms_is ns_is hs_is =
    chained_push hash limit 0 ms ns heads hs q h k (entries 0 ks) i.turns i.small (omega (arith, long)) (λ l. absurd (omega arith)) as_long are
    (omega (arith, long), at, subst (λ (l : List K). LieIn l (entries 0 ks)) (sym ms_is) (lie_push ks k (entries 0 ks) i.lie))
    (free_past q (entries 0 ks) (below_from_lie ks q (entries 0 ks) (omega arith) i.lie), i.apart)
    there hs_is
    (subst (λ (l : List ℕ). AreLinked (head_of hash (length heads)) l (set heads h q) ((q, k) ∷ entries 0 ks)) (sym ns_is)
    (subst (λ (m : ℕ). AreLinked (head_of hash (length heads)) (next ++ v ∷ []) (set heads m q) ((q, k) ∷ entries 0 ks)) (sym here)
    (linked_more (head_of hash (length heads)) ks next heads (entries 0 ks) q v k i.linked i.lie (omega arith) (omega arith) leads (subst (λ (m : ℕ). m < length heads) here there))))
  where
    all_next : length next ≡ length ks
    all_next = i.all_next

    long : length ms ≡ suc (length ks)
    long = omega (arith, ap (λ (l : List K). length l) ms_is, length-append ks (k ∷ []))

    as_long : length ns ≡ length ms
    as_long = omega (arith, long, ap (λ (l : List ℕ). length l) ns_is, length-append next (v ∷ []), all_next)

    are : entries 0 ms ≡ (q, k) ∷ entries 0 ks
    are = ap (entries 0) ms_is ∙ (entries-push ks k ∙ ap (λ (m : ℕ). (m, k) ∷ entries 0 ks) (sym q_is))

    at : get_or ms q k ≡ k
    at = ap (λ l. get_or l q k) ms_is ∙ get_or_push ks k k q (sym q_is)

    there : h < length heads
    there = omega arith

    here : h ≡ head_of hash (length heads) k
    here = h_is ∙ ap (λ m. bit_and (hash k) (m - 1)) n_is

    leads : v ≡ get_or heads (head_of hash (length heads) k) 0
    leads = v_is ∙ (get_or_default heads h v 0 there ∙ ap (λ m. get_or heads m 0) here)

-- where there is none
pub pushed_full : {K : Type 0} {hash : K → ℕ} {limit oldest : ℕ} {ks : List K} {next heads : List ℕ} (i : IsChained hash limit oldest ks next heads)
    (k : K) (h n o : ℕ) (ms : List K) (next' heads' ns hs : List ℕ) → limit ≤ length ks → h ≡ bit_and (hash k) (n - 1) → h < n → n ≡ length heads
    → AreLinked (head_of hash (length heads)) next' heads' (newer oldest ks) → length next' ≡ length next → length heads' ≡ length heads
    → ms ≡ set ks oldest k → o ≡ cond (eqb (oldest + 1) limit) 0 (oldest + 1) → ns ≡ set next' oldest (get_or heads' h 0) → hs ≡ set heads' h oldest
    → IsChained hash limit o ms ns hs
pushed_full {K} {hash} {limit} {oldest} {ks} {next} {heads} i k h n o ms next' heads' ns hs none h_is below n_is linked as_long as_many ms_is o_is ns_is hs_is =
    chained_push hash limit o ms ns heads' hs oldest h k (newer oldest ks) turned.0 i.small (omega (arith, long)) (λ l. long) all_next are
    (omega (arith, long), at, subst (λ (l : List K). LieIn l (newer oldest ks)) (sym ms_is) (lie_set ks oldest k (newer oldest ks) free lie))
    (free, apart) there hs_is
    (subst (λ (l : List ℕ). AreLinked (head_of hash (length heads')) l (set heads' h oldest) ((oldest, k) ∷ newer oldest ks)) (sym ns_is)
    (subst (λ (m : ℕ). AreLinked (head_of hash (length heads')) (set next' oldest (get_or heads' m 0)) (set heads' m oldest) ((oldest, k) ∷ newer oldest ks)) (sym here)
    (linked_set (head_of hash (length heads')) next' heads' (newer oldest ks) oldest k
    (subst (λ (m : ℕ). AreLinked (head_of hash m) next' heads' (newer oldest ks)) (sym as_many) linked) free (omega (arith, i.all_next)) (subst (λ (m : ℕ). m < length heads') here there))))
  where
    few : length ks ≤ limit
    few = i.few

    length_is : length ks ≡ limit
    length_is = omega arith

    turns : oldest < limit
    turns = i.turns

    turned : (o < limit) × (entries o (set ks oldest k) ≡ (oldest, k) ∷ newer oldest ks)
    turned = entries-turn limit oldest o ks k turns length_is o_is

    long : length ms ≡ limit
    long = ap (λ l. length l) ms_is ∙ (length-set ks oldest k ∙ length_is)

    all_next : length ns ≡ length ms
    all_next = ap (λ l. length l) ns_is ∙ (length-set next' oldest (get_or heads' h 0) ∙ (as_long ∙ (i.all_next ∙ (length_is ∙ sym long))))

    are : entries o ms ≡ (oldest, k) ∷ newer oldest ks
    are = ap (entries o) ms_is ∙ turned.1

    at : get_or ms oldest k ≡ k
    at = ap (λ l. get_or l oldest k) ms_is ∙ get_or-set_same ks oldest k k (omega arith)

    split : entries oldest ks ≡ newer oldest ks ++ (oldest, get_or ks oldest k) ∷ []
    split = entries_split oldest ks k (omega arith)

    lie : LieIn ks (newer oldest ks)
    lie = lie_front ks (newer oldest ks) ((oldest, get_or ks oldest k) ∷ []) (subst (LieIn ks) split i.lie)

    all_apart : LieApart (newer oldest ks ++ (oldest, get_or ks oldest k) ∷ [])
    all_apart = subst LieApart split i.apart

    apart : LieApart (newer oldest ks)
    apart = apart_front (newer oldest ks) ((oldest, get_or ks oldest k) ∷ []) all_apart

    free : IsFree oldest (newer oldest ks)
    free = last_is_free (newer oldest ks) (oldest, get_or ks oldest k) [] all_apart

    there : h < length heads'
    there = omega arith

    here : h ≡ head_of hash (length heads') k
    here = h_is ∙ ap (λ m. bit_and (hash k) (m - 1)) (n_is ∙ sym as_many)

-- where there is room, the oldest is at the first place
pub pushed_room : {K : Type 0} {hash : K → ℕ} {limit oldest : ℕ} {ks : List K} {next heads : List ℕ} (i : IsChained hash limit oldest ks next heads)
    (k : K) (q h n v : ℕ) (ms : List K) (ns hs : List ℕ) → length ks < limit → q ≡ length ks → h ≡ bit_and (hash k) (n - 1) → h < n → n ≡ length heads → v ≡ get_or heads h v
    → ms ≡ ks ++ k ∷ [] → ns ≡ next ++ v ∷ [] → hs ≡ set heads h q → IsChained hash limit oldest ms ns hs
pushed_room {K} {hash} {limit} {oldest = suc o} {ks} {next} {heads} i k q h n v ms ns hs room q_is h_is below n_is v_is ms_is ns_is hs_is =
    let full : length ks ≡ limit = i.full (omega arith) in absurd (omega arith)
pushed_room {K} {hash} {limit} {oldest = zero} {ks} {next} {heads} i k q h n v ms ns hs room q_is h_is below n_is v_is ms_is ns_is hs_is =
    at_first i k q h n v ms ns hs room q_is h_is below n_is v_is ms_is ns_is hs_is

-- a slice after it was lent
pub refilled : {X : Type 0} (n : ℕ) (xs ys : List X) → n ≡ length xs → length ys ≡ length xs → take n (ys ++ drop (length ys) xs) ≡ ys
refilled n xs ys long same = take_at ys (drop (length ys) xs) n (same ∙ sym long)

-- after `unlink`
pub unlinked : {K : Type 0} (hash : K → ℕ) (es : List (ℕ × K)) (heads dh ns next hs heads' : List ℕ) → dh ≡ heads → next ≡ ns → heads' ≡ hs
    → AreLinked (head_of hash (length dh)) ns hs es → AreLinked (head_of hash (length heads)) next heads' es
unlinked {K} hash es heads dh ns next hs heads' dh_is next_is heads_is l =
    subst (λ (m : List ℕ). AreLinked (head_of hash (length m)) next heads' es) dh_is
    (subst (λ (m : List ℕ). AreLinked (head_of hash (length dh)) m heads' es) (sym next_is)
    (subst (λ (m : List ℕ). AreLinked (head_of hash (length dh)) ns m es) (sym heads_is) l))

-- and after `link`
pub written_next : (n : ℕ) (next heads ns dn dh : List ℕ) (q h : ℕ) → n ≡ length next → dn ≡ next → dh ≡ heads → ns ≡ set dn q (get_or dh h 0)
    → take n (ns ++ drop (length ns) next) ≡ set next q (get_or heads h 0)
written_next n next heads ns dn dh q h long dn_is dh_is ns_is =
    let e : ns ≡ set next q (get_or heads h 0) = ns_is ∙ (ap (λ l. set l q (get_or dh h 0)) dn_is ∙ ap (λ l. set next q (get_or l h 0)) dh_is) in
    refilled n next ns long (ap (λ l. length l) e ∙ length-set next q (get_or heads h 0)) ∙ e

pub written_heads : (n : ℕ) (heads hs dh : List ℕ) (q h : ℕ) → n ≡ length heads → dh ≡ heads → hs ≡ set dh h q
    → take n (hs ++ drop (length hs) heads) ≡ set heads h q
written_heads n heads hs dh q h long dh_is hs_is =
    let e : hs ≡ set heads h q = hs_is ∙ ap (λ l. set l h q) dh_is in
    refilled n heads hs long (ap (λ l. length l) e ∙ length-set heads h q) ∙ e

-- the ring's own facts
pub same_capacity : {K : Type 0} (b c : Buffer K) (k : K) → c ≡ buffer (keep_last b.capacity (b.items ++ k ∷ [])) b.capacity → c.capacity ≡ b.capacity
same_capacity {K} b c k e = ap (λ (r : Buffer K). r.capacity) e

pub pushed_items : {K : Type 0} (b c : Buffer K) (k : K) → c ≡ buffer (keep_last b.capacity (b.items ++ k ∷ [])) b.capacity → c.items ≡ keep_last b.capacity (b.items ++ k ∷ [])
pushed_items {K} b c k e = ap (λ (r : Buffer K). r.items) e

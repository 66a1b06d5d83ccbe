-- How the oldest leaves the chain of its head.
use Rattle.std.proofs.Common.{◌≡◌, ◌≢◌, ℕ, suc, ◌<◌, ◌≤◌, Bool, true, false, eqb, List, [], ◌∷◌, ◌++◌, ◌-◌, bit_and, length, get_or, refl, sym, ap, ◌∙◌, subst, arith, length-append}
use Rattle.std.proofs.Math.ListN.{set, length-set}
use Rattle.std.proofs.lemmas.List.{append-nil, append_assoc, get_or_default, get_or-set_same, get_or-set_other}
use Rattle.std.proofs.lemmas.Bool.{eqb-true, eqb-false}
use Rattle.sms_join.specs.Inside.KeyRings.{entries, newer, head_of, of_head, IsChain, LieIn, IsFree, LieApart, AreLinked}
use Rattle.sms_join.proofs.RingPlaces.{AreBelow, HaveHead, below_from_lie, lie_front, lie_back, free_back, apart_front, last_is_free, free_of_head, apart_of_head, lie_of_head, length-of_head, have_head, have_back, of_head-last, of_head-others, free_elsewhere}
use Rattle.sms_join.proofs.RingChains.{left, left_is, chain_set, chain_end, chain_cut}
use Rattle.sms_join.proofs.RingTurns.{entries_split, length-entries}

-- the oldest, with its key, is the last of all
pub record Oldest {K : Type 0} (head : K → ℕ) (ks : List K) (next heads : List ℕ) (o : ℕ) (k : K) (rest : List (ℕ × K)) : Type 0 where
  pub lie : LieIn ks (rest ++ (o, k) ∷ [])
  pub apart : LieApart (rest ++ (o, k) ∷ [])
  pub linked : AreLinked head next heads (rest ++ (o, k) ∷ [])
  pub room : length ks ≤ length next
  pub small : length next ≤ 4294967295
  pub there : head k < length heads
  pub few : length rest < length next

oldest_of : {K : Type 0} (head : K → ℕ) (ks : List K) (next heads : List ℕ) (o : ℕ) (k : K) → o < length ks → k ≡ get_or ks o k
    → LieIn ks (entries o ks) → LieApart (entries o ks) → AreLinked head next heads (entries o ks) → length ks ≤ length next → length next < 4294967295 → head k < length heads
    → Oldest head ks next heads o k (newer o ks)
oldest_of {K} head ks next heads o k within at lie apart linked room small there =
    let split : entries o ks ≡ newer o ks ++ (o, k) ∷ [] = entries_split o ks k within ∙ ap (λ x. newer o ks ++ (o, x) ∷ []) (sym at) in
    record {
      lie = subst (LieIn ks) split lie;
      apart = subst LieApart split apart;
      linked = subst (λ (es : List (ℕ × K)). AreLinked head next heads es) split linked;
      room = room;
      small = omega arith;
      there = there;
      few =
          omega (
            arith,
            length-entries o ks,
            ap (λ (es : List (ℕ × K)). length es) split,
            length-append (newer o ks) ((o, k) ∷ []),
          );
    }

-- the same of the hashes of a ring
pub oldest_in : (hs next heads : List ℕ) (o h : ℕ) → o < length hs → LieIn hs (entries o hs) → LieApart (entries o hs)
    → AreLinked (head_of (λ (hash : ℕ). hash) (length heads)) next heads (entries o hs) → length hs ≤ length next → length next < 4294967295
    → h ≡ bit_and (get_or hs o 0) (length heads - 1) → h < length heads
    → Oldest (head_of (λ (hash : ℕ). hash) (length heads)) hs next heads o (get_or hs o 0) (newer o hs)
oldest_in hs next heads o h within lie apart linked room small is there =
    oldest_of (head_of (λ (hash : ℕ). hash) (length heads)) hs next heads o (get_or hs o 0) within (get_or_default hs o 0 (get_or hs o 0) within) lie apart linked room small
    (subst (λ (n : ℕ). n < length heads) is there)

-- how far the chain was followed
pub record Walked {K : Type 0} (next : List ℕ) (all : List (ℕ × K)) (o p : ℕ) : Type 0 where
  pub before : List (ℕ × K)
  pub here : ℕ × K
  pub after : List (ℕ × K)
  pub key : K
  pub parts : all ≡ before ++ here ∷ after
  pub chain : IsChain next p (here ∷ (after ++ (o, key) ∷ []))

below_append : {K : Type 0} (n : ℕ) (es : List (ℕ × K)) (e : ℕ × K) → AreBelow n es → e.0 < n → AreBelow n (es ++ e ∷ [])
below_append n [] e b l = (l, tt)
below_append n (x ∷ xs) e b l = (b.0, below_append n xs e b.1 l)

module _ {K : Type 0} {head : K → ℕ} {ks : List K} {next heads : List ℕ} {o : ℕ} {k : K} {rest : List (ℕ × K)} (r : Oldest head ks next heads o k rest) where
  abbrev all : List (ℕ × K)
  all = of_head head (head k) rest

  whole : IsChain next (get_or heads (head k) 0) (all ++ (o, k) ∷ [])
  whole =
      subst (λ (es : List (ℕ × K)). IsChain next (get_or heads (head k) 0) es) (of_head-last head (head k) rest (o, k) refl) (r.linked (head k) r.there)

  others : (h : ℕ) → h < length heads → head k ≢ h → IsChain next (get_or heads h 0) (of_head head h rest)
  others h l ne =
      subst (λ (es : List (ℕ × K)). IsChain next (get_or heads h 0) es) (of_head-others head h rest (o, k) ne ∙ append-nil (of_head head h rest)) (r.linked h l)

  none : get_or next o 0 ≡ 4294967295
  none = chain_end next (get_or heads (head k) 0) all (o, k) whole

  free : IsFree o all
  free = free_of_head head o (head k) rest (last_is_free rest (o, k) [] r.apart)

  lie_all : LieIn ks all
  lie_all = lie_of_head head ks (head k) rest (lie_front ks rest ((o, k) ∷ []) r.lie)

  -- where it is the first of its chain, it is alone
  alone : (p : ℕ) (es : List (ℕ × K)) → IsChain next p (es ++ (o, k) ∷ []) → IsFree o es → p ≡ o → es ≡ []
  alone p [] c f i = refl
  alone p (e ∷ es) c f i = absurd (f.0 (sym i ∙ c.0))

  pub unlinked_front : get_or heads (head k) 0 ≡ o → AreLinked head next (set heads (head k) (get_or next o 0)) rest
  unlinked_front first = λ h l. by_head h (omega (arith, l, length-set heads (head k) (get_or next o 0))) (eqb (head k) h) refl
    where
      v : ℕ
      v = get_or next o 0

      here : IsChain next (get_or (set heads (head k) (get_or next o 0)) (head k) 0) all
      here =
          subst (λ (es : List (ℕ × K)). IsChain next (get_or (set heads (head k) (get_or next o 0)) (head k) 0) es)
          (sym (alone (get_or heads (head k) 0) all whole free first)) (get_or-set_same heads (head k) (get_or next o 0) 0 r.there ∙ none)

      by_head : (h : ℕ) → h < length heads → (b : Bool) → eqb (head k) h ≡ b → IsChain next (get_or (set heads (head k) (get_or next o 0)) h 0) (of_head head h rest)
      by_head h l true e =
          subst (λ (m : ℕ). IsChain next (get_or (set heads (head k) (get_or next o 0)) m 0) (of_head head m rest)) (eqb-true (head k) h e) here
      by_head h l false e =
          let ne : head k ≢ h = eqb-false (head k) h e in
          subst (λ (m : ℕ). IsChain next m (of_head head h rest)) (sym (get_or-set_other heads (head k) h (get_or next o 0) 0 (λ i. ne (sym i)))) (others h l ne)

  -- the walk to the one before it
  pub walked_first : get_or heads (head k) 0 ≢ o → Walked next all o (get_or heads (head k) 0)
  walked_first some = by_all all whole
    where
      by_all : (es : List (ℕ × K)) → IsChain next (get_or heads (head k) 0) (es ++ (o, k) ∷ []) → Walked next es o (get_or heads (head k) 0)
      by_all [] c = absurd (some c.0)
      by_all (e ∷ es) c = record {
        before = [];
        here = e;
        after = es;
        key = k;
        parts = refl;
        chain = c;
      }

  module _ (p : ℕ) (w : Walked next all o p) where
    lie_here : LieIn ks (w.here ∷ w.after)
    lie_here = lie_back ks w.before (w.here ∷ w.after) (subst (LieIn ks) w.parts lie_all)

    pub walked_within : (p < length ks) × (p < length next)
    walked_within =
        let i : p ≡ w.here.0 = w.chain.0 in let l : w.here.0 < length ks = lie_here.0 in let room = r.room in (omega arith, omega arith)

    pub walked_measure : left (length next) next p ≡ suc (suc (length w.after))
    walked_measure =
        let below : AreBelow (length next) (w.here ∷ w.after) = below_from_lie ks (length next) (w.here ∷ w.after) r.room lie_here in
        let within : o < length ks = (lie_back ks rest ((o, k) ∷ []) r.lie).0 in
        let room = r.room in
        let few = r.few in
        let shown : length (w.after ++ (o, w.key) ∷ []) ≡ suc (length w.after) = omega (arith, length-append w.after ((o, w.key) ∷ [])) in
        let fits : suc (length (w.after ++ (o, w.key) ∷ [])) ≤ length next =
        omega (
          arith,
          shown,
          length-of_head head (head k) rest,
          ap (λ (es : List (ℕ × K)). length es) w.parts,
          length-append w.before (w.here ∷ w.after),
        ) in
        left_is (length next) next p (w.here ∷ (w.after ++ (o, w.key) ∷ [])) r.small w.chain
        (below.0, below_append (length next) w.after (o, w.key) below.1 (omega arith)) fits
        ∙ ap suc shown

    step : get_or next p 0 ≢ o → (u : Walked next all o (get_or next p 0)) × (suc (length u.after) ≡ length w.after)
    step other = by_after w.after w.parts w.chain.1
      where
        by_after : (es : List (ℕ × K)) → all ≡ w.before ++ w.here ∷ es → IsChain next (get_or next p 0) (es ++ (o, w.key) ∷ [])
            → (u : Walked next all o (get_or next p 0)) × (suc (length u.after) ≡ length es)
        by_after [] q c = absurd (other c.0)
        by_after (e ∷ es) q c = (
          record {
            before = w.before ++ w.here ∷ [];
            here = e;
            after = es;
            key = w.key;
            parts = q ∙ sym (append_assoc w.before (w.here ∷ []) (e ∷ es));
            chain = c;
          },
          refl,
        )

    last : get_or next p 0 ≡ o → all ≡ w.before ++ w.here ∷ []
    last end = by_after w.after w.parts w.chain.1
      where
        by_after : (es : List (ℕ × K)) → all ≡ w.before ++ w.here ∷ es → IsChain next (get_or next p 0) (es ++ (o, w.key) ∷ []) → all ≡ w.before ++ w.here ∷ []
        by_after [] q c = q
        by_after (e ∷ es) q c =
            let f : IsFree o (w.here ∷ e ∷ es) = free_back o w.before (w.here ∷ e ∷ es) (subst (IsFree o) q free) in
            absurd (f.1.0 (sym end ∙ c.0))

    -- and it is cut off there
    pub unlinked_last : get_or next p 0 ≡ o → AreLinked head (set next p (get_or next o 0)) heads rest
    unlinked_last end = λ h l. by_head h l (eqb (head k) h) refl
      where
        parts : all ≡ w.before ++ w.here ∷ []
        parts = last end

        at : p ≡ w.here.0
        at = w.chain.0

        chain : IsChain next (get_or heads (head k) 0) (w.before ++ w.here ∷ (o, k) ∷ [])
        chain =
            subst (λ (es : List (ℕ × K)). IsChain next (get_or heads (head k) 0) es)
            (ap (λ es. es ++ (o, k) ∷ []) parts ∙ append_assoc w.before (w.here ∷ []) ((o, k) ∷ [])) whole

        apart : IsFree w.here.0 w.before
        apart = last_is_free w.before w.here [] (subst LieApart parts (apart_of_head head (head k) rest (apart_front rest ((o, k) ∷ []) r.apart)))

        cut : IsChain (set next w.here.0 (get_or next o 0)) (get_or heads (head k) 0) (w.before ++ w.here ∷ [])
        cut = chain_cut next (get_or heads (head k) 0) (get_or next o 0) w.before w.here ((o, k) ∷ []) none (subst (λ (m : ℕ). m < length next) at walked_within.1) apart chain

        own : IsChain (set next p (get_or next o 0)) (get_or heads (head k) 0) all
        own =
            subst (λ (es : List (ℕ × K)). IsChain (set next p (get_or next o 0)) (get_or heads (head k) 0) es) (sym parts)
            (subst (λ (m : ℕ). IsChain (set next m (get_or next o 0)) (get_or heads (head k) 0) (w.before ++ w.here ∷ [])) (sym at) cut)

        has_head : head w.here.1 ≡ head k
        has_head = (have_back head (head k) w.before (w.here ∷ []) (subst (λ (es : List (ℕ × K)). HaveHead head (head k) es) parts (have_head head (head k) rest))).0

        elsewhere : (h : ℕ) → head k ≢ h → IsFree p (of_head head h rest)
        elsewhere h ne =
            free_elsewhere head ks p h w.here.1 rest walked_within.0 (ap (λ (m : ℕ). get_or ks m w.here.1) at ∙ lie_here.1) (λ i. ne (sym has_head ∙ i))
            (lie_front ks rest ((o, k) ∷ []) r.lie)

        by_head : (h : ℕ) → h < length heads → (b : Bool) → eqb (head k) h ≡ b → IsChain (set next p (get_or next o 0)) (get_or heads h 0) (of_head head h rest)
        by_head h l true e =
            subst (λ (m : ℕ). IsChain (set next p (get_or next o 0)) (get_or heads m 0) (of_head head m rest)) (eqb-true (head k) h e) own
        by_head h l false e =
            let ne : head k ≢ h = eqb-false (head k) h e in
            chain_set next p (get_or next o 0) (get_or heads h 0) (of_head head h rest) (elsewhere h ne) (others h l ne)

  pub walked_next : (p : ℕ) (w : Walked next all o p) → get_or next p 0 ≢ o
      → Walked next all o (get_or next p 0) × (suc (left (length next) next (get_or next p 0)) ≤ left (length next) next p)
  walked_next p w other =
      let u = step p w other in
      let before = walked_measure p w in
      let after = walked_measure (get_or next p 0) u.0 in
      let shorter : suc (length u.0.after) ≡ length w.after = u.1 in
      (u.0, omega (arith, before, after, shorter))

-- the same where the head is known by another name
module _ {K : Type 0} {head : K → ℕ} {ks : List K} {next heads : List ℕ} {o : ℕ} {k : K} {rest : List (ℕ × K)} (r : Oldest head ks next heads o k rest) (h : ℕ) (i : h ≡ head k) where
  pub front_at : get_or heads h 0 ≡ o → AreLinked head next (set heads h (get_or next o 0)) rest
  front_at =
      subst (λ (m : ℕ). get_or heads m 0 ≡ o → AreLinked head next (set heads m (get_or next o 0)) rest) (sym i) (unlinked_front r)

  pub first_at : get_or heads h 0 ≢ o → Walked next (of_head head h rest) o (get_or heads h 0)
  first_at =
      subst (λ (m : ℕ). get_or heads m 0 ≢ o → Walked next (of_head head m rest) o (get_or heads m 0)) (sym i) (walked_first r)

  pub within_at : (p : ℕ) → Walked next (of_head head h rest) o p → (p < length ks) × (p < length next)
  within_at p =
      subst (λ (m : ℕ). Walked next (of_head head m rest) o p → (p < length ks) × (p < length next)) (sym i) (walked_within r p)

  pub next_at : (p : ℕ) → Walked next (of_head head h rest) o p → get_or next p 0 ≢ o
      → Walked next (of_head head h rest) o (get_or next p 0) × (suc (left (length next) next (get_or next p 0)) ≤ left (length next) next p)
  next_at p =
      subst (λ (m : ℕ). Walked next (of_head head m rest) o p → get_or next p 0 ≢ o → Walked next (of_head head m rest) o (get_or next p 0) × (suc (left (length next) next (get_or next p 0)) ≤ left (length next) next p))
      (sym i) (walked_next r p)

  pub last_at : (p : ℕ) → Walked next (of_head head h rest) o p → get_or next p 0 ≡ o → AreLinked head (set next p (get_or next o 0)) heads rest
  last_at p =
      subst (λ (m : ℕ). Walked next (of_head head m rest) o p → get_or next p 0 ≡ o → AreLinked head (set next p (get_or next o 0)) heads rest) (sym i) (unlinked_last r p)

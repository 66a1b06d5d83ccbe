-- How a key is found in the chain of its head.
use Rattle.std.proofs.Common.{◌≡◌, ◌≢◌, ℕ, suc, ◌-◌, ◌<◌, ◌≤◌, bit_and, Bool, true, false, cond, eqb, ltb, ◌&&◌, ◌||◌, List, [], ◌∷◌, length, get_or, refl, sym, ap, ◌∙◌, subst, arith}
use Rattle.std.proofs.lemmas.List.{get_or_default}
use Rattle.std.proofs.lemmas.Bool.{eqb-false, and_parts, lt-ltb, ltb-true}
use Rattle.sms_join.specs.declared.key.Key.{Key}
use Rattle.sms_join.specs.Key.{same_key}
use Rattle.sms_join.specs.Inside.KeyRings.{laid, came_after, entries, of_head, head_of, IsChain, LieIn, IsChained}
use Rattle.sms_join.proofs.SameKeys.{same_key_true}
use Rattle.sms_join.proofs.RingPlaces.{AreBelow, below_from_lie, lie_of_head, length-of_head}
use Rattle.sms_join.proofs.RingChains.{left, left_is}
use Rattle.sms_join.proofs.RingTurns.{length-entries}

-- the key is the one that is asked for, and at its place among the last so many
pub record Asked : Type 0 where
  pub key : Key
  pub last : ℕ
  pub after : ℕ → ℕ

-- among the last so many of a ring
abbrev pub asked : Key → ℕ → ℕ → List Key → Asked
asked key last oldest ks = record { key = key; last = last; after = came_after oldest (length (laid oldest ks)) }

abbrev pub is_met : Asked → ℕ × Key → Bool
is_met a e = same_key e.1 a.key && ltb (a.after e.0) a.last

abbrev pub any_met : Asked → List (ℕ × Key) → Bool
any_met a [] = false
any_met a (e ∷ es) = is_met a e || any_met a es

-- the key at a place is the one that is asked for, and came last enough
pub met_both : (a : Asked) (p : ℕ) (x : Key) (n : ℕ) → same_key x a.key ≡ true → n ≡ a.after p → n < a.last → is_met a (p, x) ≡ true
met_both a p x n same at late =
    ap (λ b. b && ltb (a.after p) a.last) same ∙ (ap (λ m. ltb m a.last) (sym at) ∙ lt-ltb n a.last late)

-- it came too early
pub met_early : (a : Asked) (p : ℕ) (x : Key) (n : ℕ) → n ≡ a.after p → a.last ≤ n → is_met a (p, x) ≡ false
met_early a p x n at early = ap (λ m. same_key x a.key && ltb m a.last) (sym at) ∙ sym (go (same_key x a.key) (ltb n a.last) refl)
  where
    go : (b c : Bool) → ltb n a.last ≡ c → false ≡ (b && c)
    go b true e = let k = ltb-true n a.last e in absurd (omega arith)
    go true false e = refl
    go false false e = refl

-- it is another one
pub met_other : (a : Asked) (p : ℕ) (x : Key) → same_key x a.key ≡ false → is_met a (p, x) ≡ false
met_other a p x other = ap (λ b. b && ltb (a.after p) a.last) other

-- it has another hash
pub met_elsewhere : (hash : Key → ℕ) (a : Asked) (p : ℕ) (x : Key) (own asked : ℕ) → own ≡ hash x → asked ≡ hash a.key → own ≢ asked → is_met a (p, x) ≡ false
met_elsewhere hash a p x own asked own_is asked_is other = go (same_key x a.key) refl
  where
    go : (b : Bool) → same_key x a.key ≡ b → is_met a (p, x) ≡ false
    go true e = absurd (other (own_is ∙ (ap hash (same_key_true x a.key e) ∙ sym asked_is)))
    go false e = met_other a p x e

module _ (head : Key → ℕ) (k : Asked) where
  -- a key that is the same has the same head
  found_step : (e : ℕ × Key) (os : List (ℕ × Key)) (r s b : Bool) → is_met k e ≡ s → eqb (head e.1) (head k.key) ≡ b
      → r ≡ any_met k os → (s || r) ≡ any_met k (cond b (e ∷ os) os)
  found_step e os r s true i j q = ap (λ a. a || r) (sym i) ∙ ap (λ a. is_met k e || a) q
  found_step e os r false false i j q = q
  found_step e os r true false i j q =
      absurd (eqb-false (head e.1) (head k.key) j (ap head (same_key_true e.1 k.key (and_parts (same_key e.1 k.key) (ltb (k.after e.0) k.last) i).0)))

  pub found_of_head : (es : List (ℕ × Key)) → any_met k es ≡ any_met k (of_head head (head k.key) es)
  found_of_head [] = refl
  found_of_head (e ∷ es) = found_step e (of_head head (head k.key) es) (any_met k es) (is_met k e) (eqb (head e.1) (head k.key)) refl refl (found_of_head es)

-- what is left to look through
pub record Sought (ks : List Key) (next : List ℕ) (answer : Bool) (k : Asked) (p : ℕ) : Type 0 where
  pub rest : List (ℕ × Key)
  pub chain : IsChain next p rest
  pub lie : LieIn ks rest
  pub few : length rest ≤ length next
  pub asks : answer ≡ any_met k rest

module _ (ks : List Key) (next : List ℕ) (answer : Bool) (k : Asked) (room : length ks ≤ length next) (small : length next ≤ 4294967295) where
  pub sought_measure : (p : ℕ) (s : Sought ks next answer k p) → left (length next) next p ≡ length s.rest
  sought_measure p s = left_is (length next) next p s.rest small s.chain (below_from_lie ks (length next) s.rest room s.lie) s.few

  -- at the end
  pub sought_none : (p : ℕ) → Sought ks next answer k p → p ≡ 4294967295 → answer ≡ false
  sought_none p s none = by_rest s.rest s.chain (below_from_lie ks (length next) s.rest room s.lie) s.asks
    where
      by_rest : (es : List (ℕ × Key)) → IsChain next p es → AreBelow (length next) es → answer ≡ any_met k es → answer ≡ false
      by_rest [] c b q = q
      by_rest (e ∷ es) c b q = let i : p ≡ e.0 = c.0 in let j : e.0 < length next = b.0 in absurd (omega arith)

  -- one further
  pub record Turn (p : ℕ) (n : ℕ) : Type 0 where
    pub key : Key
    pub within : p < length ks
    pub at : get_or ks p key ≡ key
    pub asks : (b : Bool) → is_met k (p, key) ≡ b → (b ≡ true → answer ≡ true) × (b ≡ false → (s : Sought ks next answer k (get_or next p 0)) × (suc (length s.rest) ≡ n))

  pub sought_turn : (p : ℕ) → (s : Sought ks next answer k p) → p ≢ 4294967295 → Turn p (length s.rest)
  sought_turn p s some = by_rest s.rest s.chain s.lie s.few s.asks
    where
      by_rest : (es : List (ℕ × Key)) → IsChain next p es → LieIn ks es → length es ≤ length next → answer ≡ any_met k es → Turn p (length es)
      by_rest [] c l f q = absurd (some c)
      by_rest (e ∷ es) c l f q = record {
        key = e.1;
        within = subst (λ (m : ℕ). m < length ks) (sym c.0) l.0;
        at = ap (λ (m : ℕ). get_or ks m e.1) c.0 ∙ l.1;
        asks = λ b i. (
          λ j. q ∙ ap (λ a. a || any_met k es) (here c.0 ∙ (i ∙ j)),
          λ j. (
            record {
              rest = es;
              chain = c.1;
              lie = l.2;
              few = omega arith;
              asks = q ∙ ap (λ a. a || any_met k es) (here c.0 ∙ (i ∙ j));
            },
            refl,
          ),
        );
      }
        where
          here : p ≡ e.0 → is_met k e ≡ is_met k (p, e.1)
          here at = ap (λ (n : ℕ). is_met k (n, e.1)) (sym at)

-- at the front of the chain
module _ (hash : Key → ℕ) (limit oldest : ℕ) (ks : List Key) (next heads : List ℕ) (i : IsChained hash limit oldest ks next heads) where
  pub sought_first : (answer : Bool) (k : Asked) (h n p : ℕ) → answer ≡ any_met k (entries oldest ks)
      → h ≡ bit_and (hash k.key) (n - 1) → h < n → n ≡ length heads → p ≡ get_or heads h p → Sought ks next answer k p
  sought_first answer k h n p asks is below as_many at =
      let head : Key → ℕ = head_of hash (length heads) in
      let here : h ≡ head k.key = is ∙ ap (λ m. bit_and (hash k.key) (m - 1)) as_many in
      let l : h < length heads = omega arith in
      let first : p ≡ get_or heads h 0 = at ∙ get_or_default heads h p 0 l in
      record {
        rest = of_head head (head k.key) (entries oldest ks);
        chain = subst (λ (m : ℕ). IsChain next m (of_head head (head k.key) (entries oldest ks))) (sym (first ∙ ap (λ m. get_or heads m 0) here))
            (i.linked (head k.key) (subst (λ (m : ℕ). m < length heads) here l));
        lie = lie_of_head head ks (head k.key) (entries oldest ks) i.lie;
        few = let f = i.few in let a = i.all_next in omega (arith, length-of_head head (head k.key) (entries oldest ks), length-entries oldest ks);
        asks = asks ∙ found_of_head head k (entries oldest ks);
      }

-- on the way along it
module _ {hash : Key → ℕ} {limit oldest : ℕ} {ks : List Key} {next heads : List ℕ} (i : IsChained hash limit oldest ks next heads)
    (answer : Bool) (k : Asked) (p : ℕ) (s : Sought ks next answer k p) where
  room : length ks ≤ length next
  room = let f = i.few in let a = i.all_next in omega arith

  small : length next ≤ 4294967295
  small = let f = i.small in let a = i.all_next in omega arith

  pub sought_within : p ≢ 4294967295 → (p < length ks) × (p < length next)
  sought_within some =
      let t = sought_turn ks next answer k room small p s some in let w : p < length ks = t.within in let r = room in (w, omega arith)

  read_same : (some : p ≢ 4294967295) (x : Key) → x ≡ get_or ks p x → (sought_turn ks next answer k room small p s some).key ≡ x
  read_same some x at =
      let t = sought_turn ks next answer k room small p s some in
      sym (at ∙ (get_or_default ks p x t.key t.within ∙ t.at))

  pub sought_found : p ≢ 4294967295 → (x : Key) → x ≡ get_or ks p x → is_met k (p, x) ≡ true → true ≡ answer
  sought_found some x at found =
      let t = sought_turn ks next answer k room small p s some in
      sym ((t.asks true (ap (λ (y : Key). is_met k (p, y)) (read_same some x at) ∙ found)).0 refl)

  pub sought_next : p ≢ 4294967295 → (x : Key) → x ≡ get_or ks p x → is_met k (p, x) ≡ false → (n : ℕ) → n ≡ get_or next p n
      → Sought ks next answer k n × (suc (left (length next) next n) ≤ left (length next) next p)
  sought_next some x at missed n read =
      let t = sought_turn ks next answer k room small p s some in
      let u = (t.asks false (ap (λ (y : Key). is_met k (p, y)) (read_same some x at) ∙ missed)).1 refl in
      let w : p < length next = (sought_within some).1 in
      let here : get_or next p 0 ≡ n = sym (read ∙ get_or_default next p n 0 w) in
      let before : left (length next) next p ≡ length s.rest = sought_measure ks next answer k room small p s in
      let after : left (length next) next (get_or next p 0) ≡ length u.0.rest = sought_measure ks next answer k room small (get_or next p 0) u.0 in
      let shorter : suc (length u.0.rest) ≡ length s.rest = u.1 in (
        subst (λ (m : ℕ). Sought ks next answer k m) here u.0,
        subst (λ (m : ℕ). suc (left (length next) next m) ≤ left (length next) next p) here (omega (arith, before, after, shorter)),
      )

  pub sought_end : p ≡ 4294967295 → false ≡ answer
  sought_end none = sym (sought_none ks next answer k room small p s none)

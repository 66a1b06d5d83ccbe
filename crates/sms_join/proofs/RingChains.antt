-- Following `next` from a place.
use Rattle.std.proofs.Common.{◌≡◌, ℕ, zero, suc, ◌<◌, ◌≤◌, Bool, true, false, cond, ltb, List, [], ◌∷◌, ◌++◌, length, get_or, refl, sym, ap, ◌∙◌, subst, arith}
use Rattle.std.proofs.Math.ListN.{set}
use Rattle.std.proofs.lemmas.List.{get_or-set_same, get_or-set_other, get_or_append_left}
use borrow.Author.Tests.{lt-ltb, ltb-true}
use Rattle.sms_join.specs.Inside.KeyRings.{IsChain, IsFree}
use Rattle.sms_join.proofs.RingPlaces.{AreBelow}

-- a measure: how many places are left, where there are no more than this
abbrev pub left : ℕ → List ℕ → ℕ → ℕ
left zero next p = 0
left (suc n) next p = cond (ltb p (length next)) (suc (left n next (get_or next p 0))) 0

none_below : (b : Bool) (p n m : ℕ) → ltb p n ≡ b → n ≤ p → cond b m 0 ≡ 0
none_below true p n m h l = let lt = ltb-true p n h in absurd (omega arith)
none_below false p n m h l = refl

module _ {K : Type 0} where
  pub left_is : (n : ℕ) (next : List ℕ) (p : ℕ) (es : List (ℕ × K)) → length next ≤ 4294967295
      → IsChain next p es → AreBelow (length next) es → length es ≤ n → left n next p ≡ length es
  left_is zero next p [] s c b l = refl
  left_is zero next p (e ∷ es) s c b l = absurd (omega arith)
  left_is (suc n) next p [] s c b l =
      none_below (ltb p (length next)) p (length next) (suc (left n next (get_or next p 0))) refl (let h : p ≡ 4294967295 = c in omega arith)
  left_is (suc n) next p (e ∷ es) s c b l =
      let r = left_is n next (get_or next p 0) es s c.1 b.1 (omega arith) in
      let lt : p < length next = (let i : p ≡ e.0 = c.0 in let j : e.0 < length next = b.0 in omega arith) in
      ap (λ t. cond t (suc (left n next (get_or next p 0))) 0) (lt-ltb p (length next) lt) ∙ ap suc r

  -- a write elsewhere
  pub chain_set : (next : List ℕ) (q v p : ℕ) (es : List (ℕ × K)) → IsFree q es → IsChain next p es → IsChain (set next q v) p es
  chain_set next q v p [] f c = c
  chain_set next q v p (e ∷ es) f c =
      let stays : get_or (set next q v) p 0 ≡ get_or next p 0 = get_or-set_other next q p v 0 (λ i. f.0 (sym i ∙ c.0)) in
      (c.0, subst (λ (m : ℕ). IsChain (set next q v) m es) (sym stays) (chain_set next q v (get_or next p 0) es f.1 c.1))

  -- a place more
  pub chain_more : (next : List ℕ) (v p : ℕ) (es : List (ℕ × K)) → AreBelow (length next) es → IsChain next p es → IsChain (next ++ v ∷ []) p es
  chain_more next v p [] b c = c
  chain_more next v p (e ∷ es) b c =
      let within : p < length next = (let i : p ≡ e.0 = c.0 in let j : e.0 < length next = b.0 in omega arith) in
      let stays : get_or (next ++ v ∷ []) p 0 ≡ get_or next p 0 = get_or_append_left next (v ∷ []) 0 p within in
      (c.0, subst (λ (m : ℕ). IsChain (next ++ v ∷ []) m es) (sym stays) (chain_more next v (get_or next p 0) es b.1 c.1))

  -- what the last one's next is
  pub chain_end : (next : List ℕ) (p : ℕ) (ls : List (ℕ × K)) (e : ℕ × K) → IsChain next p (ls ++ e ∷ []) → get_or next e.0 0 ≡ 4294967295
  chain_end next p [] e c = ap (λ (m : ℕ). get_or next m 0) (sym c.0) ∙ c.1
  chain_end next p (a ∷ ls) e c = chain_end next (get_or next p 0) ls e c.1

  -- a chain without its last
  pub chain_cut : (next : List ℕ) (p v : ℕ) (ls : List (ℕ × K)) (a : ℕ × K) (bs : List (ℕ × K)) → v ≡ 4294967295 → a.0 < length next
      → IsFree a.0 ls → IsChain next p (ls ++ a ∷ bs) → IsChain (set next a.0 v) p (ls ++ a ∷ [])
  chain_cut next p v [] a bs none l f c =
      (c.0, ap (λ (m : ℕ). get_or (set next a.0 v) m 0) c.0 ∙ (get_or-set_same next a.0 v 0 l ∙ none))
  chain_cut next p v (b ∷ ls) a bs none l f c =
      let stays : get_or (set next a.0 v) p 0 ≡ get_or next p 0 = get_or-set_other next a.0 p v 0 (λ i. f.0 (sym i ∙ c.0)) in
      (c.0, subst (λ (m : ℕ). IsChain (set next a.0 v) m (ls ++ a ∷ [])) (sym stays) (chain_cut next (get_or next p 0) v ls a bs none l f.1 c.1))

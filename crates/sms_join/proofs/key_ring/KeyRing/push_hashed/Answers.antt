use Rattle.std.proofs.Common.{◌≡◌, ℕ, ◌+◌, ◌*◌, ◌≤◌, ◌<◌, cond, eqb, List, [], ◌∷◌, ◌++◌, take, drop, length, reverse, refl, sym, ap, ◌∙◌, subst, arith}
use Rattle.std.proofs.Math.ListN.{set}
use Rattle.sms_join.specs.declared.hashing.Hashing.{Hashing}
use Rattle.sms_join.specs.declared.key.Key.{Key}
use Rattle.sms_join.specs.Inside.LastKeys.{HashedKeysValue}
use Rattle.sms_join.specs.Inside.KeyHashes.{hash_of}
use Rattle.sms_join.specs.Inside.KeyRings.{newer, head_of, IsChained, AreLinked}
use Rattle.sms_join.proofs.Places.{ring_pushed}
use Rattle.sms_join.proofs.RingHashes.{as_many_hashes, hashes-push, hashes-turn}
use Rattle.sms_join.proofs.RingPushed.{pushed_room, pushed_full, refilled, unlinked, written_next, written_heads, same_capacity, pushed_items}
use Rattle.sms_join.proofs.key_ring.KeyRing.push_hashed.Goals as goal

pub invariant_of-self : goal.invariant_of-self
invariant_of-self c =
    let s = c.self.inside in
    let same : c.push_back.new.self.capacity ≡ s.keys.capacity = same_capacity s.keys c.push_back.new.self c.args.key c.push_back.ensures.items in
    let is : c.args.hash ≡ hash_of s.hashing c.args.key = c.requires ∙ ap (λ (v : HashedKeysValue). hash_of v.hashing c.args.key) (sym c.self.view_is) in
    let as_many : length s.hashes.items ≡ length s.keys.items = as_many_hashes (hash_of s.hashing) s.oldest s.hashes.items s.keys.items c.self.invariant.1 in
    let room : length s.keys.items < s.keys.capacity = omega (arith, c.if-count-limit.true, c.len-count.ensures.len, c.capacity-limit.ensures.capacity) in
    let ring : IsChained (λ (hash : ℕ). hash) s.keys.capacity s.oldest c.push_reserved.new.self.items c.push_reserved-then-count-limit.new.self.items (set s.heads.items c.head_of-head.result c.len-count.result) =
    pushed_room c.self.invariant.0 c.args.hash c.len-count.result c.head_of-head.result c.len.result c.index.result.now c.push_reserved.new.self.items c.push_reserved-then-count-limit.new.self.items
    (set s.heads.items c.head_of-head.result c.len-count.result)
    (omega (arith, as_many, room)) (c.len-count.ensures.len ∙ sym as_many)
    c.head_of-head.ensures.is c.head_of-head.ensures.within (c.len.ensures ∙ s.heads.ok.0)
    c.index.ensures c.push_reserved.ensures.items c.push_reserved-then-count-limit.ensures.items refl in (
      subst (λ (n : ℕ). IsChained (λ (hash : ℕ). hash) n s.oldest c.push_reserved.new.self.items c.push_reserved-then-count-limit.new.self.items (set s.heads.items c.head_of-head.result c.len-count.result)) (sym same) ring,
      c.push_reserved.ensures.items
          ∙ (ap (λ (h : ℕ). s.hashes.items ++ h ∷ []) is
          ∙ hashes-push (hash_of s.hashing) s.keys.capacity s.oldest s.hashes.items s.keys.items c.push_back.new.self.items c.args.key s.next.items s.heads.items c.self.invariant.0 c.self.invariant.1 room
          (pushed_items s.keys c.push_back.new.self c.args.key c.push_back.ensures.items)),
      c.push_reserved.ensures.capacity ∙ (c.self.invariant.2 ∙ sym same),
      c.push_reserved-then-count-limit.ensures.capacity ∙ (c.self.invariant.3 ∙ sym same),
      subst (λ (n : ℕ). 2 * n ≤ s.heads.cap) (sym same) c.self.invariant.4,
    )

pub invariant_of-self-2 : goal.invariant_of-self-2
invariant_of-self-2 c =
    let s = c.self.inside in
    let same : c.push_back-2.new.self.capacity ≡ s.keys.capacity = same_capacity s.keys c.push_back-2.new.self c.args.key c.push_back-2.ensures.items in
    let is : c.args.hash ≡ hash_of s.hashing c.args.key = c.requires ∙ ap (λ (v : HashedKeysValue). hash_of v.hashing c.args.key) (sym c.self.view_is) in
    let as_many : length s.hashes.items ≡ length s.keys.items = as_many_hashes (hash_of s.hashing) s.oldest s.hashes.items s.keys.items c.self.invariant.1 in
    let none : s.keys.capacity ≤ length s.keys.items = omega (arith, c.if-count-limit.false, c.len-count.ensures.len, c.capacity-limit.ensures.capacity) in
    let few : length s.hashes.items ≤ s.keys.capacity = c.self.invariant.0.few in
    let turns : s.oldest < s.keys.capacity = c.self.invariant.0.turns in
    let next : List ℕ = take s.next.len (c.unlink.new.next ++ drop (length c.unlink.new.next) s.next.items) in
    let heads : List ℕ = take s.heads.len (c.unlink.new.heads ++ drop (length c.unlink.new.heads) s.heads.items) in
    let same_next : length c.unlink.new.next ≡ length s.next.items = c.unlink.auto.next ∙ ap (λ (l : List ℕ). length l) c.deref_mut-2.ensures.value in
    let same_heads : length c.unlink.new.heads ≡ length s.heads.items = c.unlink.auto.heads ∙ ap (λ (l : List ℕ). length l) c.deref_mut.ensures.value in
    let next_is : next ≡ c.unlink.new.next = refilled s.next.len s.next.items c.unlink.new.next s.next.ok.0 same_next in
    let heads_is : heads ≡ c.unlink.new.heads = refilled s.heads.len s.heads.items c.unlink.new.heads s.heads.ok.0 same_heads in
    let as_long : length next ≡ length s.next.items = ap (λ (l : List ℕ). length l) next_is ∙ same_next in
    let as_many_heads : length heads ≡ length s.heads.items = ap (λ (l : List ℕ). length l) heads_is ∙ same_heads in
    let linked : AreLinked (head_of (λ (hash : ℕ). hash) (length s.heads.items)) next heads (newer s.oldest s.hashes.items) =
    unlinked (λ (hash : ℕ). hash) (newer s.oldest s.hashes.items) s.heads.items c.deref_mut.result.now c.unlink.new.next next c.unlink.new.heads heads
    c.deref_mut.ensures.value next_is heads_is (subst (λ (l : List ℕ). AreLinked (head_of (λ (hash : ℕ). hash) (length c.deref_mut.result.now)) c.unlink.new.next c.unlink.new.heads (newer s.oldest l)) c.deref.ensures.value c.unlink.ensures) in
    let ns : List ℕ = take s.next.len (c.link.new.next ++ drop (length c.link.new.next) next) in
    let hs : List ℕ = take s.heads.len (c.link.new.heads ++ drop (length c.link.new.heads) heads) in
    let o : ℕ = c.place_after-self-inside.result in
    let o_is : o ≡ cond (eqb (s.oldest + 1) s.keys.capacity) 0 (s.oldest + 1) = c.place_after-self-inside.ensures ∙ ap (λ (n : ℕ). cond (eqb (s.oldest + 1) n) 0 (s.oldest + 1)) c.capacity-limit.ensures.capacity in
    let ring : IsChained (λ (hash : ℕ). hash) s.keys.capacity o (set s.hashes.items s.oldest c.args.hash) ns hs =
    pushed_full c.self.invariant.0 c.args.hash c.head_of-head.result c.len.result o (set s.hashes.items s.oldest c.args.hash) next heads ns hs
    (omega (arith, none, as_many)) c.head_of-head.ensures.is c.head_of-head.ensures.within (c.len.ensures ∙ s.heads.ok.0)
    linked as_long as_many_heads refl o_is
    (written_next s.next.len next heads c.link.new.next c.deref_mut-4.result.now c.deref_mut-3.result.now s.oldest c.head_of-head.result (s.next.ok.0 ∙ sym as_long)
    c.deref_mut-4.ensures.value c.deref_mut-3.ensures.value c.link.ensures.next)
    (written_heads s.heads.len heads c.link.new.heads c.deref_mut-3.result.now s.oldest c.head_of-head.result (s.heads.ok.0 ∙ sym as_many_heads)
    c.deref_mut-3.ensures.value c.link.ensures.heads) in (
      subst (λ (n : ℕ). IsChained (λ (hash : ℕ). hash) n o (set s.hashes.items s.oldest c.args.hash) ns hs) (sym same) ring,
      ap (λ (h : ℕ). set s.hashes.items s.oldest h) is
          ∙ hashes-turn (hash_of s.hashing) s.keys.capacity s.oldest o s.hashes.items s.keys.items c.push_back-2.new.self.items c.args.key c.self.invariant.1 turns (omega (arith, none, as_many, few)) o_is
          (pushed_items s.keys c.push_back-2.new.self c.args.key c.push_back-2.ensures.items),
      c.self.invariant.2 ∙ sym same,
      c.self.invariant.3 ∙ sym same,
      subst (λ (n : ℕ). 2 * n ≤ s.heads.cap) (sym same) c.self.invariant.4,
    )

abbrev value : Hashing → ℕ → List Key → HashedKeysValue
value hashing limit ks = record { limit = limit; keys = ks; hashing = hashing }

pub returns-then-count-limit : goal.returns-then-count-limit
returns-then-count-limit c =
    let p = ring_pushed c.self.inside.keys c.push_back.new.self c.args.key c.push_back.ensures.items in
    let pushed : value c.self.inside.hashing c.push_back.new.self.capacity (reverse c.push_back.new.self.items) ≡ value c.self.inside.hashing c.self.inside.keys.capacity (take c.self.inside.keys.capacity (c.args.key ∷ reverse c.self.inside.keys.items)) = λ i. record { limit = p.0 i; keys = p.1 i; hashing = c.self.inside.hashing } in
    c.spread.ensures
    ∙ (pushed
    ∙ ap (λ (v : HashedKeysValue). record { limit = v.limit; keys = take v.limit (c.args.key ∷ v.keys); hashing = v.hashing }) c.self.view_is)

pub returns : goal.returns
returns c =
    let p = ring_pushed c.self.inside.keys c.push_back-2.new.self c.args.key c.push_back-2.ensures.items in
    (λ i. record { limit = p.0 i; keys = p.1 i; hashing = c.self.inside.hashing })
    ∙ ap (λ (v : HashedKeysValue). record { limit = v.limit; keys = take v.limit (c.args.key ∷ v.keys); hashing = v.hashing }) c.self.view_is
